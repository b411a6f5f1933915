-- WHEN a call is refused (RULES 5), line by line in the rules' own terms: of any program A. Each line stands under the ones before it: an
-- image that is good with nothing pending, a port that is free or held as the call needs it, a frame that says an order, a state that
-- hears it. Assumes nothing.
use Rattle.std.specs.Prelude.{ℕ, ◌+◌, ◌*◌, ◌%◌, ◌≤◌, ◌<◌, ◌≡◌, ◌≢◌, ◌⊎◌, Bool, true, false, List, [], length, Option, None, Some}
use Rattle.std.specs.Int.Bits.{bit_xor}
use Rattle.bits.specs.Bits.{bit_at}
use Rattle.image.specs.declared.Layout.{Layout}
use Rattle.image.specs.Layout.{blocks_in, pairs_in}
use Rattle.image.specs.Content.{lock_word, length_of, permalock, count_in}
use Rattle.image.specs.Check.{check_of, refused, good}
use Rattle.frames.specs.declared.Round.{Round}
use Rattle.frames.specs.declared.Choice.{Choice}
use Rattle.frames.specs.declared.Order.{Order}
use Rattle.frames.specs.declared.Order.TheVariants as order
use Rattle.frames.specs.Message as heard
use Rattle.frames.specs.Frames.{span, heard_of}
use Rattle.replies.specs.declared.Reply.TheVariants as reply
use Rattle.replies.specs.Replies.{reply_bits}
use Rattle.replies.specs.Pack.{packed}
use Rattle.rights.specs.Rights.{bank_of, pwd_bit, perma_bit, locked_to}
use Rattle.states.specs.declared.Half.{Half}
use Rattle.states.specs.declared.Half.TheVariants as half
use Rattle.states.specs.declared.State.{State}
use Rattle.states.specs.declared.State.TheVariants as state
use Rattle.tag.specs.declared.Session.{Session}
use Rattle.tag.specs.Session.{off_session}
use Rattle.tag.specs.Result.{Result, leaves}
use Rattle.states.specs.Commands.{plain_link, access_word, kill_word}
use Rattle.demands.specs.Calls.{Call, power_up, ask, release, register, read, write, Aside, awake, Tag, Program, asked, Idle}
use Rattle.demands.specs.Demands.{Storing, lasting}
use Rattle.demands.specs.Facts.{MayRead, MayWrite, Within, Past, Shows, TakesPc, AllRight, Slotted, InRound, Takeable}
use Rattle.demands.specs.Commands.{Air, answers_to, linked, link, Says, pc_sent}

-- everything as before
abbrev pub stays : ℕ → Air → Session → Result
stays n a s = leaves n s a.image a.room

-- Arbitrate with slot 0, no reply, the image as before; round, flags, port and register stay
abbrev pub drops : ℕ → Air → Aside → Round → Result
drops n a r q = leaves n (awake (state.Arbitrate q 0) false r) a.image a.room

-- the error reply of 41 bits; the cover number is used up
abbrev pub errs : Air → Aside → Round → Bool → ℕ → ℕ → Result
errs a r q secured h e =
    record {
      number = 10;
      session = awake (linked secured (plain_link q h)) false r;
      reply = 41;
      stores = 0;
      value = 0;
      image = a.image;
      room = packed (reply_bits a.image (reply.Error e h)) a.room;
    }

-- a cover number is there
abbrev pub Covered : Option ℕ → Type 0
Covered None = ⊥
Covered (Some n) = Unit {0}

-- a command to the tag with its number: not NAK and none of inventory, which carry no number before a CRC-16
abbrev pub Addressed : Order → Type 0
Addressed (order.QueryRep k) = ⊥
Addressed (order.Ack n) = ⊥
Addressed (order.Query sel t q) = ⊥
Addressed (order.QueryAdjust k u) = ⊥
Addressed (order.Select c at) = ⊥
Addressed order.Nak = ⊥
Addressed order.ReqRn = Unit {0}
Addressed (order.Read s) = Unit {0}
Addressed (order.Write s w) = Unit {0}
Addressed (order.Kill h) = Unit {0}
Addressed (order.Lock mask action) = Unit {0}
Addressed (order.Access h) = Unit {0}
Addressed (order.BlockWrite s p) = Unit {0}
Addressed (order.BlockErase s) = Unit {0}
Addressed (order.ReadPermalock rfu s) = Unit {0}
Addressed (order.Permalock rfu s p) = Unit {0}

-- 3.14, 3.17 and 3.20: what a command needs beside the handle: Secured, a cover number, a range of at least 1, an RFU byte 0
abbrev pub Needs : Bool → Option ℕ → Order → Type 0
Needs secured c (order.QueryRep k) = Unit {0}
Needs secured c (order.Ack n) = Unit {0}
Needs secured c (order.Query sel t q) = Unit {0}
Needs secured c (order.QueryAdjust k u) = Unit {0}
Needs secured c (order.Select x at) = Unit {0}
Needs secured c order.Nak = Unit {0}
Needs secured c order.ReqRn = Unit {0}
Needs secured c (order.Read s) = Unit {0}
Needs secured c (order.Write s w) = Covered c
Needs secured c (order.Kill h) = Covered c
Needs secured c (order.Lock mask action) = secured ≡ true
Needs secured c (order.Access h) = Covered c
Needs secured c (order.BlockWrite s p) = 1 ≤ s.count
Needs secured c (order.BlockErase s) = 1 ≤ s.count
Needs secured c (order.ReadPermalock rfu s) = (secured ≡ true) × (rfu ≡ 0) × (1 ≤ s.count)
Needs secured c (order.Permalock rfu s p) = (secured ≡ true) × (rfu ≡ 0) × (1 ≤ s.count)

-- 3.15: between the halves of a password any command to this tag is another but Req_RN and the one that brings the second half
abbrev pub Other : Option Half → Order → Type 0
Other None o = ⊥
Other (Some (half.Access up)) o = Addressed o × (o ≢ order.ReqRn) × ((h : ℕ) → o ≢ order.Access h)
Other (Some (half.Kill up)) o = Addressed o × (o ≢ order.ReqRn) × ((h : ℕ) → o ≢ order.Kill h)

-- what a Write, BlockWrite or BlockErase brings for EPC word 1
abbrev pub Brings : Air → Option ℕ → Order → ℕ → ℕ → ℕ → ℕ → Type 0
Brings a c (order.QueryRep k) b p n pc = ⊥
Brings a c (order.Ack k) b p n pc = ⊥
Brings a c (order.Query sel t q) b p n pc = ⊥
Brings a c (order.QueryAdjust k u) b p n pc = ⊥
Brings a c (order.Select x at) b p n pc = ⊥
Brings a c order.Nak b p n pc = ⊥
Brings a c order.ReqRn b p n pc = ⊥
Brings a c (order.Read s) b p n pc = ⊥
Brings a (Some k) (order.Write s w) b p n pc = (s ≡ span b p 1) × (n ≡ 1) × (pc ≡ bit_xor w k)
Brings a None (order.Write s w) b p n pc = ⊥
Brings a c (order.Kill h) b p n pc = ⊥
Brings a c (order.Lock mask action) b p n pc = ⊥
Brings a c (order.Access h) b p n pc = ⊥
Brings a c (order.BlockWrite s at) b p n pc = (s ≡ span b p n) × (1 ≤ n) × (pc ≡ pc_sent a at p)
Brings a c (order.BlockErase s) b p n pc = (s ≡ span b p n) × (1 ≤ n) × (pc ≡ 0)
Brings a c (order.ReadPermalock rfu s) b p n pc = ⊥
Brings a c (order.Permalock rfu s at) b p n pc = ⊥

-- 1, 2, 3, 5 and 6: an image, or a session, that no frame is heard with
pub record Unready (A : Program) (a : Air) : Type 0 where
  pub bad_image : (s : Session) (n : ℕ) → check_of a.image ≡ refused n → answers_to A a s ≡ stays n a s
  pub off : (y : Layout) → check_of a.image ≡ good y → answers_to A a off_session ≡ stays 5 a off_session
  pub pends : (y : Layout) (s : Session) → check_of a.image ≡ good y → count_in y a.image ≢ 0 → answers_to A a s ≡ stays 5 a s
  pub held : (y : Layout) (st : State) (r : Aside) → Idle y a.image → answers_to A a (awake st true r) ≡ stays 6 a (awake st true r)

-- 7 and 8: a frame that is none, or has a wrong CRC-16 or CRC-5
pub record Unheard (A : Program) (a : Air) (st : State) (r : Aside) : Type 0 where
  pub malformed : heard_of a.frame a.bits ≡ heard.refused 7 → answers_to A a (awake st false r) ≡ stays 7 a (awake st false r)
  pub checksum : heard_of a.frame a.bits ≡ heard.refused 8 → answers_to A a (awake st false r) ≡ stays 8 a (awake st false r)

-- a half waits
abbrev pub Waits : Option Half → Type 0
Waits None = ⊥
Waits (Some (half.Access up)) = Unit {0}
Waits (Some (half.Kill up)) = Unit {0}

-- 9: a command that the session is not in a state for
pub record OutOfPlace (A : Program) (a : Air) (r : Aside) (q : Round) : Type 0 where
  -- in Ready every command but Query and Select; in Arbitrate and Reply every command to a tag with its number, in Arbitrate an ACK
  pub ready : (n : ℕ) (o : Order) → Says a n o → ((sel t : ℕ) (p : Round) → o ≢ order.Query sel t p) → ((c : Choice) (at : ℕ) → o ≢ order.Select c at)
      → answers_to A a (awake state.Ready false r) ≡ stays 9 a (awake state.Ready false r)
  pub early : (st : State) (slot n : ℕ) (o : Order) → Says a n o → Slotted st q slot → Addressed o
      → answers_to A a (awake st false r) ≡ stays 9 a (awake st false r)
  pub ack_early : (slot n k : ℕ) → Says a n (order.Ack k)
      → answers_to A a (awake (state.Arbitrate q slot) false r) ≡ stays 9 a (awake (state.Arbitrate q slot) false r)
  -- QueryRep and QueryAdjust of another session than the round's; an UpDn that is none of 110, 000 and 011
  pub rep_session : (st : State) (n k : ℕ) → Says a n (order.QueryRep k) → InRound st q → k ≢ q.session
      → answers_to A a (awake st false r) ≡ stays 9 a (awake st false r)
  pub adjust_session : (st : State) (n k u : ℕ) → Says a n (order.QueryAdjust k u) → InRound st q → k ≢ q.session
      → answers_to A a (awake st false r) ≡ stays 9 a (awake st false r)
  pub adjust_nothing : (st : State) (n k u : ℕ) → Says a n (order.QueryAdjust k u) → u ≢ 6 → u ≢ 0 → u ≢ 3
      → answers_to A a (awake st false r) ≡ stays 9 a (awake st false r)
  -- a Select of no flag or no bank, or with a set truncate bit
  pub select_untaken : (st : State) (n : ℕ) (c : Choice) (at : ℕ) → Says a n (order.Select c at) → (Takeable c → ⊥)
      → answers_to A a (awake st false r) ≡ stays 9 a (awake st false r)
  pub killed : (n : ℕ) (o : Order) → Says a n o → answers_to A a (awake state.Killed false r) ≡ stays 9 a (awake state.Killed false r)
  -- a command to a tag with its number: with another one than that replied, or another one than Req_RN
  pub acknowledged : (m n : ℕ) (o : Order) → Says a n o → Addressed o → (n ≢ m) ⊎ (o ≢ order.ReqRn)
      → answers_to A a (awake (state.Acknowledged q m) false r) ≡ stays 9 a (awake (state.Acknowledged q m) false r)
  -- with another number than the handle, or without what it needs
  pub handle : (secured : Bool) (h : ℕ) (c : Option ℕ) (p : Option Half) (n : ℕ) (o : Order) → Says a n o → Addressed o
      → (n ≢ h) ⊎ (Needs secured c o → ⊥)
      → answers_to A a (awake (linked secured (link q h c p)) false r) ≡ stays 9 a (awake (linked secured (link q h c p)) false r)

-- 12 and 14; c is the cover number
pub record Dropped (A : Program) (y : Layout) (a : Air) (r : Aside) (q : Round) : Type 0 where
  -- 12: the lower half comes, and the password is wrong
  pub access : (secured : Bool) (h c up w : ℕ) → Says a h (order.Access w)
      → (up ≢ access_word y a.image 0) ⊎ (bit_xor w c ≢ access_word y a.image 1)
      → answers_to A a (awake (linked secured (link q h (Some c) (Some (half.Access up)))) false r) ≡ drops 12 a r q
  pub kill : (secured : Bool) (h c up w : ℕ) → Says a h (order.Kill w)
      → (up ≢ kill_word y a.image 0) ⊎ (bit_xor w c ≢ kill_word y a.image 1)
      → answers_to A a (awake (linked secured (link q h (Some c) (Some (half.Kill up)))) false r) ≡ drops 12 a r q
  -- 14: another command comes between the halves; an ACK with the handle is a command to this tag
  pub between : (secured : Bool) (h : ℕ) (c : Option ℕ) (p : Option Half) (o : Order) → Says a h o → Needs secured c o → Other p o
      → answers_to A a (awake (linked secured (link q h c p)) false r) ≡ drops 14 a r q
  pub ack : (secured : Bool) (h n : ℕ) (c : Option ℕ) (p : Option Half) → Says a n (order.Ack h) → Waits p
      → answers_to A a (awake (linked secured (link q h c p)) false r) ≡ drops 14 a r q

-- 10: an error code, no half waiting and room for the reply of 41 bits, 6 bytes
module _ (A : Program) (y : Layout) (a : Air) (r : Aside) (q : Round) (secured : Bool) (h : ℕ) (c : Option ℕ) where
  -- the tag with this handle and cover number, no half waiting, gives the error reply of this code
  abbrev pub Gets : ℕ → Type 0
  Gets code = answers_to A a (awake (linked secured (link q h c None)) false r) ≡ errs a r q secured h code

  pub record Errors : Type 0 where
    -- Read
    pub read_past : (b p n : ℕ) → Says a h (order.Read (span b p n)) → Past (bank_of y b).words p n
        → Gets 0x03
    pub read_right : (b p n k j : ℕ) → Says a h (order.Read (span b p n)) → Within (bank_of y b).words p n
        → Shows y a.image b p n k → j < k → (MayRead y a.image secured b (p + j) → ⊥)
        → Gets 0x04
    -- the writing commands, in order: past the end, a word that lacks the right, a PC whose length doesn't fit, more words than W
    pub write-past : (o : Order) (b p n pc : ℕ) → Says a h o → Brings a c o b p n pc → Past (bank_of y b).words p n
        → Gets 0x03
    pub write_right : (o : Order) (b p n pc j : ℕ) → Says a h o → Brings a c o b p n pc → Within (bank_of y b).words p n
        → j < n → (MayWrite y a.image secured b (p + j) → ⊥)
        → Gets 0x04
    pub write-pc : (o : Order) (b p n pc : ℕ) → Says a h o → Brings a c o b p n pc → Within (bank_of y b).words p n
        → AllRight y a.image secured b p n → TakesPc b p n → y.epc.words < length_of pc + 2
        → Gets 0x03
    pub write-many : (o : Order) (b p n pc : ℕ) → Says a h o → Brings a c o b p n pc → Within (bank_of y b).words p n
        → AllRight y a.image secured b p n → (TakesPc b p n → length_of pc + 2 ≤ y.epc.words) → pairs_in y < n
        → Gets 0x00
    -- the first Kill with a zero kill password
    pub kill-zero : (k w : ℕ) → c ≡ Some k → Says a h (order.Kill w) → kill_word y a.image 0 ≡ 0 → kill_word y a.image 1 ≡ 0
        → Gets 0x00

-- 10 for Lock and BlockPermalock, which work in Secured
pub record Locks (A : Program) (y : Layout) (a : Air) (r : Aside) (q : Round) (h : ℕ) (c : Option ℕ) : Type 0 where
  -- Lock: a permalocked pair would lose its permalock or change its pwd bit
  pub lock_pair : (mask action k : ℕ) → Says a h (order.Lock mask action) → k < 5
      → let old = lock_word y a.image in let new = locked_to old mask action in
      perma_bit old k ≡ 1 → (perma_bit new k ≢ 1) ⊎ (pwd_bit new k ≢ pwd_bit old k)
      → Gets A y a r q true h c 0x04
  -- Lock: with a USER mask bit set it would leave USER at 01 while a block is permalocked
  pub lock_user : (mask action b : ℕ) → Says a h (order.Lock mask action) → mask % 4 ≢ 0
      → let new = locked_to (lock_word y a.image) mask action in
      pwd_bit new 4 ≡ 0 → perma_bit new 4 ≡ 1 → b < blocks_in y → permalock y a.image b ≢ 0
      → Gets A y a r q true h c 0x04
  -- BlockPermalock that reads: another bank than USER, or a range past PERMA
  pub perma_read : (b p n : ℕ) → Says a h (order.ReadPermalock 0 (span b p n)) → 1 ≤ n → (b ≢ 3) ⊎ (y.perma.words < p + n)
      → Gets A y a r q true h c 0x03
  -- one that locks: the same; a mask bit of a block that doesn't exist; USER at 01
  pub perma_past : (b p n at : ℕ) → Says a h (order.Permalock 0 (span b p n) at) → 1 ≤ n → (b ≢ 3) ⊎ (y.perma.words < p + n)
      → Gets A y a r q true h c 0x03
  pub perma_mask : (p n at k : ℕ) → Says a h (order.Permalock 0 (span 3 p n) at) → 1 ≤ n → p + n ≤ y.perma.words
      → k < 16 * n → bit_at a.frame (at + k) ≢ 0 → blocks_in y ≤ 16 * p + k
      → Gets A y a r q true h c 0x03
  pub perma_user : (p n at : ℕ) → Says a h (order.Permalock 0 (span 3 p n) at) → 1 ≤ n → p + n ≤ y.perma.words
      → ((k : ℕ) → k < 16 * n → bit_at a.frame (at + k) ≢ 0 → 16 * p + k < blocks_in y)
      → pwd_bit (lock_word y a.image) 4 ≡ 0 → perma_bit (lock_word y a.image) 4 ≡ 1
      → Gets A y a r q true h c 0x04

-- 5 and 6 of calls without an image, of a tag with any
pub record NoImageRefused (A : Program) (m : List ℕ) : Type 0 where
  pub ask_off : asked A off_session m ask ≡ leaves 5 off_session [] []
  pub ask_held : (st : State) (r : Aside) → asked A (awake st true r) m ask ≡ leaves 6 (awake st true r) [] []
  pub ask_linked : (secured : Bool) (q : Round) (h : ℕ) (c : Option ℕ) (p : Option Half) (r : Aside)
      → asked A (awake (linked secured (link q h c p)) false r) m ask ≡ leaves 6 (awake (linked secured (link q h c p)) false r) [] []
  pub release_off : asked A off_session m release ≡ leaves 5 off_session [] []
  pub release_free : (st : State) (r : Aside) → asked A (awake st false r) m release ≡ leaves 6 (awake st false r) [] []
  pub register_off : asked A off_session m register ≡ leaves 5 off_session [] []
  pub register_free : (st : State) (r : Aside) → asked A (awake st false r) m register ≡ leaves 6 (awake st false r) [] []

-- an SPI transfer c, with the room that it has: 1, 2, 3, 5 and 6
pub record TransferRefused (A : Program) (m : List ℕ) (c : Call) (room : List ℕ) : Type 0 where
  pub bad_image : (s : Session) (n : ℕ) → check_of m ≡ refused n → asked A s m c ≡ leaves n s m room
  pub off : (y : Layout) → check_of m ≡ good y → asked A off_session m c ≡ leaves 5 off_session m room
  pub pends : (y : Layout) (s : Session) → check_of m ≡ good y → count_in y m ≢ 0 → asked A s m c ≡ leaves 5 s m room
  pub free : (y : Layout) (st : State) (r : Aside) → Idle y m → asked A (awake st false r) m c ≡ leaves 6 (awake st false r) m room

-- 13: no word, more than 255, or words past USER's end
abbrev pub BadCount : Layout → ℕ → ℕ → Type 0
BadCount y at n = (n ≡ 0) ⊎ (255 < n) ⊎ (y.user.words < at + n)

-- 13 and 4 of a read, 13 of a write, where the port is held
pub record PortRefused (A : Program) (y : Layout) (m : List ℕ) (st : State) (r : Aside) : Type 0 where
  pub read_count : (at n : ℕ) (room : List ℕ) → BadCount y at n → asked A (awake st true r) m (read at n room)
      ≡ leaves 13 (awake st true r) m room
  pub read_room : (at n : ℕ) (room : List ℕ) → 1 ≤ n → n ≤ 255 → at + n ≤ y.user.words → length room < 2 * n
      → asked A (awake st true r) m (read at n room) ≡ leaves 4 (awake st true r) m room
  pub write_odd : (at : ℕ) (d : List ℕ) (s : ℕ) → length d % 2 ≢ 0 → asked A (awake st true r) m (write at d s) ≡ leaves 13 (awake st true r) m []
  pub write_count : (at n : ℕ) (d : List ℕ) (s : ℕ) → length d ≡ 2 * n → BadCount y at n ⊎ (pairs_in y < n)
      → asked A (awake st true r) m (write at d s) ≡ leaves 13 (awake st true r) m []

-- 4: in another room and with another power the frame would get a reply, 0 or 10; here the reply doesn't fit.
-- 11: with power `enough` the call is done; here the power is less than its stores
abbrev pub given : List ℕ → ℕ → Air → Air
given room power a = record { image = a.image; frame = a.frame; bits = a.bits; fresh = a.fresh; room = room; power = power }

pub record TooLittle (A : Program) : Type 0 where
  pub room : (a : Air) (s : Session) (other : List ℕ) (enough : ℕ) → let r = answers_to A (given other enough a) s in
      (r.number ≡ 0) ⊎ (r.number ≡ 10) → 8 * length a.room < r.reply → answers_to A a s ≡ stays 4 a s
  pub power : (y : Layout) (t : Tag) (c : Storing) (s enough : ℕ) → check_of t.image ≡ good y → let r = A t (lasting c enough) in
      r.number ≡ 0 → s < r.stores → (A t (lasting c s)).number ≡ 11
  pub at_power_up : (y : Layout) (m : List ℕ) (v : Session) (s enough : ℕ) → check_of m ≡ good y → let r = asked A v m (power_up enough) in
      r.number ≡ 0 → s < r.stores → (asked A v m (power_up s)).number ≡ 11

pub record Refusals (A : Program) : Type 0 where
  pub unready : (a : Air) → Unready A a
  pub unheard : (y : Layout) (a : Air) (st : State) (r : Aside) → Idle y a.image → Unheard A a st r
  pub wrong : (y : Layout) (a : Air) (r : Aside) (q : Round) → Idle y a.image → OutOfPlace A a r q
  pub dropped : (y : Layout) (a : Air) (r : Aside) (q : Round) → Idle y a.image → Dropped A y a r q
  pub errors : (y : Layout) (a : Air) (r : Aside) (q : Round) (secured : Bool) (h : ℕ) (c : Option ℕ) → Idle y a.image → 6 ≤ length a.room
      → Errors A y a r q secured h c
  pub locks : (y : Layout) (a : Air) (r : Aside) (q : Round) (h : ℕ) (c : Option ℕ) → Idle y a.image → 6 ≤ length a.room → Locks A y a r q h c
  pub at_power_up : (m : List ℕ) (s : Session) (n u : ℕ) → check_of m ≡ refused n → asked A s m (power_up u) ≡ leaves n off_session m []
  pub no_image : (m : List ℕ) → NoImageRefused A m
  pub reads : (m : List ℕ) (at n : ℕ) (room : List ℕ) → TransferRefused A m (read at n room) room
  pub writes : (m : List ℕ) (at : ℕ) (d : List ℕ) (s : ℕ) → TransferRefused A m (write at d s) []
  pub port : (y : Layout) (m : List ℕ) (st : State) (r : Aside) → Idle y m → PortRefused A y m st r
  pub short : TooLittle A

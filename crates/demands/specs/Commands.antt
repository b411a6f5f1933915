-- DEMAND 2 of any program A, command by command: for a good image with nothing pending, a session that the command is for, room and power
-- enough: the reply's bits, the session and the words stored (RULES D2, 3.9 to 3.22, 4 and 11). Its proof: `demand-2` in proofs/Commands.
-- Assumes nothing.
use Rattle.std.specs.Prelude.{ℕ, ◌+◌, ◌-◌, ◌*◌, ◌%◌, ◌^◌, ◌≤◌, ◌<◌, ◌≡◌, ◌≢◌, ◌⊎◌, Bool, true, false, cond, not, ◌||◌, List, [], ◌∷◌, eqb, length, replicate, Option, None, Some}
use Rattle.std.specs.Int.Bits.{bit_xor, bit_or}
use Rattle.bits.specs.Words.{word_at, Store, store, after}
use Rattle.bits.specs.Bits.{field_at, words_bits}
use Rattle.bits.specs.Below.{below, every}
use Rattle.crc.specs.Crc.{crc_of}
use Rattle.image.specs.declared.Layout.{Layout}
use Rattle.image.specs.Layout.{pairs_in}
use Rattle.image.specs.Content.{lock_word, killed_word, length_of, pc_word, count_in, pending}
use Rattle.image.specs.Check.{check_of, good}
use Rattle.frames.specs.declared.Round.{Round}
use Rattle.frames.specs.declared.Choice.{Choice}
use Rattle.frames.specs.declared.Order.{Order}
use Rattle.frames.specs.declared.Order.TheVariants as order
use Rattle.frames.specs.Message as heard
use Rattle.frames.specs.Frames.{span, heard_of}
use Rattle.replies.specs.declared.Reply.{Reply}
use Rattle.replies.specs.declared.Reply.TheVariants as reply
use Rattle.replies.specs.Replies.{reply_bits}
use Rattle.replies.specs.Pack.{packed}
use Rattle.rights.specs.Rights.{bank_of, locked_to}
use Rattle.stores.specs.Stores.{change_stores, power_stores}
use Rattle.states.specs.declared.Flags.{Flags}
use Rattle.states.specs.declared.Half.{Half}
use Rattle.states.specs.declared.Half.TheVariants as half
use Rattle.states.specs.declared.Link.{Link}
use Rattle.tag.specs.declared.Register.{Register}
use Rattle.states.specs.declared.State.{State}
use Rattle.states.specs.declared.State.TheVariants as state
use Rattle.tag.specs.declared.Session.{Session}
use Rattle.tag.specs.Session.{on, new_flags, clear}
use Rattle.tag.specs.Result.{Result, leaves}
use Rattle.states.specs.Commands.{plain_link, access_word, kill_word}
use Rattle.states.specs.Inventory.{flag_at, with_flag, flag_after}
use Rattle.tag.specs.Port.{number_in}
use Rattle.demands.specs.Terms.{Terms}
use Rattle.demands.specs.Facts.{Readable, Writable, Lockable, PermaLockable, PortWrites, Tells, marked, Slotted, Singled, Numbered, FirstStep, Matches, Adjusts, CountsDown, Selected, Takeable}
use Rattle.demands.specs.Calls.{power_up, frame, Aside, awake, Program, asked, Idle}
use Rattle.demands.specs.Calls as call
use Rattle.tag.specs.Steps.{gives}

-- what a frame call is handed beside the session: image, frame, bit count, fresh word, room and power
pub record Air : Type 0 where
  pub image : List ℕ
  pub frame : List ℕ
  pub bits : ℕ
  pub fresh : ℕ
  pub room : List ℕ
  pub power : ℕ

-- Open, or where the flag is set Secured
abbrev pub linked : Bool → Link → State
linked secured k = cond secured (state.Secured k) (state.Open k)

abbrev pub link : Round → ℕ → Option ℕ → Option Half → Link
link q h c p = record { round = q; handle = h; cover = c; half = p }

-- what a command comes to: a state, a reply and the words stored
pub record End : Type 0 where
  pub state : State
  pub reply : Reply
  pub words : List Store

-- answer 0: what it comes to, done
abbrev pub obeyed : Layout → Air → Aside → End → Result
obeyed y a r e =
    let stores = change_stores y.work.at e.words in
    let bits = reply_bits a.image e.reply in
    record {
      number = 0;
      session = awake e.state false r;
      reply = length bits;
      stores = length stores;
      value = 0;
      image = after a.image stores;
      room = packed bits a.room;
    }

-- what the program A answers to the frame of a
abbrev pub answers_to : Program → Air → Session → Result
answers_to A a s = asked A s a.image (frame a.frame a.bits a.fresh a.room a.power)

-- room and power enough for the reply and the words
abbrev pub Enough : Layout → Air → End → Type 0
Enough y a e = (length (reply_bits a.image e.reply) ≤ 8 * length a.room)
    × (length (change_stores y.work.at e.words) ≤ a.power)

-- the frame is the order o with the number n
abbrev pub Says : Air → ℕ → Order → Type 0
Says a n o = heard_of a.frame a.bits ≡ heard.said (record { number = n; order = o })

-- of a frame's words from bit `at` on, for a bank's words from p on, the one for word 1
abbrev pub pc_sent : Air → ℕ → ℕ → ℕ
pc_sent a at p = field_at a.frame (at + 16 * (1 - p)) 16

-- n words of the frame from bit p on, for the words from o on
abbrev pub words_to : ℕ → List ℕ → ℕ → ℕ → List Store
words_to o f p n = below (λ j. store (o + j) (field_at f (p + 16 * j) 16)) n

-- other flags, and another register
abbrev pub registered : Aside → Register → Aside
registered r g = record { flags = r.flags; register = g }

abbrev pub flagged : Aside → Flags → Aside
flagged r f = record { flags = f; register = r.register }

-- silence, or the fresh word as number of Reply
abbrev pub quiet : State → End
quiet st = record { state = st; reply = reply.Silence; words = [] }

abbrev pub replies : Round → ℕ → End
replies q n = record { state = state.Reply q n; reply = reply.Drawn n; words = [] }

-- the PC and the L words after it
abbrev pub shows_epc : Layout → Air → State → End
shows_epc y a st = record { state = st; reply = reply.Epc (y.epc.at + 1) (length_of (pc_word y a.image) + 1); words = [] }

module _ (A : Program) (y : Layout) (a : Air) (r : Aside) (q : Round) where
  -- the order o with the number n, to a tag in the state st, comes to e, with the flags f; and where the flags stay
  abbrev pub Turns : ℕ → Order → State → Flags → End → Type 0
  Turns n o st f e = Says a n o → Enough y a e → answers_to A a (awake st false r) ≡ obeyed y a (flagged r f) e

  abbrev pub Does : ℕ → Order → State → End → Type 0
  Does n o st e = Turns n o st r.flags e

  -- the commands of inventory, which go to every tag
  pub record Rounds : Type 0 where
    -- Query, in every state but Killed: a tag that matches draws a slot from the low Q bits of the fresh word, and replies where it is 0
    pub query_waits : (st : State) (sel t : ℕ) (p : Round) (g : Flags) → st ≢ state.Killed → FirstStep st p.session r.flags g
        → Matches g sel t p.session
        → a.fresh % 2 ^ p.q ≢ 0
        → Turns 0 (order.Query sel t p) st g (quiet (state.Arbitrate p (a.fresh % 2 ^ p.q)))
    pub query_replies : (st : State) (sel t : ℕ) (p : Round) (g : Flags) → st ≢ state.Killed → FirstStep st p.session r.flags g
        → Matches g sel t p.session
        → a.fresh % 2 ^ p.q ≡ 0
        → Turns 0 (order.Query sel t p) st g (replies p a.fresh)
    pub query_passes : (st : State) (sel t : ℕ) (p : Round) (g : Flags) → st ≢ state.Killed → FirstStep st p.session r.flags g
        → (Matches g sel t p.session → ⊥)
        → Turns 0 (order.Query sel t p) st g (quiet state.Ready)
    -- QueryAdjust in Arbitrate and Reply: another Q, and the slot drawn anew
    pub adjust_waits : (st : State) (slot u new : ℕ) → Slotted st q slot → Adjusts u q.q new → a.fresh % 2 ^ new ≢ 0
        → Does 0 (order.QueryAdjust q.session u) st
        (quiet (state.Arbitrate (record { session = q.session; q = new }) (a.fresh % 2 ^ new)))
    pub adjust_replies : (st : State) (slot u new : ℕ) → Slotted st q slot → Adjusts u q.q new → a.fresh % 2 ^ new ≡ 0
        → Does 0 (order.QueryAdjust q.session u) st (replies (record { session = q.session; q = new }) a.fresh)
    -- QueryRep there: the slot counted down
    pub rep_waits : (st : State) (slot next : ℕ) → Slotted st q slot → CountsDown slot next → next ≢ 0
        → Does 0 (order.QueryRep q.session) st (quiet (state.Arbitrate q next))
    pub rep_replies : (st : State) (slot : ℕ) → Slotted st q slot → CountsDown slot 0
        → Does 0 (order.QueryRep q.session) st (replies q a.fresh)
    -- both in Acknowledged, Open and Secured: the flag of the round's session is inverted, and the state is Ready
    pub adjust_ends : (st : State) (u new : ℕ) → Singled st q → Adjusts u q.q new
        → Turns 0 (order.QueryAdjust q.session u) st (with_flag r.flags q.session (not (flag_at r.flags q.session))) (quiet state.Ready)
    pub rep-ends : (st : State) → Singled st q
        → Turns 0 (order.QueryRep q.session) st (with_flag r.flags q.session (not (flag_at r.flags q.session))) (quiet state.Ready)
    -- ACK with the number, or the handle where no half waits: PC and EPC; the cover number is used up
    pub ack : (n : ℕ) → Does 0 (order.Ack n) (state.Reply q n) (shows_epc y a (state.Acknowledged q n))
    pub ack-again : (n : ℕ) → Does 0 (order.Ack n) (state.Acknowledged q n) (shows_epc y a (state.Acknowledged q n))
    pub ack-handle : (secured : Bool) (h : ℕ) (c : Option ℕ)
        → Does 0 (order.Ack h) (linked secured (link q h c None)) (shows_epc y a (linked secured (plain_link q h)))
    -- with another number: Arbitrate, with slot 0, also where a half waits
    pub ack_wrong : (st : State) (n k : ℕ) → Numbered st q n → k ≢ n → Does 0 (order.Ack k) st (quiet (state.Arbitrate q 0))
    -- Select, in every state but Killed: the flag that its action makes where the mask is the bank's bits, and where it is not
    pub select_matching : (st : State) (c : Choice) (at : ℕ) → st ≢ state.Killed → Takeable c
        → Selected y a.image a.frame c.bits.bank c.bits.pointer c.bits.count at
        → Turns 0 (order.Select c at) st
        (with_flag r.flags c.target (flag_after c.target c.action true (flag_at r.flags c.target))) (quiet state.Ready)
    pub select_other : (st : State) (c : Choice) (at : ℕ) → st ≢ state.Killed → Takeable c
        → (Selected y a.image a.frame c.bits.bank c.bits.pointer c.bits.count at → ⊥)
        → Turns 0 (order.Select c at) st
        (with_flag r.flags c.target (flag_after c.target c.action false (flag_at r.flags c.target))) (quiet state.Ready)

  pub record Radio : Type 0 where
    pub rounds : Rounds
    -- Req_RN with the number replied: the fresh word is the handle, the state Open if the access password is nonzero, else Secured
    pub req_rn : (n : ℕ) → access_word y a.image 0 ≡ 0 → access_word y a.image 1 ≡ 0
        → Does n order.ReqRn (state.Acknowledged q n)
        (record { state = state.Secured (plain_link q a.fresh); reply = reply.Number a.fresh; words = [] })
    pub req-rn-open : (n : ℕ) → (access_word y a.image 0 ≢ 0) ⊎ (access_word y a.image 1 ≢ 0)
        → Does n order.ReqRn (state.Acknowledged q n)
        (record { state = state.Open (plain_link q a.fresh); reply = reply.Number a.fresh; words = [] })
    -- Req_RN with the handle: the fresh word is the cover number
    pub req_rn_cover : (secured : Bool) (h : ℕ) (c : Option ℕ) (p : Option Half)
        → Does h order.ReqRn (linked secured (link q h c p))
        (record {
          state = linked secured (link q h (Some a.fresh) p);
          reply = reply.Number a.fresh;
          words = [];
        })
    -- Read, where nothing is against it: the words that it asks for; with WordCount 0 all to the bank's end, or in EPC, if the pointer lies
    -- below L + 2, those to word L + 1
    pub read : (secured : Bool) (h : ℕ) (c : Option ℕ) (b p n k : ℕ) → Readable y a.image secured b p n k
        → Does h (order.Read (span b p n)) (linked secured (link q h c None))
        (record { state = linked secured (plain_link q h); reply = reply.Words ((bank_of y b).at + p) k h; words = [] })
    -- Write: the word without its cover, which is used up
    pub write : (secured : Bool) (h c : ℕ) (b p w : ℕ) → Writable y a.image secured b p 1 (bit_xor w c)
        → Does h (order.Write (span b p 1) w) (linked secured (link q h (Some c) None))
        (record {
          state = linked secured (plain_link q h);
          reply = reply.Success h;
          words = store ((bank_of y b).at + p) (bit_xor w c) ∷ [];
        })
    -- Kill, the first half: it waits, uncovered, where the kill password is nonzero
    pub kill_first : (secured : Bool) (h c w : ℕ) → (kill_word y a.image 0 ≢ 0) ⊎ (kill_word y a.image 1 ≢ 0)
        → Does h (order.Kill w) (linked secured (link q h (Some c) None))
        (record {
          state = linked secured (link q h None (Some (half.Kill (bit_xor w c))));
          reply = reply.Number h;
          words = [];
        })
    -- Kill, the second: where both are the password's, killed is stored as 1
    pub kill_second : (secured : Bool) (h c w up : ℕ) → up ≡ kill_word y a.image 0 → bit_xor w c ≡ kill_word y a.image 1
        → Does h (order.Kill w) (linked secured (link q h (Some c) (Some (half.Kill up))))
        (record { state = state.Killed; reply = reply.Success h; words = store (y.status.at + 1) 1 ∷ [] })
    -- Lock, in Secured: the masked bits of the lock word are the action's
    pub lock : (h : ℕ) (c : Option ℕ) (mask action : ℕ) → Lockable y a.image mask action
        → Does h (order.Lock mask action) (state.Secured (link q h c None))
        (record {
          state = state.Secured (plain_link q h);
          reply = reply.Success h;
          words = store y.status.at (locked_to (lock_word y a.image) mask action) ∷ [];
        })
    -- Access, the first half, and the second where both are the password's
    pub access-first : (secured : Bool) (h c w : ℕ)
        → Does h (order.Access w) (linked secured (link q h (Some c) None))
        (record {
          state = linked secured (link q h None (Some (half.Access (bit_xor w c))));
          reply = reply.Number h;
          words = [];
        })
    pub access-second : (secured : Bool) (h c w up : ℕ) → up ≡ access_word y a.image 0 → bit_xor w c ≡ access_word y a.image 1
        → Does h (order.Access w) (linked secured (link q h (Some c) (Some (half.Access up))))
        (record { state = state.Secured (plain_link q h); reply = reply.Number h; words = [] })
    -- BlockWrite: the words of the frame
    pub block_write : (secured : Bool) (h : ℕ) (c : Option ℕ) (b p n at : ℕ) → 1 ≤ n
        → Writable y a.image secured b p n (pc_sent a at p)
        → Does h (order.BlockWrite (span b p n) at) (linked secured (link q h c None))
        (record {
          state = linked secured (plain_link q h);
          reply = reply.Success h;
          words = words_to ((bank_of y b).at + p) a.frame at n;
        })
    -- BlockErase: zeros
    pub block_erase : (secured : Bool) (h : ℕ) (c : Option ℕ) (b p n : ℕ) → 1 ≤ n → Writable y a.image secured b p n 0
        → Does h (order.BlockErase (span b p n)) (linked secured (link q h c None))
        (record {
          state = linked secured (plain_link q h);
          reply = reply.Success h;
          words = below (λ j. store ((bank_of y b).at + p + j) 0) n;
        })
    -- BlockPermalock that reads: PERMA words
    pub permalock_read : (h : ℕ) (c : Option ℕ) (p n : ℕ) → 1 ≤ n → p + n ≤ y.perma.words
        → Does h (order.ReadPermalock 0 (span 3 p n)) (state.Secured (link q h c None))
        (record { state = state.Secured (plain_link q h); reply = reply.Words (y.perma.at + p) n h; words = [] })
    -- and one that locks: masked bits are added
    pub permalock : (h : ℕ) (c : Option ℕ) (p n at : ℕ) → 1 ≤ n → PermaLockable y a.image p n a.frame at
        → Does h (order.Permalock 0 (span 3 p n) at) (state.Secured (link q h c None))
        (record {
          state = state.Secured (plain_link q h);
          reply = reply.Success h;
          words = below (λ j. let i = y.perma.at + p + j in store i (bit_or (word_at a.image i) (field_at a.frame (at + 16 * j) 16))) n;
        })
    -- NAK, which has no number: Arbitrate, where the slot stays and from Reply on is 0, and no reply
    pub nak : (st : State) (slot : ℕ) → Slotted st q slot → Does 0 order.Nak st (quiet (state.Arbitrate q slot))
    pub nak-singled : (st : State) → Singled st q → Does 0 order.Nak st (quiet (state.Arbitrate q 0))

-- calls without an image, of a tag with any: the port asked for outside Open and Secured, given back, and its register as a number,
-- cleared
pub record NoImage (A : Program) (m : List ℕ) (st : State) (r : Aside) : Type 0 where
  pub ask : ((secured : Bool) (k : Link) → st ≢ linked secured k) → asked A (awake st false r) m call.ask ≡ leaves 0 (awake st true r) [] []
  pub release : asked A (awake st true r) m call.release ≡ leaves 0 (awake st false r) [] []
  pub register : asked A (awake st true r) m call.register
      ≡ record { number = 0; session = awake st true (registered r clear); reply = 0; stores = 0; value = number_in r.register; image = []; room = [] }

-- transfers through the port, with the image m
pub record Transfers (A : Program) (y : Layout) (m : List ℕ) (st : State) (r : Aside) : Type 0 where
  -- the words of USER, high byte first
  pub read : (at n : ℕ) (room : List ℕ) → st ≢ state.Killed → 1 ≤ n → n ≤ 255 → at + n ≤ y.user.words → 2 * n ≤ length room
      → asked A (awake st true r) m (call.read at n room)
      ≡ gives 0 (awake st true r) (16 * n) 0 m (packed (words_bits m (y.user.at + at) n) room)
  -- the writable words, as one change; bit 1 where some word wasn't written
  pub write : (at : ℕ) (d : List ℕ) (n s : ℕ) → st ≢ state.Killed → length d ≡ 2 * n
      → 1 ≤ n → n ≤ 255 → at + n ≤ y.user.words → n ≤ pairs_in y
      → (marks : ℕ → Bool) → ((j : ℕ) → j < n → Tells (marks j) (PortWrites y m (at + j)))
      → let stores = change_stores y.work.at (marked marks (λ j. store (y.user.at + at + j) (word_at d j)) n) in
      let register : Register = record { unwritten = r.register.unwritten || not (every marks n); killed = r.register.killed } in
      length stores ≤ s
      → asked A (awake st true r) m (call.write at d s) ≡ gives 0 (awake st true (registered r register)) 0 (length stores) (after m stores) []
  -- when Killed: zeros, and nothing stored; bit 0 is set
  pub read_killed : (at n : ℕ) (room : List ℕ) → st ≡ state.Killed → 1 ≤ n → n ≤ 255 → at + n ≤ y.user.words → 2 * n ≤ length room
      → asked A (awake st true r) m (call.read at n room)
      ≡ gives 0 (awake st true (registered r (record { unwritten = r.register.unwritten; killed = true }))) (16 * n) 0 m (packed (replicate (16 * n) 0) room)
  pub write_killed : (at : ℕ) (d : List ℕ) (n s : ℕ) → st ≡ state.Killed → length d ≡ 2 * n
      → 1 ≤ n → n ≤ 255 → at + n ≤ y.user.words → n ≤ pairs_in y
      → asked A (awake st true r) m (call.write at d s) ≡ leaves 0 (awake st true (registered r (record { unwritten = r.register.unwritten; killed = true }))) m []

-- power-up of a good image, whatever is pending; n is the image afterwards
pub record Start (A : Program) (y : Layout) (m n : List ℕ) : Type 0 where
  -- with power enough, and 257 stores always are: Killed if the image says so, else Ready; flags A, SL deasserted, port free, register 0
  pub up : (v : Session) (s : ℕ) → length (power_stores y m) ≤ s
      → asked A v m (power_up s)
      ≡ gives 0 (on new_flags (cond (eqb (killed_word y n) 0) state.Ready state.Killed) false clear) 0 (length (power_stores y m)) n []
  pub enough : length (power_stores y m) ≤ 257
  -- the pending words are stored, nothing is pending and the image is good; EPC word 0 is the CRC-16 over the PC and the L words after it
  pub words : (i : ℕ) → i < y.work.at → (i ≡ y.epc.at → ⊥) → word_at n i ≡ word_at (after m (pending y m)) i
  pub settled : count_in y n ≡ 0
  pub sound : check_of n ≡ good y
  pub sum : word_at n y.epc.at ≡ crc_of (words_bits n (y.epc.at + 1) (length_of (pc_word y n) + 1))

pub record Demand2 (A : Program) : Type 0 where
  pub terms : Terms
  pub start : (y : Layout) (m : List ℕ) → check_of m ≡ good y → Start A y m (after m (power_stores y m))
  pub radio : (y : Layout) (a : Air) (r : Aside) (q : Round) → Idle y a.image → Radio A y a r q
  pub calls : (m : List ℕ) (st : State) (r : Aside) → NoImage A m st r
  pub engine : (y : Layout) (m : List ℕ) (st : State) (r : Aside) → Idle y m → Transfers A y m st r

-- THE TALK of a depot and a tag (RULES 12.6 and 12.7): a frame that the depot made, at a tag; and what the tag answers, at the depot. Proofs:
-- `talks` in proofs/Talks. Assumes nothing.
use Rattle.std.specs.Prelude.{ℕ, ◌+◌, ◌-◌, ◌*◌, ◌/◌, ◌≤◌, ◌<◌, ◌≡◌, ◌≢◌, ◌⊎◌, Bool, true, false, cond, ◌||◌, List, [], ◌∷◌, eqb, length, Option, None, Some}
use Rattle.std.specs.Int.Bits.{bit_or}
use Rattle.bits.specs.Words.{word_at, store, Bytes}
use Rattle.bits.specs.Bits.{bits_from, words_bits}
use Rattle.bits.specs.Below.{below}
use Rattle.image.specs.declared.Layout.{Layout}
use Rattle.frames.specs.declared.Round.{Round}
use Rattle.replies.specs.declared.Reply.{Reply}
use Rattle.replies.specs.declared.Reply.TheVariants as reply
use Rattle.image.specs.Content.{lock_word}
use Rattle.rights.specs.Rights.{bank_of, locked_to}
use Rattle.states.specs.declared.Half.TheVariants as half
use Rattle.states.specs.declared.State.{State}
use Rattle.states.specs.declared.State.TheVariants as state
use Rattle.states.specs.declared.Flags.{Flags}
use Rattle.states.specs.Commands.{asks_of, plain_link, access_word, kill_word}
use Rattle.states.specs.Inventory.{flag_at, with_flag, flag_after}
use Rattle.tag.specs.declared.Session.{Session}
use Rattle.tag.specs.Result.{Result}
use Rattle.tag.specs.Table.{Input, reply_of}
use Rattle.tag.specs.Steps.{input}
use Rattle.demands.specs.Facts.{Readable, Writable, Lockable, PermaLockable, Selected}
use Rattle.demands.specs.Calls.{Aside, awake, Program, tag_of, answer_of, Idle}
use Rattle.demands.specs.Calls as tag
use Rattle.demands.specs.Commands.{Air, End, linked, link, obeyed, answers_to, Enough, Says, Turns, flagged, quiet, Demand2}
use Rattle.depot.specs.declared.Place.{Place}
use Rattle.depot.specs.declared.Command.{Command}
use Rattle.depot.specs.declared.Command.TheVariants as command
use Rattle.depot.specs.Reading.{read_of}
use Rattle.depot.specs.Heard.{Words, Call, made, carried, order_of}
use Rattle.depot.specs.Meant.{meant}

-- WHAT A FRAME DOES: the payload, number and cover number of a command that is made into some room; then the image, fresh word, room and
-- power of the tag
pub record Sending : Type 0 where
  pub payload : List ℕ
  pub known : Bytes payload
  pub number : ℕ
  pub cover : ℕ
  pub small : (number < 65536) × (cover < 65536)
  pub into : List ℕ
  pub image : List ℕ
  pub fresh : ℕ
  pub room : List ℕ
  pub power : ℕ

abbrev pub call_of : Sending → (o : Command) → Words o → Call
call_of s o w = record { command = o; payload = s.payload; number = s.number; cover = s.cover; words = w; known = s.known; small = s.small }

abbrev pub air_of : Sending → Call → Air
air_of s c =
    record {
      image = s.image;
      frame = (made c s.into).room;
      bits = (made c s.into).bits;
      fresh = s.fresh;
      room = s.room;
      power = s.power;
    }

module _ (A : Program) (y : Layout) (s : Sending) (r : Aside) (q : Round) where
  -- a tag in the state st comes to e, with flags and register t
  abbrev pub Sends : (o : Command) → Words o → State → Aside → End → Type 0
  Sends o w st t e = let c = call_of s o w in
      (made c s.into).number ≡ 0 → Enough y (air_of s c) e → answers_to A (air_of s c) (awake st false r) ≡ obeyed y (air_of s c) t e

  -- of the program A: the frame says its command by the tag's definitions, and so each line of D2 speaks of it; then what D2 says of those that
  -- bring fields or words, in the depot's own terms: words, halves and bits uncovered, from the payload
  pub record Obeyed : Type 0 where
    pub says : (o : Command) (w : Words o) → let c = call_of s o w in
        (made c s.into).number ≡ 0 → Says (air_of s c) (carried o s.number) (order_of o (length s.payload) s.number s.cover)
    pub each : (o : Command) (w : Words o) (st : State) (f : Flags) (e : End)
        → Turns A y (air_of s (call_of s o w)) r q (carried o s.number) (order_of o (length s.payload) s.number s.cover) st f e
        → Sends o w st (flagged r f) e
    -- Read shows its words; BlockErase stores as many zeros
    pub read : (secured : Bool) (k : Option ℕ) (p : Place) (n j : ℕ) → Readable y s.image secured p.bank p.pointer n j
        → Sends (command.Read p n) tt (linked secured (link q s.number k None)) r
        (record { state = linked secured (plain_link q s.number); reply = reply.Words ((bank_of y p.bank).at + p.pointer) j s.number; words = [] })
    pub block_erase : (secured : Bool) (k : Option ℕ) (p : Place) (n : ℕ) → Writable y s.image secured p.bank p.pointer n 0
        → Sends (command.BlockErase p n) tt (linked secured (link q s.number k None)) r
        (record {
          state = linked secured (plain_link q s.number);
          reply = reply.Success s.number;
          words = below (λ j. store ((bank_of y p.bank).at + p.pointer + j) 0) n;
        })
    -- Write stores its word
    pub write : (secured : Bool) (p : Place) (w : ℕ) (b : w < 65536) → Writable y s.image secured p.bank p.pointer 1 w
        → Sends (command.Write p w) b (linked secured (link q s.number (Some s.cover) None)) r
        (record {
          state = linked secured (plain_link q s.number);
          reply = reply.Success s.number;
          words = store ((bank_of y p.bank).at + p.pointer) w ∷ [];
        })
    -- a first half waits as it is; the second is compared as it is
    pub kill_first : (secured : Bool) (w : ℕ) (b : w < 65536) → (kill_word y s.image 0 ≢ 0) ⊎ (kill_word y s.image 1 ≢ 0)
        → Sends (command.Kill w) b (linked secured (link q s.number (Some s.cover) None)) r
        (record { state = linked secured (link q s.number None (Some (half.Kill w))); reply = reply.Number s.number; words = [] })
    pub kill_second : (secured : Bool) (w up : ℕ) (b : w < 65536) → up ≡ kill_word y s.image 0 → w ≡ kill_word y s.image 1
        → Sends (command.Kill w) b (linked secured (link q s.number (Some s.cover) (Some (half.Kill up)))) r
        (record { state = state.Killed; reply = reply.Success s.number; words = store (y.status.at + 1) 1 ∷ [] })
    pub access-first : (secured : Bool) (w : ℕ) (b : w < 65536)
        → Sends (command.Access w) b (linked secured (link q s.number (Some s.cover) None)) r
        (record { state = linked secured (link q s.number None (Some (half.Access w))); reply = reply.Number s.number; words = [] })
    pub access-second : (secured : Bool) (w up : ℕ) (b : w < 65536) → up ≡ access_word y s.image 0 → w ≡ access_word y s.image 1
        → Sends (command.Access w) b (linked secured (link q s.number (Some s.cover) (Some (half.Access up)))) r
        (record { state = state.Secured (plain_link q s.number); reply = reply.Number s.number; words = [] })
    -- Lock masks and sets
    pub lock : (k : Option ℕ) (mask action : ℕ) → Lockable y s.image mask action
        → Sends (command.Lock mask action) tt (state.Secured (link q s.number k None)) r
        (record {
          state = state.Secured (plain_link q s.number);
          reply = reply.Success s.number;
          words = store y.status.at (locked_to (lock_word y s.image) mask action) ∷ [];
        })
    -- BlockWrite stores the payload's words
    pub block_write : (secured : Bool) (k : Option ℕ) (p : Place)
        → Writable y s.image secured p.bank p.pointer (length s.payload / 2) (word_at s.payload (1 - p.pointer))
        → Sends (command.BlockWrite p) tt (linked secured (link q s.number k None)) r
        (record {
          state = linked secured (plain_link q s.number);
          reply = reply.Success s.number;
          words = below (λ j. store ((bank_of y p.bank).at + p.pointer + j) (word_at s.payload j)) (length s.payload / 2);
        })
    -- BlockPermalock shows PERMA words, or adds the bits of the payload
    pub permalock_read : (k : Option ℕ) (p : Place) (n : ℕ) → p.bank ≡ 3 → p.pointer + n ≤ y.perma.words
        → Sends (command.ReadPermalock p n) tt (state.Secured (link q s.number k None)) r
        (record { state = state.Secured (plain_link q s.number); reply = reply.Words (y.perma.at + p.pointer) n s.number; words = [] })
    pub permalock : (k : Option ℕ) (p : Place) → p.bank ≡ 3
        → PermaLockable y s.image p.pointer (length s.payload / 2) s.payload 0
        → Sends (command.Permalock p) tt (state.Secured (link q s.number k None)) r
        (record {
          state = state.Secured (plain_link q s.number);
          reply = reply.Success s.number;
          words = below (λ j. let i = y.perma.at + p.pointer + j in store i (bit_or (word_at s.image i) (word_at s.payload j))) (length s.payload / 2);
        })
    -- Select compares the payload's bits
    pub select_matching : (st : State) (t a : ℕ) (p : Place) (l : ℕ) → st ≢ state.Killed → Selected y s.image s.payload p.bank p.pointer l 0
        → Sends (command.Select t a p l) tt st (flagged r (with_flag r.flags t (flag_after t a true (flag_at r.flags t)))) (quiet state.Ready)
    pub select_other : (st : State) (t a : ℕ) (p : Place) (l : ℕ) → st ≢ state.Killed
        → (Selected y s.image s.payload p.bank p.pointer l 0 → ⊥)
        → Sends (command.Select t a p l) tt st (flagged r (with_flag r.flags t (flag_after t a false (flag_at r.flags t)))) (quiet state.Ready)

-- WHAT THE ANSWER SAYS: of any tag, whatever session and image it has, with whatever room and power
pub record Hearing : Type 0 where
  pub session : Session
  pub image : List ℕ
  pub fresh : ℕ
  pub word : fresh < 65536
  pub room : List ℕ
  pub power : ℕ

module _ (c : Call) (into : List ℕ) (h : Hearing) where
  abbrev pub input_of : Input
  input_of = input h.session h.image (made c into).room (made c into).bits h.fresh h.room h.power

  abbrev pub answer : Result
  answer = answer_of (tag_of h.session h.image) (tag.frame (made c into).room (made c into).bits h.fresh h.room h.power)

  -- what it replies: with 0 and 10 the table's reply, which is silence where it names none; else silence
  abbrev pub given : Reply
  given = cond (eqb answer.number 0 || eqb answer.number 10) (reply_of input_of) reply.Silence

  -- the room's bits are read as that reply's kind and values, and words where reading says
  pub record Answered : Type 0 where
    pub meant-so : read_of c.command c.payload c.number answer.reply answer.room ≡ meant given
    pub words-so : (i k n : ℕ) → given ≡ reply.Words i k n → (n ≡ c.number) × (bits_from answer.room 1 (16 * k) ≡ words_bits h.image i k)
    pub epc-so : (i k : ℕ) → given ≡ reply.Epc i k → bits_from answer.room 0 (16 * k) ≡ words_bits h.image i k

-- both; and no command within the limits is one that every tag answers 9 for what it brings
pub record Talks : Type 1 where
  pub obeyed_so : (A : Program) → Demand2 A → (y : Layout) (s : Sending) (r : Aside) (q : Round) → Idle y s.image → Obeyed A y s r q
  pub answered_so : (c : Call) (into : List ℕ) (h : Hearing) → (made c into).number ≡ 0 → Answered c into h
  pub taken_so : (c : Call) (into : List ℕ) → (made c into).number ≡ 0
      → (asks_of (order_of c.command (length c.payload) c.number c.cover)).bad ≡ false

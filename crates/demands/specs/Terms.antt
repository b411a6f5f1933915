-- What the terms of the demands come to where a definition stands behind them (RULES 1 to 4): each said once more from the rules, so that
-- a definition which became another breaks a demand. Assumes nothing.
use Rattle.std.specs.Prelude.{ℕ, suc, ◌+◌, ◌-◌, ◌*◌, ◌/◌, ◌%◌, ◌^◌, ◌≤◌, ◌<◌, ◌≡◌, ◌≢◌, Bool, true, false, cond, not, ◌&&◌, List, [], ◌∷◌, ◌++◌, eqb, get_or, length, set, None, Some}
use Rattle.std.specs.Int.Bits.{bit_xor}
use Rattle.bits.specs.Words.{Bytes, word_at, Store, store, after}
use Rattle.bits.specs.Bits.{bit_at, bits_from, field_at, bits_of, words_bits}
use Rattle.crc.specs.Crc.{crc_of}
use Rattle.crc.specs.Crc5.{crc5_of}
use Rattle.image.specs.declared.Layout.{Layout}
use Rattle.image.specs.declared.Section.{Section}
use Rattle.image.specs.Layout.{layout_of, blocks_in, pairs_in}
use Rattle.image.specs.Content.{lock_word, killed_word, length_of, pc_word, permalock, count_in, pending}
use Rattle.replies.specs.declared.Reply.TheVariants as reply
use Rattle.replies.specs.Replies.{reply_bits}
use Rattle.replies.specs.Pack.{packed}
use Rattle.rights.specs.Rights.{bank_of, pwd_bit, perma_bit, locked_to, fault_number}
use Rattle.frames.specs.declared.Round.{Round}
use Rattle.frames.specs.Frames.{span}
use Rattle.states.specs.Commands.{kill_word, access_word, plain_link, fallen}
use Rattle.states.specs.Inventory.{flag_at, with_flag, flag_after}
use Rattle.states.specs.declared.Flags.{Flags}
use Rattle.states.specs.declared.Link.{Link}
use Rattle.states.specs.declared.State.{State}
use Rattle.states.specs.declared.State.TheVariants as state
use Rattle.stores.specs.Cuts.{with_byte}
use Rattle.stores.specs.Stores.{staged, change_stores, epc_crc, power_stores}
use Rattle.tag.specs.declared.Register.{Register}
use Rattle.rights.specs.declared.Fault.TheVariants as fault
use Rattle.tag.specs.declared.Outcome.{Outcome}
use Rattle.tag.specs.Session.{off_session, on, new_flags, clear, number_of}
use Rattle.tag.specs.Port.{number_in}
use Rattle.demands.specs.Facts.{bit_in, LockedBy}
use Rattle.demands.specs.Fields.{Fields}
use Rattle.demands.specs.Images.{Images}
use Rattle.tag.specs.Result.{leaves, result_of}
use Rattle.tag.specs.Steps.{gives}
use Rattle.tag.specs.declared.Session.{Session}
use Rattle.bits.specs.Below.{below, every}

-- bits with the CRC-16 over all of them behind them
abbrev pub sealed : List ℕ → List ℕ
sealed bs = bs ++ bits_of 16 (crc_of bs)

-- a register of 16 bits after bits were shifted in behind it, the generator added where the bit that left it differs from the next one
abbrev pub divided : ℕ → List ℕ → ℕ
divided r [] = r
divided r (b ∷ bs) = divided (bit_xor (r * 2 % 65536) (bit_xor (r / 32768) b * 0x1021)) bs

-- a register of 5 bits, likewise, with the generator x^5 + x^3 + 1
abbrev pub divided5 : ℕ → List ℕ → ℕ
divided5 r [] = r
divided5 r (b ∷ bs) = divided5 (bit_xor (r * 2 % 32) (bit_xor (r / 16) b * 0x09)) bs

-- 11.2 and 11.4: flag 0 to 3 is the inventoried flag of that session, flag 4 is SL; one set leaves the others; and what a Select's actions
-- make of flag t with the value b, where the mask matches and where it does not: assert SL or A is `eqb t 4`
pub record Flagged (f : Flags) : Type 0 where
  pub read : (flag_at f 0 ≡ f.s0) × (flag_at f 1 ≡ f.s1) × (flag_at f 2 ≡ f.s2) × (flag_at f 3 ≡ f.s3) × (flag_at f 4 ≡ f.sl)
  pub set : (t : ℕ) (b : Bool) → t ≤ 4 → flag_at (with_flag f t b) t ≡ b
  pub kept : (t k : ℕ) (b : Bool) → t ≤ 4 → k ≤ 4 → k ≢ t → flag_at (with_flag f t b) k ≡ flag_at f k

pub record Acting (t : ℕ) (b : Bool) : Type 0 where
  pub action0 : (flag_after t 0 true b ≡ eqb t 4) × (flag_after t 0 false b ≡ not (eqb t 4))
  pub action1 : (flag_after t 1 true b ≡ eqb t 4) × (flag_after t 1 false b ≡ b)
  pub action2 : (flag_after t 2 true b ≡ b) × (flag_after t 2 false b ≡ not (eqb t 4))
  pub action3 : (flag_after t 3 true b ≡ not b) × (flag_after t 3 false b ≡ b)
  pub action4 : (flag_after t 4 true b ≡ not (eqb t 4)) × (flag_after t 4 false b ≡ eqb t 4)
  pub action5 : (flag_after t 5 true b ≡ not (eqb t 4)) × (flag_after t 5 false b ≡ b)
  pub action6 : (flag_after t 6 true b ≡ b) × (flag_after t 6 false b ≡ eqb t 4)
  pub action7 : (flag_after t 7 true b ≡ b) × (flag_after t 7 false b ≡ not b)

-- the image m of the layout y
pub record Words (y : Layout) (m : List ℕ) : Type 0 where
  -- STATUS is the lock word and the killed word; RESERVED begins with the kill password and the access password, upper half first
  pub lock : lock_word y m ≡ word_at m y.status.at
  pub killed : killed_word y m ≡ word_at m (y.status.at + 1)
  pub kill : (i : ℕ) → kill_word y m i ≡ word_at m (y.reserved.at + i)
  pub access : (i : ℕ) → access_word y m i ≡ word_at m (y.reserved.at + 2 + i)
  pub pc : pc_word y m ≡ word_at m (y.epc.at + 1)
  -- PERMA has a bit for each block, the first highest; WORK is the count and the pairs, offset before value
  pub perma : (b : ℕ) → permalock y m b ≡ bit_in (word_at m (y.perma.at + b / 16)) (15 - b % 16)
  pub count : count_in y m ≡ word_at m y.work.at
  pub pairs : pending y m ≡ below (λ j. let w = y.work.at + 1 + 2 * j in store (word_at m w) (word_at m (w + 1))) (count_in y m)
  -- power-up: nothing pending, then only the CRC-16; else the pending words in order, the count 0, and the CRC-16
  pub settled : count_in y m ≡ 0 → power_stores y m
      ≡ store y.epc.at (crc_of (words_bits m (y.epc.at + 1) (length_of (pc_word y m) + 1))) ∷ []
  pub pends : (s : Store) (ss : List Store) → pending y m ≡ s ∷ ss
      → let settling = (s ∷ ss) ++ (store y.work.at 0 ∷ []) in
      power_stores y m ≡ settling ++ (store y.epc.at (epc_crc y (after m settling)) ∷ [])

-- a reply's bits, and bits in a room: eight to a byte, the first highest; the last byte filled with 0 bits, the bytes beyond as they were
pub record Bits (m : List ℕ) : Type 0 where
  pub silence : reply_bits m reply.Silence ≡ []
  pub number : (n : ℕ) → reply_bits m (reply.Number n) ≡ sealed (bits_of 16 n)
  pub success : (h : ℕ) → reply_bits m (reply.Success h) ≡ sealed (0 ∷ bits_of 16 h)
  pub words : (i k h : ℕ) → reply_bits m (reply.Words i k h) ≡ sealed ((0 ∷ words_bits m i k) ++ bits_of 16 h)
  pub error : (e h : ℕ) → reply_bits m (reply.Error e h) ≡ sealed ((1 ∷ bits_of 8 e) ++ bits_of 16 h)
  -- the number of a tag in Reply has no CRC; PC and EPC have no bit before them and no handle
  pub drawn : (n : ℕ) → reply_bits m (reply.Drawn n) ≡ bits_of 16 n
  pub epc : (i k : ℕ) → reply_bits m (reply.Epc i k) ≡ sealed (words_bits m i k)
  pub none : (room : List ℕ) → packed [] room ≡ room
  pub byte : (b c d e f g h i x : ℕ) (bs room : List ℕ)
      → packed (b ∷ c ∷ d ∷ e ∷ f ∷ g ∷ h ∷ i ∷ bs) (x ∷ room)
      ≡ (128 * b + 64 * c + 32 * d + 16 * e + 8 * f + 4 * g + 2 * h + i) ∷ packed bs room
  pub last : (b x : ℕ) (room : List ℕ) → packed (b ∷ []) (x ∷ room) ≡ 128 * b ∷ room

-- the section of n words from word o on
abbrev pub section : ℕ → ℕ → Section
section o n = record { at = o; words = n }

-- the header: the block size, then offset and count of each section
pub record Headed (m : List ℕ) (y : Layout) : Type 0 where
  pub block : y.block ≡ word_at m 1
  pub status : y.status ≡ section (word_at m 2) (word_at m 3)
  pub reserved : y.reserved ≡ section (word_at m 4) (word_at m 5)
  pub epc : y.epc ≡ section (word_at m 6) (word_at m 7)
  pub tid : y.tid ≡ section (word_at m 8) (word_at m 9)
  pub user : y.user ≡ section (word_at m 10) (word_at m 11)
  pub perma : y.perma ≡ section (word_at m 12) (word_at m 13)
  pub work : y.work ≡ section (word_at m 14) (word_at m 15)

pub record Terms : Type 0 where
  -- words have their high byte first; fields and bytes their first bit highest
  pub word : (m : List ℕ) (i : ℕ) → word_at m i ≡ 256 * get_or m (2 * i) 0 + get_or m (2 * i + 1) 0
  pub stored : (m : List ℕ) (i v : ℕ) (ss : List Store) → after m (store i v ∷ ss)
      ≡ after (set (set m (2 * i) (v / 256)) (2 * i + 1) (v % 256)) ss
  pub stored_all : (m : List ℕ) → after m [] ≡ m
  pub bit : (m : List ℕ) (i : ℕ) → bit_at m i ≡ bit_in (get_or m (i / 8) 0) (7 - i % 8)
  pub field : (m : List ℕ) (i n t : ℕ) → t < n → bit_in (field_at m i n) t ≡ bit_at m (i + (n - 1 - t))
  pub small : (m : List ℕ) (i n : ℕ) → field_at m i n < 2 ^ n
  pub number : (n v : ℕ) → bits_of (suc n) v ≡ bit_in v n ∷ bits_of n v
  pub number_all : (v : ℕ) → bits_of 0 v ≡ []
  pub row : (m : List ℕ) (i k : ℕ) → words_bits m i (suc k) ≡ words_bits m i k ++ bits_of 16 (word_at m (i + k))
  pub row_none : (m : List ℕ) (i : ℕ) → words_bits m i 0 ≡ []
  pub counted : (f : ℕ → Store) (n : ℕ) → below f (suc n) ≡ below f n ++ (f n ∷ [])
  pub counted_none : (f : ℕ → Store) → below f 0 ≡ []
  pub each : (t : ℕ → Bool) (n : ℕ) → every t (suc n) ≡ (every t n && t n)
  pub each_none : (t : ℕ → Bool) → every t 0 ≡ true
  -- the bits that a checksum covers, one after the other; what is lent consists of bytes; and a torn byte
  pub run : (m : List ℕ) (i n : ℕ) → bits_from m i (suc n) ≡ bit_at m i ∷ bits_from m (i + 1) n
  pub run_none : (m : List ℕ) (i : ℕ) → bits_from m i 0 ≡ []
  pub bytes : (m : List ℕ) → ((j : ℕ) → get_or m j 0 < 256) → Bytes m
  pub torn : (j : ℕ) (n m : List ℕ) → with_byte j n m ≡ set m j (get_or n j 0)
  -- the CRC-16: the complement of what is left of the bits behind FFFFh, divided by x^16 + x^12 + x^5 + 1
  pub crc : (bs : List ℕ) → crc_of bs ≡ 0xFFFF - divided 0xFFFF bs
  pub crc5 : (bs : List ℕ) → crc5_of bs ≡ divided5 0x09 bs
  pub flags : (f : Flags) → Flagged f
  pub actions : (t : ℕ) (b : Bool) → Acting t b
  pub header : (m : List ℕ) → Headed m (layout_of m)
  pub images : Images
  pub words : (y : Layout) (m : List ℕ) → Words y m
  pub bits : (m : List ℕ) → Bits m
  pub fields : Fields
  pub banks : (y : Layout) → (bank_of y 0 ≡ y.reserved) × (bank_of y 1 ≡ y.epc) × (bank_of y 2 ≡ y.tid) × (bank_of y 3 ≡ y.user)
  -- a block exists where a word of USER begins it, short as it may be
  pub blocks : (y : Layout) (b : ℕ) → 1 ≤ y.block
      → (b < blocks_in y → b * y.block < y.user.words) × (b * y.block < y.user.words → b < blocks_in y)
  pub work : (y : Layout) (w : ℕ) → y.work.words ≡ 1 + 2 * w → pairs_in y ≡ w
  pub pc_length : (pc : ℕ) → length_of pc ≡ pc / 2048
  -- pair k of the lock word, pwd before permalock, from the top of its ten bits; and the lock word after a Lock
  pub pairs : (lock k : ℕ) → (pwd_bit lock k ≡ bit_in lock (9 - 2 * k)) × (perma_bit lock k ≡ bit_in lock (8 - 2 * k))
  pub locked : (old mask action : ℕ) → LockedBy old mask action (locked_to old mask action)
  -- the error codes
  pub faults : (fault_number fault.Other ≡ 0x00) × (fault_number fault.PastEnd ≡ 0x03) × (fault_number fault.NoRight ≡ 0x04)
  -- a change: each word's pair, offset before value; the count, the words, the count 0; nothing where there is no word
  pub unchanged : (w : ℕ) → change_stores w [] ≡ []
  pub change : (w : ℕ) (s : Store) (ss : List Store)
      → change_stores w (s ∷ ss) ≡ (staged (w + 1) (s ∷ ss) ++ (store w (length (s ∷ ss)) ∷ [])) ++ ((s ∷ ss) ++ (store w 0 ∷ []))
  pub stage : (a : ℕ) (s : Store) (ss : List Store) → staged a (s ∷ ss) ≡ store a s.at ∷ store (a + 1) s.value ∷ staged (a + 2) ss
  pub staged_all : (a : ℕ) → staged a [] ≡ []
  pub register : (r : Register) → number_in r ≡ cond r.unwritten 2 0 + cond r.killed 1 0
  pub cleared : clear ≡ record { unwritten = false; killed = false }
  -- a session is Off, or it is under power with flags, a state, the port held or free, and a register
  pub off : off_session ≡ record { power = None }
  pub under : (f : Flags) (st : State) (held : Bool) (r : Register) → on f st held r
      ≡ record { power = Some (record { flags = f; state = st; held = held; register = r }) }
  pub first_flags : new_flags ≡ record { s0 = false; s1 = false; s2 = false; s3 = false; sl = false }
  -- a tag that falls back is in Arbitrate, in the round that it was in; with slot 0 but where it was there
  pub fell : (q : Round) (n : ℕ) (k : Link) → (fallen (state.Arbitrate q n) ≡ state.Arbitrate q n) × (fallen (state.Reply q n) ≡ state.Arbitrate q 0)
      × (fallen (state.Acknowledged q n) ≡ state.Arbitrate q 0)
      × (fallen (state.Open k) ≡ state.Arbitrate k.round 0)
      × (fallen (state.Secured k) ≡ state.Arbitrate k.round 0)
  -- bank, pointer and count; and a link with its round and number alone
  pub spanned : (b p c : ℕ) → span b p c ≡ record { bank = b; pointer = p; count = c }
  pub plain : (q : Round) (h : ℕ) → plain_link q h ≡ record { round = q; handle = h; cover = None; half = None }
  -- what the code hands back is what is left, field by field
  pub outcome : (o : Outcome) (m room : List ℕ)
      → result_of o m room
      ≡ record {
        number = number_of o.answer;
        session = o.session;
        reply = o.reply;
        stores = o.stores;
        value = o.value;
        image = m;
        room = room;
      }
  -- what an answer leaves: without reply and store, and with a reply of k bits and j stores
  pub leaving : (n : ℕ) (s : Session) (m room : List ℕ)
      → leaves n s m room ≡ record { number = n; session = s; reply = 0; stores = 0; value = 0; image = m; room = room }
  pub giving : (n : ℕ) (s : Session) (k j : ℕ) (m room : List ℕ)
      → gives n s k j m room ≡ record { number = n; session = s; reply = k; stores = j; value = 0; image = m; room = room }

-- Making and reading by a record, computed: what each must hand back, and for each two and more wrong answers that its promise rules out
-- (RULES 12.9). Assumes nothing.
use Rattle.std.specs.Prelude.{ℕ, ◌≡◌, refl, [], ◌∷◌, replicate}
use Rattle.std.proofs.Common.{ap, arith}
use Rattle.bits.specs.Bits.{field_at, bits_of}
use Rattle.crc.specs.Crc.{crc_of}
use Rattle.frames.specs.Frames.{checksum_right}
use Rattle.replies.specs.Replies.{checked}
use Rattle.replies.specs.Pack.{filled, packed}
use Rattle.depot.specs.Making.{Sent, sending, frame_bits, make_of}
use Rattle.depot.specs.Reading.{read_of}
use Rattle.capi.specs.declared.Request.{Request}
use Rattle.capi.specs.declared.Reply.{Reply}
use Rattle.capi.specs.Wrong.{other}
use Rattle.capi.specs.Depot.{command_of, make_for, read_for, replied, reply_of}

-- a record by its kind, bank, pointer, count and word; every other field is 5, which means nothing to these kinds
abbrev of : ℕ → ℕ → ℕ → ℕ → ℕ → Request
of kind bank pointer count word =
    record {
      kind = kind;
      bank = bank;
      pointer = pointer;
      count = count;
      word = word;
      mask = 5;
      action = 5;
      target = 5;
      session = 5;
      up_down = 5;
      dr = 5;
      m = 5;
      trext = 5;
      sel = 5;
      q = 5;
    }

-- what making leaves for the handle abcd and the cover number ffff, in a room of so many bytes
abbrev made : Request → ℕ → Sent
made r bytes = make_for (command_of r) [] 0xABCD 0xFFFF (replicate bytes 0xEE)

-- an error reply of the tag beef, 41 bits with the code 04, read as an answer to a command that carried a number
abbrev answered : Request → ℕ → Reply
answered r number = reply_of (read_for (command_of r) [] number 41 (0x82 ∷ 0x5F ∷ 0x77 ∷ 0xF6 ∷ 0xA8 ∷ 0x80 ∷ []))

pub record Cases : Type 0 where
  pub read : made (of 7 3 234 5 0) 10 ≡ sending 0 66 (0xC2 ∷ 0xE0 ∷ 0x5A ∷ 0x81 ∷ 0x6A ∷ 0xF3 ∷ 0x51 ∷ 0xFC ∷ 0x80 ∷ 0xEE ∷ [])
  pub write : made (of 8 1 2 0 0xEDCB) 9 ≡ sending 0 66 (0xC3 ∷ 0x40 ∷ 0x84 ∷ 0x8D ∷ 0x2A ∷ 0xF3 ∷ 0x4C ∷ 0xCC ∷ 0x80 ∷ [])
  pub no_room : made (of 8 1 2 0 0xEDCB) 8 ≡ sending 4 0 (replicate 8 0xEE)
  pub word_large : made (of 8 1 2 0 0x1EDCB) 9 ≡ sending 9 0 (replicate 9 0xEE)
  pub unknown : made (of 16 1 2 0 0xEDCB) 9 ≡ sending 9 0 (replicate 9 0xEE)
  pub error : answered (of 7 3 0 0 0) 0xBEEF ≡ replied 0 1 4 0
  pub another : answered (of 7 3 0 0 0) 0xBEE0 ≡ replied 15 0 0 0
  pub read_unknown : answered (of 16 3 0 0 0) 0xBEEF ≡ replied 9 0 0 0

pub cases : Cases
unfolding command_of make_of frame_bits read_of packed filled bits_of field_at crc_of checked checksum_right
cases =
    record {
      read = refl;
      write = refl;
      no_room = refl;
      word_large = refl;
      unknown = refl;
      error = refl;
      another = refl;
      read_unknown = refl;
    }

-- a Write sent uncovered; one whose word is cut to 16 bits; and a kind that is none taken for a command
pub uncovered : field_at (made (of 8 1 2 0 0xEDCB) 9).room 18 16 ≡ 0xEDCB → ⊥
unfolding field_at
uncovered = other _ 0x1234 0xEDCB (ap (λ (s : Sent). field_at s.room 18 16) cases.write) (λ z. omega (arith, z))

pub word_cut : (made (of 8 1 2 0 0x1EDCB) 9).number ≡ 0 → ⊥
word_cut = other _ 9 0 (ap (λ (s : Sent). s.number) cases.word_large) (λ z. omega (arith, z))

pub kind-taken : (made (of 16 1 2 0 0xEDCB) 9).number ≡ 0 → ⊥
kind-taken = other _ 9 0 (ap (λ (s : Sent). s.number) cases.unknown) (λ z. omega (arith, z))

-- another tag's error read as one of this; and an error read as words
pub handle-missed : (answered (of 7 3 0 0 0) 0xBEE0).kind ≡ 1 → ⊥
handle-missed = other _ 0 1 (ap (λ (r : Reply). r.kind) cases.another) (λ z. omega (arith, z))

pub error-shown : (answered (of 7 3 0 0 0) 0xBEEF).kind ≡ 2 → ⊥
error-shown = other _ 1 2 (ap (λ (r : Reply). r.kind) cases.error) (λ z. omega (arith, z))

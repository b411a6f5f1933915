-- WHAT A REPLY SAYS to a depot (RULES 12.4 and 12.5): n bits in the bytes m, answering a command with the number h. Assumes nothing.
use Rattle.std.specs.Prelude.{ℕ, ◌+◌, ◌-◌, ◌*◌, ◌/◌, Bool, cond, not, ◌&&◌, Option, Some, None, Result, Ok, Err, List, [], ◌∷◌, eqb, ltb}
use Rattle.bits.specs.Bits.{field_at}
use Rattle.frames.specs.Frames.{checksum_right}
use Rattle.readings.specs.declared.Awaited.{Awaited}
use Rattle.readings.specs.declared.Awaited.TheVariants as await
use Rattle.readings.specs.declared.Reading.{Reading}
use Rattle.readings.specs.declared.Reading.TheVariants as answer
use Rattle.readings.specs.declared.NotRead.{NotRead}
use Rattle.readings.specs.declared.NotRead.TheVariants as refusal

-- an error code; words: how many, and the bit where they begin; a number; done; or a number of the answer table
pub data Told : Type 0 where
  error : ℕ → Told
  words : ℕ → ℕ → Told
  number : ℕ → Told
  done : Told
  refused : ℕ → Told

-- the numbers of the refusals (RULES 5)
abbrev pub number_of : NotRead → ℕ
number_of refusal.Beyond = 9
number_of refusal.Checksum = 8
number_of refusal.Other = 15

-- the values of each answer in the code
abbrev pub meaning : Result Reading NotRead → Told
meaning (Ok (answer.Error e)) = error e
meaning (Ok (answer.Words k i)) = words k i
meaning (Ok (answer.Number w)) = number w
meaning (Ok answer.Done) = done
meaning (Err r) = refused (number_of r)

-- THE REPLIES that a reader awaits: what each says, and when it is that reply
abbrev pub Row : Type 0
Row = Told × Bool

module _ (h n : ℕ) (m : List ℕ) where
  -- a number without a CRC-16; PC and EPC, as long as the PC says; a new number; the handle
  abbrev pub drawn : Row
  drawn = (number (field_at m 0 16), eqb n 16)

  abbrev pub epc : Row
  epc = let l = field_at m 0 5 in (words (l + 1) 0, eqb n (16 * (l + 2)))

  abbrev pub renewed : Row
  renewed = (number (field_at m 0 16), eqb n 32)

  abbrev pub handle : Row
  handle = (number h, eqb n 32 && eqb (field_at m 0 16) h)

  -- a 0 and the handle; a 1, a code and the handle; a 0, k words and the handle
  abbrev pub success : Row
  success = (done, eqb n 33 && (eqb (field_at m 0 1) 0 && eqb (field_at m 1 16) h))

  abbrev pub failure : Row
  failure = (error (field_at m 1 8), eqb n 41 && (eqb (field_at m 0 1) 1 && eqb (field_at m 9 16) h))

  abbrev pub shown : ℕ → Row
  shown k = (words k 1, (ltb 0 k && ltb k 4097) && (eqb n (33 + 16 * k) && (eqb (field_at m 0 1) 0 && eqb (field_at m (1 + 16 * k) 16) h)))

  -- the words asked for; where a Read asks for 0, as many as the reply has
  abbrev pub asked : ℕ → ℕ
  asked k = cond (eqb k 0) ((n - 33) / 16) k

  -- a wrong CRC-16; the numbers that a tag draws have none
  abbrev pub wrong_sum : Row
  wrong_sum = (refused 8, not (checksum_right m n))

  -- by the kind of reply that is awaited, or none
  abbrev pub rows_of : Option Awaited → List Row
  rows_of (Some await.Drawn) = drawn ∷ []
  rows_of (Some await.Epc) = wrong_sum ∷ epc ∷ []
  rows_of (Some await.Renewed) = wrong_sum ∷ renewed ∷ []
  rows_of (Some await.Handle) = wrong_sum ∷ handle ∷ []
  rows_of (Some await.Half) = wrong_sum ∷ handle ∷ success ∷ failure ∷ []
  rows_of (Some await.Done) = wrong_sum ∷ success ∷ failure ∷ []
  rows_of (Some (await.Words k)) = wrong_sum ∷ shown (asked k) ∷ failure ∷ []
  rows_of None = wrong_sum ∷ []

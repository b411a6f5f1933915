-- Bits put into a room behind others, as the code puts them. Assumes nothing.
use Rattle.std.specs.Prelude.{ℕ, ◌+◌, ◌*◌, ◌/◌, ◌^◌, ◌-◌, ◌≡◌, cond, Option, Some, None, List, ◌++◌, eqb, length, take}
use Rattle.bits.specs.Bits.{bits_of}
use Rattle.crc.specs.Crc.{crc_of}
use Rattle.crc.specs.Crc5.{crc5_of}
use Rattle.replies.specs.Replies.{checked}
use Rattle.replies.specs.Pack.{packed}
use Rattle.fields.specs.declared.Field.{Field}

-- the bits of a field
abbrev pub field_bits : Field → List ℕ
field_bits f = bits_of f.bits f.value

-- bits with a check of so many bits behind them: a CRC-16, a CRC-5 over the first 17, or none
abbrev pub seal_bits : ℕ → List ℕ → List ℕ
seal_bits k bs = cond (eqb k 16) (checked bs) (cond (eqb k 5) (bs ++ bits_of 5 (crc5_of (take 17 bs))) bs)

-- the number of a check of so many bits, where there is one
abbrev pub check_of : ℕ → List ℕ → Option ℕ
check_of k bs = cond (eqb k 16) (Some (crc_of bs)) (cond (eqb k 5) (Some (crc5_of (take 17 bs))) None)

-- how many bits a check of so many puts: none where there is no check of that size
abbrev pub check_bits : ℕ → ℕ
check_bits k = cond (eqb k 16) 16 (cond (eqb k 5) 5 0)

-- one byte with a bit behind its first k
abbrev pub with_bit : ℕ → ℕ → ℕ → ℕ
with_bit old k b = (old / 2 ^ (8 - k) * 2 + b) * 2 ^ (7 - k)

-- behind whatever i bits stand in a room, these stand in the other
abbrev pub Goes : List ℕ → ℕ → List ℕ → List ℕ → Type 0
Goes room i bs after = (xs first : List ℕ) → length xs ≡ i → room ≡ packed xs first → after ≡ packed (xs ++ bs) first

-- CRC-5 of a list of bits: generator x^5 + x^3 + 1, preset 01001b, not complemented. Assumes nothing.
use Rattle.std.specs.Prelude.{ℕ, ◌*◌, ◌/◌, ◌%◌, List, [], ◌∷◌}
use Rattle.std.specs.Int.Bits.{bit_xor}

-- one shift of the register r: where the bit that leaves it differs from b, the generator is added
abbrev pub shift5 : ℕ → ℕ → ℕ
shift5 r b = bit_xor (r * 2 % 32) (bit_xor (r / 16) b * 0x09)

abbrev pub run5 : ℕ → List ℕ → ℕ
run5 r [] = r
run5 r (b ∷ bs) = run5 (shift5 r b) bs

unfoldable pub crc5_of : List ℕ → ℕ
crc5_of bs = run5 0x09 bs

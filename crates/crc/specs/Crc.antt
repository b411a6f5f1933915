-- CRC-16 of a list of bits (RULES 2.8): generator x^16 + x^12 + x^5 + 1, preset FFFFh, complemented. Assumes nothing.
use Rattle.std.specs.Prelude.{ℕ, ◌-◌, ◌*◌, ◌/◌, ◌%◌, List, [], ◌∷◌}
use Rattle.std.specs.Int.Bits.{bit_xor}

-- one shift of the register r: where the bit that leaves it differs from b, the generator is added
abbrev pub shift : ℕ → ℕ → ℕ
shift r b = bit_xor (r * 2 % 65536) (bit_xor (r / 32768) b * 0x1021)

abbrev pub run : ℕ → List ℕ → ℕ
run r [] = r
run r (b ∷ bs) = run (shift r b) bs

unfoldable pub crc_of : List ℕ → ℕ
crc_of bs = 0xFFFF - run 0xFFFF bs

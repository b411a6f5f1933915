-- Worked CRC-5s of a Query's 17 bits, computed. Assumes nothing.
use Rattle.std.specs.Prelude.{ℕ, ◌≡◌, refl, ◌++◌}
use Rattle.bits.specs.Bits.{bits_of}
use Rattle.crc.specs.Crc5.{run5, crc5_of}

-- the CRC-5 of the 17 low bits of v; what the division of these and the CRC-5 behind them leaves
abbrev sum : ℕ → ℕ
sum v = crc5_of (bits_of 17 v)

abbrev left : ℕ → ℕ
left v = run5 0x09 (bits_of 17 v ++ bits_of 5 (sum v))

-- 1000 0 00 0 00 00 0 0000; 1000 1 10 1 00 01 0 0100; 1000 0 00 0 11 10 1 1111
pub record Cases : Type 0 where
  pub zeros : sum 0 ≡ 0x07
  pub plain : sum 0x10000 ≡ 0x10
  pub typical : sum 0x11A24 ≡ 0x19
  pub other : sum 0x101DF ≡ 0x05
  pub zeros_left : left 0 ≡ 0
  pub typical_left : left 0x11A24 ≡ 0

pub cases : Cases
unfolding bits_of crc5_of
cases = record { zeros = refl; plain = refl; typical = refl; other = refl; zeros_left = refl; typical_left = refl }

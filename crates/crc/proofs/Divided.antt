-- Bits with their CRC-5 behind them are a multiple of the generator. Assumes nothing.
use Prim.Native.Nat.{ℕ}
use mathlib.Core.Path.{◌≡◌, refl, ◌∙◌}
use mathlib.Core.Bool.{Bool, true}
use mathlib.Core.List.{List, ◌++◌}
use native.Mathlib.Omega.{arith}
use lib.Dec.{eqb}
use borrow.Author.Tests.{eqb-true}
use Rattle.bits.specs.Below.{every}
use Rattle.bits.specs.Bits.{bits_of}
use Rattle.bits.proofs.Below.{every-at}
use Rattle.bits.proofs.Digits.{Bits}
use Rattle.crc.specs.Crc5.{run5, crc5_of}
use Rattle.crc.proofs.Linear.{of5, run_on, run-lt}

-- a register that sees itself is left 0
cleared : ℕ → Bool
cleared r = eqb (run5 r (bits_of 5 r)) 0

each : every cleared 32 ≡ true
unfolding cleared bits_of
each = refl

pub divided : (bs : List ℕ) → Bits bs → run5 0x09 (bs ++ bits_of 5 (crc5_of bs)) ≡ 0
unfolding crc5_of cleared
divided bs h =
    let r = run5 0x09 bs in
    run_on of5 0x09 bs (bits_of 5 r) ∙ eqb-true (run5 r (bits_of 5 r)) 0 (every-at cleared 32 each r (run-lt of5 bs 0x09 (omega arith) h))

-- `crc::step64` meets its contract: the register stands before the word's 48 low bits. Assumes nothing.
use Prim.Native.Nat.{ℕ, ◌*◌, ◌%◌, ◌^◌}
use mathlib.Core.Path.{sym, ap, ◌∙◌}
use native.Mathlib.Omega.{arith}
use lib.Bits.{bit_xor}
use Rattle.bits.specs.Bits.{bits_of}
use Rattle.crc.specs.Crc.{run}
use Rattle.crc.proofs.Tails.{at_once}
use Rattle.crc.proofs.step64.Goals as goal

pub returns : goal.returns
returns c =
    let a = c.args in
    c.rest.ensures
    ∙ ap (λ (x : ℕ). run 0 (bits_of 64 (bit_xor (x * 2 ^ 48 % 2 ^ 64) a.w))) c.from.ensures
    ∙ sym (at_once 64 a.r a.w (omega arith) (omega arith) (omega arith) (omega arith))

-- `fields::with_bit` meets its contract: nothing is shifted out. Assumes nothing.
use Prim.Native.Nat.{◌-◌, ◌^◌, ◌<◌}
use native.Mathlib.Nat.{div-le_self, mod-eq_of_lt}
use native.Mathlib.Omega.{arith}
use Rattle.fields.specs.Steps.{with_bit}
use Rattle.fields.proofs.Behind.{byte_fits}
use Rattle.fields.proofs.with_bit.Goals as goal

pub overflow_mul-result : goal.overflow_mul-result
overflow_mul-result c = record { fits = omega (arith, c.ranges.old.fits, div-le_self c.args.old (2 ^ (8 - c.args.k))) }

pub overflow_add-result : goal.overflow_add-result
overflow_add-result c =
    record { fits = omega (arith, c.ranges.old.fits, c.requires.1, div-le_self c.args.old (2 ^ (8 - c.args.k))) }

pub returns : goal.returns
returns c =
    let a = c.args in
    let low : with_bit a.old a.k a.b < 256 = byte_fits a.k a.old a.b c.requires.0 (omega (arith, c.ranges.old.fits)) c.requires.1 in
    rw c.from.ensures (mod-eq_of_lt (omega (arith, low)))

pub overflow_cast-result-3 : goal.overflow_cast-result-3
overflow_cast-result-3 c =
    let a = c.args in
    rw (returns c) record { fits = byte_fits a.k a.old a.b c.requires.0 (omega (arith, c.ranges.old.fits)) c.requires.1 }

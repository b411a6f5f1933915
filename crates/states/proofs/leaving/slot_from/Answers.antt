-- `states::leaving::slot_from` meets its contract. Assumes nothing.
use Prim.Native.Nat.{◌^◌, ◌≤◌, ◌<◌}
use mathlib.Core.Path.{sym}
use native.Mathlib.Nat.{pow-le-pow_right, mod-eq_of_lt}
use native.Mathlib.Omega.{arith}
use Rattle.states.proofs.leaving.slot_from.Goals as goal

pub returns-then-q-gt15 : goal.returns-then-q-gt15
returns-then-q-gt15 c =
    let a = c.args in
    let most : 2 ^ 16 ≤ 2 ^ a.q = pow-le-pow_right {n = 2} (omega arith) {i = 16} {j = a.q} c.if-q-gt15.true in
    let small : a.fresh < 2 ^ a.q = omega (arith, most) in
    sym (mod-eq_of_lt small)

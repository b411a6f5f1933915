-- `bits::field` meets its contract: the bits lie in a window of three bytes. Assumes nothing.
use mathlib.Core.Path.{sym}
use native.Mathlib.Nat.{mod-lt}
use native.Mathlib.Omega.{arith}
use lib.Pow.{pow_pos}
use Rattle.bits.proofs.Windows.{in_window, modulus, modulus-small}
use Rattle.bits.proofs.field.Goals as goal

pub overflow_cast-result-3 : goal.overflow_cast-result-3
overflow_cast-result-3 c = record { fits = modulus-small c.args.n _ (omega arith) }

pub returns : goal.returns
returns c =
    let n = c.args.n in
    let known = c.type_inv.bytes in
    rw (modulus n (omega arith), c.window.ensures)
    (sym (in_window c.args.bytes.now c.args.at n (λ i. omega (arith, known i)) (omega arith)), mod-lt _ (pow_pos n))

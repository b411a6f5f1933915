-- `bits::last_word` meets its contract: the bits lie in the last three bytes. Assumes nothing.
use native.Mathlib.Omega.{arith}
use Rattle.bits.proofs.Windows.{in-last}
use Rattle.bits.proofs.last_word.Goals as goal

pub returns : goal.returns
returns c =
    let a = c.args in
    let known = c.type_inv.bytes in
    in-last a.bytes.now a.n (λ i. omega (arith, known i)) (omega arith) c.from.ensures c.from-2.ensures c.from-3.ensures

-- `bits::eight_bytes` meets its contract: eight bytes, the highest first. Assumes nothing.
use native.Mathlib.Omega.{arith}
use Rattle.bits.proofs.Fields.{eight_bytes}
use Rattle.bits.proofs.eight_bytes.Goals as goal

pub returns : goal.returns
returns c =
    let a = c.args in
    let known = c.type_inv.bytes in
    omega (arith, c.from_be_bytes.ensures, eight_bytes a.bytes.now (λ i. omega (arith, known i)) a.i)

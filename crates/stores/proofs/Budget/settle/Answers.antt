-- `stores::Budget::settle` meets its contract: the words, then the count 0. Assumes nothing.
use Rattle.stores.specs.Steps.{pair_in}
use Rattle.bits.proofs.Below.{length-below}
use native.Mathlib.Omega.{arith}
use Rattle.stores.proofs.Runs.{ran-finished, ran-length}
use Rattle.stores.proofs.Budget.settle.Goals as goal

pub store-requires : goal.store-requires
store-requires c = omega (arith, ran-length c.apply.ensures)

pub returns-then-n-ne0 : goal.returns-then-n-ne0
returns-then-n-ne0 c =
    let a = c.args in
    ran-finished a.work _ (omega (arith, c.if-n-ne0.true, length-below (pair_in a.work a.bytes.now) a.n)) c.apply.ensures c.store.ensures

-- `stores::change_one` meets its contract: by `change-one`. Assumes nothing.
use native.Mathlib.Omega.{arith}
use Rattle.bits.specs.Words.{store}
use Rattle.stores.proofs.Runs.{ran-length}
use Rattle.stores.proofs.Changes.{change-one}
use Rattle.stores.proofs.change_one.Goals as goal

pub store-requires-2 : goal.store-requires-2
store-requires-2 c = omega (arith, ran-length c.store.ensures)

pub returns : goal.returns
returns c = let a = c.args in
    change-one a.work a.image.now (store a.at a.v) (omega arith) c.stage_one.ensures c.store.ensures c.store-2.ensures

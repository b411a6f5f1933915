-- `stores::Budget::stage_one` meets its contract: the pair, then the count. Assumes nothing.
use native.Mathlib.Omega.{arith}
use Rattle.stores.proofs.Runs.{ran_append, ran-length}
use Rattle.stores.proofs.Budget.stage_one.Goals as goal

pub store-requires : goal.store-requires
store-requires c = omega (arith, ran-length c.put_pair.ensures)

pub returns : goal.returns
returns c = ran_append c.put_pair.ensures c.store.ensures

-- `stores::Budget::stage` meets its contract: the pairs, then their count. Assumes nothing.
use native.Mathlib.Omega.{arith}
use Rattle.stores.proofs.Runs.{ran-announced, ran-length, chosen-most}
use Rattle.stores.proofs.Budget.stage.Goals as goal

pub overflow_cast-k : goal.overflow_cast-k
overflow_cast-k c = let x = c.args.words in
    record { fits = omega (arith, x.few, c.stage_words-k.ensures.pairs, chosen-most x.at x.bytes.now x.from x.skip.now x.n) }

pub store-requires : goal.store-requires
store-requires c = omega (arith, ran-length c.stage_words-k.ensures.ran)

pub returns-then-k-ne0 : goal.returns-then-k-ne0
returns-then-k-ne0 c = ran-announced _ c.if-k-ne0.true c.stage_words-k.ensures c.store.ensures

-- `stores::change` meets its contract: staged pairs are read back as they were. Assumes nothing.
use Rattle.stores.specs.Steps.{chosen}
use lib.ListN.{length}
use Prim.Native.Nat.{◌≤◌, ◌<◌}
use native.Mathlib.Omega.{arith}
use Rattle.stores.proofs.Runs.{chosen-most, ran-length, ran-tail}
use Rattle.stores.proofs.Changes.{change-none, change-cut, change-under, change-whole, chosen-under}
use Rattle.stores.proofs.change.Goals as goal

pub returns-then-pairs-eq0 : goal.returns-then-pairs-eq0
returns-then-pairs-eq0 c = let a = c.args in
    change-none a.work a.image.now (omega arith) c.stage-pairs.ensures c.if-pairs-eq0.true

pub returns-then-budget-eq0 : goal.returns-then-budget-eq0
returns-then-budget-eq0 c = let a = c.args in
    let x = a.words in
    let xs = chosen x.at x.bytes.now x.from x.skip.now x.n in
    let h : 0 < length xs = omega (arith, c.if-pairs-eq0.false, c.stage-pairs.ensures.pairs) in
    change-cut a.work a.image.now (omega arith) c.stage-pairs.ensures h c.if-budget-eq0.true

pub settle-requires-clause-n_bound : goal.settle-requires-clause-n_bound
settle-requires-clause-n_bound c = let a = c.args in
    let x = a.words in
    let few = chosen-most x.at x.bytes.now x.from x.skip.now x.n in
    let e = c.stage-pairs.ensures.pairs in
    (omega (arith, x.few), omega arith, omega (arith, ran-length (ran-tail a.work a.image.now (omega arith) c.stage-pairs.ensures.ran)))

pub settle-requires-clause-by_index : goal.settle-requires-clause-by_index
settle-requires-clause-by_index c = let a = c.args in
    let x = a.words in
    let xs = chosen x.at x.bytes.now x.from x.skip.now x.n in
    let few : length xs ≤ x.n = chosen-most x.at x.bytes.now x.from x.skip.now x.n in
    let h : 0 < length xs = omega (arith, c.if-pairs-eq0.false, c.stage-pairs.ensures.pairs) in
    λ j l. change-under a.work a.image.now (omega arith) c.stage-pairs.ensures h c.if-budget-eq0.false (omega arith) (chosen-under x.at x.bytes.now x.from x.skip.now x.n a.work (omega arith)) j (rw c.stage-pairs.ensures.pairs at l)

pub returns : goal.returns
returns c = let a = c.args in
    let x = a.words in
    let xs = chosen x.at x.bytes.now x.from x.skip.now x.n in
    let few : length xs ≤ x.n = chosen-most x.at x.bytes.now x.from x.skip.now x.n in
    let h : 0 < length xs = omega (arith, c.if-pairs-eq0.false, c.stage-pairs.ensures.pairs) in
    change-whole a.work a.image.now (omega arith) c.stage-pairs.ensures h c.if-budget-eq0.false (omega arith) (rw c.stage-pairs.ensures.pairs at c.settle.ensures)

-- `stores::Budget::stage_words` meets its contract. Invariant: the pairs of the words passed are staged. Assumes nothing.
use lib.ListN.{length}
use Rattle.stores.specs.Steps.{chosen, StagedTo}
use mathlib.Core.Path.{◌≡◌}
use Prim.Native.Nat.{◌≤◌}
use Rattle.stores.proofs.Budget.stage_words.Given as goal

abbrev pub invariant-loop-j : goal.invariant-loop-j
invariant-loop-j l = record {
  few : l.k ≤ l.j;
  staged : StagedTo 0 (chosen l.words.at l.words.bytes.now l.words.from l.words.skip.now l.j) l.initial.self.left l.initial.bytes l.bytes l.self.left l.k;
  long : length l.bytes ≡ length l.initial.bytes;
}

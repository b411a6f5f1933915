-- `stores::Budget::apply` meets its contract. Invariant: the words of the pairs passed are stored, and WORK is as it was. Assumes nothing.
use Rattle.stores.specs.Steps.{Ran, pairs_at}
use Rattle.bits.specs.Words.{word_at}
use mathlib.Core.Path.{◌≡◌}
use Prim.Native.Nat.{ℕ, ◌≤◌}
use lib.ListN.{length}
use Rattle.stores.proofs.Budget.apply.Given as goal

abbrev pub invariant-loop-j : goal.invariant-loop-j
invariant-loop-j l = record {
  ran : Ran (pairs_at l.work l.initial.bytes l.j) l.initial.self.left l.initial.bytes l.bytes l.self.left;
  kept : (i : ℕ) → l.work ≤ i → word_at l.bytes i ≡ word_at l.initial.bytes i;
  long : length l.bytes ≡ length l.initial.bytes;
}

-- `rights::Blocks::first_locked` meets its contract. Invariant: what is left to search gives the whole search's answer. Assumes nothing.
use Prim.Native.Nat.{ℕ, ◌+◌, ◌-◌, ◌*◌, ◌/◌, ◌≤◌, ◌<◌}
use mathlib.Core.Path.{◌≡◌}
use Rattle.rights.specs.Steps.{first_locked}
use Rattle.rights.proofs.Searches.{Wide}
use Rattle.rights.proofs.Blocks.first_locked.Given as goal

-- word `next` is the first of block b that is looked at; where none is left, block b ends behind the last
abbrev pub invariant-loop-b : goal.invariant-loop-b
invariant-loop-b l = record {
  inside : l.next ≤ l.stop;
  here : l.next < l.stop → l.b ≡ l.next / l.self.layout.block;
  later : l.stop ≤ l.next → l.stop ≤ (l.b + 1) * l.width;
  wide : Wide l.self.layout.block l.stop l.width;
  left : first_locked l.self.layout l.self.image.now l.next (l.stop - l.next) ≡ first_locked l.self.layout l.self.image.now l.from l.count;
}

-- words i to end - 1 are words of block b
abbrev pub invariant-loop-i : goal.invariant-loop-i
invariant-loop-i l = record {
  here : (k : ℕ) → l.i ≤ k → k < l.end → l.b ≡ k / l.self.layout.block;
  left : first_locked l.self.layout l.self.image.now l.i (l.stop - l.i) ≡ first_locked l.self.layout l.self.image.now l.from l.count;
}

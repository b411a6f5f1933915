-- `ebv::read` meets its contract. Invariant: the groups that are left make of the value so far what all groups make of 0. Assumes nothing.
use Prim.Native.Nat.{◌-◌, ◌^◌, ◌≤◌, ◌<◌}
use mathlib.Core.Path.{◌≡◌}
use Rattle.ebv.specs.Ebv.{pointer_at, groups}
use Rattle.ebv.proofs.read.Given as goal

abbrev pub invariant-loop-k : goal.invariant-loop-k
invariant-loop-k l = (l.k ≤ 3) × (l.acc < 128 ^ l.k) × (groups l.frame l.n l.at l.k l.acc (3 - l.k) ≡ pointer_at l.frame l.n l.at)

abbrev pub decreases-loop-k : goal.decreases-loop-k
decreases-loop-k l = 3 - l.k

-- `replies::store_eight` meets its contract. Invariant: the first k bytes are stored. Assumes nothing.
use mathlib.Core.Path.{◌≡◌}
use lib.Seq.{paste}
use Rattle.replies.proofs.store_eight.Given as goal

abbrev pub invariant-loop-k : goal.invariant-loop-k
invariant-loop-k l = l.room ≡ paste l.initial.room l.i l.bytes l.k

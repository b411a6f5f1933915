-- `replies::put_words` meets its contract. Invariant: the first j words are sent. Assumes nothing.
use Prim.Native.Nat.{ℕ, ◌*◌}
use mathlib.Core.List.{List}
use Rattle.replies.proofs.Pen.{Sent}
use Rattle.replies.proofs.put_words.Given as goal

abbrev pub invariant-loop-j : goal.invariant-loop-j
invariant-loop-j l =
    Sent l.image l.from (4 * l.j) l.initial.room l.room l.before l.register

-- room₀ is the room where this loop begins: whatever the room was at first, the words so far go on
abbrev pub invariant-loop-j-2 : goal.invariant-loop-j-2
invariant-loop-j-2 l =
    (first : List ℕ) → Sent l.image l.from l.initial.j first l.initial.room l.initial.before l.initial.register → Sent l.image l.from l.j first l.room l.before l.register

-- `replies::put_few` meets its contract. Invariant: the first words are packed, four at a time and then one by one. Assumes nothing.
use Prim.Native.Nat.{ℕ, ◌*◌}
use mathlib.Core.Path.{◌≡◌}
use mathlib.Core.List.{List}
use Rattle.bits.specs.Bits.{words_bits}
use Rattle.replies.specs.Pack.{packed}
use Rattle.replies.proofs.put_few.Given as goal

abbrev pub invariant-loop-j : goal.invariant-loop-j
invariant-loop-j l = l.room ≡ packed (words_bits l.image l.from (4 * l.j)) l.initial.room

-- the room where this loop begins: whatever the room was at first, the words so far go on
abbrev pub invariant-loop-j-2 : goal.invariant-loop-j-2
invariant-loop-j-2 l = (first : List ℕ) → l.initial.room ≡ packed (words_bits l.image l.from l.initial.j) first → l.room ≡ packed (words_bits l.image l.from l.j) first

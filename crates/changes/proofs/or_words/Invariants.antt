-- `changes::or_words` meets its contract. Invariant: the words passed stand in the buffer. Assumes nothing.
use Rattle.bits.specs.Bits.{field_at}
use Rattle.bits.specs.Words.{word_at}
use lib.ListN.{length}
use lib.Bits.{bit_or}
use mathlib.Core.Path.{◌≡◌}
use Prim.Native.Nat.{ℕ, ◌+◌, ◌*◌, ◌<◌}
use Rattle.changes.proofs.or_words.Given as goal

abbrev pub invariant-loop-j : goal.invariant-loop-j
invariant-loop-j l = (length l.buffer ≡ length l.initial.buffer) × ((i : ℕ) → i < l.j → word_at l.buffer i ≡ bit_or (word_at l.image (l.at + i)) (field_at l.frame (l.from + 16 * i) 16))

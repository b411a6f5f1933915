-- `replies::put_plain` meets its contract. Invariant: the first k bytes are packed. Assumes nothing.
use Prim.Native.Nat.{◌*◌}
use mathlib.Core.Path.{◌≡◌}
use Rattle.replies.specs.Pack.{packed}
use Rattle.bits.specs.Bits.{bits_from}
use Rattle.replies.proofs.put_plain.Given as goal

abbrev pub invariant-loop-k : goal.invariant-loop-k
invariant-loop-k l = l.room ≡ packed (bits_from l.image (16 * l.from) (8 * l.k)) l.initial.room

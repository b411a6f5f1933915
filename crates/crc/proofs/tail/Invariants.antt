-- `crc::tail` meets its contract. Invariant: the number is the field of the bytes so far. Assumes nothing.
use Prim.Native.Nat.{◌*◌}
use mathlib.Core.Path.{◌≡◌}
use Rattle.bits.specs.Bits.{field_at}
use Rattle.crc.proofs.tail.Given as goal

abbrev pub invariant-loop-i : goal.invariant-loop-i
invariant-loop-i l = l.v ≡ field_at l.bytes (8 * l.at) (8 * l.i)

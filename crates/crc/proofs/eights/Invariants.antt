-- `crc::eights` meets its contract. Invariant: the register has seen the first k times eight bytes. Assumes nothing.
use Prim.Native.Nat.{◌*◌}
use mathlib.Core.Path.{◌≡◌}
use Rattle.bits.specs.Bits.{bits_from}
use Rattle.crc.specs.Crc.{run}
use Rattle.crc.proofs.eights.Given as goal

abbrev pub invariant-loop-k : goal.invariant-loop-k
invariant-loop-k l = l.r ≡ run 0xFFFF (bits_from l.bytes 0 (64 * l.k))

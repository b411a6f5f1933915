-- `crc::crc16` meets its contract. Invariant: the register, run over the bits that are left, gives what the preset gives over all bits. Assumes nothing.
use Prim.Native.Nat.{◌-◌}
use mathlib.Core.Path.{◌≡◌}
use Rattle.bits.specs.Bits.{bits_from}
use Rattle.crc.specs.Crc.{run}
use Rattle.crc.proofs.crc16.Given as goal

abbrev pub invariant-loop-i : goal.invariant-loop-i
invariant-loop-i l = run l.r (bits_from l.bytes l.i (l.n - l.i)) ≡ run 0xFFFF (bits_from l.bytes 0 l.n)

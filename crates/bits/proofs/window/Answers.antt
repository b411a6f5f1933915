-- `bits::window` meets its contract: three bytes, the highest first. Assumes nothing.
use native.Mathlib.Omega.{arith}
use Rattle.bits.specs.Steps.{window_at}
use Rattle.bits.proofs.window.Goals as goal

pub returns-then-k-bytes : goal.returns-then-k-bytes
unfolding window_at
returns-then-k-bytes c = omega (arith, c.from.ensures, c.from-then-k-bytes.ensures, c.from-then-k-bytes-2.ensures)

pub returns : goal.returns
unfolding window_at
returns c = omega (arith, c.from-2.ensures, c.from-3.ensures, c.from-4.ensures, c.byte.ensures, c.byte-2.ensures, c.byte-3.ensures)

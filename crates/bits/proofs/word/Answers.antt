-- `bits::word` meets its contract: two bytes, the higher first. Assumes nothing.
use native.Mathlib.Omega.{arith}
use Rattle.bits.specs.Words.{word_at}
use Rattle.bits.proofs.word.Goals as goal

pub returns : goal.returns
unfolding word_at
returns c = omega (arith, c.from.ensures, c.from-2.ensures, c.byte.ensures, c.byte-2.ensures)

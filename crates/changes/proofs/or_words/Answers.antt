-- `changes::or_words` meets its contract. Invariant: the words passed stand in the buffer. Assumes nothing.
use Rattle.bits.proofs.Words.{length-with}
use Rattle.bits.specs.Bits.{field_at}
use Rattle.bits.specs.Words.{word_at}
use lib.ListN.{length}
use lib.Bits.{bit_or}
use mathlib.Core.Path.{ap, ap₂, ◌∙◌}
use Prim.Native.Nat.{◌+◌, ◌*◌}
use Rattle.changes.proofs.Words.{next_word}
use native.Mathlib.Omega.{arith}
use Rattle.changes.proofs.or_words.Goals as goal

pub loop-j-preserved : goal.loop-j-preserved
loop-j-preserved c = let a = c.args in
    let l = c.loop-j in
    let e = c.store_word.ensures in
    (ap length e ∙ length-with _ _ _ ∙ l.invariant.0, rw e (next_word _ l.j _ (λ i. bit_or (word_at a.image.now (a.at + i)) (field_at a.frame.now (a.from + 16 * i) 16)) (omega (arith, l.invariant.0)) (ap₂ bit_or c.word-old.ensures c.field-mask.ensures.0) l.invariant.1))

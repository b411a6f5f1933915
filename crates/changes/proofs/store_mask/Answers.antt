-- `changes::store_mask` meets its contract: the words of a buffer. Assumes nothing.
use Rattle.changes.specs.Changes.{or_to}
use Rattle.changes.proofs.Words.{from-words, made-same}
use Rattle.bits.specs.Words.{store}
use mathlib.Core.Path.{ap}
use Prim.Native.Nat.{◌+◌}
use Rattle.changes.proofs.store_mask.Goals as goal

pub returns : goal.returns
returns c = let a = c.args in
    made-same a.work _ (or_to a.image.now a.frame.now a.at a.from) a.n (λ j l. ap (store (a.at + j)) (c.or_words.ensures j l)) (rw (from-words a.at _ a.n c.lent.ensures) at c.store_bits.ensures)

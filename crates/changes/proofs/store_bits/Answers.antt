-- `changes::store_bits` meets its contract: none is passed over. Assumes nothing.
use Rattle.stores.proofs.Runs.{chosen-all, no_byte}
use mathlib.Core.List.{[], ◌∷◌}
use Rattle.changes.proofs.store_bits.Goals as goal

pub returns : goal.returns
returns c = let a = c.args in
    rw (chosen-all a.at a.words.now a.from (0 ∷ []) a.n no_byte) at c.change.ensures

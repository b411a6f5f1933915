-- What the code looks for: the first locked word, and what a word asks beside its pair. Assumes nothing.
use Rattle.std.specs.Prelude.{Option, Some, None, ℕ, zero, suc, ◌+◌, ◌*◌, Bool, cond, not, ◌&&◌, ◌||◌, List, eqb, ltb}
use Rattle.image.specs.declared.Layout.{Layout}
use Rattle.rights.specs.Rights.{block_open}

-- the first of the n USER words from word i on that stands in a permalocked block
abbrev pub first_locked : Layout → List ℕ → ℕ → ℕ → Option ℕ
first_locked y m i zero = None
first_locked y m i (suc n) = cond (block_open y m i) (first_locked y m (i + 1) n) (Some i)

-- what writing word i of bank b asks beside its pair
abbrev pub rest_open : Layout → List ℕ → ℕ → ℕ → Bool
rest_open y m b i = not (eqb b 2) && not (eqb b 1 && eqb i 0) && (not (eqb b 3) || block_open y m i)

-- the header word that has the offset of bank b
abbrev pub entry_of : ℕ → ℕ
entry_of b = cond (ltb b 3) (4 + 2 * b) 10

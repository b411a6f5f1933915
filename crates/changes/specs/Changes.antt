-- The words of a change, by where they come from. Assumes nothing.
use Rattle.std.specs.Prelude.{ℕ, ◌+◌, ◌*◌, ◌≤◌, ◌<◌, List}
use Rattle.std.specs.Int.Bits.{bit_or}
use Rattle.bits.specs.Words.{word_at, Store, store}
use Rattle.bits.specs.Bits.{field_at}

-- word j of d, for word o + j
abbrev pub word_to : ℕ → List ℕ → ℕ → Store
word_to o d j = store (o + j) (word_at d j)

-- word o + j of m with the bits that stand in f from bit p on added
abbrev pub or_to : List ℕ → List ℕ → ℕ → ℕ → ℕ → Store
or_to m f o p j = store (o + j) (bit_or (word_at m (o + j)) (field_at f (p + 16 * j) 16))

-- n words from word o on lie below WORK at word w, which has pairs for them in an image of l bytes
pub record Holds (w o n l : ℕ) : Type 0 where
  pub few : n < 256
  pub under : o + n ≤ w
  pub small : w < 65536
  pub pairs : 2 * (w + 1 + 2 * n) ≤ l

-- Stores as the code makes them, with the power that is left. Assumes nothing.
use Rattle.std.specs.Prelude.{ℕ, zero, suc, ◌+◌, ◌-◌, ◌*◌, min, ◌≡◌, cond, List, [], ◌∷◌, ◌++◌, eqb, length, get_or, take}
use Rattle.bits.specs.Words.{word_at, Store, store, after}
use Rattle.bits.specs.Bits.{field_at}
use Rattle.bits.specs.Below.{below}
use Rattle.stores.specs.Stores.{staged}

-- with power for s stores, the stores xs make n of m, and leave power for l
pub record Ran (xs : List Store) (s : ℕ) (m n : List ℕ) (l : ℕ) : Type 0 where
  pub image : n ≡ after m (take s xs)
  pub rest : l ≡ s - length xs

-- with power for s stores, the stores xs make n of m, and k of them are made
pub record Made (xs : List Store) (s : ℕ) (m n : List ℕ) (k : ℕ) : Type 0 where
  pub image : n ≡ after m (take s xs)
  pub made : k ≡ min s (length xs)

-- the first n pairs of a work area at word w
abbrev pub pair_in : ℕ → List ℕ → ℕ → Store
pair_in w m j = let a = w + 1 + 2 * j in store (word_at m a) (word_at m (a + 1))

abbrev pub pairs_at : ℕ → List ℕ → ℕ → List Store
pairs_at w m n = below (pair_in w m) n

-- word j of those that stand in d from bit p on, for word o + j; none where byte j of z is not 0
abbrev pub word_from : ℕ → List ℕ → ℕ → ℕ → Store
word_from o d p j = store (o + j) (field_at d (p + 16 * j) 16)

abbrev pub chosen_at : ℕ → List ℕ → ℕ → List ℕ → ℕ → List Store
chosen_at o d p z j = cond (eqb (get_or z j 0) 0) (word_from o d p j ∷ []) []

-- the words that a change takes, of n
abbrev pub chosen : ℕ → List ℕ → ℕ → List ℕ → ℕ → List Store
chosen o d p z zero = []
chosen o d p z (suc n) = chosen o d p z n ++ chosen_at o d p z n

-- after k pairs, the pairs xs are staged in a work area, in which p stand then
pub record StagedTo (k : ℕ) (xs : List Store) (s : ℕ) (m n : List ℕ) (l p : ℕ) : Type 0 where
  pub ran : Ran (staged (1 + 2 * k) xs) s m n l
  pub pairs : p ≡ k + length xs

-- the pairs xs and their count, in a work area; nothing where there is no pair
abbrev pub announced : List Store → List Store
announced [] = []
announced (x ∷ xs) = staged 1 (x ∷ xs) ++ (store 0 (length (x ∷ xs)) ∷ [])

pub record Announced (xs : List Store) (s : ℕ) (m n : List ℕ) (l p : ℕ) : Type 0 where
  pub ran : Ran (announced xs) s m n l
  pub pairs : p ≡ length xs

-- Staged pairs are read back as they were. Assumes nothing.
use Prim.Native.Nat.{ℕ, suc, ◌+◌, ◌*◌, ◌≤◌, ◌<◌}
use mathlib.Core.Path.{◌≡◌, refl, ap, ap₂, ◌∙◌}
use mathlib.Core.List.{List, [], ◌∷◌, ◌++◌}
use native.Mathlib.Omega.{arith}
use lib.ListN.{length}
use Rattle.bits.specs.Words.{word_at, with_word, Store, store, after}
use Rattle.bits.specs.Below.{below}
use Rattle.bits.proofs.Below.{below-cons, below-same}
use Rattle.bits.proofs.Words.{length-with, word-with-same, word-with-other}
use Rattle.bits.proofs.Stores.{Avoids, after-append, after-avoids}
use Rattle.stores.specs.Stores.{staged}
use Rattle.stores.specs.Steps.{pair_in, pairs_at}

-- staging from word a on leaves the words before
pub staged-avoids : (i a : ℕ) (ss : List Store) → i < a → Avoids i (staged a ss)
staged-avoids i a [] h = tt
staged-avoids i a (s ∷ ss) h = (omega arith, (omega arith, staged-avoids i (a + 2) ss (omega arith)))

-- the pair at words a + 2 * j and the next
abbrev pair_from : ℕ → List ℕ → ℕ → Store
pair_from a m j = store (word_at m (a + 2 * j)) (word_at m (a + 2 * j + 1))

staged-pairs : (m : List ℕ) (a : ℕ) (ss : List Store) → 2 * (a + 2 * length ss) ≤ length m → below (pair_from a (after m (staged a ss))) (length ss) ≡ ss
staged-pairs m a [] h = refl
staged-pairs m a (s ∷ ss) h =
    below-cons (pair_from a n) (length ss)
    ∙ ap₂ ◌∷◌ (ap₂ store (ap (word_at n) (zeroth a) ∙ kept a (omega arith) ∙ word-with-other m₁ (a + 1) s.value a (omega arith) ∙ word-with-same m a s.at (omega arith))
    (ap (word_at n) (first a) ∙ kept (a + 1) (omega arith) ∙ word-with-same m₁ (a + 1) s.value (rw length-with (omega arith))))
    (below-same (λ j. pair_from a n (suc j)) (pair_from (a + 2) n) (length ss) (λ j l. ap₂ store (ap (word_at n) (next a j)) (ap (word_at n) (after_next a j)))
    ∙ staged-pairs m₂ (a + 2) ss (rw (length-with, length-with) (omega arith)))
  where
    m₁ : List ℕ
    m₁ = with_word m a s.at

    m₂ : List ℕ
    m₂ = with_word m₁ (a + 1) s.value

    n : List ℕ
    n = after m₂ (staged (a + 2) ss)

    kept : (i : ℕ) → i < a + 2 → word_at n i ≡ word_at m₂ i
    kept i l = after-avoids m₂ (staged (a + 2) ss) i (staged-avoids i (a + 2) ss l)

    zeroth : (a : ℕ) → a + 2 * 0 ≡ a
    zeroth a = omega arith

    first : (a : ℕ) → a + 2 * 0 + 1 ≡ a + 1
    first a = omega arith

    next : (a j : ℕ) → a + 2 * suc j ≡ a + 2 + 2 * j
    next a j = omega arith

    after_next : (a j : ℕ) → a + 2 * suc j + 1 ≡ a + 2 + 2 * j + 1
    after_next a j = omega arith

-- after the pairs and their count the pairs stand in WORK
pub announced-pairs : (m : List ℕ) (w c : ℕ) (ss : List Store) → 2 * (w + 1 + 2 * length ss) ≤ length m
    → pairs_at w (after m (staged (w + 1) ss ++ (store w c ∷ []))) (length ss) ≡ ss
announced-pairs m w c ss h =
    rw (after-append m (staged (w + 1) ss) (store w c ∷ []))
    (below-same (pair_in w (with_word n w c)) (pair_from (w + 1) n) (length ss)
    (λ j l. ap₂ store (word-with-other n w c (w + 1 + 2 * j) (omega arith)) (word-with-other n w c (w + 1 + 2 * j + 1) (omega arith)))
    ∙ staged-pairs m (w + 1) ss h)
  where
    n : List ℕ
    n = after m (staged (w + 1) ss)

-- The words that buffers hold. Assumes nothing.
use Prim.Native.Nat.{ℕ, zero, suc, ◌+◌, ◌*◌, ◌<◌}
use mathlib.Core.Path.{◌≡◌, refl, ap, ap₂, ◌∙◌, subst}
use mathlib.Core.List.{List, [], ◌∷◌}
use native.Mathlib.Omega.{arith}
use native.Mathlib.Decide.{dec_lt}
use lib.ListN.{length, get_or}
use Rattle.bits.specs.Words.{word_at, with_word, Store, store}
use Rattle.bits.specs.Bits.{field_at}
use Rattle.bits.specs.Below.{below}
use Rattle.bits.proofs.Below.{below-same}
use Rattle.bits.proofs.Words.{word-with-same, word-with-other}
use Rattle.bits.proofs.Windows.{field-word}
use Rattle.stores.specs.Stores.{change_stores}
use Rattle.stores.specs.Steps.{Made, word_from}
use Rattle.changes.specs.Changes.{word_to}

pub from-words : (o : ℕ) (d : List ℕ) (n : ℕ) → ((j : ℕ) → get_or d j 0 < 256) → below (word_from o d 0) n ≡ below (word_to o d) n
from-words o d n h =
    below-same (word_from o d 0) (word_to o d) n
    (λ j l. let z : 0 + 16 * j ≡ 16 * j = omega arith in ap (store (o + j)) (ap (λ (p : ℕ). field_at d p 16) z ∙ field-word d j h))

pub made-same : (w : ℕ) (f g : ℕ → Store) (c : ℕ) {s k : ℕ} {m n : List ℕ} → ((j : ℕ) → j < c → f j ≡ g j) → Made (change_stores w (below f c)) s m n k
    → Made (change_stores w (below g c)) s m n k
made-same w f g c {s} {k} {m} {n} h p = subst (λ (xs : List Store). Made (change_stores w xs) s m n k) (below-same f g c h) p

pub zero-byte : (k : ℕ) → ◌≡◌ {A = ℕ} (get_or (0 ∷ []) k 0) 0
zero-byte zero = refl
zero-byte (suc k) = refl

pub zero_word : (j : ℕ) → word_at (0 ∷ []) j ≡ 0
unfolding word_at
zero_word j = ap₂ (λ (a b : ℕ). a * 256 + b) (zero-byte (2 * j)) (zero-byte (2 * j + 1))

-- one word more of a buffer
pub next_word : (b : List ℕ) (j v : ℕ) (f : ℕ → ℕ) → 2 * j + 1 < length b → v ≡ f j → ((i : ℕ) → i < j → word_at b i ≡ f i)
    → (i : ℕ) → i < j + 1 → word_at (with_word b j v) i ≡ f i
next_word b j v f l e h i k = go (dec_lt i j)
  where
    go : Dec (i < j) → word_at (with_word b j v) i ≡ f i
    go (yes s) = word-with-other b j v i (omega arith) ∙ h i s
    go (no s) = let z : i ≡ j = omega arith in rw z (word-with-same b j v l ∙ e)

-- Laws of runs of stores: what stands at one word afterwards, and what a run keeps. Assumes nothing.
use Prim.Native.Nat.{ℕ, zero, suc, ◌+◌, ◌*◌, ◌≤◌, ◌<◌}
use mathlib.Core.Path.{◌≡◌, refl, ap, ◌∙◌}
use mathlib.Core.Logic.{◌≢◌}
use mathlib.Core.Bool.{Bool, true, false, cond}
use mathlib.Core.List.{List, [], ◌∷◌, ◌++◌}
use native.Mathlib.Omega.{arith}
use native.Mathlib.Decide.{dec_lt}
use lib.Dec.{eqb}
use lib.ListN.{length, take}
use borrow.Author.Tests.{eqb-true, eqb-false, ne_eqb}
use Rattle.bits.specs.Words.{word_at, with_word, Store, after, All}
use Rattle.bits.specs.Below.{below}
use Rattle.bits.proofs.Words.{length-with, word-with-same, word-with-other}

-- word i lies in m
abbrev pub In : ℕ → List ℕ → Type 0
In i m = 2 * i + 1 < length m

-- what stands at word i after the stores, where d stood there before
unfoldable pub last : ℕ → ℕ → List Store → ℕ
last i d [] = d
last i d (s ∷ ss) = last i (cond (eqb i s.at) s.value d) ss

pub length-after : (m : List ℕ) (ss : List Store) → length (after m ss) ≡ length m
length-after m [] = refl
length-after m (s ∷ ss) = length-after (with_word m s.at s.value) ss ∙ length-with m s.at s.value

pub after-append : (m : List ℕ) (ss ts : List Store) → after m (ss ++ ts) ≡ after (after m ss) ts
after-append m [] ts = refl
after-append m (s ∷ ss) ts = after-append (with_word m s.at s.value) ss ts

pub word-with : (m : List ℕ) (o v i : ℕ) → In i m → word_at (with_word m o v) i ≡ cond (eqb i o) v (word_at m i)
word-with m o v i h = go (eqb i o) refl
  where
    go : (b : Bool) → eqb i o ≡ b → word_at (with_word m o v) i ≡ cond b v (word_at m i)
    go true e = rw (eqb-true i o e) (word-with-same m o v (rw (eqb-true i o e) at h))
    go false e = word-with-other m o v i (eqb-false i o e)

pub word_after : (m : List ℕ) (ss : List Store) (i : ℕ) → In i m → word_at (after m ss) i ≡ last i (word_at m i) ss
unfolding last
word_after m [] i h = refl
word_after m (s ∷ ss) i h =
    word_after (with_word m s.at s.value) ss i (rw length-with h) ∙ ap (λ (d : ℕ). last i d ss) (word-with m s.at s.value i h)

pub all_take : (P : Store → Type 0) (k : ℕ) (ss : List Store) → All P ss → All P (take k ss)
all_take P zero ss h = tt
all_take P (suc k) [] h = tt
all_take P (suc k) (s ∷ ss) h = (h.0, all_take P k ss h.1)

pub all-imp : (P Q : Store → Type 0) → ((s : Store) → P s → Q s) → (ss : List Store) → All P ss → All Q ss
all-imp P Q f [] h = tt
all-imp P Q f (s ∷ ss) h = (f s h.0, all-imp P Q f ss h.1)

pub all_append : (P : Store → Type 0) (ss ts : List Store) → All P ss → All P ts → All P (ss ++ ts)
all_append P [] ts a b = b
all_append P (s ∷ ss) ts a b = (a.0, all_append P ss ts a.1 b)

pub all_left : (P : Store → Type 0) (ss ts : List Store) → All P (ss ++ ts) → All P ss
all_left P [] ts h = tt
all_left P (s ∷ ss) ts h = (h.0, all_left P ss ts h.1)

pub all_right : (P : Store → Type 0) (ss ts : List Store) → All P (ss ++ ts) → All P ts
all_right P [] ts h = h
all_right P (s ∷ ss) ts h = all_right P ss ts h.1

-- of the elements f 0 .. f (n - 1)
pub all-below : (P : Store → Type 0) (f : ℕ → Store) (n : ℕ) → ((k : ℕ) → k < n → P (f k)) → All P (below f n)
all-below P f zero h = tt
all-below P f (suc n) h = all_append P (below f n) (f n ∷ []) (all-below P f n (λ k l. h k (omega arith))) (h n (omega arith), tt)

pub below_all : (P : Store → Type 0) (f : ℕ → Store) (n : ℕ) → All P (below f n) → (k : ℕ) → k < n → P (f k)
below_all P f zero h k l = absurd (omega arith)
below_all P f (suc n) h k l = go (below_all P f n (all_left P (below f n) (f n ∷ []) h) k) (dec_lt k n)
  where
    go : (k < n → P (f k)) → Dec (k < n) → P (f k)
    go ih (yes e) = ih e
    go ih (no e) = let z : k ≡ n = omega arith in rw z (all_right P (below f n) (f n ∷ []) h).0

abbrev pub Avoids : ℕ → List Store → Type 0
Avoids i ss = All (λ s. i ≢ s.at) ss

abbrev pub Under : ℕ → List Store → Type 0
Under w ss = All (λ s. s.at < w) ss

pub under-avoids : (w i : ℕ) (ss : List Store) → w ≤ i → Under w ss → Avoids i ss
under-avoids w i ss h u = all-imp (λ s. s.at < w) (λ s. i ≢ s.at) (λ s l. omega arith) ss u

-- a word that no store goes to stays
last-avoids : (i d : ℕ) (ss : List Store) → Avoids i ss → last i d ss ≡ d
unfolding last
last-avoids i d [] h = refl
last-avoids i d (s ∷ ss) h = rw (ne_eqb i s.at h.0) (last-avoids i d ss h.1)

pub after-avoids : (m : List ℕ) (ss : List Store) (i : ℕ) → Avoids i ss → word_at (after m ss) i ≡ word_at m i
after-avoids m [] i a = refl
after-avoids m (s ∷ ss) i a = after-avoids (with_word m s.at s.value) ss i a.1 ∙ word-with-other m s.at s.value i a.0

-- where each word below w satisfies a rule of its place, and each value stored too, each word does afterwards
abbrev pub Fine : ℕ → (ℕ → ℕ → Type 0) → List ℕ → Type 0
Fine w ok m = (i : ℕ) → i < w → ok i (word_at m i)

abbrev pub Fits : (ℕ → ℕ → Type 0) → List Store → Type 0
Fits ok ss = All (λ s. ok s.at s.value) ss

last_ok : (ok : ℕ → ℕ → Type 0) (i d : ℕ) (ss : List Store) → Fits ok ss → ok i d → ok i (last i d ss)
unfolding last
last_ok ok i d [] a o = o
last_ok ok i d (s ∷ ss) a o = last_ok ok i (cond (eqb i s.at) s.value d) ss a.1 (go (eqb i s.at) refl)
  where
    go : (b : Bool) → eqb i s.at ≡ b → ok i (cond b s.value d)
    go true q = rw (eqb-true i s.at q) a.0
    go false q = o

pub after-fine : (ok : ℕ → ℕ → Type 0) (w : ℕ) (m : List ℕ) (ss : List Store) → 2 * w ≤ length m → Fits ok ss → Fine w ok m → Fine w ok (after m ss)
after-fine ok w m ss size a f i l = rw (word_after m ss i (omega arith)) (last_ok ok i (word_at m i) ss a (f i l))

-- and where each word does after each number of the stores, each value stored does
pub fine-fits : (ok : ℕ → ℕ → Type 0) (w : ℕ) (m : List ℕ) (ss : List Store) → 2 * w ≤ length m → Under w ss
    → ((k : ℕ) → Fine w ok (after m (take k ss))) → Fits ok ss
fine-fits ok w m [] size u f = tt
fine-fits ok w m (s ∷ ss) size u f = (
  rw (word-with-same m s.at s.value (omega (arith, u.0))) at (f 1 s.at u.0),
  fine-fits ok w (with_word m s.at s.value) ss (rw length-with size) u.1 (λ k. f (suc k)),
)

-- How runs of stores start, go on and end, under a limited power. Assumes nothing.
use Prim.Native.Nat.{ℕ, zero, suc, ◌+◌, ◌*◌, ◌-◌, ◌≤◌, ◌<◌}
use mathlib.Core.Path.{◌≡◌, refl, ap, sym, ◌∙◌}
use mathlib.Core.Logic.{◌≢◌}
use mathlib.Core.Bool.{Bool, true, false, cond}
use lib.Dec.{eqb}
use mathlib.Core.List.{List, [], ◌∷◌, ◌++◌, append-nil}
use native.Mathlib.Numerals.{add-one}
use native.Mathlib.Nat.{sub-zero}
use native.Mathlib.Omega.{arith}
use borrow.Author.Tests.{eq-eqb, ne_eqb}
use lib.ListN.{length, get_or, take, drop, length-append, take-append-drop, length-drop, drop_of_length-le}
use borrow.Rule.Slice.PartMut.{put_mid}
use lib.Seq.{take-nil, take_all}
use Rattle.bits.specs.Words.{word_at, with_word, Store, store, after}
use Rattle.bits.specs.Bits.{field_at}
use Rattle.bits.specs.Below.{below}
use Rattle.bits.proofs.Words.{drop-with, take-with, word-with-other}
use Rattle.bits.proofs.Stores.{length-after}
use Rattle.stores.specs.Stores.{staged, finished}
use Rattle.stores.specs.Steps.{Ran, Made, StagedTo, Announced, word_from, chosen_at, chosen}

-- the first s of two lists of stores
take-append : (s : ℕ) (a b : List Store) (m : List ℕ) → after m (take s (a ++ b)) ≡ after (after m (take s a)) (take (s - length a) b)
take-append zero [] b m = refl
take-append (suc s) [] b m = rw sub-zero
take-append zero (x ∷ a) b m = let e : 0 - suc (length a) ≡ 0 = omega arith in rw e
take-append (suc s) (x ∷ a) b m =
    let e : suc s - suc (length a) ≡ s - length a = omega arith in
    rw e (take-append s a b (with_word m x.at x.value))

one : (s : ℕ) (x : Store) (m : List ℕ) → (s ≡ 0 → ⊥) → after m (take s (x ∷ [])) ≡ with_word m x.at x.value
one zero x m h = absurd (h refl)
one (suc s) x m h = ap (after (with_word m x.at x.value)) (take-nil s)

pub ran-none : (s : ℕ) (m : List ℕ) → Ran [] s m m s
ran-none s m = record { image = rw take-nil; rest = omega arith }

pub ran-one : (s : ℕ) (x : Store) {m n : List ℕ} → (s ≡ 0 → ⊥) → n ≡ with_word m x.at x.value → Ran (x ∷ []) s m n (s - 1)
ran-one s x {m} h e = record { image = e ∙ sym (one s x m h); rest = refl }

pub ran_append : {xs ys : List Store} {s k l : ℕ} {m n o : List ℕ} → Ran xs s m n k → Ran ys k n o l → Ran (xs ++ ys) s m o l
ran_append {xs} {ys} {s} {k} {l} {m} {n} {o} p q =
    record { image = rw (take-append s xs ys m, ← p.image, ← p.rest) q.image; rest = simp length-append (omega (arith, p.rest, q.rest)) }

-- of two stores, one where power is left for no more, or both
pub ran_first : (s : ℕ) (x y : Store) {l : ℕ} {m n : List ℕ} → s < 2 → Ran (x ∷ []) s m n l → Ran (x ∷ y ∷ []) s m n l
ran_first zero x y h p = record { image = p.image; rest = omega (arith, p.rest) }
ran_first (suc zero) x y h p = record { image = p.image; rest = omega (arith, p.rest) }
ran_first (suc (suc s)) x y h p = absurd (omega arith)

pub ran-both : (s : ℕ) (x y : Store) {m n o : List ℕ} → 2 ≤ s → n ≡ with_word m x.at x.value → o ≡ with_word n y.at y.value
    → Ran (x ∷ y ∷ []) s m o (s - 2)
ran-both s x y h e f =
    let z : s - 1 - 1 ≡ s - 2 = omega arith in
    rw z at (ran_append (ran-one s x (λ q. omega arith) e) (ran-one (s - 1) y (λ q. omega arith) f))

-- whatever is to be stored without power
pub ran_out : (xs : List Store) (m : List ℕ) → Ran xs 0 m m 0
ran_out xs m = record { image = refl; rest = omega arith }

pub ran-length : {xs : List Store} {s l : ℕ} {m n : List ℕ} → Ran xs s m n l → length n ≡ length m
ran-length {xs} {s} {l} {m} p = ap length p.image ∙ length-after m (take s xs)

pub ran-below : (f : ℕ → Store) (n : ℕ) {s k l : ℕ} {a b c : List ℕ} → Ran (below f n) s a b k → Ran (f n ∷ []) k b c l → Ran (below f (n + 1)) s a c l
ran-below f n p q = rw add-one (ran_append p q)

-- where power is left all stores are made
pub ran-whole : {xs : List Store} {s l : ℕ} {m n : List ℕ} → Ran xs s m n l → length xs ≤ s → n ≡ after m xs
ran-whole {xs} {s} {l} {m} p h = p.image ∙ ap (after m) (take_all s xs h)

pub ran-made : {xs : List Store} {s l : ℕ} {m n : List ℕ} → Ran xs s m n l → Made xs s m n (s - l)
ran-made p = record { image = p.image; made = omega (arith, p.rest) }

-- stores in the part from word w on, said of the whole
abbrev pub shifted : ℕ → List Store → List Store
shifted w [] = []
shifted w (x ∷ xs) = store (w + x.at) x.value ∷ shifted w xs

after_tail : (w : ℕ) (xs : List Store) (m : List ℕ) → take (2 * w) m ++ after (drop (2 * w) m) xs ≡ after m (shifted w xs)
after_tail w [] m = take-append-drop (2 * w) m
after_tail w (x ∷ xs) m = rw (← drop-with m w x.at x.value, ← take-with m w x.at x.value) (after_tail w xs (with_word m (w + x.at) x.value))

shifted-take : (w s : ℕ) (xs : List Store) → shifted w (take s xs) ≡ take s (shifted w xs)
shifted-take w zero xs = refl
shifted-take w (suc s) [] = refl
shifted-take w (suc s) (x ∷ xs) = ap (λ (l : List Store). store (w + x.at) x.value ∷ l) (shifted-take w s xs)

length-shifted : (w : ℕ) (xs : List Store) → length (shifted w xs) ≡ length xs
length-shifted w [] = refl
length-shifted w (x ∷ xs) = ap suc (length-shifted w xs)

pub shifted-append : (w : ℕ) (xs ys : List Store) → shifted w (xs ++ ys) ≡ shifted w xs ++ shifted w ys
shifted-append w [] ys = refl
shifted-append w (x ∷ xs) ys = ap (λ (l : List Store). store (w + x.at) x.value ∷ l) (shifted-append w xs ys)

pub shifted-staged : (w a : ℕ) (ss : List Store) → shifted w (staged a ss) ≡ staged (w + a) ss
shifted-staged w a [] = refl
shifted-staged w a (x ∷ xs) =
    let p : w + (a + 1) ≡ w + a + 1 = omega arith in
    let q : w + (a + 2) ≡ w + a + 2 = omega arith in
    rw (shifted-staged w (a + 2) xs, p, q)

pub ran-tail : (w : ℕ) (m : List ℕ) {xs : List Store} {s l : ℕ} {t : List ℕ} → 2 * w ≤ length m
    → Ran xs s (take (length m - 2 * w) (drop (2 * w) m)) t l → Ran (shifted w xs) s m (put_mid (2 * w) (length m - 2 * w) m t) l
ran-tail w m {xs} {s} {l} {t} h p =
    let a : length (drop (2 * w) m) ≤ length m - 2 * w = simp length-drop (omega arith) in
    record {
      image = rw (drop_of_length-le (drop (2 * w) m) a, append-nil, p.image, take_all (length m - 2 * w) (drop (2 * w) m) a, ← shifted-take) (after_tail w (take s xs) m);
      rest = rw length-shifted p.rest;
    }

-- pairs
pub staged-append : (a : ℕ) (xs ys : List Store) → staged a (xs ++ ys) ≡ staged a xs ++ staged (a + 2 * length xs) ys
staged-append a [] ys = let e : a + 2 * 0 ≡ a = omega arith in rw e
staged-append a (x ∷ xs) ys =
    let e : a + 2 * suc (length xs) ≡ a + 2 + 2 * length xs = omega arith in
    rw (e, staged-append (a + 2) xs ys)

pub length-staged : (a : ℕ) (ss : List Store) → length (staged a ss) ≡ 2 * length ss
length-staged a [] = refl
length-staged a (x ∷ xs) = rw (length-staged (a + 2) xs) (omega arith)

-- one word staged or passed over, and one more of several
module _ (o : ℕ) (d : List ℕ) (p : ℕ) (z : List ℕ) (j : ℕ) where
  pub passed : {b : ℕ} (k s : ℕ) (m : List ℕ) → b ≡ get_or z j 0 → (b ≡ 0 → ⊥) → StagedTo k (chosen_at o d p z j) s m m s k
  passed k s m e h =
      let n : get_or z j 0 ≡ 0 → ⊥ = λ q. h (e ∙ q) in
      rw (ne_eqb (get_or z j 0) 0 n) (record { ran = ran-none s m; pairs = omega arith })

  pub chose : {b v : ℕ} (k s l : ℕ) {m n : List ℕ} → b ≡ get_or z j 0 → b ≡ 0 → v ≡ field_at d (p + 16 * j) 16
      → Ran (staged (1 + 2 * k) (store (o + j) v ∷ [])) s m n l → StagedTo k (chosen_at o d p z j) s m n l (k + 1)
  chose k s l e h q r = rw (eq-eqb (get_or z j 0) 0 (sym e ∙ h)) (record { ran = rw q at r; pairs = refl })

  pub chose-more : {s k l k₁ l₁ : ℕ} {a b c : List ℕ} → StagedTo 0 (chosen o d p z j) s a b l k
      → StagedTo k (chosen_at o d p z j) l b c l₁ k₁ → StagedTo 0 (chosen o d p z (j + 1)) s a c l₁ k₁
  chose-more {s} {k} f g =
      let e : 1 + 2 * 0 + 2 * length (chosen o d p z j) ≡ 1 + 2 * k = omega (arith, f.pairs) in
      rw (add-one j)
      (record {
        ran = rw (staged-append, e) (ran_append f.ran g.ran);
        pairs = simp length-append (omega (arith, f.pairs, g.pairs));
      })

  pub chosen-few : length (chosen_at o d p z j) ≤ 1
  chosen-few = go (eqb (get_or z j 0) 0)
    where
      go : (b : Bool) → length (cond b (word_from o d p j ∷ []) []) ≤ 1
      go true = omega arith
      go false = omega arith

-- a store leaves the other words
pub ran-other : (x : Store) (s i : ℕ) {l : ℕ} {m n : List ℕ} → Ran (x ∷ []) s m n l → i ≢ x.at → word_at n i ≡ word_at m i
ran-other x zero i p h = ap (λ (b : List ℕ). word_at b i) p.image
ran-other x (suc s) i {m = m} p h = rw (p.image, one (suc s) x m (λ e. omega arith)) (word-with-other m x.at x.value i h)

-- words, then the count 0
pub ran-finished : (w : ℕ) (xs : List Store) {s k l : ℕ} {m n o : List ℕ} → 0 < length xs → Ran xs s m n k → Ran (store w 0 ∷ []) k n o l
    → Ran (finished w xs) s m o l
ran-finished w [] h p q = absurd (omega arith)
ran-finished w (x ∷ xs) h p q = ran_append p q

-- pairs, then their count
pub ran-announced : (xs : List Store) {s k l n : ℕ} {a b c : List ℕ} → (n ≡ 0 → ⊥) → StagedTo 0 xs s a b k n
    → Ran (store 0 n ∷ []) k b c l → Announced xs s a c l n
ran-announced [] {n = n} h p q = absurd (h p.pairs)
ran-announced (x ∷ xs) {n = n} h p q =
    let e : length (x ∷ xs) ≡ n = omega (arith, p.pairs) in
    record { ran = rw e (ran_append p.ran q); pairs = omega arith }

pub none-announced : (xs : List Store) {s : ℕ} {a b : List ℕ} {l p : ℕ} → p ≡ 0 → StagedTo 0 xs s a b l p → Announced xs s a b l p
none-announced [] h p = record { ran = p.ran; pairs = h }
none-announced (x ∷ xs) h p = absurd (omega (arith, p.pairs))

pub chosen-most : (o : ℕ) (d : List ℕ) (p : ℕ) (z : List ℕ) (n : ℕ) → length (chosen o d p z n) ≤ n
chosen-most o d p z zero = omega arith
chosen-most o d p z (suc n) = simp length-append (omega (arith, chosen-most o d p z n, chosen-few o d p z n))

-- where none is passed over
pub chosen-all : (o : ℕ) (d : List ℕ) (p : ℕ) (z : List ℕ) (n : ℕ) → ((j : ℕ) → get_or z j 0 ≡ 0) → chosen o d p z n ≡ below (word_from o d p) n
chosen-all o d p z zero h = refl
chosen-all o d p z (suc n) h = rw (chosen-all o d p z n h, eq-eqb (get_or z n 0) 0 (h n))

pub no_byte : (j : ℕ) → ◌≡◌ {A = ℕ} (get_or (0 ∷ []) j 0) 0
no_byte zero = refl
no_byte (suc j) = refl

-- Laws of tests: of two at once, and of each number below n. Assumes nothing.
use Prim.Native.Nat.{ℕ, zero, suc, ◌<◌}
use mathlib.Core.Path.{◌≡◌, refl, ap, ap₂}
use mathlib.Core.Bool.{Bool, true, false, cond, ◌&&◌, ◌||◌}
use mathlib.Core.Logic.{◌⊎◌, inl, inr}
use lib.Dec.{eqb}
use borrow.Author.Tests.{eqb-true, eqb-false}
use native.Mathlib.Omega.{arith}
use native.Mathlib.Decide.{dec_lt}
use mathlib.Core.List.{List, [], ◌∷◌, ◌++◌}
use lib.ListN.{length, length-append}
use native.Mathlib.Numerals.{add-one}
use Rattle.bits.specs.Below.{below, every, all, all_on}

pub and_left : (a b : Bool) → a && b ≡ true → a ≡ true
and_left true b e = refl
and_left false b e = e

pub and_right : (a b : Bool) → a && b ≡ true → b ≡ true
and_right true b e = e
and_right false true e = refl
and_right false false e = e

pub and_both : (a b : Bool) → a ≡ true → b ≡ true → a && b ≡ true
and_both a b p q = rw (p, q)

-- a test holds or fails by whether it can be shown to hold
pub same_test : (a b : Bool) → (a ≡ true → b ≡ true) → (b ≡ true → a ≡ true) → a ≡ b
same_test true true f g = refl
same_test true false f g = rw (f refl)
same_test false true f g = g refl
same_test false false f g = refl

pub every-at : (t : ℕ → Bool) (n : ℕ) → every t n ≡ true → (k : ℕ) → k < n → t k ≡ true
every-at t zero e k h = absurd (omega arith)
every-at t (suc n) e k h = go (every-at t n (and_left (every t n) (t n) e) k) (dec_lt k n)
  where
    go : (k < n → t k ≡ true) → Dec (k < n) → t k ≡ true
    go ih (yes l) = ih l
    go ih (no l) = let z : k ≡ n = omega arith in rw z (and_right (every t n) (t n) e)

pub every-all : (t : ℕ → Bool) (n : ℕ) → ((k : ℕ) → k < n → t k ≡ true) → every t n ≡ true
every-all t zero h = refl
every-all t (suc n) h = and_both (every t n) (t n) (every-all t n (λ k l. h k (omega arith))) (h n (omega arith))

-- one number that fails the test
pub every-not : (t : ℕ → Bool) (n k : ℕ) → k < n → t k ≡ false → every t n ≡ false
every-not t n k h e = go (every t n) refl
  where
    go : (b : Bool) → every t n ≡ b → b ≡ false
    go false p = refl
    go true p = rw (every-at t n p k h) at e

-- a list of tests, as a list of facts
abbrev pub Each : List Bool → Type 0
Each [] = Unit {0}
Each (c ∷ cs) = (c ≡ true) × Each cs

all-on : (b : Bool) (cs : List Bool) → all_on b cs ≡ true → (b ≡ true) × Each cs
all-on b [] e = (e, tt)
all-on b (c ∷ cs) e = let h = all-on (b && c) cs e in (and_left b c h.0, (and_right b c h.0, h.1))

on-all : (b : Bool) (cs : List Bool) → b ≡ true → Each cs → all_on b cs ≡ true
on-all b [] p h = p
on-all b (c ∷ cs) p h = on-all (b && c) cs (and_both b c p h.0) h.1

pub all-each : (cs : List Bool) → all cs ≡ true → Each cs
all-each cs e = (all-on true cs e).1

pub each_all : (cs : List Bool) → Each cs → all cs ≡ true
each_all cs h = on-all true cs refl h

pub or_cases : (a b : Bool) → a || b ≡ true → (a ≡ true) ⊎ (b ≡ true)
or_cases true b e = inl refl
or_cases false b e = inr e

-- a choice by whether two numbers are equal
module _ (a b : ℕ) (x y : Bool) where
  pub cond-test : (a ≡ b → x ≡ true) → ((a ≡ b → ⊥) → y ≡ true) → cond (eqb a b) x y ≡ true
  cond-test f g = go (eqb a b) refl
    where
      go : (t : Bool) → eqb a b ≡ t → cond t x y ≡ true
      go true e = f (eqb-true a b e)
      go false e = g (eqb-false a b e)

-- lists of f 0 .. f (n - 1): their length, from the front, and by their elements
pub length-below : {A : Type 0} (f : ℕ → A) (n : ℕ) → length (below f n) ≡ n
length-below f zero = refl
length-below f (suc n) = simp (length-append, length-below f n) (add-one n)

pub below-cons : {A : Type 0} (f : ℕ → A) (n : ℕ) → below f (suc n) ≡ f 0 ∷ below (λ j. f (suc j)) n
below-cons f zero = refl
below-cons {A} f (suc n) = ap (λ (l : List A). l ++ (f (suc n) ∷ [])) (below-cons f n)

pub below-same : {A : Type 0} (f g : ℕ → A) (n : ℕ) → ((j : ℕ) → j < n → f j ≡ g j) → below f n ≡ below g n
below-same f g zero h = refl
below-same {A} f g (suc n) h = ap₂ (λ (l : List A) (x : A). l ++ (x ∷ [])) (below-same f g n (λ j l. h j (omega arith))) (h n (omega arith))

-- Laws of tests over the words of a span. Assumes nothing.
use Prim.Native.Nat.{ℕ, zero, suc, ◌+◌, ◌-◌, ◌≤◌, ◌<◌}
use mathlib.Core.Path.{◌≡◌, refl, sym, ap, ◌∙◌}
use mathlib.Core.Bool.{Bool, true, false, not, cond, ◌&&◌, ◌||◌, and-true, and_assoc}
use native.Mathlib.Nat.{add-zero}
use native.Mathlib.Omega.{arith}
use native.Mathlib.Decide.{dec_lt}
use mathlib.Core.List.{List}
use lib.Dec.{eqb, leb, ltb}
use borrow.Author.Tests.{lt-ltb, le-ltb, lt-leb, leb-false, eqb-false, ne_eqb, not-true}
use Rattle.bits.specs.Below.{every}
use Rattle.image.specs.declared.Layout.{Layout}
use Rattle.frames.specs.declared.Span.{Span}
use Rattle.rights.specs.Rights.{may_read}
use Rattle.bits.proofs.Below.{and_left, and_right, and_both, same_test, every-at, every-all}

-- the first word by itself
pub every_front : (t : ℕ → Bool) (n : ℕ) → every t (suc n) ≡ (t 0 && every (λ j. t (suc j)) n)
every_front t zero = sym (and-true (t 0))
every_front t (suc n) =
    ap (λ (b : Bool). b && t (suc n)) (every_front t n) ∙ and_assoc (t 0) (every (λ j. t (suc j)) n) (t (suc n))

-- a bank other than RESERVED is read always
pub others_read : (y : Layout) (m : List ℕ) (secured : Bool) (s : Span) (n : ℕ) → (s.bank ≡ 0 → ⊥)
    → every (λ j. may_read y m secured s.bank (s.pointer + j)) n ≡ true
others_read y m secured s n d = every-all (λ j. may_read y m secured s.bank (s.pointer + j)) n (λ j h. rw (ne_eqb _ _ d))

-- none of the words is word 0
pub beyond-zero : (p n : ℕ) → 0 < n → not (eqb p 0) ≡ every (λ j. not (eqb (p + j) 0)) n
beyond-zero p n h =
    same_test (not (eqb p 0)) (every (λ j. not (eqb (p + j) 0)) n)
    (λ e. every-all (λ j. not (eqb (p + j) 0)) n (λ j l. (let d : p ≡ 0 → ⊥ = eqb-false p 0 (not-true (eqb p 0) e) in rw (ne_eqb (p + j) 0 (λ z. d (omega arith))))))
    (λ e. rw (add-zero p) at (every-at (λ j. not (eqb (p + j) 0)) n e 0 h))

unless : (a b c : Bool) → (a ≡ false → b ≡ false → c ≡ true) → a || b || c ≡ true
unless true b c h = refl
unless false true c h = refl
unless false false c h = h refl refl

-- words below word 2 and words from word 2 on are tested once each
module _ (f : ℕ → Bool) (p n : ℕ) where
  abbrev part : ℕ → Bool
  part j = f (cond (ltb (p + j) 2) 0 1)

  abbrev low : Bool
  low = eqb n 0 || leb 2 p || f 0

  abbrev high : Bool
  high = eqb n 0 || leb (p + n) 2 || f 1

  pub two_parts : every (λ j. f (cond (ltb (p + j) 2) 0 1)) n ≡ ((eqb n 0 || leb 2 p || f 0) && (eqb n 0 || leb (p + n) 2 || f 1))
  two_parts = same_test (every part n) (low && high) down up
    where
      down : every part n ≡ true → low && high ≡ true
      down e =
          and_both low high
          (unless (eqb n 0) (leb 2 p) (f 0)
          (λ a b. (let s : 0 < n = omega (arith, eqb-false n 0 a) in let l : p + 0 < 2 = omega (arith, leb-false 2 p b) in rw (lt-ltb _ _ l) at (every-at part n e 0 s))))
          (unless (eqb n 0) (leb (p + n) 2) (f 1)
          (λ a b. (let s : 0 < n = omega (arith, eqb-false n 0 a) in let l : 2 ≤ p + (n - 1) = omega (arith, leb-false (p + n) 2 b) in rw (le-ltb _ _ l) at (every-at part n e (n - 1) (omega arith)))))

      up : low && high ≡ true → every part n ≡ true
      up e = every-all part n (λ j h. go j h (dec_lt (p + j) 2))
        where
          go : (j : ℕ) → j < n → Dec (p + j < 2) → part j ≡ true
          go j h (yes l) =
              let a : n ≡ 0 → ⊥ = omega arith in
              let b : p < 2 = omega arith in
              rw (lt-ltb _ _ l) (rw (ne_eqb _ _ a, lt-leb _ _ b) at (and_left low high e))
          go j h (no l) =
              let a : n ≡ 0 → ⊥ = omega arith in
              let b : 2 < p + n = omega arith in
              let c : 2 ≤ p + j = omega arith in
              rw (le-ltb _ _ c) (rw (ne_eqb _ _ a, lt-leb _ _ b) at (and_right low high e))

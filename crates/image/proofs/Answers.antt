-- The check's answer from its steps, and what a caller learns from it. Assumes nothing.
use Prim.Native.Nat.{ℕ, ◌*◌, ◌≤◌}
use mathlib.Core.Path.{◌≡◌, refl, sym, ap, ◌∙◌, subst}
use mathlib.Core.Bool.{Bool, true, false, not, cond}
use mathlib.Core.List.{List}
use native.Mathlib.Omega.{arith}
use lib.Dec.{eqb}
use lib.ListN.{length}
use borrow.Author.Tests.{le-ltb, ltb-false, eqb-true, eqb-false, eq-eqb, ne_eqb}
use Rattle.image.specs.declared.Layout.{Layout}
use Rattle.image.specs.declared.Refusal.{Refusal}
use Rattle.image.specs.declared.Refusal.TheVariants as refusal
use Rattle.image.specs.Layout.{layout_of, header_good}
use Rattle.image.specs.Content.{count_in, content_good}
use Rattle.image.specs.Check.{Checked, refused, good, refusal_number, row_of, check_of}
use Rattle.image.specs.Rules.{Good}
use Rattle.image.specs.Steps.{content_fits, pending_row, content_row, ready_row, short, header_wrong, content_broken}
use Rattle.image.proofs.Rules.{header-both, content-both}
use Rattle.image.proofs.Fits.{same-content}

-- past the header the answer is that of the content's steps
pub from-content : (m : List ℕ) {y : Layout} → y ≡ layout_of m → 32 ≤ length m → header_good y m ≡ true → {b : Bool} → b ≡ content_fits y m
    → cond b (good y) (refused 3) ≡ check_of m
unfolding check_of
from-content m {y} p l h {b} e =
    let same : content_good (layout_of m) m ≡ b = rw (← p) (same-content y m ((header-both y m).0 h) ∙ sym e) in
    let head : header_good (layout_of m) m ≡ true = rw p at h in
    rw p (simp (le-ltb _ _ l, head, same) (go b))
  where
    go : (b : Bool) → cond b (good (layout_of m)) (refused 3) ≡ cond (not b) (refused 3) (good (layout_of m))
    go true = refl
    go false = refl

-- an image is found good where it is good, and only there
pub good-check : (y : Layout) (m : List ℕ) → Good y m → check_of m ≡ good y
unfolding check_of
good-check y m g =
    let h = g.header in
    let long : 32 ≤ length m = omega arith in
    simp (le-ltb _ _ long, ← g.layout, (header-both y m).1 h, (content-both y m).1 g.content)

never : (n : ℕ) {y : Layout} → refused n ≡ good y → ⊥
never n e = let z : ◌≡◌ {A = ℕ} 0 1 = cc in omega arith

pub check-good : (m : List ℕ) (y : Layout) → check_of m ≡ good y → Good y m
unfolding check_of
check-good m y = go (short m) (header_good (layout_of m) m) (content_good (layout_of m) m) refl refl
  where
    go : (a b c : Bool) → header_good (layout_of m) m ≡ b → content_good (layout_of m) m ≡ c
        → cond a (refused 1) (cond (not b) (refused 2) (cond (not c) (refused 3) (good (layout_of m)))) ≡ good y → Good y m
    go true b c p q e = absurd (never 1 e)
    go false false c p q e = absurd (never 2 e)
    go false true false p q e = absurd (never 3 e)
    go false true true p q e =
        let l : layout_of m ≡ y = cc in
        subst (λ (y : Layout). Good y m) l (record { layout = refl; header = (header-both _ m).0 p; content = (content-both _ m).0 q })

-- a good image is at most 4,802 words
pub good-size : (y : Layout) (m : List ℕ) → Good y m → length m ≤ 2 * 4802
good-size y m g = let h = g.header in omega arith

-- which of the three conditions hold, from the answer
rows : (m : List ℕ) {a b c : Bool} → short m ≡ a → header_wrong m ≡ b → content_broken m ≡ c
    → check_of m ≡ cond a (refused 1) (cond b (refused 2) (cond c (refused 3) (good (layout_of m))))
unfolding check_of
rows m p q r = rw (← p, ← q, ← r)

apart : (a b : ℕ) → eqb a b ≡ false → refused a ≡ refused b → ⊥
apart a b n e = let z : a ≡ b = cc in eqb-false a b n z

pub check-1 : (m : List ℕ) → refused 1 ≡ check_of m → short m ≡ true
check-1 m e = go (short m) (header_wrong m) (content_broken m) refl refl refl
  where
    go : (a b c : Bool) → short m ≡ a → header_wrong m ≡ b → content_broken m ≡ c → short m ≡ true
    go true b c p q r = p
    go false true c p q r = absurd (apart 1 2 refl (e ∙ rows m p q r))
    go false false true p q r = absurd (apart 1 3 refl (e ∙ rows m p q r))
    go false false false p q r = absurd (never 1 (e ∙ rows m p q r))

pub check-2 : (m : List ℕ) → refused 2 ≡ check_of m → (short m ≡ false) × (header_wrong m ≡ true)
check-2 m e = go (short m) (header_wrong m) (content_broken m) refl refl refl
  where
    go : (a b c : Bool) → short m ≡ a → header_wrong m ≡ b → content_broken m ≡ c → (short m ≡ false) × (header_wrong m ≡ true)
    go true b c p q r = absurd (apart 2 1 refl (e ∙ rows m p q r))
    go false true c p q r = (p, q)
    go false false true p q r = absurd (apart 2 3 refl (e ∙ rows m p q r))
    go false false false p q r = absurd (never 2 (e ∙ rows m p q r))

pub check-3 : (m : List ℕ) → refused 3 ≡ check_of m → (short m ≡ false) × (header_wrong m ≡ false) × (content_broken m ≡ true)
check-3 m e = go (short m) (header_wrong m) (content_broken m) refl refl refl
  where
    go : (a b c : Bool) → short m ≡ a → header_wrong m ≡ b → content_broken m ≡ c → (short m ≡ false) × (header_wrong m ≡ false) × (content_broken m ≡ true)
    go true b c p q r = absurd (apart 3 1 refl (e ∙ rows m p q r))
    go false true c p q r = absurd (apart 3 2 refl (e ∙ rows m p q r))
    go false false true p q r = (p, q, r)
    go false false false p q r = absurd (never 3 (e ∙ rows m p q r))

pub check-0 : (m : List ℕ) (y : Layout) → good y ≡ check_of m → (short m ≡ false) × (header_wrong m ≡ false) × (content_broken m ≡ false)
check-0 m y e = go (short m) (header_wrong m) (content_broken m) refl refl refl
  where
    go : (a b c : Bool) → short m ≡ a → header_wrong m ≡ b → content_broken m ≡ c → (short m ≡ false) × (header_wrong m ≡ false) × (content_broken m ≡ false)
    go true b c p q r = absurd (never 1 (sym (e ∙ rows m p q r)))
    go false true c p q r = absurd (never 2 (sym (e ∙ rows m p q r)))
    go false false true p q r = absurd (never 3 (sym (e ∙ rows m p q r)))
    go false false false p q r = (p, q, r)

-- the same from the answer's number alone, as the check gives it: the answer itself, then what it says
pub row-refused : (m : List ℕ) (n : ℕ) → row_of (check_of m) ≡ n → (n ≡ 0 → ⊥) → refused n ≡ check_of m
row-refused m n e z = go (check_of m) refl
  where
    go : (r : Checked) → check_of m ≡ r → refused n ≡ check_of m
    go (refused k) p = sym (p ∙ ap refused (sym (ap row_of p) ∙ e))
    go (good y) p = absurd (z (sym (sym (ap row_of p) ∙ e)))

pub row-good : (m : List ℕ) → row_of (check_of m) ≡ 0 → good (layout_of m) ≡ check_of m
row-good m e = go (short m) (header_wrong m) (content_broken m) refl refl refl
  where
    go : (a b c : Bool) → short m ≡ a → header_wrong m ≡ b → content_broken m ≡ c → good (layout_of m) ≡ check_of m
    go true b c p q r = absurd (eqb-false 1 0 refl (sym (ap row_of (rows m p q r)) ∙ e))
    go false true c p q r = absurd (eqb-false 2 0 refl (sym (ap row_of (rows m p q r)) ∙ e))
    go false false true p q r = absurd (eqb-false 3 0 refl (sym (ap row_of (rows m p q r)) ∙ e))
    go false false false p q r = sym (rows m p q r)

pub row-0 : (m : List ℕ) → row_of (check_of m) ≡ 0 → Good (layout_of m) m
row-0 m e = check-good m (layout_of m) (sym (row-good m e))

pub row-long : (m : List ℕ) → (row_of (check_of m) ≡ 1 → ⊥) → 32 ≤ length m
unfolding check_of
row-long m n = go (short m) refl
  where
    go : (a : Bool) → short m ≡ a → 32 ≤ length m
    go true p = absurd (n (rw p))
    go false p = ltb-false (length m) 32 p

pub row-1 : (m : List ℕ) → row_of (check_of m) ≡ 1 → short m ≡ true
row-1 m e = check-1 m (row-refused m 1 e (omega arith))

pub row-2 : (m : List ℕ) → row_of (check_of m) ≡ 2 → (short m ≡ false) × (header_wrong m ≡ true)
row-2 m e = check-2 m (row-refused m 2 e (omega arith))

pub row-3 : (m : List ℕ) → row_of (check_of m) ≡ 3 → (short m ≡ false) × (header_wrong m ≡ false) × (content_broken m ≡ true)
row-3 m e = check-3 m (row-refused m 3 e (omega arith))

-- there is no other number
pub row-some : (m : List ℕ) → row_of (check_of m) ≤ 3
row-some m = go (short m) (header_wrong m) (content_broken m) refl refl refl
  where
    go : (a b c : Bool) → short m ≡ a → header_wrong m ≡ b → content_broken m ≡ c → row_of (check_of m) ≤ 3
    go true b c p q r = rw (rows m p q r) (omega arith)
    go false true c p q r = rw (rows m p q r) (omega arith)
    go false false true p q r = rw (rows m p q r) (omega arith)
    go false false false p q r = rw (rows m p q r) (omega arith)

-- the number of an image that is refused, or good with words pending or with none
ready-good : (m : List ℕ) → row_of (check_of m) ≡ 0 → ready_row m ≡ pending_row (layout_of m) m
unfolding ready_row
ready-good m e = let t : eqb (row_of (check_of m)) 0 ≡ true = eq-eqb (row_of (check_of m)) 0 e in rw t

ready-bad : (m : List ℕ) → (row_of (check_of m) ≡ 0 → ⊥) → ready_row m ≡ row_of (check_of m)
unfolding ready_row
ready-bad m e = let t : eqb (row_of (check_of m)) 0 ≡ false = ne_eqb (row_of (check_of m)) 0 e in rw t

pub ready-none : (m : List ℕ) → count_in (layout_of m) m ≡ 0 → row_of (check_of m) ≡ 0 → ready_row m ≡ 0
ready-none m z e = let t : eqb (count_in (layout_of m) m) 0 ≡ true = eq-eqb (count_in (layout_of m) m) 0 z in ready-good m e ∙ rw t

pub ready-some : (m : List ℕ) → (count_in (layout_of m) m ≡ 0 → ⊥) → row_of (check_of m) ≡ 0 → ready_row m ≡ 5
ready-some m z e = let t : eqb (count_in (layout_of m) m) 0 ≡ false = ne_eqb (count_in (layout_of m) m) 0 z in ready-good m e ∙ rw t

-- past the header it is the content's
pub from_row : (m : List ℕ) {y : Layout} → y ≡ layout_of m → 32 ≤ length m → header_good y m ≡ true → content_row y m ≡ ready_row m
from_row m {y} p l h = go (content_fits y m) refl
  where
    go : (b : Bool) → content_fits y m ≡ b → cond (content_fits y m) (pending_row y m) 3 ≡ ready_row m
    go true q = rw (q, p) (sym (ready-good m (sym (ap row_of (from-content m p l h (sym q))))))
    go false q =
        let r : 3 ≡ row_of (check_of m) = ap row_of (from-content m p l h (sym q)) in
        rw q (r ∙ sym (ready-bad m (λ e. omega (arith, r))))

-- the check's number from it
pub row-ready : (m : List ℕ) {n : ℕ} → n ≡ ready_row m → (n ≡ 5 → ⊥) → n ≡ row_of (check_of m)
row-ready m {n} e h = go (eqb (row_of (check_of m)) 0) (eqb (count_in (layout_of m) m) 0) refl refl
  where
    go : (a b : Bool) → eqb (row_of (check_of m)) 0 ≡ a → eqb (count_in (layout_of m) m) 0 ≡ b → n ≡ row_of (check_of m)
    go true true p q =
        let r = eqb-true (row_of (check_of m)) 0 p in
        e ∙ ready-none m (eqb-true (count_in (layout_of m) m) 0 q) r ∙ sym r
    go true false p q = absurd (h (e ∙ ready-some m (eqb-false (count_in (layout_of m) m) 0 q) (eqb-true (row_of (check_of m)) 0 p)))
    go false b p q = e ∙ ready-bad m (eqb-false (row_of (check_of m)) 0 p)

pub row-pending : (m : List ℕ) → ready_row m ≡ 5 → row_of (check_of m) ≡ 0
row-pending m e = go (eqb (row_of (check_of m)) 0) refl
  where
    go : (a : Bool) → eqb (row_of (check_of m)) 0 ≡ a → row_of (check_of m) ≡ 0
    go true p = eqb-true (row_of (check_of m)) 0 p
    go false p = absurd (omega (arith, row-some m, sym (ready-bad m (eqb-false (row_of (check_of m)) 0 p)) ∙ e))

pub ready-is : (m : List ℕ) (n : ℕ) → ready_row m ≡ n → (n ≡ 5 → ⊥) → row_of (check_of m) ≡ n
ready-is m n e h = sym (row-ready m (sym e) h)

pub ready-left : (m : List ℕ) {n : ℕ} → n ≡ ready_row m → (n ≡ 1 → ⊥) → (n ≡ 2 → ⊥) → (n ≡ 3 → ⊥) → row_of (check_of m) ≡ 0
ready-left m {n} e a b c = go (eqb n 5) refl
  where
    go : (t : Bool) → eqb n 5 ≡ t → row_of (check_of m) ≡ 0
    go true p = row-pending m (sym e ∙ eqb-true n 5 p)
    go false p = omega (arith, row-some m, row-ready m e (eqb-false n 5 p))

-- 0 is a good image with nothing pending
pub ready-zero : (m : List ℕ) → ready_row m ≡ 0 → (row_of (check_of m) ≡ 0) × (count_in (layout_of m) m ≡ 0)
ready-zero m e = (r, go (eqb (count_in (layout_of m) m) 0) refl)
  where
    r : row_of (check_of m) ≡ 0
    r = ready-is m 0 e (omega arith)

    go : (b : Bool) → eqb (count_in (layout_of m) m) 0 ≡ b → count_in (layout_of m) m ≡ 0
    go true p = eqb-true (count_in (layout_of m) m) 0 p
    go false p = absurd (omega (arith, sym e ∙ ready-some m (eqb-false (count_in (layout_of m) m) 0 p) r))

-- the code's answer: a refusal is the check's, and past them the image is good
pub ready-refused : (m : List ℕ) (r : Refusal) → refusal_number r ≡ ready_row m → refused (refusal_number r) ≡ check_of m
ready-refused m refusal.Short e = row-refused m 1 (ready-is m 1 (sym e) (omega arith)) (omega arith)
ready-refused m refusal.Header e = row-refused m 2 (ready-is m 2 (sym e) (omega arith)) (omega arith)
ready-refused m refusal.Content e = row-refused m 3 (ready-is m 3 (sym e) (omega arith)) (omega arith)

pub ready-passed : (m : List ℕ) (b : Bool) → cond b 5 0 ≡ ready_row m → row_of (check_of m) ≡ 0
ready-passed m true e = row-pending m (sym e)
ready-passed m false e = ready-is m 0 (sym e) (omega arith)

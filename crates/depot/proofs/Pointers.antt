-- A pointer in its shortest form is read as itself, and none is shorter. Assumes nothing.
use Prim.Native.Nat.{ℕ, zero, suc, ◌+◌, ◌-◌, ◌*◌, ◌/◌, ◌%◌, ◌^◌, ◌≤◌, ◌<◌}
use mathlib.Core.Path.{◌≡◌, refl, sym, ap, ◌∙◌}
use mathlib.Core.Bool.{Bool, true, false, cond}
use mathlib.Core.List.{List, [], ◌∷◌}
use native.Mathlib.Nat.{pow-suc}
use native.Mathlib.Numerals.{add-one}
use native.Mathlib.Omega.{arith}
use lib.Dec.{ltb}
use lib.ListN.{length, length-append}
use borrow.Author.Tests.{ltb-true, ltb-false}
use Rattle.bits.specs.Bits.{bits_from, field_at}
use Rattle.bits.proofs.Bits.{length-bits}
use Rattle.bits.proofs.Fields.{field_lt}
use Rattle.ebv.specs.Ebv.{Read, refused, whole, groups, pointer_at}
use Rattle.ebv.proofs.Groups.{grows, ends, goes}
use Rattle.depot.specs.Making.{Field, fields, shortest}
use Rattle.depot.specs.Heard.{ebv_bytes}
use Rattle.depot.proofs.Standing.{Stand, stand}

-- its three forms
abbrev low : ℕ → Field
low p = (p % 128, 8)

abbrev middle : ℕ → Field
middle p = (128 + p / 128 % 128, 8)

abbrev high : ℕ → Field
high p = (128 + p / 16384 % 128, 8)

abbrev formed : ℕ → Bool → Bool → List Field
formed p a b = cond a (low p ∷ []) (cond b (middle p ∷ low p ∷ []) (high p ∷ middle p ∷ low p ∷ []))

abbrev bytes : Bool → Bool → ℕ
bytes a b = cond a 1 (cond b 2 3)

pub width : (p : ℕ) → length (fields (shortest p)) ≡ 8 * ebv_bytes p
width p = go (ltb p 128) (ltb p 16384)
  where
    go : (a b : Bool) → length (fields (formed p a b)) ≡ 8 * bytes a b
    go true b = simp (length-append, length-bits)
    go false true = simp (length-append, length-bits)
    go false false = simp (length-append, length-bits)

module _ (m : List ℕ) (n i p : ℕ) (most : p < 0x200000) where
  reads : (a b : Bool) → ltb p 128 ≡ a → ltb p 16384 ≡ b → i + 8 * bytes a b ≤ n → Stand m i (formed p a b) → pointer_at m n i ≡ whole p (bytes a b)
  unfolding pointer_at
  reads true b e f h s =
      let z : i + 8 * 0 ≡ i = omega arith in
      let l = ltb-true p 128 e in
      let v : 0 * 128 + p % 128 ≡ p = omega (arith, l) in
      sym (ends m n i 0 0 (omega arith) refl (p % 128) (sym s.0 ∙ ap (λ (j : ℕ). field_at m j 8) (sym z)) (omega arith) (omega arith)) ∙ ap (λ (x : ℕ). whole x 1) v
  reads false true e f h s =
      let z : i + 8 * 0 ≡ i = omega arith in
      let l = ltb-true p 16384 f in
      let g = 128 + p / 128 % 128 in
      let v : (0 * 128 + (g - 128)) * 128 + p % 128 ≡ p = omega (arith, l) in
      let on = goes m n i 0 0 (omega arith) refl g (sym s.0 ∙ ap (λ (j : ℕ). field_at m j 8) (sym z)) (omega arith) (omega arith) in
      sym (ends m n i 1 (0 * 128 + (g - 128)) (omega arith) on (p % 128) (sym s.1.0) (omega arith) (omega arith)) ∙ ap (λ (x : ℕ). whole x 2) v
  reads false false e f h s =
      let z : i + 8 * 0 ≡ i = omega arith in
      let y : i + 8 * 2 ≡ i + 8 + 8 = omega arith in
      let g = 128 + p / 16384 % 128 in
      let d = 128 + p / 128 % 128 in
      let v : ((0 * 128 + (g - 128)) * 128 + (d - 128)) * 128 + p % 128 ≡ p = omega (arith, most) in
      let on = goes m n i 0 0 (omega arith) refl g (sym s.0 ∙ ap (λ (j : ℕ). field_at m j 8) (sym z)) (omega arith) (omega arith) in
      let off = goes m n i 1 (0 * 128 + (g - 128)) (omega arith) on d (sym s.1.0) (omega arith) (omega arith) in
      sym (ends m n i 2 ((0 * 128 + (g - 128)) * 128 + (d - 128)) (omega arith) off (p % 128) (sym s.1.1.0 ∙ ap (λ (j : ℕ). field_at m j 8) (sym y)) (omega arith) (omega arith)) ∙ ap (λ (x : ℕ). whole x 3) v

  pub pointer_read : i + 8 * ebv_bytes p ≤ n → bits_from m i (length (fields (shortest p))) ≡ fields (shortest p) → pointer_at m n i ≡ whole p (ebv_bytes p)
  pointer_read h e = reads (ltb p 128) (ltb p 16384) refl refl h (stands (ltb p 128) (ltb p 16384) e)
    where
      stands : (a b : Bool) → bits_from m i (length (fields (formed p a b))) ≡ fields (formed p a b) → Stand m i (formed p a b)
      stands true b e = stand m i (low p ∷ []) (omega arith, tt) e
      stands false true e = stand m i (middle p ∷ low p ∷ []) (omega arith, (omega arith, tt)) e
      stands false false e = stand m i (high p ∷ middle p ∷ low p ∷ []) (omega arith, (omega arith, (omega arith, tt))) e

-- what e groups say is below 128 ^ e
abbrev Held : ℕ → Read → Type 0
Held k (refused r) = Unit {0}
Held k (whole p e) = (k < e) × (p < 128 ^ e)

weaken : (k : ℕ) (r : Read) → Held (k + 1) r → Held k r
weaken k (refused r) h = tt
weaken k (whole p e) h = (omega (arith, h.0), h.1)

held : (m : List ℕ) (n i k acc more : ℕ) → acc < 128 ^ k → Held k (groups m n i k acc more)
held m n i k acc zero h = tt
held m n i k acc (suc more) h = go (ltb n (i + 8 * k + 8)) (ltb g 128) refl (held m n i (k + 1) (acc * 128 + (g - 128)) more)
  where
    g : ℕ
    g = field_at m (i + 8 * k) 8

    go : (a b : Bool) → ltb (field_at m (i + 8 * k) 8) 128 ≡ b
        → (acc * 128 + (field_at m (i + 8 * k) 8 - 128) < 128 ^ (k + 1) → Held (k + 1) (groups m n i (k + 1) (acc * 128 + (field_at m (i + 8 * k) 8 - 128)) more))
        → Held k (cond a (refused 7) (cond b (whole (acc * 128 + field_at m (i + 8 * k) 8) (k + 1)) (groups m n i (k + 1) (acc * 128 + (field_at m (i + 8 * k) 8 - 128)) more)))
    go true b e again = tt
    go false true e again = (omega arith, rw (add-one k, pow-suc 128 k) (omega (arith, ltb-true (field_at m (i + 8 * k) 8) 128 e, h)))
    go false false e again = weaken k (groups m n i (k + 1) (acc * 128 + (field_at m (i + 8 * k) 8 - 128)) more) (again (grows k acc (field_at m (i + 8 * k) 8) h (field_lt m (i + 8 * k) 8)))

-- so no form is shorter
pub none_shorter : (m : List ℕ) (n i p e : ℕ) → pointer_at m n i ≡ whole p e → ebv_bytes p ≤ e
unfolding pointer_at
none_shorter m n i p e q = go e (ltb p 128) (ltb p 16384) refl refl (rw q at (held m n i 0 0 3 (omega arith)))
  where
    go : (e : ℕ) (a b : Bool) → ltb p 128 ≡ a → ltb p 16384 ≡ b → (0 < e) × (p < 128 ^ e) → bytes a b ≤ e
    go zero a b f g h = absurd (omega (arith, h.0))
    go (suc e) true b f g h = omega arith
    go (suc zero) false b f g h = absurd (omega (arith, h.1, ltb-false p 128 f))
    go (suc (suc e)) false true f g h = omega arith
    go (suc (suc zero)) false false f g h = absurd (omega (arith, h.1, ltb-false p 16384 g))
    go (suc (suc (suc e))) false false f g h = omega arith

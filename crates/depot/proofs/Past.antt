-- Bits and bytes past a reply's count mean nothing: what is read is read of its first n bits. Assumes nothing.
use Rattle.std.specs.Prelude.{Option, Some, None}
use Prim.Native.Nat.{ℕ, ◌+◌, ◌-◌, ◌*◌, ◌≤◌}
use mathlib.Core.Path.{◌≡◌, refl, sym, ap, ap₂, ◌∙◌}
use mathlib.Core.Bool.{Bool, true, false, not, ◌&&◌}
use mathlib.Core.List.{List, [], ◌∷◌}
use native.Mathlib.Omega.{arith}
use lib.Dec.{eqb, ltb}
use borrow.Author.Tests.{eqb-true}
use Rattle.bits.specs.Bits.{bits_from, number_on, field_at}
use Rattle.bits.proofs.Bits.{bits-append}
use Rattle.crc.specs.Crc.{crc_of}
use Rattle.frames.specs.Frames.{checksum_right}
use Rattle.readings.specs.declared.Awaited.{Awaited}
use Rattle.readings.specs.declared.Awaited.TheVariants as await
use Rattle.readings.specs.Reading.{Row, error, words, number, done, refused, drawn, epc, renewed, handle, success, failure, shown, asked, wrong_sum}
use Rattle.readings.specs.Steps.{done_rows, awaited_rows}
use Rattle.fields.proofs.Behind.{length_from}
use Rattle.depot.proofs.Standing.{parts}

-- two tests behind one that holds only where they agree
agree : (b x y : Bool) → (b ≡ true → x ≡ y) → (b && x) ≡ (b && y)
agree true x y f = f refl
agree false x y f = refl

-- two lists of bytes whose first n bits are the same
module _ (n : ℕ) (m k : List ℕ) (same : bits_from m 0 n ≡ bits_from k 0 n) where
  halves : (i t a b : ℕ) → t ≡ a + b → bits_from m i t ≡ bits_from k i t → (bits_from m i a ≡ bits_from k i a) × (bits_from m (i + a) b ≡ bits_from k (i + a) b)
  halves i t a b l e =
      let xs = bits_from k i a in
      let ys = bits_from k (i + a) b in
      let p = parts m xs ys i t (l ∙ sym (ap₂ ◌+◌ (length_from k i a) (length_from k (i + a) b))) (e ∙ ap (bits_from k i) l ∙ bits-append k i a b) in
      (ap (bits_from m i) (sym (length_from k i a)) ∙ p.0, ap₂ (bits_from m) (ap (λ (x : ℕ). i + x) (sym (length_from k i a))) (sym (length_from k (i + a) b)) ∙ p.1)

  part : (i w : ℕ) → i + w ≤ n → bits_from m i w ≡ bits_from k i w
  part i w l =
      let r = n - (i + w) in
      let z : n ≡ i + (w + r) = omega arith in
      let y : 0 + i ≡ i = omega arith in
      (halves i (w + r) w r refl (rw y at (halves 0 n i (w + r) z same).1)).0

  field-part : (i w : ℕ) → i + w ≤ n → field_at m i w ≡ field_at k i w
  unfolding field_at
  field-part i w l = ap (number_on 0) (part i w l)

  -- each row is the same
  module _ (h : ℕ) (long : 16 ≤ n) where
    drawn-same : drawn h n m ≡ drawn h n k
    drawn-same = ap (λ (x : ℕ). (number x, eqb n 16)) (field-part 0 16 (omega arith))

    epc-same : epc h n m ≡ epc h n k
    epc-same = ap (λ (l : ℕ). (words (l + 1) 0, eqb n (16 * (l + 2)))) (field-part 0 5 (omega arith))

    renewed-same : renewed h n m ≡ renewed h n k
    renewed-same = ap (λ (x : ℕ). (number x, eqb n 32)) (field-part 0 16 (omega arith))

    handle-same : handle h n m ≡ handle h n k
    handle-same = ap (λ (x : ℕ). (number h, eqb n 32 && eqb x h)) (field-part 0 16 (omega arith))

    -- a first bit b, j bits and the handle
    framed : (b j t : ℕ) → t ≡ 33 + j
        → (eqb n t && (eqb (field_at m 0 1) b && eqb (field_at m (1 + j) 16) h)) ≡ (eqb n t && (eqb (field_at k 0 1) b && eqb (field_at k (1 + j) 16) h))
    framed b j t z =
        agree (eqb n t) _ _ (λ e. ap₂ (λ (x y : ℕ). eqb x b && eqb y h) (field-part 0 1 (omega arith)) (field-part (1 + j) 16 (omega (arith, eqb-true n t e, z))))

    success-same : success h n m ≡ success h n k
    success-same = ap (λ (b : Bool). (done, b)) (framed 0 0 33 refl)

    failure-same : failure h n m ≡ failure h n k
    failure-same = ap₂ (λ (x : ℕ) (b : Bool). (error x, b)) (field-part 1 8 (omega arith)) (framed 1 8 41 refl)

    shown-same : (j : ℕ) → shown h n m j ≡ shown h n k j
    shown-same j = ap (λ (b : Bool). (words j 1, (ltb 0 j && ltb j 4097) && b)) (framed 0 (16 * j) (33 + 16 * j) refl)

    wrong_sum-same : wrong_sum h n m ≡ wrong_sum h n k
    unfolding checksum_right
    wrong_sum-same =
        ap₂ (λ (x : ℕ) (bs : List ℕ). (refused 8, not (eqb x (crc_of bs)))) (field-part (n - 16) 16 (omega arith)) (part 0 (n - 16) (omega arith))

    done-same : done_rows h n m ≡ done_rows h n k
    done-same = ap₂ (λ (r s : Row). r ∷ s ∷ []) success-same failure-same

    pub rows_same : (a : Option Awaited) → awaited_rows h n m a ≡ awaited_rows h n k a
    rows_same (Some await.Drawn) = ap (λ (r : Row). r ∷ []) drawn-same
    rows_same (Some await.Epc) = ap₂ (λ (r s : Row). r ∷ s ∷ []) wrong_sum-same epc-same
    rows_same (Some await.Renewed) = ap₂ (λ (r s : Row). r ∷ s ∷ []) wrong_sum-same renewed-same
    rows_same (Some await.Handle) = ap₂ (λ (r s : Row). r ∷ s ∷ []) wrong_sum-same handle-same
    rows_same (Some await.Half) = ap₂ (λ (r : Row) (rows : List Row). r ∷ rows) wrong_sum-same (ap₂ (λ (r : Row) (rows : List Row). r ∷ rows) handle-same done-same)
    rows_same (Some await.Done) = ap₂ (λ (r : Row) (rows : List Row). r ∷ rows) wrong_sum-same done-same
    rows_same (Some (await.Words j)) = ap₂ (λ (r : Row) (rows : List Row). r ∷ rows) wrong_sum-same (ap₂ (λ (r s : Row). r ∷ s ∷ []) (shown-same (asked h n m j)) failure-same)
    rows_same None = ap (λ (r : Row). r ∷ []) wrong_sum-same

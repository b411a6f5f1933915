-- Fields that stand in bits one after the other, and what is read of them. Assumes nothing.
use Prim.Native.Nat.{ℕ, zero, suc, ◌+◌, ◌-◌, ◌*◌, ◌/◌, ◌%◌, ◌^◌, ◌<◌}
use mathlib.Core.Path.{◌≡◌, refl, sym, ap, ap₂, ◌∙◌}
use mathlib.Core.Bool.{true}
use mathlib.Core.List.{List, [], ◌∷◌, ◌++◌}
use native.Mathlib.Nat.{mod-eq_of_lt, mod-one, pow-suc, zero-mul, add-zero, add-mul, mul_assoc, mul_comm}
use native.Mathlib.Omega.{arith}
use lib.ListN.{length, get_or, drop, length-append}
use lib.Pow.{mod-pow-add}
use borrow.Author.Tests.{eq-eqb}
use Rattle.bits.specs.Bits.{bit_at, bits_from, number_on, field_at, bits_of}
use Rattle.bits.proofs.Bits.{length-bits}
use Rattle.crc.specs.Crc.{crc_of}
use Rattle.frames.specs.Frames.{checksum_right}
use Rattle.replies.specs.Replies.{checked}
use Rattle.depot.specs.Making.{Field, fields}

-- a number's bits denote it
numbered : (w acc v : ℕ) → number_on acc (bits_of w v) ≡ acc * 2 ^ w + v % 2 ^ w
unfolding bits_of
numbered zero acc v = rw (mod-one v) (omega arith)
numbered (suc w) acc v =
    let e : 1 + w ≡ suc w = omega arith in
    let low : v % 2 ^ suc w ≡ v / 2 ^ w % 2 * 2 ^ w + v % 2 ^ w = rw e at (mod-pow-add v 1 w) in
    numbered w (acc * 2 + v / 2 ^ w % 2) v ∙ rw (low, pow-suc 2 w) (spread acc (2 ^ w) (v / 2 ^ w % 2) (v % 2 ^ w))
  where
    spread : (a p b r : ℕ) → (a * 2 + b) * p + r ≡ a * (p * 2) + (b * p + r)
    spread a p b r = rw (add-mul (a * 2) b p, mul_assoc a 2 p, mul_comm 2 p) (omega arith)

pub field_of : (m : List ℕ) (i w v : ℕ) → v < 2 ^ w → bits_from m i w ≡ bits_of w v → field_at m i w ≡ v
unfolding field_at
field_of m i w v h e = ap (number_on 0) e ∙ numbered w 0 v ∙ rw (zero-mul (2 ^ w), mod-eq_of_lt h) (omega arith)

-- bits in two runs, each where it stands
first_of : (x y : ℕ) (xs ys : List ℕ) → ◌≡◌ {A = List ℕ} (x ∷ xs) (y ∷ ys) → (x ≡ y) × (xs ≡ ys)
first_of x y xs ys e = (ap (λ (l : List ℕ). get_or l 0 0) e, ap (drop 1) e)

pub parts : (m : List ℕ) (xs ys : List ℕ) (i n : ℕ) → n ≡ length xs + length ys → bits_from m i n ≡ xs ++ ys
    → (bits_from m i (length xs) ≡ xs) × (bits_from m (i + length xs) (length ys) ≡ ys)
parts m xs ys i n l e = go xs i (ap (bits_from m i) (length-append xs ys ∙ sym l) ∙ e)
  where
    go : (xs : List ℕ) (i : ℕ) → bits_from m i (length (xs ++ ys)) ≡ xs ++ ys → (bits_from m i (length xs) ≡ xs) × (bits_from m (i + length xs) (length ys) ≡ ys)
    go [] i e = (refl, rw (add-zero i) e)
    go (x ∷ xs) i e =
        let f = first_of (bit_at m i) x (bits_from m (i + 1) (length (xs ++ ys))) (xs ++ ys) e in
        let g = go xs (i + 1) f.1 in
        let z : i + 1 + length xs ≡ i + suc (length xs) = omega arith in
        (ap₂ ◌∷◌ f.0 g.0, ap (λ (j : ℕ). bits_from m j (length ys)) (sym z) ∙ g.1)

-- fields that are small stand one after the other
abbrev pub Small : List Field → Type 0
Small [] = Unit {0}
Small (f ∷ fs) = (f.0 < 2 ^ f.1) × Small fs

abbrev pub Stand : List ℕ → ℕ → List Field → Type 0
Stand m i [] = Unit {0}
Stand m i (f ∷ fs) = (field_at m i f.1 ≡ f.0) × Stand m (i + f.1) fs

pub stand : (m : List ℕ) (i : ℕ) (fs : List Field) → Small fs → bits_from m i (length (fields fs)) ≡ fields fs → Stand m i fs
stand m i [] h e = tt
stand m i (f ∷ fs) h e =
    let xs = bits_of f.1 f.0 in
    let n : length xs ≡ f.1 = length-bits f.1 f.0 in
    let p = parts m xs (fields fs) i (length (xs ++ fields fs)) (length-append xs (fields fs)) e in (
      field_of m i f.1 f.0 h.0 (ap (bits_from m i) (sym n) ∙ p.0),
      stand m (i + f.1) fs h.1 (ap (λ (k : ℕ). bits_from m (i + k) (length (fields fs))) (sym n) ∙ p.1),
    )

-- bits with their CRC-16 behind them
pub crc-lt : (bs : List ℕ) → crc_of bs < 65536
unfolding crc_of
crc-lt bs = omega arith

pub whole : (m bs : List ℕ) (n : ℕ) → n ≡ length bs + 16 → bits_from m 0 n ≡ checked bs → (bits_from m 0 (length bs) ≡ bs) × (checksum_right m n ≡ true)
unfolding checked checksum_right
whole m bs n l e =
    let sum = bits_of 16 (crc_of bs) in
    let p = parts m bs sum 0 n (l ∙ ap (λ (x : ℕ). length bs + x) (sym (length-bits 16 (crc_of bs)))) e in
    let z : n - 16 ≡ length bs = omega arith in
    let y : 0 + length bs ≡ length bs = omega arith in
    let f : field_at m (n - 16) 16 ≡ crc_of bs = field_of m (n - 16) 16 (crc_of bs) (crc-lt bs) (ap (λ (j : ℕ). bits_from m j 16) (z ∙ sym y) ∙ ap (bits_from m (0 + length bs)) (sym (length-bits 16 (crc_of bs))) ∙ p.1) in
    (p.0, rw (f, z, p.0) (eq-eqb (crc_of bs) (crc_of bs) refl))

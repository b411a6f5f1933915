-- Bits are alike where the fields that they denote are equal; fields of up to 56 bits lie in eight bytes. Assumes nothing.
use Prim.Native.Nat.{ℕ, zero, suc, ◌+◌, ◌-◌, ◌*◌, ◌/◌, ◌%◌, ◌^◌, ◌<◌, ◌≤◌}
use mathlib.Core.Path.{◌≡◌, refl, sym, ap, ap₂, ◌∙◌}
use mathlib.Core.Bool.{Bool, true, false, ◌&&◌, and-true, and_assoc}
use mathlib.Core.List.{List, ◌∷◌}
use native.Mathlib.Nat.{add-zero, add-suc, add-mul, mul_assoc, mul-suc}
use native.Mathlib.Omega.{arith}
use lib.Dec.{eqb}
use lib.Pow.{pow-add, shl_lt, shl-shr, shr-shr, low}
use borrow.Author.Tests.{eqb-true, eq-eqb, ne_eqb}
use Rattle.bits.specs.Below.{every}
use Rattle.bits.specs.Bits.{bit_at, bits_from, number_on, field_at, alike}
use Rattle.bits.proofs.Below.{and_left, same_test, every-at, every-all}
use Rattle.bits.proofs.Fields.{field-bit, field_lt, field-append, field-first}

-- a test of p + q numbers in two parts
every-same : (f g : ℕ → Bool) (n : ℕ) → ((k : ℕ) → f k ≡ g k) → every f n ≡ every g n
every-same f g zero h = refl
every-same f g (suc n) h = ap₂ ◌&&◌ (every-same f g n h) (h n)

every_append : (f : ℕ → Bool) (p q : ℕ) → every f (p + q) ≡ (every f p && every (λ k. f (p + k)) q)
every_append f p zero = ap (every f) (add-zero p) ∙ sym (and-true (every f p))
every_append f p (suc q) =
    ap (every f) (add-suc p q)
    ∙ ap (λ (b : Bool). b && f (p + q)) (every_append f p q)
    ∙ and_assoc (every f p) (every (λ k. f (p + k)) q) (f (p + q))

bits-same : (a b : List ℕ) (i j n : ℕ) → ((k : ℕ) → k < n → bit_at a (i + k) ≡ bit_at b (j + k)) → bits_from a i n ≡ bits_from b j n
bits-same a b i j zero h = refl
bits-same a b i j (suc n) h =
    ap₂ ◌∷◌ (ap (bit_at a) (sym (add-zero i)) ∙ h 0 (omega arith) ∙ ap (bit_at b) (add-zero j))
    (bits-same a b (i + 1) (j + 1) n (λ k l. (let x : i + 1 + k ≡ i + suc k = omega arith in let y : j + 1 + k ≡ j + suc k = omega arith in rw (x, y) (h (suc k) (omega arith)))))

-- fields of n bits are equal just where the bits are alike
module _ (a : List ℕ) (i : ℕ) (b : List ℕ) (j : ℕ) where
  same_bit : (n k : ℕ) → field_at a i n ≡ field_at b j n → k < n → bit_at a (i + k) ≡ bit_at b (j + k)
  same_bit n k e h =
      let z : n - 1 - (n - 1 - k) ≡ k = omega arith in
      let bit : (m : List ℕ) (p : ℕ) → field_at m p n / 2 ^ (n - 1 - k) % 2 ≡ bit_at m (p + k) =
      λ m p. field-bit m p n (n - 1 - k) (omega arith) ∙ ap (λ (x : ℕ). bit_at m (p + x)) z in
      sym (bit a i) ∙ ap (λ (x : ℕ). x / 2 ^ (n - 1 - k) % 2) e ∙ bit b j

  pub alike-fields : (n : ℕ) → alike a i b j n ≡ eqb (field_at a i n) (field_at b j n)
  unfolding alike field_at
  alike-fields n =
      same_test (alike a i b j n) (eqb (field_at a i n) (field_at b j n))
      (λ e. eq-eqb (field_at a i n) (field_at b j n)
      (ap (number_on 0) (bits-same a b i j n (λ k l. eqb-true (bit_at a (i + k)) (bit_at b (j + k)) (every-at (λ k. eqb (bit_at a (i + k)) (bit_at b (j + k))) n e k l)))))
      (λ e. every-all (λ k. eqb (bit_at a (i + k)) (bit_at b (j + k))) n
      (λ k l. eq-eqb (bit_at a (i + k)) (bit_at b (j + k)) (same_bit n k (eqb-true (field_at a i n) (field_at b j n) e) l)))

  -- bits in two runs
  pub alike-append : (p q : ℕ) → alike a i b j (p + q) ≡ (alike a i b j p && alike a (i + p) b (j + p) q)
  unfolding alike
  alike-append p q =
      every_append (λ k. eqb (bit_at a (i + k)) (bit_at b (j + k))) p q
      ∙ ap (λ (t : Bool). every (λ k. eqb (bit_at a (i + k)) (bit_at b (j + k))) p && t)
      (every-same (λ k. eqb (bit_at a (i + (p + k))) (bit_at b (j + (p + k)))) (λ k. eqb (bit_at a (i + p + k)) (bit_at b (j + p + k))) q
      (λ k. (let x : i + (p + k) ≡ i + p + k = omega arith in let y : j + (p + k) ≡ j + p + k = omega arith in rw (x, y))))

-- after k bits that are alike, q more decide: of p + q bits, where p are among the k
module _ (a : List ℕ) (i : ℕ) (b : List ℕ) (j k : ℕ) (e : alike a i b j k ≡ true) {x y : ℕ} where
  pub last-alike : (p q : ℕ) → p ≤ k → x ≡ field_at a (i + p) q → y ≡ field_at b (j + p) q → eqb x y ≡ alike a i b j (p + q)
  last-alike p q h f g =
      let z : p + (k - p) ≡ k = omega arith in
      let first : alike a i b j p ≡ true =
      and_left (alike a i b j p) (alike a (i + p) b (j + p) (k - p)) (sym (alike-append a i b j p (k - p)) ∙ ap (alike a i b j) z ∙ e) in
      ap₂ eqb f g
      ∙ sym (alike-append a i b j p q ∙ ap (λ (t : Bool). t && alike a (i + p) b (j + p) q) first ∙ alike-fields a (i + p) b (j + p) q)

  pub more-alike : (q : ℕ) → x ≡ field_at a (i + k) q → y ≡ field_at b (j + k) q → x ≡ y → alike a i b j (k + q) ≡ true
  more-alike q f g h = sym (last-alike k q (omega arith) f g) ∙ eq-eqb x y h

  -- and where they are not alike, no more are
  pub not_alike : (q n : ℕ) → k + q ≤ n → x ≡ field_at a (i + k) q → y ≡ field_at b (j + k) q → (x ≡ y → ⊥) → alike a i b j n ≡ false
  not_alike q n l f g h =
      let z : n ≡ k + q + (n - (k + q)) = omega arith in
      ap (alike a i b j) z
      ∙ alike-append a i b j (k + q) (n - (k + q))
      ∙ ap (λ (t : Bool). t && alike a (i + (k + q)) b (j + (k + q)) (n - (k + q))) (sym (last-alike k q (omega arith) f g) ∙ ne_eqb x y h)

-- runs of w bits, one behind the other, that are equal as fields: all of them hold the first w * m bits, and the last q of n decide the rest
module _ (a : List ℕ) (i : ℕ) (b : List ℕ) (j : ℕ) where
  alike_runs : (w m : ℕ) → every (λ k. eqb (field_at a (i + w * k) w) (field_at b (j + w * k) w)) m ≡ alike a i b j (w * m)
  unfolding alike
  alike_runs w zero = let z : w * 0 ≡ 0 = omega arith in rw z refl
  alike_runs w (suc m) =
      ap₂ ◌&&◌ (alike_runs w m) (sym (alike-fields a (i + w * m) b (j + w * m) w))
      ∙ sym (alike-append a i b j (w * m) w)
      ∙ (let z : w * m + w ≡ w * suc m = omega (arith, mul-suc w m) in ap (alike a i b j) z)

  module _ (w m : ℕ) {all : Bool} (e : all ≡ every (λ k. eqb (field_at a (i + w * k) w) (field_at b (j + w * k) w)) m) where
    pub runs-alike : all ≡ true → {x y : ℕ} (p q : ℕ) → p ≤ w * m → x ≡ field_at a (i + p) q → y ≡ field_at b (j + p) q → eqb x y ≡ alike a i b j (p + q)
    runs-alike t p q h f g = last-alike a i b j (w * m) (sym (alike_runs w m) ∙ sym e ∙ t) p q h f g

    pub runs-other : all ≡ false → (n : ℕ) → w * m ≤ n → all ≡ alike a i b j n
    runs-other t n h =
        let z : w * m + (n - w * m) ≡ n = omega arith in
        t
        ∙ sym
        (ap (alike a i b j) (sym z)
        ∙ alike-append a i b j (w * m) (n - w * m)
        ∙ ap (λ (u : Bool). u && alike a (i + w * m) b (j + w * m) (n - w * m)) (sym (alike_runs w m) ∙ sym e ∙ t))

-- n bits from bit `at` on, in the eight bytes that hold the first of them: the s bits before them are shifted out
lifted : (u v c s : ℕ) → v < 2 ^ c → (u * 2 ^ c + v) * 2 ^ s % 2 ^ (c + s) ≡ v * 2 ^ s
lifted u v c s h =
    let e : (u * 2 ^ c + v) * 2 ^ s ≡ u * 2 ^ (c + s) + v * 2 ^ s = add-mul (u * 2 ^ c) v (2 ^ s) ∙ ap (λ (x : ℕ). x + v * 2 ^ s) (mul_assoc u (2 ^ c) (2 ^ s) ∙ ap (λ (x : ℕ). u * x) (sym (pow-add 2 c s))) in
    ap (λ (x : ℕ). x % 2 ^ (c + s)) e ∙ low u (c + s) (shl_lt c s h)

pub in-eight : (m : List ℕ) (at n : ℕ) → n ≤ 56 → field_at m (8 * (at / 8)) 64 * 2 ^ (at % 8) % 2 ^ 64 / 2 ^ (64 - n) ≡ field_at m at n
in-eight m at n h =
    let k = 8 * (at / 8) in
    let s = at % 8 in
    let d = 64 - s - n in
    let whole : 64 ≡ s + (64 - s) = omega arith in
    let sum : 64 - s + s ≡ 64 = omega arith in
    let place : k + s ≡ at = omega arith in
    let rest : 64 - n ≡ s + d = omega arith in
    let parts : 64 - s ≡ n + d = omega arith in
    let v = field_at m at (64 - s) in
    let split : field_at m k 64 ≡ field_at m k s * 2 ^ (64 - s) + v = ap (field_at m k) whole ∙ field-append m k s (64 - s) ∙ ap (λ (x : ℕ). field_at m k s * 2 ^ (64 - s) + field_at m x (64 - s)) place in
    let out : field_at m k 64 * 2 ^ s % 2 ^ 64 ≡ v * 2 ^ s = ap₂ (λ (x y : ℕ). x * 2 ^ s % 2 ^ y) split (sym sum) ∙ lifted (field_at m k s) v (64 - s) s (field_lt m at (64 - s)) in
    ap₂ (λ (x y : ℕ). x / 2 ^ y) out rest
    ∙ sym (shr-shr (v * 2 ^ s) s d)
    ∙ ap (λ (x : ℕ). x / 2 ^ d) (shl-shr v s)
    ∙ ap (λ (x : ℕ). field_at m at x / 2 ^ d) parts
    ∙ field-first m at n d

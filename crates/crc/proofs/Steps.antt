-- Many shifts of the register at once: code that is linear and right at each single bit is right. Assumes nothing.
use Prim.Native.Nat.{ℕ, zero, suc, ◌+◌, ◌*◌, ◌/◌, ◌%◌, ◌^◌, ◌<◌, ◌≤◌}
use mathlib.Core.Path.{◌≡◌, refl, sym, ap, ap₂, ◌∙◌}
use mathlib.Core.Bool.{Bool, true}
use mathlib.Core.List.{List, ◌∷◌}
use native.Mathlib.Nat.{mod-lt, mod-eq_of_lt, mul-le-mul_right, suc-mul}
use native.Mathlib.Omega.{arith}
use lib.Dec.{eqb}
use borrow.Author.Tests.{eqb-true}
use Rattle.bits.specs.Below.{every}
use lib.Pow.{pow_pos, pow-add, shr_lt, split, high, low}
use lib.Bits.{bit_xor, xor_shr, xor_mod, xor_self, xor_shifted}
use Rattle.bits.specs.Bits.{bits_of}
use Rattle.crc.proofs.Xor.{xor-medial, xor-shl}
use Rattle.crc.proofs.Linear.{Register, Same, zip, run-linear}
use Rattle.bits.proofs.Below.{every-at}
use Rattle.bits.proofs.Bits.{low_bits}
use Rattle.bits.proofs.Digits.{bits-of}

-- functions that take `^` to `^`, and how they are made
pub record Linear (f : ℕ → ℕ) : Type 0 where
  pub sums : (a b : ℕ) → f (bit_xor a b) ≡ bit_xor (f a) (f b)

pub both : {f g : ℕ → ℕ} → Linear f → Linear g → Linear (λ x. bit_xor (f x) (g x))
both {f} {g} p q = record { sums = λ a b. ap₂ bit_xor (p.sums a b) (q.sums a b) ∙ xor-medial (f a) (f b) (g a) (g b) }

pub then : {f g : ℕ → ℕ} → Linear f → Linear g → Linear (λ x. g (f x))
then {f} {g} p q = record { sums = λ a b. ap g (p.sums a b) ∙ q.sums (f a) (f b) }

pub same : Linear (λ x. x)
same = record { sums = λ a b. refl }

pub right : (k : ℕ) → Linear (λ x. x / 2 ^ k)
right k = record { sums = λ a b. xor_shr a b k }

pub cut : (w : ℕ) → Linear (λ x. x % 2 ^ w)
cut w = record { sums = λ a b. xor_mod a b w }

pub up : (k : ℕ) → Linear (λ x. x * 2 ^ k)
up k = record { sums = λ a b. sym (xor-shl k a b) }

pub left : (w k : ℕ) → Linear (λ x. x * 2 ^ k % 2 ^ w)
left w k = then (up k) (cut w)

-- where two of them agree at each power of two, they agree
linear-zero : {f : ℕ → ℕ} → Linear f → f 0 ≡ 0
linear-zero {f} p = p.sums 0 0 ∙ xor_self (f 0)

top : (a p : ℕ) → a < 2 → {f g : ℕ → ℕ} → Linear f → Linear g → f p ≡ g p → f (a * p) ≡ g (a * p)
top zero p h l m e = let z : 0 * p ≡ 0 = omega arith in rw z (linear-zero l ∙ sym (linear-zero m))
top (suc zero) p h l m e = let z : 1 * p ≡ p = omega arith in rw z e
top (suc (suc a)) p h l m e = absurd (omega arith)

agree : (n : ℕ) {f g : ℕ → ℕ} → Linear f → Linear g → ((i : ℕ) → i < n → f (2 ^ i) ≡ g (2 ^ i)) → (x : ℕ) → x < 2 ^ n → f x ≡ g x
agree zero l m t x h = let z : x ≡ 0 = omega arith in rw z (linear-zero l ∙ sym (linear-zero m))
agree (suc n) {f} {g} l m t x h =
    let b : x % 2 ^ n < 2 ^ n = mod-lt x (pow_pos n) in
    let e : x ≡ bit_xor (x / 2 ^ n * 2 ^ n) (x % 2 ^ n) = sym (xor_shifted (x / 2 ^ n) n (x % 2 ^ n) b ∙ split x n) in
    let s : 1 + n ≡ suc n = omega arith in
    let a : x / 2 ^ n < 2 = shr_lt 1 n (rw s h) in
    ap f e
    ∙ l.sums (x / 2 ^ n * 2 ^ n) (x % 2 ^ n)
    ∙ ap₂ bit_xor (top (x / 2 ^ n) (2 ^ n) a l m (t n (omega arith))) (agree n l m (λ i s. t i (omega arith)) (x % 2 ^ n) b)
    ∙ sym (ap g e ∙ m.sums (x / 2 ^ n * 2 ^ n) (x % 2 ^ n))

same_bits : (n x y : ℕ) → Same (bits_of n x) (bits_of n y)
unfolding bits_of
same_bits zero x y = tt
same_bits (suc n) x y = same_bits n x y

zip-bits : (n x y : ℕ) → zip (bits_of n x) (bits_of n y) ≡ bits_of n (bit_xor x y)
unfolding bits_of
zip-bits zero x y = refl
zip-bits (suc n) x y = ap₂ ◌∷◌ (sym ((then (right n) (cut 1)).sums x y)) (zip-bits n x y)

below_all : (r p q w : ℕ) → r < q → w < p → r * p + w < q * p
below_all r p q w hr hw = let h : suc r * p ≤ q * p = mul-le-mul_right p hr in omega (arith, suc-mul r p)

module _ {k : ℕ} {run : ℕ → List ℕ → ℕ} (R : Register k run) where
  -- n shifts, of a register and n bits that stand in one number
  unfoldable pub shifts : ℕ → ℕ → ℕ
  shifts n u = run (u / 2 ^ n % 2 ^ suc k) (bits_of n u)

  shifts-linear : (n : ℕ) → Linear (shifts n)
  unfolding shifts
  shifts-linear n =
      record {
        sums = λ a b.
            ap₂ run ((then (right n) (cut (suc k))).sums a b) (sym (zip-bits n a b))
            ∙ run-linear R (bits_of n a) (bits_of n b) (a / 2 ^ n % 2 ^ suc k) (b / 2 ^ n % 2 ^ suc k) (mod-lt (a / 2 ^ n) (pow_pos (suc k))) (mod-lt (b / 2 ^ n) (pow_pos (suc k)))
            (bits-of n a) (bits-of n b) (same_bits n a b);
      }

  -- n shifts of the register 0
  pub zero-linear : (n : ℕ) → Linear (λ u. run 0 (bits_of n u))
  zero-linear n =
      record {
        sums = λ a b.
            ap (run 0) (sym (zip-bits n a b))
            ∙ run-linear R (bits_of n a) (bits_of n b) 0 0 (pow_pos (suc k)) (pow_pos (suc k)) (bits-of n a) (bits-of n b) (same_bits n a b);
      }

  unfoldable pub alone : ℕ → (ℕ → ℕ) → ℕ → Bool
  alone n code i = eqb (run 0 (bits_of n (2 ^ i))) (code (2 ^ i))

  pub from_zero : (n : ℕ) (code : ℕ → ℕ) → Linear code → every (alone n code) n ≡ true → (w : ℕ) → w < 2 ^ n → run 0 (bits_of n w) ≡ code w
  unfolding alone
  from_zero n code l t =
      agree n (zero-linear n) l (λ i h. eqb-true (run 0 (bits_of n (2 ^ i))) (code (2 ^ i)) (every-at (alone n code) n t i h))

  -- the test at the single bits
  unfoldable pub test : ℕ → (ℕ → ℕ → ℕ) → ℕ → Bool
  test n code i = eqb (shifts n (2 ^ i)) (code (2 ^ i / 2 ^ n) (2 ^ i % 2 ^ n))

  -- n shifts of the register r by the bits of w are what the code makes of the two
  pub steps : (n : ℕ) (code : ℕ → ℕ → ℕ) → Linear (λ u. code (u / 2 ^ n) (u % 2 ^ n)) → every (test n code) (suc k + n) ≡ true → (r w : ℕ) → r < 2 ^ suc k → w < 2 ^ n
      → run r (bits_of n w) ≡ code r w
  unfolding shifts test
  steps n code l t r w hr hw =
      let u = r * 2 ^ n + w in
      let register : u / 2 ^ n % 2 ^ suc k ≡ r = rw (high r n hw) (mod-eq_of_lt hr) in
      let small : u < 2 ^ (suc k + n) = rw (pow-add 2 (suc k) n) (below_all r (2 ^ n) (2 ^ suc k) w hr hw) in
      ap₂ run (sym register) (sym (low_bits n r w))
      ∙ agree (suc k + n) (shifts-linear n) l
      (λ i h. eqb-true (shifts n (2 ^ i)) (code (2 ^ i / 2 ^ n) (2 ^ i % 2 ^ n)) (every-at (test n code) (suc k + n) t i h)) u small
      ∙ ap₂ code (high r n hw) (low r n hw)

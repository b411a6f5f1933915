-- Laws of bits, of the numbers that they denote, and of the bits of numbers. Assumes nothing.
use Prim.Native.Nat.{ℕ, zero, suc, ◌+◌, ◌-◌, ◌*◌, ◌/◌, ◌%◌, ◌^◌, ◌<◌, ◌≤◌}
use mathlib.Core.Path.{◌≡◌, refl, sym, ap, ap₂, ◌∙◌}
use mathlib.Core.List.{List, ◌∷◌, ◌++◌}
use native.Mathlib.Nat.{suc-add, pow-suc, add-mul-div_right, add-zero, add-suc, mod-lt, mod-one}
use native.Mathlib.Numerals.{add-one}
use native.Mathlib.Omega.{arith}
use native.Mathlib.Decide.{dec_lt}
use lib.ListN.{length, get_or, drop}
use lib.Seq.{get_or-drop}
use lib.Pow.{shr-shr, pow_pos, mod-pow-add}
use Rattle.bits.specs.Bits.{bit_at, bits_from, number_on, bits_of, words_bits}
use Rattle.bits.specs.Words.{word_at}

pub bit-lt : (m : List ℕ) (i : ℕ) → bit_at m i < 2
bit-lt m i = mod-lt (get_or m (i / 8) 0 / 2 ^ (7 - i % 8)) (omega arith)

-- bit i, counted from the byte's other end
pub bit-of : (m : List ℕ) (k i t : ℕ) → i + t ≡ 8 * k + 7 → t < 8 → bit_at m i ≡ get_or m k 0 / 2 ^ t % 2
bit-of m k i t e h =
    let q : i / 8 ≡ k = omega arith in
    let r : 7 - i % 8 ≡ t = omega arith in
    ap₂ (λ (a b : ℕ). get_or m a 0 / 2 ^ b % 2) q r

-- bits that are the digits of w above its lowest k denote that part of w
module _ (m : List ℕ) (w k : ℕ) where
  pub digits : (n p c acc : ℕ) → ((j t : ℕ) → j + t + 1 ≡ n → bit_at m (p + j) ≡ w / 2 ^ (k + t) % 2) → acc ≡ w / 2 ^ (k + n) % 2 ^ c
      → number_on acc (bits_from m p n) ≡ w / 2 ^ k % 2 ^ (c + n)
  digits zero p c acc h e = e ∙ rw (add-zero, add-zero)
  digits (suc n) p c acc h e =
      let first : bit_at m p ≡ w / 2 ^ (k + n) % 2 = rw (add-zero p) at (h 0 n (omega arith)) in
      let half : w / 2 ^ (k + suc n) ≡ w / 2 ^ (k + n) / 2 = ap (λ (x : ℕ). w / 2 ^ x) (add-suc k n ∙ sym (add-one (k + n))) ∙ sym (shr-shr w (k + n) 1) in
      let next : acc * 2 + bit_at m p ≡ w / 2 ^ (k + n) % 2 ^ (c + 1) = rw (e, half, first) (sym (mod-pow-add (w / 2 ^ (k + n)) c 1)) in
      let z : c + 1 + n ≡ c + suc n = omega arith in
      digits n (p + 1) (c + 1) (acc * 2 + bit_at m p)
      (λ j t q. (let y : p + 1 + j ≡ p + (j + 1) = omega arith in rw y (h (j + 1) t (omega arith)))) next
      ∙ ap (λ (x : ℕ). w / 2 ^ k % 2 ^ x) z

-- the bits of a number: how many, in two parts, and those of its low part
pub length-bits : (n v : ℕ) → length (bits_of n v) ≡ n
unfolding bits_of
length-bits zero v = refl
length-bits (suc n) v = ap suc (length-bits n v)

pub bits-split : (a b v : ℕ) → bits_of (a + b) v ≡ bits_of a (v / 2 ^ b) ++ bits_of b v
unfolding bits_of
bits-split zero b v = let e : 0 + b ≡ b = omega arith in rw e
bits-split (suc a) b v =
    let c : b + a ≡ a + b = omega arith in
    rw (suc-add a b) (ap₂ ◌∷◌ (ap (λ (x : ℕ). x % 2) (sym (shr-shr v b a ∙ ap (λ (k : ℕ). v / 2 ^ k) c))) (bits-split a b v))

pub low_bits : (n a v : ℕ) → bits_of n (a * 2 ^ n + v) ≡ bits_of n v
unfolding bits_of
low_bits zero a v = refl
low_bits (suc n) a v =
    let e : a * 2 ^ suc n + v ≡ v + a * 2 * 2 ^ n = rw (pow-suc 2 n) (omega arith) in
    let c : v + a * 2 * 2 ^ n ≡ a * 2 * 2 ^ n + v = omega arith in
    rw e (ap₂ ◌∷◌ (rw (add-mul-div_right v (a * 2) (pow_pos n)) (omega arith)) (rw c (low_bits n (a * 2) v)))

-- bits in two runs
pub bits-append : (m : List ℕ) (i a b : ℕ) → bits_from m i (a + b) ≡ bits_from m i a ++ bits_from m (i + a) b
bits-append m i zero b = let e : 0 + b ≡ b = omega arith in rw (e, add-zero i)
bits-append m i (suc a) b = let e : i + suc a ≡ i + 1 + a = omega arith in rw (suc-add a b, e) (ap (λ (l : List ℕ). bit_at m i ∷ l) (bits-append m (i + 1) a b))

-- the last j bits of byte k are the j low bits of its number
pub byte-tail : (m : List ℕ) (k j i : ℕ) → i + j ≡ 8 * k + 8 → j ≤ 8 → bits_from m i j ≡ bits_of j (get_or m k 0)
unfolding bits_of
byte-tail m k zero i e h = refl
byte-tail m k (suc j) i e h = ap₂ ◌∷◌ (bit-of m k i j (omega arith) (omega arith)) (byte-tail m k j (i + 1) (omega arith) (omega arith))

-- a number's n low bits are 0 where it is a multiple of 2 ^ n
no_part : (a p : ℕ) → a < 2 → 0 < p → a * p ≡ 0 → a ≡ 0
no_part zero p h s e = refl
no_part (suc zero) p h s e = absurd (omega arith)
no_part (suc (suc a)) p h s e = absurd (omega arith)

low_part : (v n : ℕ) → v % 2 ^ suc n ≡ v / 2 ^ n % 2 * 2 ^ n + v % 2 ^ n
low_part v n = let z : 1 + n ≡ suc n = omega arith in rw z at (mod-pow-add v 1 n)

pub low-zero : (v n : ℕ) → v % 2 ^ n ≡ 0 → (t : ℕ) → t < n → v / 2 ^ t % 2 ≡ 0
low-zero v zero e t h = absurd (omega arith)
low-zero v (suc n) e t h = go (low-zero v n (omega (arith, low_part v n)) t) (dec_lt t n)
  where
    go : (t < n → v / 2 ^ t % 2 ≡ 0) → Dec (t < n) → v / 2 ^ t % 2 ≡ 0
    go ih (yes l) = ih l
    go ih (no l) =
        let z : t ≡ n = omega arith in
        rw z (no_part (v / 2 ^ n % 2) (2 ^ n) (mod-lt (v / 2 ^ n) (omega arith)) (pow_pos n) (omega (arith, low_part v n)))

pub zero-low : (v n : ℕ) → ((t : ℕ) → t < n → v / 2 ^ t % 2 ≡ 0) → v % 2 ^ n ≡ 0
zero-low v zero h = mod-one v
zero-low v (suc n) h = rw (low_part v n, h n (omega arith), zero-low v n (λ t l. h t (omega arith))) (omega arith)

-- a word's bits, and those of several, are the bits that stand there
pub word-bits : (m : List ℕ) (i : ℕ) → get_or m (2 * i + 1) 0 < 256 → bits_from m (16 * i) 16 ≡ bits_of 16 (word_at m i)
unfolding word_at
word-bits m i h =
    let a = get_or m (2 * i) 0 in
    let b = get_or m (2 * i + 1) 0 in
    let q : (a * 256 + b) / 2 ^ 8 ≡ a = omega arith in
    bits-append m (16 * i) 8 8
    ∙ ap₂ ◌++◌ (byte-tail m (2 * i) 8 (16 * i) (omega arith) (omega arith)) (byte-tail m (2 * i + 1) 8 (16 * i + 8) (omega arith) (omega arith))
    ∙ sym (bits-split 8 8 (a * 256 + b) ∙ ap₂ ◌++◌ (ap (bits_of 8) q) (low_bits 8 a b))

pub words-bits : (m : List ℕ) (i k : ℕ) → ((j : ℕ) → get_or m j 0 < 256) → bits_from m (16 * i) (16 * k) ≡ words_bits m i k
unfolding words_bits
words-bits m i zero h = refl
words-bits m i (suc k) h =
    let e : 16 * suc k ≡ 16 * k + 16 = omega arith in
    let f : 16 * i + 16 * k ≡ 16 * (i + k) = omega arith in
    ap (bits_from m (16 * i)) e
    ∙ bits-append m (16 * i) (16 * k) 16
    ∙ ap₂ ◌++◌ (words-bits m i k h) (ap (λ (x : ℕ). bits_from m x 16) f ∙ word-bits m (i + k) (h (2 * (i + k) + 1)))

-- words that agree have the same bits
pub words_same : (m n : List ℕ) (i k : ℕ) → ((j : ℕ) → i ≤ j → j < i + k → word_at m j ≡ word_at n j) → words_bits m i k ≡ words_bits n i k
unfolding words_bits
words_same m n i zero h = refl
words_same m n i (suc k) h =
    ap₂ ◌++◌ (words_same m n i k (λ j a b. h j a (omega arith))) (ap (bits_of 16) (h (i + k) (omega arith) (omega arith)))

-- the bits of a part of the bytes
pub bits-drop : (m : List ℕ) (k i n : ℕ) → bits_from (drop k m) i n ≡ bits_from m (8 * k + i) n
bits-drop m k i zero = refl
bits-drop m k i (suc n) =
    let q : (8 * k + i) / 8 ≡ k + i / 8 = omega arith in
    let r : (8 * k + i) % 8 ≡ i % 8 = omega arith in
    let z : 8 * k + (i + 1) ≡ 8 * k + i + 1 = omega arith in
    ap₂ ◌∷◌ (rw (q, r, get_or-drop k m (i / 8) 0)) (bits-drop m k (i + 1) n ∙ ap (λ (x : ℕ). bits_from m x n) z)

-- A field of up to 16 bits lies in a window of three bytes. Assumes nothing.
use Prim.Native.Nat.{ℕ, zero, suc, ◌+◌, ◌-◌, ◌*◌, ◌/◌, ◌%◌, ◌^◌, ◌<◌, ◌≤◌}
use mathlib.Core.Path.{◌≡◌, sym, ap, ap₂, ◌∙◌}
use mathlib.Core.Logic.{◌⊎◌, inl, inr, ⊎_elim}
use mathlib.Core.List.{List}
use native.Mathlib.Nat.{mod-one, mod-lt}
use native.Mathlib.Omega.{arith}
use native.Mathlib.Decide.{dec_lt}
use lib.ListN.{get_or}
use lib.Pow.{shr-shr, shl_exact, pow_pos, pow_mono}
use Rattle.bits.specs.Bits.{bit_at, field_at}
use Rattle.bits.specs.Words.{word_at}
use Rattle.bits.specs.Steps.{window_at}
use Rattle.bits.proofs.Bits.{bit-of, digits}

-- bit t of a byte b that stands below a
low_byte : (a b t : ℕ) → b < 256 → t < 8 → (a * 256 + b) / 2 ^ t % 2 ≡ b / 2 ^ t % 2
low_byte a b zero hb ht = omega arith
low_byte a b (suc zero) hb ht = omega arith
low_byte a b (suc (suc zero)) hb ht = omega arith
low_byte a b (suc (suc (suc zero))) hb ht = omega arith
low_byte a b (suc (suc (suc (suc zero)))) hb ht = omega arith
low_byte a b (suc (suc (suc (suc (suc zero))))) hb ht = omega arith
low_byte a b (suc (suc (suc (suc (suc (suc zero)))))) hb ht = omega arith
low_byte a b (suc (suc (suc (suc (suc (suc (suc zero))))))) hb ht = omega arith
low_byte a b (suc (suc (suc (suc (suc (suc (suc (suc t)))))))) hb ht = absurd (omega arith)

lt-or-ge : (a b : ℕ) → (a < b) ⊎ (b ≤ a)
lt-or-ge a b = pick (dec_lt a b)
  where
    pick : Dec (a < b) → (a < b) ⊎ (b ≤ a)
    pick (yes h) = inl h
    pick (no h) = inr (omega arith)

module _ (m : List ℕ) (k : ℕ) (bytes : (i : ℕ) → get_or m i 0 < 256) where
  third : (i t : ℕ) → i + t ≡ 8 * k + 23 → t < 8 → bit_at m i ≡ window_at m k / 2 ^ t % 2
  unfolding window_at
  third i t e h = bit-of m (k + 2) i t (omega arith) h ∙ sym (low_byte _ _ t (bytes (k + 2)) h)

  second : (i t : ℕ) → i + (8 + t) ≡ 8 * k + 23 → t < 8 → bit_at m i ≡ window_at m k / 2 ^ (8 + t) % 2
  unfolding window_at
  second i t e h =
      let z : window_at m k / 256 ≡ get_or m k 0 * 256 + get_or m (k + 1) 0 = omega (arith, bytes (k + 2)) in
      bit-of m (k + 1) i t (omega arith) h ∙ sym (ap (λ (x : ℕ). x % 2) (sym (shr-shr (window_at m k) 8 t) ∙ ap (λ (x : ℕ). x / 2 ^ t) z) ∙ low_byte _ _ t (bytes (k + 1)) h)

  first : (i t : ℕ) → i + (16 + t) ≡ 8 * k + 23 → t < 8 → bit_at m i ≡ window_at m k / 2 ^ (16 + t) % 2
  unfolding window_at
  first i t e h =
      let z : window_at m k / 65536 ≡ get_or m k 0 = omega (arith, bytes (k + 1), bytes (k + 2)) in
      bit-of m k i t (omega arith) h ∙ sym (ap (λ (x : ℕ). x % 2) (sym (shr-shr (window_at m k) 16 t) ∙ ap (λ (x : ℕ). x / 2 ^ t) z))

  any : (i t : ℕ) → i + t ≡ 8 * k + 23 → t < 24 → bit_at m i ≡ window_at m k / 2 ^ t % 2
  any i t e h =
      ⊎_elim (λ a. third i t e a)
      (λ a.
      ⊎_elim (λ b. (let z : t ≡ 8 + (t - 8) = omega arith in rw z (second i (t - 8) (omega arith) (omega arith))))
      (λ b. (let z : t ≡ 16 + (t - 16) = omega arith in rw z (first i (t - 16) (omega arith) (omega arith)))) (lt-or-ge t 16)) (lt-or-ge t 8)

-- n bits from bit i on, s bits before the end of the window at byte k
pub through-window : (m : List ℕ) (k i n s : ℕ) → ((j : ℕ) → get_or m j 0 < 256) → i + n + s ≡ 8 * k + 24 → n + s ≤ 24 → field_at m i n ≡ window_at m k / 2 ^ s % 2 ^ n
unfolding field_at
through-window m k i n s bytes e h =
    digits m (window_at m k) s n i 0 0 (λ j t q. any m k bytes (i + j) (s + t) (omega arith) (omega arith)) (sym (mod-one _)) ∙ (let z : 0 + n ≡ n = omega arith in rw z)

pub in_window : (m : List ℕ) (i n : ℕ) → ((j : ℕ) → get_or m j 0 < 256) → n ≤ 16 → field_at m i n ≡ window_at m (i / 8) / 2 ^ (24 - i % 8 - n) % 2 ^ n
in_window m i n bytes h = through-window m (i / 8) i n (24 - i % 8 - n) bytes (omega arith) (omega arith)

-- the last 16 of the first n bits lie in the last three bytes of these
pub in-last : (m : List ℕ) (n : ℕ) {a b c : ℕ} → ((j : ℕ) → get_or m j 0 < 256) → 24 ≤ n → a ≡ get_or m ((n - 1) / 8 - 2) 0 → b ≡ get_or m ((n - 1) / 8 - 1) 0 → c ≡ get_or m ((n - 1) / 8) 0
    → ((a * 256 + b) * 256 + c) / 2 ^ (7 - (n - 1) % 8) % 65536 ≡ field_at m (n - 16) 16
unfolding window_at
in-last m n bytes h p q r =
    let k = (n - 1) / 8 in
    let s = 7 - (n - 1) % 8 in
    let e : k - 2 + 1 ≡ k - 1 = omega arith in
    let f : k - 2 + 2 ≡ k = omega arith in
    rw (p, q, r)
    (sym
    (through-window m (k - 2) (n - 16) 16 s bytes (omega arith) (omega arith)
    ∙ ap₂ (λ (x y : ℕ). ((get_or m (k - 2) 0 * 256 + get_or m x 0) * 256 + get_or m y 0) / 2 ^ s % 2 ^ 16) e f))

-- the code's 2 ^ n does not wrap
pub modulus : (n : ℕ) → n ≤ 16 → 1 * 2 ^ n % 4294967296 ≡ 2 ^ n
modulus n h = shl_exact {a = 1} 1 n 32 (omega arith) (omega arith) ∙ omega arith

-- a field of n bits fits 16
pub modulus-small : (n x : ℕ) → n ≤ 16 → x % (1 * 2 ^ n % 4294967296) < 65536
modulus-small n x h = rw (modulus n h) (omega (arith, mod-lt x (pow_pos n), pow_mono {i = n} {j = 16} h))

-- a field of 16 bits that begins with a word is the word
pub field-word : (m : List ℕ) (i : ℕ) → ((j : ℕ) → get_or m j 0 < 256) → field_at m (16 * i) 16 ≡ word_at m i
unfolding window_at word_at
field-word m i bytes =
    let k : 16 * i / 8 ≡ 2 * i = omega arith in
    let z : 24 - 16 * i % 8 - 16 ≡ 8 = omega arith in
    in_window m (16 * i) 16 bytes (omega arith)
    ∙ ap₂ (λ (a b : ℕ). window_at m a / 2 ^ b % 2 ^ 16) k z
    ∙ omega (arith, bytes (2 * i), bytes (2 * i + 1), bytes (2 * i + 2))

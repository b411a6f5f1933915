-- Bits of fields and of `or`, how large a field is, and fields of whole bytes. Assumes nothing.
use Prim.Native.Nat.{ℕ, zero, suc, ◌+◌, ◌-◌, ◌*◌, ◌/◌, ◌%◌, ◌^◌, ◌<◌, ◌≤◌}
use mathlib.Core.Path.{◌≡◌, refl, sym, ap, ap₂, ◌∙◌}
use mathlib.Core.List.{List, [], ◌∷◌, ◌++◌}
use native.Mathlib.Nat.{lt_of_lt_of_le, mod-lt, mod-one, mod-add-div, mul-zero, pow-suc, zero-add}
use native.Mathlib.Omega.{arith}
use native.Mathlib.Decide.{dec_lt}
use lib.Bits.{bit_and, bit_or, bit_xor, or_shr, or_mod, or_lt, and_le_l}
use lib.ListN.{get_or}
use lib.Pow.{shr-shr, pow_pos, pow_mono, high}
use Rattle.bits.specs.Bits.{bit_at, bits_from, number_on, field_at, bits_of, words_bits}
use Rattle.bits.proofs.Bits.{bit-lt, bit-of, digits, bits-append, words-bits}

-- what a run of n bits was added to stands above them
above : (m : List ℕ) (n i acc : ℕ) → number_on acc (bits_from m i n) / 2 ^ n ≡ acc
above m zero i acc = omega arith
above m (suc n) i acc =
    let e : n + 1 ≡ suc n = omega arith in
    let t = number_on (acc * 2 + bit_at m i) (bits_from m (i + 1) n) in
    ap (λ (x : ℕ). t / 2 ^ x) (sym e)
    ∙ sym (shr-shr t n 1)
    ∙ ap (λ (x : ℕ). x / 2 ^ 1) (above m n (i + 1) (acc * 2 + bit_at m i))
    ∙ omega (arith, bit-lt m i)

-- bit t of a run of n bits, counted from its end
run-bit : (m : List ℕ) (n i acc t : ℕ) → t < n → number_on acc (bits_from m i n) / 2 ^ t % 2 ≡ bit_at m (i + (n - 1 - t))
run-bit m zero i acc t h = absurd (omega arith)
run-bit m (suc n) i acc t h = go (run-bit m n (i + 1) (acc * 2 + bit_at m i) t) (dec_lt t n)
  where
    go : (t < n → number_on (acc * 2 + bit_at m i) (bits_from m (i + 1) n) / 2 ^ t % 2 ≡ bit_at m (i + 1 + (n - 1 - t))) → Dec (t < n)
        → number_on (acc * 2 + bit_at m i) (bits_from m (i + 1) n) / 2 ^ t % 2 ≡ bit_at m (i + (suc n - 1 - t))
    go f (yes l) = let e : i + 1 + (n - 1 - t) ≡ i + (suc n - 1 - t) = omega arith in f l ∙ ap (bit_at m) e
    go f (no l) =
        let e : t ≡ n = omega arith in
        let z : i + (suc n - 1 - t) ≡ i = omega arith in
        ap (λ (x : ℕ). number_on (acc * 2 + bit_at m i) (bits_from m (i + 1) n) / 2 ^ x % 2) e
        ∙ ap (λ (x : ℕ). x % 2) (above m n (i + 1) (acc * 2 + bit_at m i))
        ∙ omega (arith, bit-lt m i)
        ∙ ap (bit_at m) (sym z)

pub field-bit : (m : List ℕ) (i n t : ℕ) → t < n → field_at m i n / 2 ^ t % 2 ≡ bit_at m (i + (n - 1 - t))
unfolding field_at
field-bit m i n t h = run-bit m n i 0 t h

-- a field of n bits is below 2 ^ n
pub field_lt : (m : List ℕ) (i n : ℕ) → field_at m i n < 2 ^ n
unfolding field_at
field_lt m i n =
    let t = number_on 0 (bits_from m i n) in
    let e : t % 2 ^ n + 2 ^ n * 0 ≡ t = ap (λ (q : ℕ). t % 2 ^ n + 2 ^ n * q) (sym (above m n i 0)) ∙ mod-add-div t (2 ^ n) in
    let l : t % 2 ^ n < 2 ^ n = mod-lt t (pow_pos n) in
    omega (arith, mul-zero (2 ^ n))

pub field-small : (m : List ℕ) (i n b : ℕ) → n ≤ b → field_at m i n < 2 ^ b
field-small m i n b h = lt_of_lt_of_le (field_lt m i n) (pow_mono h)

-- a field's bits are those that stand there
bits-on : (m : List ℕ) (n i acc : ℕ) → bits_of n (number_on acc (bits_from m i n)) ≡ bits_from m i n
unfolding bits_of
bits-on m zero i acc = refl
bits-on m (suc n) i acc =
    ap₂ ◌∷◌ (ap (λ (x : ℕ). x % 2) (above m n (i + 1) (acc * 2 + bit_at m i)) ∙ omega (arith, bit-lt m i)) (bits-on m n (i + 1) (acc * 2 + bit_at m i))

pub field-bits : (m : List ℕ) (i n : ℕ) → bits_of n (field_at m i n) ≡ bits_from m i n
unfolding field_at
field-bits m i n = bits-on m n i 0

-- two fields side by side, and the first of them
number-on : (m : List ℕ) (n i acc : ℕ) → number_on acc (bits_from m i n) ≡ acc * 2 ^ n + number_on 0 (bits_from m i n)
number-on m zero i acc = omega arith
number-on m (suc n) i acc =
    rw (pow-suc 2 n)
    (omega (arith, number-on m n (i + 1) (acc * 2 + bit_at m i), number-on m n (i + 1) (0 * 2 + bit_at m i)))

number_append : (acc : ℕ) (xs ys : List ℕ) → number_on acc (xs ++ ys) ≡ number_on (number_on acc xs) ys
number_append acc [] ys = refl
number_append acc (x ∷ xs) ys = number_append (acc * 2 + x) xs ys

pub single : (m : List ℕ) (i : ℕ) → field_at m i 1 ≡ bit_at m i
unfolding field_at
single m i = zero-add (bit_at m i)

pub field-append : (m : List ℕ) (i a b : ℕ) → field_at m i (a + b) ≡ field_at m i a * 2 ^ b + field_at m (i + a) b
unfolding field_at
field-append m i a b =
    ap (number_on 0) (bits-append m i a b) ∙ number_append 0 (bits_from m i a) (bits_from m (i + a) b) ∙ number-on m b (i + a) (number_on 0 (bits_from m i a))

pub field-first : (m : List ℕ) (i a b : ℕ) → field_at m i (a + b) / 2 ^ b ≡ field_at m i a
field-first m i a b = ap (λ (x : ℕ). x / 2 ^ b) (field-append m i a b) ∙ high (field_at m i a) b (field_lt m (i + a) b)

-- bytes are fields: one, its first n bits, one more, and eight
module _ (m : List ℕ) (known : (i : ℕ) → get_or m i 0 < 256) where
  pub field-byte : (k : ℕ) → field_at m (8 * k) 8 ≡ get_or m k 0
  unfolding field_at
  field-byte k =
      digits m (get_or m k 0) 0 8 (8 * k) 0 0 (λ j t e. bit-of m k (8 * k + j) (0 + t) (omega arith) (omega arith)) (sym (mod-one _)) ∙ omega (arith, known k)

  pub byte-first : (k n : ℕ) → n ≤ 8 → field_at m (8 * k) n ≡ get_or m k 0 / 2 ^ (8 - n)
  byte-first k n h =
      let e : n + (8 - n) ≡ 8 = omega arith in
      sym (field-first m (8 * k) n (8 - n)) ∙ ap (λ (x : ℕ). field_at m (8 * k) x / 2 ^ (8 - n)) e ∙ ap (λ (x : ℕ). x / 2 ^ (8 - n)) (field-byte k)

  pub byte_more : (k j : ℕ) → field_at m (8 * k) (8 * (j + 1)) ≡ field_at m (8 * k) (8 * j) * 256 + get_or m (k + j) 0
  byte_more k j =
      let e : 8 * (j + 1) ≡ 8 * j + 8 = omega arith in
      let f : 8 * k + 8 * j ≡ 8 * (k + j) = omega arith in
      ap (field_at m (8 * k)) e ∙ field-append m (8 * k) (8 * j) 8 ∙ ap (λ (x : ℕ). field_at m (8 * k) (8 * j) * 256 + x) (ap (λ (x : ℕ). field_at m x 8) f ∙ field-byte (k + j))

  pub eight_bytes : (i : ℕ) → field_at m (8 * i) 64
      ≡ ((((((get_or m i 0 * 256 + get_or m (i + 1) 0) * 256 + get_or m (i + 2) 0) * 256 + get_or m (i + 3) 0) * 256 + get_or m (i + 4) 0) * 256 + get_or m (i + 5) 0) * 256
      + get_or m (i + 6) 0) * 256 + get_or m (i + 7) 0
  eight_bytes i = rw (byte_more i 7, byte_more i 6, byte_more i 5, byte_more i 4, byte_more i 3, byte_more i 2, byte_more i 1, field-byte i)

  -- four words are a field
  pub words-four : (from j : ℕ) → words_bits m from (j + 4) ≡ words_bits m from j ++ bits_of 64 (field_at m (16 * (from + j)) 64)
  words-four from j =
      let e : 16 * (j + 4) ≡ 16 * j + 64 = omega arith in
      let f : 16 * from + 16 * j ≡ 16 * (from + j) = omega arith in
      sym (words-bits m from (j + 4) known)
      ∙ ap (bits_from m (16 * from)) e
      ∙ bits-append m (16 * from) (16 * j) 64
      ∙ ap₂ ◌++◌ (words-bits m from j known) (ap (λ (x : ℕ). bits_from m x 64) f ∙ sym (field-bits m (16 * (from + j)) 64))

-- a bit of `or`
or-bit : (a b t : ℕ) → bit_or a b / 2 ^ t % 2 ≡ bit_or (a / 2 ^ t % 2) (b / 2 ^ t % 2)
or-bit a b t = ap (λ (x : ℕ). x % 2) (or_shr a b t) ∙ or_mod (a / 2 ^ t) (b / 2 ^ t) 1

or-one : (x : ℕ) → x < 2 → bit_or 1 x ≡ 1
or-one zero h = refl
or-one (suc zero) h = refl
or-one (suc (suc x)) h = absurd (omega arith)

pub or-keeps : (a b t : ℕ) → a / 2 ^ t % 2 ≡ 1 → bit_or a b / 2 ^ t % 2 ≡ 1
or-keeps a b t e = or-bit a b t ∙ ap (λ (x : ℕ). bit_or x (b / 2 ^ t % 2)) e ∙ or-one (b / 2 ^ t % 2) (mod-lt (b / 2 ^ t) (omega arith))

pub or-zero : (a b t : ℕ) → a / 2 ^ t % 2 ≡ 0 → b / 2 ^ t % 2 ≡ 0 → bit_or a b / 2 ^ t % 2 ≡ 0
or-zero a b t d e = or-bit a b t ∙ ap₂ bit_or d e

-- masked bits of ten are ten bits
pub locked-lt : (old mask action : ℕ) → old < 1024 → action < 1024 → bit_or (bit_and old (bit_xor mask 1023)) (bit_and action mask) < 1024
locked-lt old mask action a b =
    or_lt 10 (bit_and old (bit_xor mask 1023)) (bit_and action mask) (omega (arith, and_le_l old (bit_xor mask 1023))) (omega (arith, and_le_l action mask))

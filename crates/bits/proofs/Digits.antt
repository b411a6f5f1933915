-- Laws of lists of bits: each is 0 or 1; numbers side by side, and one bit late. Assumes nothing.
use Prim.Native.Nat.{ℕ, zero, suc, ◌+◌, ◌*◌, ◌/◌, ◌%◌, ◌^◌, ◌<◌}
use mathlib.Core.Path.{◌≡◌, sym, ap, ap₂, ◌∙◌}
use mathlib.Core.List.{List, [], ◌∷◌, ◌++◌}
use native.Mathlib.Nat.{mod-lt, pow-suc, mul_assoc}
use native.Mathlib.Omega.{arith}
use lib.ListN.{drop}
use lib.Pow.{high}
use Rattle.bits.specs.Bits.{bits_of}
use Rattle.bits.proofs.Bits.{bits-split, low_bits}

abbrev pub Bits : List ℕ → Type 0
Bits [] = Unit {0}
Bits (b ∷ bs) = (b < 2) × Bits bs

pub bits-of : (n v : ℕ) → Bits (bits_of n v)
unfolding bits_of
bits-of zero v = tt
bits-of (suc n) v = (mod-lt (v / 2 ^ n) (omega arith), bits-of n v)

pub bits-and : (bs cs : List ℕ) → Bits bs → Bits cs → Bits (bs ++ cs)
bits-and [] cs h k = k
bits-and (b ∷ bs) cs h k = (h.0, bits-and bs cs h.1 k)

pub bits-drop : (n : ℕ) (bs : List ℕ) → Bits bs → Bits (drop n bs)
bits-drop zero bs h = h
bits-drop (suc n) [] h = tt
bits-drop (suc n) (b ∷ bs) h = bits-drop n bs h.1

-- two numbers side by side
pub bits-join : (m n a b : ℕ) → b < 2 ^ n → bits_of (m + n) (a * 2 ^ n + b) ≡ bits_of m a ++ bits_of n b
bits-join m n a b h = bits-split m n (a * 2 ^ n + b) ∙ ap₂ ◌++◌ (ap (bits_of m) (high a n h)) (low_bits n a b)

-- a bit and a number's bits behind it: those of the number one bit late, and its last
pub bits-late : (n b w : ℕ) → w < 2 ^ suc n → (b % 2 ∷ []) ++ bits_of (suc n) w ≡ bits_of (suc n) (b % 2 * 2 ^ n + w / 2) ++ (w % 2 ∷ [])
unfolding bits_of
bits-late n b w h =
    let u = b % 2 * 2 ^ suc n + w in
    let double : b % 2 * 2 ^ suc n ≡ b % 2 * 2 ^ n * 2 = rw (pow-suc 2 n) (sym (mul_assoc (b % 2) (2 ^ n) 2)) in
    let half : u / 2 ≡ b % 2 * 2 ^ n + w / 2 = rw double (omega arith) in
    let last : u / 1 % 2 ≡ w % 2 = rw double (omega arith) in
    let one : b % 2 / 1 % 2 ≡ b % 2 = omega arith in
    let turn : 1 + suc n ≡ suc n + 1 = omega arith in
    ap (λ (x : ℕ). (x ∷ []) ++ bits_of (suc n) w) (sym one)
    ∙ sym (bits-join 1 (suc n) (b % 2) w h)
    ∙ ap (λ (k : ℕ). bits_of k u) turn
    ∙ bits-split (suc n) 1 u
    ∙ ap₂ (λ (x y : ℕ). bits_of (suc n) x ++ (y ∷ [])) half last

-- a bit above a number
pub bit-above : (b p f : ℕ) → b < 2 → f < p → b * p + f < p * 2
bit-above zero p f d l = omega arith
bit-above (suc zero) p f d l = omega arith
bit-above (suc (suc b)) p f d l = absurd (omega arith)

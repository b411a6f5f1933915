-- Bits of a list of bytes, the first bit highest. A bit is the number 0 or 1. Assumes nothing.
use Rattle.std.specs.Prelude.{ℕ, zero, suc, ◌+◌, ◌-◌, ◌*◌, ◌/◌, ◌%◌, ◌^◌, Bool, List, [], ◌∷◌, ◌++◌, eqb, get_or}
use Rattle.bits.specs.Below.{every}
use Rattle.bits.specs.Words.{word_at}

-- bit i of the bytes m
abbrev pub bit_at : List ℕ → ℕ → ℕ
bit_at m i = get_or m (i / 8) 0 / 2 ^ (7 - i % 8) % 2

-- the n bits of m from bit i on
abbrev pub bits_from : List ℕ → ℕ → ℕ → List ℕ
bits_from m i zero = []
bits_from m i (suc n) = bit_at m i ∷ bits_from m (i + 1) n

-- the number that bits denote after the number acc
abbrev pub number_on : ℕ → List ℕ → ℕ
number_on acc [] = acc
number_on acc (b ∷ bs) = number_on (acc * 2 + b) bs

-- the number that the n bits of m from bit i on denote
unfoldable pub field_at : List ℕ → ℕ → ℕ → ℕ
field_at m i n = number_on 0 (bits_from m i n)

-- the n low bits of v, the highest first
unfoldable pub bits_of : ℕ → ℕ → List ℕ
bits_of zero v = []
bits_of (suc n) v = v / 2 ^ n % 2 ∷ bits_of n v

-- the bits of k words of m from word i on
unfoldable pub words_bits : List ℕ → ℕ → ℕ → List ℕ
words_bits m i zero = []
words_bits m i (suc k) = words_bits m i k ++ bits_of 16 (word_at m (i + k))

-- the n bits of a from bit i on are those of b from bit j on
unfoldable pub alike : List ℕ → ℕ → List ℕ → ℕ → ℕ → Bool
alike a i b j n = every (λ k. eqb (bit_at a (i + k)) (bit_at b (j + k))) n

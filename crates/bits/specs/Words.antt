-- Words of 16 bits over a list of bytes, the most significant byte first (RULES 1.1). Assumes nothing.
use Rattle.std.specs.Prelude.{ℕ, ◌+◌, ◌*◌, ◌/◌, ◌%◌, ◌<◌, List, [], ◌∷◌, get_or, set}

-- each number of m is a byte
abbrev pub Bytes : List ℕ → Type 0
Bytes m = (j : ℕ) → get_or m j 0 < 256

-- word i of the bytes m
unfoldable pub word_at : List ℕ → ℕ → ℕ
word_at m i = get_or m (2 * i) 0 * 256 + get_or m (2 * i + 1) 0

-- the bytes m with v stored as word i
unfoldable pub with_word : List ℕ → ℕ → ℕ → List ℕ
with_word m i v = set (set m (2 * i) (v / 256)) (2 * i + 1) (v % 256)

-- one word store: where, and what
pub record Store : Type 0 where
  pub at : ℕ
  pub value : ℕ

abbrev pub store : ℕ → ℕ → Store
store i v = record { at = i; value = v }

-- the bytes m after some stores, in order
abbrev pub after : List ℕ → List Store → List ℕ
after m [] = m
after m (s ∷ ss) = after (with_word m s.at s.value) ss

-- every store of a list has the property P
abbrev pub All : (Store → Type 0) → List Store → Type 0
All P [] = Unit {0}
All P (s ∷ ss) = P s × All P ss

-- Bits packed into a room of bytes (RULES 3.11). Assumes nothing.
use Rattle.std.specs.Prelude.{ℕ, zero, suc, ◌+◌, ◌*◌, ◌^◌, List, [], ◌∷◌, drop}

-- the number that the next w bits denote, those that are missing being 0
unfoldable pub filled : ℕ → List ℕ → ℕ
filled zero bs = 0
filled (suc w) [] = 0
filled (suc w) (b ∷ bs) = b * 2 ^ w + filled w bs

-- the room after the bits were packed into it: the first bit highest, the last byte filled with 0 bits, the bytes beyond as they were
unfoldable pub packed : List ℕ → List ℕ → List ℕ
packed bs [] = []
packed [] (x ∷ room) = x ∷ room
packed (b ∷ bs) (x ∷ room) = filled 8 (b ∷ bs) ∷ packed (drop 7 bs) room

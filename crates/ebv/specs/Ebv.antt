-- EBV-8 pointers (RULES 3.6): groups of eight bits, of which the first says that another group follows. Assumes nothing.
use Rattle.std.specs.Prelude.{ℕ, zero, suc, ◌+◌, ◌-◌, ◌*◌, cond, List, ltb, Option, Some, None}
use Rattle.bits.specs.Bits.{field_at}
use Rattle.ebv.specs.declared.Pointer.{Pointer}

-- a number of the answer table, or the value and the bytes that it took
pub data Read : Type 0 where
  refused : ℕ → Read
  whole : ℕ → ℕ → Read

-- what each answer in the code says
abbrev pub meaning : Option Pointer → Read
meaning None = refused 7
meaning (Some p) = whole p.value p.bytes

-- in the n bits of m: the pointer that begins at bit i, after k groups with the value acc, with at most so many groups to come
module _ (m : List ℕ) (n : ℕ) where
  abbrev pub groups : ℕ → ℕ → ℕ → ℕ → Read
  groups i k acc zero = refused 7
  groups i k acc (suc more) =
      let here = i + 8 * k in
      let g = field_at m here 8 in
      cond (ltb n (here + 8)) (refused 7)
      (cond (ltb g 128) (whole (acc * 128 + g) (k + 1)) (groups i (k + 1) (acc * 128 + (g - 128)) more))

  -- one to three groups
  unfoldable pub pointer_at : ℕ → Read
  pointer_at i = groups i 0 0 3

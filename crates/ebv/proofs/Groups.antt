-- One group of a pointer, in a loop over the groups that are left. Assumes nothing.
use Prim.Native.Nat.{ℕ, zero, suc, ◌+◌, ◌-◌, ◌*◌, ◌^◌, ◌<◌, ◌≤◌}
use mathlib.Core.Path.{◌≡◌}
use mathlib.Core.List.{List}
use native.Mathlib.Nat.{pow-suc}
use native.Mathlib.Numerals.{add-one}
use native.Mathlib.Omega.{arith}
use borrow.Author.Tests.{lt-ltb, le-ltb}
use Rattle.bits.specs.Bits.{field_at}
use Rattle.ebv.specs.Ebv.{Read, refused, whole, groups}

-- the value of k groups stays small
pub small : (k : ℕ) → k < 3 → 128 ^ k ≤ 16384
small zero h = omega arith
small (suc zero) h = omega arith
small (suc (suc zero)) h = omega arith
small (suc (suc (suc k))) h = absurd (omega arith)

pub grows : (k acc g : ℕ) → acc < 128 ^ k → g < 256 → acc * 128 + (g - 128) < 128 ^ (k + 1)
grows k acc g h l = rw (add-one k, pow-suc 128 k) (omega arith)

-- what the groups that are left give, at each way out of a turn and at the end of the turns
module _ (m : List ℕ) (n i k acc : ℕ) {w : Read} where
  module _ (h : k < 3) (e : groups m n i k acc (3 - k) ≡ w) where
    turn : groups m n i k acc (suc (3 - (k + 1))) ≡ w
    turn = let z : 3 - k ≡ suc (3 - (k + 1)) = omega arith in rw z at e

    pub short : n < i + 8 * k + 8 → refused 7 ≡ w
    short l = simp (lt-ltb _ _ l) at turn

    pub ends : (g : ℕ) → g ≡ field_at m (i + 8 * k) 8 → i + 8 * k + 8 ≤ n → g < 128 → whole (acc * 128 + g) (k + 1) ≡ w
    ends g p l s = rw p (simp (le-ltb _ _ l, lt-ltb _ _ (rw p at s)) at turn)

    pub goes : (g : ℕ) → g ≡ field_at m (i + 8 * k) 8 → i + 8 * k + 8 ≤ n → 128 ≤ g
        → groups m n i (k + 1) (acc * 128 + (g - 128)) (3 - (k + 1)) ≡ w
    goes g p l s = rw p (simp (le-ltb _ _ l, le-ltb _ _ (rw p at s)) at turn)

  pub none : 3 ≤ k → groups m n i k acc (3 - k) ≡ w → refused 7 ≡ w
  none h e = let z : 3 - k ≡ 0 = omega arith in rw z at e

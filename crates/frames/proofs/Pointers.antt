-- A pointer takes at most three bytes, or is refused with 7. Assumes nothing.
use Prim.Native.Nat.{ℕ, zero, suc, ◌+◌, ◌-◌, ◌*◌, ◌≤◌}
use mathlib.Core.Path.{◌≡◌, refl, subst}
use mathlib.Core.Bool.{Bool, true, false, cond}
use mathlib.Core.List.{List}
use native.Mathlib.Omega.{arith}
use lib.Dec.{ltb}
use Rattle.bits.specs.Bits.{field_at}
use Rattle.ebv.specs.Ebv.{Read, refused, whole, groups, pointer_at}

abbrev pub Fits : ℕ → Read → Type 0
Fits b (refused k) = k ≡ 7
Fits b (whole v e) = e ≤ b

groups-fit : (m : List ℕ) (n i k acc more : ℕ) → Fits (k + more) (groups m n i k acc more)
groups-fit m n i k acc zero = refl
groups-fit m n i k acc (suc more) =
    let g = field_at m (i + 8 * k) 8 in
    let v = acc * 128 + (g - 128) in
    go (ltb n (i + 8 * k + 8)) (ltb g 128) (acc * 128 + g) (groups m n i (k + 1) v more) (groups-fit m n i (k + 1) v more)
  where
    go : (a b : Bool) (v : ℕ) (next : Read) → Fits (k + 1 + more) next → Fits (k + suc more) (cond a (refused 7) (cond b (whole v (k + 1)) next))
    go true b v next h = refl
    go false true v next h = omega arith
    go false false v next h = let z : k + 1 + more ≡ k + suc more = omega arith in subst (λ (x : ℕ). Fits x next) z h

pub fits : (m : List ℕ) (n i : ℕ) → Fits 3 (pointer_at m n i)
unfolding pointer_at
fits m n i = groups-fit m n i 0 0 3

-- Frames that are malformed by their bit count, and those that pass; and the first two and four bits of a frame by its first eight. Assumes nothing.
use Prim.Native.Nat.{ℕ, ◌+◌, ◌*◌, ◌≤◌, ◌<◌}
use mathlib.Core.Path.{◌≡◌, refl}
use native.Mathlib.Omega.{arith}
use Rattle.bits.specs.Bits.{field_at}
use Rattle.bits.proofs.Fields.{field-first}
use mathlib.Core.Bool.{Bool, true, false, cond, not, or-true}
use mathlib.Core.List.{List}
use lib.ListN.{length}
use borrow.Author.Tests.{lt-ltb}
use Rattle.std.specs.Prelude.{Ok, Err}
use Rattle.frames.specs.declared.Flaw.TheVariants as flaw
use Rattle.frames.specs.Message as heard
use Rattle.frames.specs.Frames.{heard_of}

pub beyond : (m : List ℕ) (n : ℕ) → 8 * length m < n → heard_of m n ≡ heard.refused 7
unfolding heard_of
beyond m n h = simp (lt-ltb _ _ h)

pub no_code : (m : List ℕ) (n : ℕ) → n < 4 → heard_of m n ≡ heard.refused 7
unfolding heard_of
no_code m n h = simp (lt-ltb _ _ h, or-true)

pub two-bits : (m : List ℕ) (k : ℕ) → k * 64 ≤ field_at m 0 8 → field_at m 0 8 < k * 64 + 64 → field_at m 0 2 ≡ k
two-bits m k a b = omega (arith, field-first m 0 2 6)

pub four-bits : (m : List ℕ) (k : ℕ) → k * 16 ≤ field_at m 0 8 → field_at m 0 8 < k * 16 + 16 → field_at m 0 4 ≡ k
four-bits m k a b = omega (arith, field-first m 0 4 4)

pub two-above : (m : List ℕ) (k : ℕ) → k * 64 + 64 ≤ field_at m 0 8 → field_at m 0 2 ≡ k → ⊥
two-above m k a e = omega (arith, field-first m 0 2 6)

pub four-above : (m : List ℕ) (k : ℕ) → k * 16 + 16 ≤ field_at m 0 8 → field_at m 0 4 ≡ k → ⊥
four-above m k a e = omega (arith, field-first m 0 4 4)

-- a frame that passed the test of its length
pub passed : (b : Bool) (u : Unit {0}) → cond (not b) (Err flaw.Malformed) (Ok tt) ≡ Ok u → b ≡ true
passed true u e = refl
passed false u e = let z : ◌≡◌ {A = ℕ} 0 1 = cc in absurd (omega arith)

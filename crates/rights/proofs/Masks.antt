-- A mask whose bits of blocks that don't exist are 0. Assumes nothing.
use Prim.Native.Nat.{ℕ, ◌+◌, ◌-◌, ◌≤◌, ◌<◌}
use mathlib.Core.Path.{◌≡◌}
use mathlib.Core.Bool.{Bool, true, ◌||◌, or-true, or-false}
use mathlib.Core.List.{List}
use native.Mathlib.Omega.{arith}
use native.Mathlib.Decide.{dec_lt}
use lib.Dec.{eqb, ltb}
use borrow.Author.Tests.{lt-ltb, le-ltb}
use Rattle.bits.specs.Below.{every}
use Rattle.bits.specs.Bits.{bit_at}
use Rattle.bits.proofs.Below.{same_test, every-at, every-all}

-- of n bits from bit p of f on, for the blocks from block b on, of c blocks, those that are asked
pub mask-rest : (f : List ℕ) (p b c n s : ℕ) → s ≡ c - b
    → every (λ k. eqb (bit_at f (p + (s + k))) 0) (n - s) ≡ every (λ k. eqb (bit_at f (p + k)) 0 || ltb (b + k) c) n
mask-rest f p b c n s z = same_test (every rest (n - s)) (every test n) forth back
  where
    rest : ℕ → Bool
    rest k = eqb (bit_at f (p + (s + k))) 0

    test : ℕ → Bool
    test k = eqb (bit_at f (p + k)) 0 || ltb (b + k) c

    forth : every rest (n - s) ≡ true → every test n ≡ true
    forth e = every-all test n (λ j l. go j l (dec_lt (b + j) c))
      where
        go : (j : ℕ) → j < n → Dec (b + j < c) → test j ≡ true
        go j l (yes h) = rw (lt-ltb _ _ h) (or-true (eqb (bit_at f (p + j)) 0))
        go j l (no h) =
            let q : p + (s + (j - s)) ≡ p + j = omega arith in
            rw (rw q at (every-at rest (n - s) e (j - s) (omega arith)))

    back : every test n ≡ true → every rest (n - s) ≡ true
    back e = every-all rest (n - s) (λ j l.
        let h : c ≤ b + (s + j) = omega arith in
        rw (le-ltb _ _ h, or-false) at (every-at test n e (s + j) (omega arith)))

-- The check over the bits that stand in a room, put behind them. Assumes nothing.
use Prim.Native.Nat.{ℕ, ◌+◌, ◌*◌, ◌-◌, ◌≤◌}
use mathlib.Core.Path.{◌≡◌, refl, sym, ap, ◌∙◌}
use mathlib.Core.Bool.{Bool, true, false, cond}
use mathlib.Core.List.{List, ◌++◌}
use native.Mathlib.Omega.{arith}
use lib.Dec.{eqb}
use lib.ListN.{length, take}
use lib.Seq.{take-append-le, take_all}
use borrow.Author.Tests.{eqb-true}
use Rattle.std.specs.Prelude.{Some, None}
use Rattle.std.proofs.lemmas.Option.{none-some, same_Some}
use Rattle.bits.specs.Bits.{bits_from, bits_of}
use Rattle.bits.proofs.Bits.{bits-append}
use Rattle.bits.proofs.Digits.{Bits}
use Rattle.crc.specs.Crc.{crc_of}
use Rattle.crc.specs.Crc5.{crc5_of}
use Rattle.replies.specs.Replies.{checked}
use Rattle.replies.specs.Pack.{packed}
use Rattle.replies.proofs.Laws.{all_shown, length-packed}
use Rattle.fields.specs.Steps.{check_of, seal_bits, Goes}
use Rattle.fields.proofs.Behind.{length_from}

-- the first 17 of the bits that stand in a room
pub first-17 : (m : List ℕ) (n k : ℕ) → k ≡ 5 → 17 ≤ n → check_of k (bits_from m 0 n) ≡ Some (crc5_of (bits_from m 0 17))
first-17 m n k e h =
    let z : 17 + (n - 17) ≡ n = omega arith in
    let part : take 17 (bits_from m 0 n) ≡ bits_from m 0 17 = ap (λ (x : ℕ). take 17 (bits_from m 0 x)) (sym z) ∙ ap (take 17) (bits-append m 0 17 (n - 17)) ∙ take-append-le 17 (bits_from m 0 17) (bits_from m (0 + 17) (n - 17)) (omega (arith, length_from m 0 17)) ∙ take_all 17 (bits_from m 0 17) (omega (arith, length_from m 0 17)) in
    rw (e, part)

-- the bits that stand there
stands : (room xs first : List ℕ) (n : ℕ) → length xs ≡ n → Bits xs → room ≡ packed xs first → n ≤ 8 * length room → bits_from room 0 n ≡ xs
stands room xs first n l b e h =
    rw e (ap (bits_from (packed xs first) 0) (sym l) ∙ all_shown xs first b (omega (arith, l, h, ap length e, length-packed xs first)))

-- a check of so many bits is the number that stands behind
behind : (k sum : ℕ) (bs : List ℕ) → check_of k bs ≡ Some sum → bs ++ bits_of k sum ≡ seal_bits k bs
unfolding checked
behind k sum bs e = go (eqb k 16) (eqb k 5) refl refl e
  where
    go : (x y : Bool) → eqb k 16 ≡ x → eqb k 5 ≡ y → cond x (Some (crc_of bs)) (cond y (Some (crc5_of (take 17 bs))) None) ≡ Some sum
        → bs ++ bits_of k sum ≡ cond x (checked bs) (cond y (bs ++ bits_of 5 (crc5_of (take 17 bs))) bs)
    go true y p q e = rw (eqb-true k 16 p, same_Some _ _ e)
    go false true p q e = rw (eqb-true k 5 q, same_Some _ _ e)
    go false false p q e = absurd (none-some sum e)

pub seals : {room after : List ℕ} (n k sum : ℕ) → check_of k (bits_from room 0 n) ≡ Some sum → n ≤ 8 * length room → Goes room n (bits_of k sum) after
    → (xs first : List ℕ) → length xs ≡ n → Bits xs → room ≡ packed xs first → after ≡ packed (seal_bits k xs) first
seals {room} n k sum e h g xs first l b r =
    g xs first l r
    ∙ ap (λ (bs : List ℕ). packed bs first) (behind k sum xs (ap (check_of k) (sym (stands room xs first n l b r h)) ∙ e))

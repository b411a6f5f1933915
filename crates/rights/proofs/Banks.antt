-- Where the header has a bank, and where banks and Reads end. Assumes nothing.
use Prim.Native.Nat.{ℕ, zero, suc, ◌+◌, ◌≤◌}
use mathlib.Core.Path.{◌≡◌, refl}
use mathlib.Core.Bool.{Bool, true, false, cond}
use mathlib.Core.List.{List}
use native.Mathlib.Omega.{arith}
use lib.Dec.{eqb, ltb}
use borrow.Author.Tests.{le-ltb, ne_eqb}
use Rattle.image.specs.declared.Layout.{Layout}
use Rattle.image.specs.Layout.{section_at, layout_of, end}
use Rattle.image.specs.Content.{length_of, pc_word}
use Rattle.image.specs.Rules.{Header}
use Rattle.rights.specs.Rights.{bank_of, read_end}
use Rattle.rights.specs.Steps.{entry_of}

-- a bank as the header has it is the layout's
pub bank-read : (m : List ℕ) (b : ℕ) → section_at m (entry_of b) ≡ bank_of (layout_of m) b
unfolding layout_of
bank-read m zero = refl
bank-read m (suc zero) = refl
bank-read m (suc (suc zero)) = refl
bank-read m (suc (suc (suc b))) =
    let p : ltb (suc (suc (suc b))) 3 ≡ false = le-ltb (suc (suc (suc b))) 3 (omega arith) in
    let q : eqb (suc (suc (suc b))) 0 ≡ false = ne_eqb (suc (suc (suc b))) 0 (λ e. omega arith) in
    let r : eqb (suc (suc (suc b))) 1 ≡ false = ne_eqb (suc (suc (suc b))) 1 (λ e. omega arith) in
    let s : eqb (suc (suc (suc b))) 2 ≡ false = ne_eqb (suc (suc (suc b))) 2 (λ e. omega arith) in
    rw (p, q, r, s)

-- each bank ends before PERMA
pub bank-end : (y : Layout) (m : List ℕ) (b : ℕ) → Header y m → end (bank_of y b) ≤ y.perma.at
bank-end y m b h = go (eqb b 0) (eqb b 1) (eqb b 2)
  where
    go : (p q r : Bool) → end (cond p y.reserved (cond q y.epc (cond r y.tid y.user))) ≤ y.perma.at
    go true q r = omega arith
    go false true r = omega arith
    go false false true = omega arith
    go false false false = omega arith

-- a Read ends with its bank or before, where L + 2 is at most the EPC count
pub read-ends : (y : Layout) (m : List ℕ) (b p : ℕ) → length_of (pc_word y m) + 2 ≤ y.epc.words → read_end y m b p ≤ (bank_of y b).words
read-ends y m zero p l = omega arith
read-ends y m (suc zero) p l = go (ltb p (length_of (pc_word y m) + 2))
  where
    go : (t : Bool) → cond t (length_of (pc_word y m) + 2) y.epc.words ≤ y.epc.words
    go true = l
    go false = omega arith
read-ends y m (suc (suc b)) p l = rw (ne_eqb (suc (suc b)) 1 (λ e. omega arith)) (omega arith)

-- Runs of the register, in turns of one bit and of eight bytes. Assumes nothing.
use Prim.Native.Nat.{ℕ, suc, ◌+◌, ◌-◌, ◌*◌, ◌<◌, ◌≤◌}
use mathlib.Core.Path.{◌≡◌, sym, ap, ap₂, ◌∙◌}
use mathlib.Core.List.{List, ◌++◌}
use native.Mathlib.Omega.{arith}
use lib.ListN.{get_or}
use Rattle.bits.specs.Bits.{bits_from, bit_at, bits_of, field_at}
use Rattle.bits.specs.Words.{word_at}
use Rattle.bits.proofs.Bits.{bits-append, word-bits, byte-tail}
use Rattle.bits.proofs.Fields.{field-bits}
use Rattle.crc.specs.Crc.{run, shift}
use Rattle.crc.proofs.Linear.{of16, run_on}

pub run-append : (r : ℕ) (xs ys : List ℕ) → run r (xs ++ ys) ≡ run (run r xs) ys
run-append = run_on of16

-- a word and a byte are 24 bits
pub word_byte : (m : List ℕ) (n f : ℕ) {w r s : ℕ} → n ≡ 24 → get_or m 1 0 < 256 → w ≡ word_at m 0 → r ≡ run f (bits_of 16 w) → s ≡ run r (bits_of 8 (get_or m 2 0)) → s ≡ run f (bits_from m 0 n)
word_byte m n f {w} e known p q h =
    let l = bits_of 8 (get_or m 2 0) in
    let parts : bits_from m 0 (16 + 8) ≡ bits_of 16 w ++ l =
    bits-append m 0 16 8 ∙ ap₂ ◌++◌ (word-bits m 0 known ∙ ap (bits_of 16) (sym p)) (byte-tail m 2 8 16 (omega arith) (omega arith)) in
    h ∙ ap (λ (x : ℕ). run x l) q ∙ sym (run-append f (bits_of 16 w) l) ∙ ap (run f) (sym parts ∙ ap (bits_from m 0) (sym e))

-- a run over the first p bits goes on over those behind them, by eight bytes more for instance
module _ (m : List ℕ) (f : ℕ) {r : ℕ} where
  pub go_on : (p q : ℕ) → r ≡ run f (bits_from m 0 p) → run r (bits_from m p q) ≡ run f (bits_from m 0 (p + q))
  go_on p q e =
      let z : 0 + p ≡ p = omega arith in
      ap (λ (x : ℕ). run x (bits_from m p q)) e
      ∙ sym (ap (run f) (bits-append m 0 p q ∙ ap (λ (x : ℕ). bits_from m 0 p ++ bits_from m x q) z) ∙ run-append f (bits_from m 0 p) (bits_from m p q))

  pub eight-more : (k : ℕ) {s v : ℕ} → v ≡ field_at m (8 * (8 * k)) 64 → s ≡ run r (bits_of 64 v) → r ≡ run f (bits_from m 0 (64 * k)) → s ≡ run f (bits_from m 0 (64 * (k + 1)))
  eight-more k q h e =
      let a : 64 * k + 64 ≡ 64 * (k + 1) = omega arith in
      let b : 8 * (8 * k) ≡ 64 * k = omega arith in
      h
      ∙ ap (run r) (ap (bits_of 64) q ∙ field-bits m (8 * (8 * k)) 64 ∙ ap (λ (x : ℕ). bits_from m x 64) b)
      ∙ go_on (64 * k) 64 e
      ∙ ap (λ (x : ℕ). run f (bits_from m 0 x)) a

-- what an invariant over the bits that are left gives after one bit more, and at the end
module _ (m : List ℕ) (n r : ℕ) {w : ℕ} where
  pub turn : (i : ℕ) {s b : ℕ} → i < n → s ≡ shift r b → b ≡ bit_at m i → run r (bits_from m i (n - i)) ≡ w
      → run s (bits_from m (i + 1) (n - (i + 1))) ≡ w
  turn i h p q e =
      let z : n - i ≡ suc (n - (i + 1)) = omega arith in
      rw (p, q) (rw z at e)

  pub done : (i : ℕ) → n ≤ i → run r (bits_from m i (n - i)) ≡ w → r ≡ w
  done i h e = let z : n - i ≡ 0 = omega arith in rw z at e

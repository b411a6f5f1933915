-- Laws of words: what a store changes, and what it leaves. Assumes nothing.
use Prim.Native.Nat.{ℕ, zero, suc, ◌+◌, ◌*◌, ◌/◌, ◌<◌, ◌≤◌}
use mathlib.Core.Path.{◌≡◌}
use mathlib.Core.Logic.{◌≢◌}
use mathlib.Core.Bool.{true}
use mathlib.Core.List.{List, [], ◌∷◌}
use native.Mathlib.Nat.{div-add-mod'}
use native.Mathlib.Omega.{arith}
use lib.Dec.{ltb, lit<}
use lib.Pow.{are_bytes}
use lib.ListN.{length, set, take, drop, length-set}
use lib.Seq.{get_or-set_same, get_or-set_other, drop-set-add, take-set-le}
use borrow.Author.Tests.{ltb-true}
use Rattle.bits.specs.Words.{Bytes, word_at, with_word}
use Rattle.bits.proofs.Below.{and_left, and_right}

-- a list of bytes, computed
pub are-bytes : (m : List ℕ) → are_bytes m ≡ true → Bytes m
are-bytes [] e j = lit< tt
are-bytes (b ∷ m) e zero = ltb-true b 256 (and_left (ltb b 256) (are_bytes m) e)
are-bytes (b ∷ m) e (suc j) = are-bytes m (and_right (ltb b 256) (are_bytes m) e) j

pub length-with : (m : List ℕ) (i v : ℕ) → length (with_word m i v) ≡ length m
unfolding with_word
length-with m i v = simp length-set

pub word-with-same : (m : List ℕ) (i v : ℕ) → 2 * i + 1 < length m → word_at (with_word m i v) i ≡ v
unfolding word_at with_word
word-with-same m i v h =
    let ne : 2 * i ≢ 2 * i + 1 = omega arith in
    let h₀ : 2 * i < length m = omega arith in
    let h₁ : 2 * i + 1 < length (set m (2 * i) (v / 256)) = rw length-set h in
    simp (get_or-set_other, get_or-set_same) (div-add-mod' v 256)

pub word-with-other : (m : List ℕ) (i v j : ℕ) → j ≢ i → word_at (with_word m i v) j ≡ word_at m j
unfolding word_at with_word
word-with-other m i v j h =
    let a : 2 * j ≢ 2 * i + 1 = omega arith in
    let b : 2 * j + 1 ≢ 2 * i + 1 = omega arith in
    let c : 2 * j ≢ 2 * i = omega arith in
    let d : 2 * j + 1 ≢ 2 * i = omega arith in
    simp get_or-set_other

-- a store into the part from word w on is the store into the whole, and leaves what stands before it
pub drop-with : (m : List ℕ) (w i v : ℕ) → drop (2 * w) (with_word m (w + i) v) ≡ with_word (drop (2 * w) m) i v
unfolding with_word
drop-with m w i v =
    let a : 2 * (w + i) ≡ 2 * w + 2 * i = omega arith in
    let b : 2 * w + 2 * i + 1 ≡ 2 * w + (2 * i + 1) = omega arith in
    rw (a, b, drop-set-add, drop-set-add)

pub take-with : (m : List ℕ) (w i v : ℕ) → take (2 * w) (with_word m (w + i) v) ≡ take (2 * w) m
unfolding with_word
take-with m w i v =
    let a : 2 * w ≤ 2 * (w + i) = omega arith in
    let b : 2 * w ≤ 2 * (w + i) + 1 = omega arith in
    simp take-set-le

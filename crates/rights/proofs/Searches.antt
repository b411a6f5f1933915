-- Laws of the search for the first locked word. Assumes nothing.
use Prim.Native.Nat.{min, ℕ, zero, suc, ◌+◌, ◌-◌, ◌*◌, ◌/◌, ◌≤◌, ◌<◌}
use mathlib.Core.Path.{◌≡◌, refl, sym, ap, ap₂, ◌∙◌}
use mathlib.Core.Bool.{Bool, true, false, cond, not, not-not, ◌&&◌}
use mathlib.Core.List.{List}
use native.Mathlib.Nat.{add-zero, add-suc, suc-add, div-zero, div-mul-le_self, lt-div-mul-add, div-eq_of_lt-le, mul-div_cancel}
use native.Mathlib.Numerals.{add-one}
use native.Mathlib.Omega.{arith}
use native.Mathlib.Decide.{dec_lt}
use lib.Dec.{eqb}
use Rattle.std.proofs.lemmas.Nat.{le-div}
use Rattle.bits.specs.Below.{every}
use Rattle.image.specs.declared.Layout.{Layout}
use Rattle.image.specs.Content.{permalock}
use Rattle.std.specs.Prelude.{Option, Some, None, is_some, is_none}
use Rattle.rights.specs.Rights.{block_open}
use Rattle.rights.specs.Steps.{first_locked}
use Rattle.rights.proofs.Spans.{every_front}

-- nothing is found where each word's block is open
pub nothing-locked : (y : Layout) (m : List ℕ) (i n : ℕ) → is_none (first_locked y m i n) ≡ every (λ j. block_open y m (i + j)) n
nothing-locked y m i zero = refl
nothing-locked y m i (suc n) =
    rest (block_open y m i) (nothing-locked y m (i + 1) n)
    ∙ sym (every_front (λ j. block_open y m (i + j)) n ∙ simp (add-zero, add-suc, add-one, suc-add))
  where
    rest : (b : Bool) {r : Bool} → is_none (first_locked y m (i + 1) n) ≡ r → is_none (cond b (first_locked y m (i + 1) n) (Some i)) ≡ (b && r)
    rest true e = e
    rest false e = refl

-- what `is_none` answers
pub none-told : (o : Option ℕ) (b : Bool) → is_some o ≡ not b → b ≡ is_none o
none-told None b h = sym (not-not b) ∙ ap not (sym h)
none-told (Some x) b h = sym (not-not b) ∙ ap not (sym h)

-- not locked is open
pub every-twice : (t : ℕ → Bool) (n : ℕ) → every (λ k. not (not (t k))) n ≡ every t n
every-twice t zero = refl
every-twice t (suc n) = ap₂ ◌&&◌ (every-twice t n) (not-not (t n))

-- from word i on, the rest of its block is as open as it
pub block-alike : (y : Layout) (m : List ℕ) (i k : ℕ) → 0 < y.block → i ≤ k → k < (i / y.block + 1) * y.block → block_open y m k ≡ block_open y m i
block-alike y m i k w l s =
    ap (λ (x : ℕ). eqb (permalock y m x) 0) (div-eq_of_lt-le {k = i / y.block} y.block {m = k} (omega (arith, div-mul-le_self i y.block)) (omega (arith, s)))

-- the bit v of word i's block
pub same_block : (y : Layout) (m : List ℕ) (i : ℕ) {b v : ℕ} → v ≡ permalock y m b → b ≡ i / y.block → block_open y m i ≡ eqb v 0
same_block y m i p e = rw (p, e)

pub found-locked : (y : Layout) (m : List ℕ) (i stop : ℕ) → i < stop → block_open y m i ≡ false → first_locked y m i (stop - i) ≡ Some i
found-locked y m i stop h o = let e : stop - i ≡ suc (stop - (i + 1)) = omega arith in rw (e, o)

-- how many words a block of size n has, where the search ends before word stop: without a block size all are in block 0
pub record Wide (n stop w : ℕ) : Type 0 where
  pub sized : 0 < n → w ≡ n
  pub unsized : n ≡ 0 → w ≡ stop

-- word e, the first behind it, is the first of block b + 1
pub block-next : (n stop w i b e : ℕ) → Wide n stop w → i < stop → b ≡ i / n → e ≡ (b + 1) * w → e < stop → b + 1 ≡ e / n
block-next zero stop w i b e v h q p l =
    let z : w ≡ stop = v.unsized refl in
    let t : b ≡ 0 = rw (div-zero i) at q in
    let u : e ≡ stop = rw (p, t, z) (omega arith) in
    absurd (omega arith)
block-next (suc n) stop w i b e v h q p l =
    let z : w ≡ suc n = v.sized (omega arith) in
    let t : e ≡ (b + 1) * suc n = rw z at p in
    rw t (sym (mul-div_cancel (b + 1) (omega arith)))

-- an open word is passed over
pub word-passed : (y : Layout) (m : List ℕ) (i stop : ℕ) → i < stop → block_open y m i ≡ true → first_locked y m (i + 1) (stop - (i + 1)) ≡ first_locked y m i (stop - i)
word-passed y m i stop h o = let e : stop - i ≡ suc (stop - (i + 1)) = omega arith in rw (e, o)

-- word i of block b lies before the first word of the next
pub block-reaches : (n stop w i b : ℕ) → Wide n stop w → i < stop → b ≡ i / n → i < (b + 1) * w
block-reaches zero stop w i b v h q = rw (v.unsized refl, q, div-zero i) (omega arith)
block-reaches (suc n) stop w i b v h q = rw (v.sized (omega arith), q) (omega (arith, lt-div-mul-add {a = i} {b = suc n} (omega arith)))

div-least : (n a b : ℕ) → a ≤ b → a / n ≤ b / n
div-least zero a b h = rw (div-zero a, div-zero b) (omega arith)
div-least (suc n) a b h = le-div (a / suc n) b (suc n) (omega arith) (omega (arith, div-mul-le_self a (suc n)))

-- the word that stands in a block behind word stop's is not before it
pub search-ends : (n next stop b : ℕ) → next ≤ stop → (next < stop → b ≡ next / n) → stop / n + 1 ≤ b → next ≡ stop
search-ends n next stop b h here l = go (dec_lt next stop)
  where
    go : Dec (next < stop) → next ≡ stop
    go (yes s) =
        let e : b ≡ next / n = here s in
        let f : next / n ≤ stop / n = div-least n next stop (omega arith) in
        absurd (omega arith)
    go (no s) = omega arith

-- word i is the first of block b that is looked at, if one is left, and e the first behind those of block b
module _ (n stop w i b e : ℕ) (v : Wide n stop w) (here : i < stop → b ≡ i / n) (later : stop ≤ i → stop ≤ (b + 1) * w) (q : e ≡ min stop ((b + 1) * w)) where
  pub block-then : e < stop → b + 1 ≡ e / n
  block-then l = go (dec_lt i stop)
    where
      go : Dec (i < stop) → b + 1 ≡ e / n
      go (yes s) = block-next n stop w i b e v s (here s) (omega (arith, q)) l
      go (no s) = let f : stop ≤ (b + 1) * w = later (omega arith) in absurd (omega (arith, q))

  pub block-covers : i ≤ stop → i ≤ e
  block-covers h = go (dec_lt i stop)
    where
      go : Dec (i < stop) → i ≤ e
      go (yes s) = let f : i < (b + 1) * w = block-reaches n stop w i b v s (here s) in omega (arith, q)
      go (no s) = let f : stop ≤ (b + 1) * w = later (omega arith) in omega (arith, q)

-- A change and a power-up from their parts. Assumes nothing.
use Prim.Native.Nat.{ℕ, zero, suc, ◌+◌, ◌*◌, ◌-◌, ◌≤◌, ◌<◌}
use mathlib.Core.Path.{◌≡◌, refl, sym, ap, ap₂, ◌∙◌, subst}
use mathlib.Core.List.{List, [], ◌∷◌, ◌++◌}
use mathlib.Core.Bool.{Bool, true, false, cond}
use native.Mathlib.Omega.{arith}
use native.Mathlib.Decide.{dec_le}
use lib.Dec.{eqb}
use borrow.Author.Tests.{ne_eqb}
use lib.ListN.{length, get_or, take, drop, length-append, length-drop}
use lib.Seq.{take_all, take-append-le}
use borrow.Rule.Slice.PartMut.{put_mid}
use Rattle.bits.specs.Words.{word_at, Store, store, after}
use Rattle.bits.specs.Bits.{bits_from, words_bits}
use Rattle.bits.proofs.Bits.{bits-drop, words-bits}
use Rattle.crc.specs.Crc.{crc_of}
use Rattle.bits.proofs.Stores.{Under, all_append, below_all, after-append}
use Rattle.bits.proofs.Words.{word-with-other}
use Rattle.image.specs.declared.Layout.{Layout}
use Rattle.image.specs.Content.{count_in, pair_at, pending, pc_word, length_of}
use Rattle.image.specs.Rules.{Good}
use Rattle.image.proofs.Fits.{go-below}
use Rattle.bits.specs.Below.{below}
use Rattle.bits.proofs.Below.{length-below}
use Rattle.stores.specs.Stores.{staged, finished, change_stores, epc_crc, settling, power_stores}
use Rattle.stores.specs.Steps.{Ran, Made, Announced, announced, pair_in, pairs_at, word_from, chosen_at, chosen}
use Rattle.stores.proofs.Runs.{shifted, shifted-append, shifted-staged, length-staged, ran-tail, ran_append, ran_out, ran-whole, ran-made}
use Rattle.stores.proofs.Pairs.{announced-pairs}

-- the words of a change lie where it was told
pub chosen-under : (o : ℕ) (d : List ℕ) (p : ℕ) (z : List ℕ) (n w : ℕ) → o + n ≤ w → Under w (chosen o d p z n)
chosen-under o d p z zero w h = tt
chosen-under o d p z (suc n) w h =
    all_append (λ s. s.at < w) (chosen o d p z n) (chosen_at o d p z n) (chosen-under o d p z n w (omega arith)) (go (eqb (get_or z n 0) 0))
  where
    go : (b : Bool) → Under w (cond b (word_from o d p n ∷ []) [])
    go true = (omega arith, tt)
    go false = tt

-- the pairs and their count, in the whole image
abbrev head : ℕ → List Store → List Store
head w xs = staged (w + 1) xs ++ (store w (length xs) ∷ [])

-- the image whose part from word w on is t
abbrev whole : ℕ → List ℕ → List ℕ → List ℕ
whole w m t = put_mid (2 * w) (length m - 2 * w) m t

shifted-announced : (w : ℕ) (xs : List Store) → 0 < length xs → shifted w (announced xs) ≡ head w xs
shifted-announced w [] h = absurd (omega arith)
shifted-announced w (x ∷ xs) h =
    let e : w + 0 ≡ w = omega arith in
    shifted-append w (staged 1 (x ∷ xs)) (store 0 (length (x ∷ xs)) ∷ [])
    ∙ ap₂ ◌++◌ (shifted-staged w 1 (x ∷ xs)) (ap (λ (i : ℕ). store i (length (x ∷ xs)) ∷ []) e)

-- one word: pair and count in the part from WORK on, then the word and the count 0
pub change-one : (w : ℕ) (m : List ℕ) (x : Store) {s l k r : ℕ} {t n o : List ℕ} → 2 * w ≤ length m
    → Ran (announced (x ∷ [])) s (take (length m - 2 * w) (drop (2 * w) m)) t l → Ran (x ∷ []) l (whole w m t) n k → Ran (store w 0 ∷ []) k n o r
    → Made (change_stores w (x ∷ [])) s m o (s - r)
change-one w m x {s} {l} {t = t} size a b c =
    ran-made
    (ran_append (subst (λ (xs : List Store). Ran xs s m (whole w m t) l) (shifted-announced w (x ∷ []) (omega arith)) (ran-tail w m size a)) (ran_append b c))

-- pairs and count in the part from WORK on, and what follows in the whole
module _ (w : ℕ) (m : List ℕ) (size : 2 * w ≤ length m) {xs : List Store} {s : ℕ} {t : List ℕ} {l k : ℕ}
    (a : Announced xs s (take (length m - 2 * w) (drop (2 * w) m)) t l k) where
  ran-head : 0 < length xs → Ran (head w xs) s m (whole w m t) l
  ran-head h = subst (λ (ys : List Store). Ran ys s m (whole w m t) l) (shifted-announced w xs h) (ran-tail w m size a.ran)

  pub change-none : k ≡ 0 → Made (change_stores w xs) s m (whole w m t) 0
  change-none z = go xs a.pairs (ran-tail w m size a.ran)
    where
      go : (xs : List Store) → k ≡ length xs → Ran (shifted w (announced xs)) s m (whole w m t) l
          → Made (change_stores w xs) s m (whole w m t) 0
      go [] q p = record { image = p.image; made = omega arith }
      go (x ∷ xs) q p = absurd (omega arith)

  stores-split : 0 < length xs → change_stores w xs ≡ head w xs ++ finished w xs
  stores-split h = go xs h
    where
      go : (xs : List Store) → 0 < length xs → change_stores w xs ≡ head w xs ++ finished w xs
      go [] h = absurd (omega arith)
      go (x ∷ xs) h = refl

  pub change-cut : 0 < length xs → l ≡ 0 → Made (change_stores w xs) s m (whole w m t) s
  change-cut h z =
      let p = ran_append (rw z at (ran-head h)) (ran_out (finished w xs) (whole w m t)) in
      let e : s - 0 ≡ s = omega arith in
      rw (stores-split h) (rw e at (ran-made p))

  -- with power left the pairs stand in WORK
  pub change-pairs : 0 < length xs → (l ≡ 0 → ⊥) → 2 * (w + 1 + 2 * length xs) ≤ length m → pairs_at w (whole w m t) (length xs) ≡ xs
  change-pairs h n q =
      let p = ran-head h in
      let e : length (head w xs) ≡ 2 * length xs + 1 = simp (length-append, length-staged) in
      rw (ran-whole p (omega (arith, p.rest))) (announced-pairs m w (length xs) xs q)

  pub change-whole : {n : List ℕ} {r : ℕ} → 0 < length xs → (l ≡ 0 → ⊥) → 2 * (w + 1 + 2 * length xs) ≤ length m
      → Ran (finished w (pairs_at w (whole w m t) (length xs))) l (whole w m t) n r
      → Made (change_stores w xs) s m n (s - r)
  change-whole h n q p = rw (stores-split h) (ran-made (ran_append (ran-head h) (rw (change-pairs h n q) at p)))

  -- and their words lie below it
  pub change-under : 0 < length xs → (l ≡ 0 → ⊥) → 2 * (w + 1 + 2 * length xs) ≤ length m → Under w xs
      → (j : ℕ) → j < length xs → word_at (whole w m t) (w + 1 + 2 * j) < w
  change-under h n q u j b =
      let n₁ = whole w m t in
      below_all (λ s. s.at < w) (pair_in w n₁) (length xs) (subst (λ (ys : List Store). Under w ys) (sym (change-pairs h n q)) u) j b

-- a last store whose value is read off the image that the stores before it made; a cut before it leaves the value without use
pub ran_then : (xs : List Store) (i : ℕ) (v : List ℕ → ℕ) (k : ℕ) {s l : ℕ} {m n o : List ℕ} → Ran xs s m n k → Ran (store i (v n) ∷ []) k n o l
    → Ran (xs ++ (store i (v (after m xs)) ∷ [])) s m o l
ran_then xs i v zero p q = ran_append p (record { image = q.image; rest = q.rest })
ran_then xs i v (suc k) {s} {l} {m} {n} p q =
    let h : length xs ≤ s = omega (arith, p.rest) in
    let e : n ≡ after m xs = ran-whole p h in
    ran_append p (rw (← e) q)

-- the first k of a list of words and the count 0: some words, or all and the count
pub take-finished : (w : ℕ) (xs : List Store) (k : ℕ) → k ≤ length xs → take k (finished w xs) ≡ take k xs
take-finished w [] k h = refl
take-finished w (x ∷ xs) k h = take-append-le k (x ∷ xs) (store w 0 ∷ []) h

pub length-finished : (w : ℕ) (xs : List Store) → (length xs ≤ length (finished w xs)) × (length (finished w xs) ≤ length xs + 1)
length-finished w [] = omega arith
length-finished w (x ∷ xs) = omega (arith, length-append xs (store w 0 ∷ []))

pub finished-other : (w : ℕ) (m : List ℕ) (xs : List Store) (i : ℕ) → i < w → word_at (after m (finished w xs)) i ≡ word_at (after m xs) i
finished-other w m [] i h = refl
finished-other w m (x ∷ xs) i h = rw after-append (word-with-other (after m (x ∷ xs)) w 0 i (omega arith))

-- at whichever store a power-up stands before its CRC, the PC is one that may stand
pub settling-pc : (y : Layout) (m : List ℕ) → Good y m → (k : ℕ) → length_of (pc_word y (after m (take k (settling y m)))) + 2 ≤ y.epc.words
settling-pc y m g k = go (dec_le k (length (pending y m)))
  where
    go : Dec (k ≤ length (pending y m)) → length_of (pc_word y (after m (take k (settling y m)))) + 2 ≤ y.epc.words
    go (yes h) = rw (take-finished y.work.at (pending y m) k h) (g.content k).pc
    go (no h) =
        let e : take k (settling y m) ≡ settling y m = take_all k (settling y m) (omega (arith, length-finished y.work.at (pending y m))) in
        let f : take k (pending y m) ≡ pending y m = take_all k (pending y m) (omega arith) in
        let hd = g.header in
        let o : pc_word y (after m (settling y m)) ≡ pc_word y (after m (pending y m)) =
        finished-other y.work.at m (pending y m) (y.epc.at + 1) (omega arith) in
        rw (e, o) (rw f at (g.content k).pc)

pub pending-under : (y : Layout) (m : List ℕ) → Good y m → (j : ℕ) → j < count_in y m → (pair_at y m j).at < y.work.at
pending-under y m g j l = (go-below y m g.header (pair_at y m j).at ((g.content 0).places j l)).1

-- the CRC-16 of words, from the part of the bytes that begins with them
pub part-crc : (m : List ℕ) (i k : ℕ) → ((j : ℕ) → get_or m j 0 < 256) → crc_of (bits_from (take (length m - 2 * i) (drop (2 * i) m)) 0 (16 * k)) ≡ crc_of (words_bits m i k)
part-crc m i k h =
    let a : length (drop (2 * i) m) ≤ length m - 2 * i = simp length-drop (omega arith) in
    let z : 8 * (2 * i) + 0 ≡ 16 * i = omega arith in
    ap crc_of
    (ap (λ (l : List ℕ). bits_from l 0 (16 * k)) (take_all (length m - 2 * i) (drop (2 * i) m) a)
    ∙ bits-drop m (2 * i) 0 (16 * k)
    ∙ ap (λ (x : ℕ). bits_from m x (16 * k)) z
    ∙ words-bits m i k h)

-- how many stores a power-up needs
pub power-idle : (y : Layout) (m : List ℕ) → count_in y m ≡ 0 → length (power_stores y m) ≡ 1
unfolding power_stores
power-idle y m z = ap (λ (c : ℕ). length (finished y.work.at (below (pair_at y m) c) ++ (store y.epc.at (epc_crc y (after m (finished y.work.at (below (pair_at y m) c)))) ∷ []))) z

length_some : (w : ℕ) (xs : List Store) → (length xs ≡ 0 → ⊥) → length (finished w xs) ≡ length xs + 1
length_some w [] h = absurd (h refl)
length_some w (x ∷ xs) h = simp length-append

pub power-some : (y : Layout) (m : List ℕ) → (count_in y m ≡ 0 → ⊥) → length (power_stores y m) ≡ count_in y m + 2
unfolding power_stores
power-some y m h =
    let n : length (pending y m) ≡ count_in y m = length-below (pair_at y m) (count_in y m) in
    let k : length (settling y m) ≡ length (pending y m) + 1 = length_some y.work.at (pending y m) (λ e. h (sym n ∙ e)) in
    simp length-append (omega (arith, n, k))

-- how many stores a change needs
pub change-needs : (w : ℕ) (ss : List Store) → length (change_stores w ss) ≡ cond (eqb (length ss) 0) 0 (3 * length ss + 2)
change-needs w [] = refl
change-needs w (x ∷ xs) =
    let n : length (x ∷ xs) ≡ 0 → ⊥ = λ q. omega arith in
    let e : length (finished w (x ∷ xs)) ≡ length (x ∷ xs) + 1 = length_some w (x ∷ xs) n in
    simp (length-append, length-staged) (omega (arith, e)) ∙ sym (ap (λ (b : Bool). cond b 0 (3 * length (x ∷ xs) + 2)) (ne_eqb (length (x ∷ xs)) 0 n))

-- The content rules as rules of single words: the check's steps are Content's rules. Assumes nothing.
use Prim.Native.Nat.{ℕ, ◌+◌, ◌-◌, ◌*◌, ◌/◌, ◌%◌, ◌^◌, ◌≤◌, ◌<◌}
use mathlib.Core.Path.{◌≡◌, refl, sym, ap₂, subst}
use mathlib.Core.Logic.{◌⊎◌, inl, inr, ⊎_elim}
use mathlib.Core.Bool.{true, ◌&&◌, or-true}
use mathlib.Core.List.{List}
use native.Mathlib.Nat.{mod-one}
use native.Mathlib.Omega.{arith}
use native.Mathlib.Decide.{dec_lt}
use lib.Dec.{leb, ltb}
use lib.ListN.{take}
use borrow.Author.Tests.{ltb-true, leb-true, eqb-true, lt-ltb, le-leb, eq-eqb, ne_eqb}
use Rattle.bits.specs.Words.{word_at, Store, store, after}
use Rattle.bits.proofs.Below.{and_left, and_right, and_both, or_cases, cond-test, same_test, every-at, every-all, all-each, each_all}
use Rattle.bits.proofs.Bits.{low-zero, zero-low}
use Rattle.bits.proofs.Stores.{Under, Fine, Fits, all-below, below_all, all_take, under-avoids, after-avoids, after-fine, fine-fits}
use Rattle.image.specs.declared.Section.{Section}
use Rattle.image.specs.declared.Layout.{Layout}
use Rattle.image.specs.Layout.{end, blocks_in, pairs_in}
use Rattle.image.specs.Content.{killed_word, count_in, pair_at, pending, inside, may_go, content_good}
use Rattle.image.specs.Rules.{Header, Content}
use Rattle.image.specs.Steps.{spare_in, may_stand, between, may_take, last_in, word_rules, pair_fits, content_steps, content_fits}
use Rattle.image.proofs.Rules.{content-both}

-- v may stand at word i, as a fact
abbrev pub Ok : Layout → ℕ → ℕ → Type 0
Ok y i v = may_stand y i v ≡ true

pub ok-if : (y : Layout) (i v : ℕ) → (i ≡ y.status.at → v < 1024) → (i ≡ y.status.at + 1 → v < 2) → (i ≡ y.epc.at + 1 → v / 2048 + 2 ≤ y.epc.words)
    → (i + 1 ≡ end y.perma → v % 2 ^ spare_in y ≡ 0) → Ok y i v
ok-if y i v lock killed pc last =
    cond-test _ _ _ _ (λ q. lt-ltb v 1024 (lock q))
    (λ n. cond-test _ _ _ _ (λ q. lt-ltb v 2 (killed q))
    (λ n. cond-test _ _ _ _ (λ q. le-leb _ _ (pc q)) (λ n. cond-test _ _ _ _ (λ q. eq-eqb _ _ (last q)) (λ n. refl))))

-- spare bit t of the last of w PERMA words, of b blocks, belongs to block 16 * (w - 1) + (15 - t), which doesn't exist
module _ (b w t : ℕ) (size : w ≡ (b + 15) / 16) (spare : t < (16 - b % 16) % 16) where
  pub spare-some : 0 < w
  spare-some = omega arith

  pub spare-least : b ≤ 16 * (w - 1) + (15 - t)
  spare-least = omega arith

  pub spare-most : 16 * (w - 1) + (15 - t) < 16 * w
  spare-most = omega arith

  pub spare-word : (16 * (w - 1) + (15 - t)) / 16 ≡ w - 1
  spare-word = omega arith

  pub spare-bit : 15 - (16 * (w - 1) + (15 - t)) % 16 ≡ t
  spare-bit = omega arith

-- and a block i that doesn't exist has such a bit
module _ (b w i : ℕ) (size : w ≡ (b + 15) / 16) (least : b ≤ i) (most : i < 16 * w) where
  pub block-word : i / 16 ≡ w - 1
  block-word = omega arith

  pub block-bit : 15 - i % 16 < (16 - b % 16) % 16
  block-bit = omega arith

module _ (y : Layout) (h : List ℕ) (g : Header y h) where
  size : y.perma.words ≡ (blocks_in y + 15) / 16
  size = omega (arith, g.perma.least, g.perma.most)

  at-lock : (v : ℕ) → Ok y y.status.at v → v < 1024
  at-lock v e = ltb-true v 1024 (simp (eq-eqb y.status.at y.status.at refl) at e)

  at-killed : (v : ℕ) → Ok y (y.status.at + 1) v → v < 2
  at-killed v e =
      let n : y.status.at + 1 ≡ y.status.at → ⊥ = omega arith in
      ltb-true v 2 (simp (ne_eqb _ _ n, eq-eqb (y.status.at + 1) (y.status.at + 1) refl) at e)

  pub at-pc : (v : ℕ) → Ok y (y.epc.at + 1) v → v / 2048 + 2 ≤ y.epc.words
  at-pc v e =
      let n : y.epc.at + 1 ≡ y.status.at → ⊥ = omega arith in
      let o : y.epc.at + 1 ≡ y.status.at + 1 → ⊥ = omega arith in
      leb-true _ _ (simp (ne_eqb _ _ n, ne_eqb _ _ o, eq-eqb (y.epc.at + 1) (y.epc.at + 1) refl) at e)

  at_last : (v : ℕ) → Ok y (last_in y) v → v % 2 ^ spare_in y ≡ 0
  at_last v e = go (dec_lt 0 y.perma.words)
    where
      go : Dec (0 < y.perma.words) → v % 2 ^ spare_in y ≡ 0
      go (yes l) =
          let n : last_in y ≡ y.status.at → ⊥ = omega arith in
          let o : last_in y ≡ y.status.at + 1 → ⊥ = omega arith in
          let p : last_in y ≡ y.epc.at + 1 → ⊥ = omega arith in
          let q : last_in y + 1 ≡ end y.perma = omega arith in
          eqb-true _ _ (simp (ne_eqb _ _ n, ne_eqb _ _ o, ne_eqb _ _ p, eq-eqb _ _ q) at e)
      go (no l) = let z : spare_in y ≡ 0 = omega (arith, size) in rw z (mod-one v)

  -- the rules of an image, word by word
  pub content-fine : (m : List ℕ) → Content y m → Fine y.work.at (Ok y) m
  content-fine m c i l = ok-if y i (word_at m i) (λ q. rw q c.lock) (λ q. rw q (omega (arith, c.killed))) (λ q. rw q c.pc) (λ q. zero-low (word_at m i) (spare_in y) (bit q))
    where
      bit : i + 1 ≡ end y.perma → (t : ℕ) → t < spare_in y → word_at m i / 2 ^ t % 2 ≡ 0
      bit q t s =
          let w = y.perma.words in
          let z : y.perma.at + (w - 1) ≡ i = omega (arith, spare-some (blocks_in y) w t size s) in
          rw (spare-word (blocks_in y) w t size s, spare-bit (blocks_in y) w t size s, z) at
          (c.spare (16 * (w - 1) + (15 - t)) (spare-least (blocks_in y) w t size s) (spare-most (blocks_in y) w t size s))

  pub fine-content : (m : List ℕ) → Fine y.work.at (Ok y) m → count_in y m ≤ pairs_in y → ((j : ℕ) → j < count_in y m → may_go y (pair_at y m j).at ≡ true)
      → Content y m
  fine-content m f n p =
      record {
        lock = at-lock _ (f y.status.at (omega arith));
        killed = omega (arith, at-killed _ (f (y.status.at + 1) (omega arith)));
        pc = at-pc _ (f (y.epc.at + 1) (omega arith));
        spare = λ i a b.
            let w = y.perma.words in
            let q : last_in y ≡ y.perma.at + (w - 1) = omega (arith, a, b) in
            rw (block-word (blocks_in y) w i size a b, ← q)
            (low-zero (word_at m (last_in y)) (spare_in y) (at_last _ (f (last_in y) (omega arith))) (15 - i % 16) (block-bit (blocks_in y) w i size a b));
        count = n;
        places = p;
      }

  -- where a pending value may go: in one of five sections, or outside header, TID and WORK
  inside-fact : (s : Section) (o : ℕ) → inside s o ≡ true → (s.at ≤ o) × (o < end s)
  inside-fact s o e = (leb-true _ _ (and_left (leb s.at o) (ltb o (end s)) e), ltb-true _ _ (and_right (leb s.at o) (ltb o (end s)) e))

  inside-test : (s : Section) (o : ℕ) → s.at ≤ o → o < end s → inside s o ≡ true
  inside-test s o a b = and_both (leb s.at o) (ltb o (end s)) (le-leb _ _ a) (lt-ltb _ _ b)

  Two : ℕ → Type 0
  Two o = ((16 ≤ o) × (o < y.tid.at)) ⊎ ((y.user.at ≤ o) × (o < y.work.at))

  go-two : (o : ℕ) → may_go y o ≡ true → Two o
  unfolding Two
  go-two o e =
      ⊎_elim
      (λ e. ⊎_elim
      (λ e. ⊎_elim
      (λ e. ⊎_elim
      (λ e. let f = inside-fact y.status o e in inl (omega arith, omega arith))
      (λ e. let f = inside-fact y.reserved o e in inl (omega arith, omega arith)) (or_cases _ _ e))
      (λ e. let f = inside-fact y.epc o e in inl (omega arith, omega arith)) (or_cases _ _ e))
      (λ e. let f = inside-fact y.user o e in inr (omega arith, omega arith)) (or_cases _ _ e))
      (λ e. let f = inside-fact y.perma o e in inr (omega arith, omega arith)) (or_cases _ _ e)

  two-go : (o : ℕ) → Two o → may_go y o ≡ true
  unfolding Two
  two-go o (inl h) = low (dec_lt o y.reserved.at) (dec_lt o y.epc.at)
    where
      low : Dec (o < y.reserved.at) → Dec (o < y.epc.at) → may_go y o ≡ true
      low (yes a) b = simp (inside-test y.status o (omega arith) (omega arith))
      low (no a) (yes b) = simp (inside-test y.reserved o (omega arith) (omega arith), or-true)
      low (no a) (no b) = simp (inside-test y.epc o (omega arith) (omega arith), or-true)
  two-go o (inr h) = high (dec_lt o y.perma.at)
    where
      high : Dec (o < y.perma.at) → may_go y o ≡ true
      high (yes a) = simp (inside-test y.user o (omega arith) (omega arith), or-true)
      high (no a) = simp (inside-test y.perma o (omega arith) (omega arith), or-true)

  pub go-low : (o : ℕ) → 16 ≤ o → o < y.tid.at → may_go y o ≡ true
  unfolding Two
  go-low o a b = two-go o (inl (a, b))

  pub go-high : (o : ℕ) → y.user.at ≤ o → o < y.work.at → may_go y o ≡ true
  unfolding Two
  go-high o a b = two-go o (inr (a, b))

  between-fact : (a o b : ℕ) → between a o b ≡ true → (a ≤ o) × (o < b)
  between-fact a o b e = (leb-true _ _ (and_left (leb a o) (ltb o b) e), ltb-true _ _ (and_right (leb a o) (ltb o b) e))

  between-test : (a o b : ℕ) → a ≤ o → o < b → between a o b ≡ true
  between-test a o b p q = and_both (leb a o) (ltb o b) (le-leb _ _ p) (lt-ltb _ _ q)

  take-two : (o : ℕ) → may_take y o ≡ true → Two o
  unfolding Two
  take-two o e =
      ⊎_elim (λ e. inl (between-fact 16 o y.tid.at e)) (λ e. inr (between-fact y.user.at o y.work.at e)) (or_cases _ _ e)

  two-take : (o : ℕ) → Two o → may_take y o ≡ true
  unfolding Two
  two-take o (inl h) = simp (between-test 16 o y.tid.at h.0 h.1)
  two-take o (inr h) = simp (between-test y.user.at o y.work.at h.0 h.1, or-true)

  -- so it goes below WORK and past the header
  pub go-below : (o : ℕ) → may_go y o ≡ true → (16 ≤ o) × (o < y.work.at)
  unfolding Two
  go-below o e = two (go-two o e)
    where
      two : Two o → (16 ≤ o) × (o < y.work.at)
      two (inl h) = (omega arith, omega arith)
      two (inr h) = (omega arith, omega arith)

  -- from USER on, but for the word before WORK, any value may stand
  pub free : (o v : ℕ) → between y.user.at o (last_in y) ≡ true → may_take y o && may_stand y o v ≡ true
  free o v e =
      let f = between-fact y.user.at o (last_in y) e in
      and_both (may_take y o) _ (simp (between-test y.user.at o y.work.at f.0 (omega arith), or-true))
      (ok-if y o v (λ q. absurd (omega arith)) (λ q. absurd (omega arith)) (λ q. absurd (omega arith)) (λ q. absurd (omega arith)))

  -- the steps' tests hold where the rules do, and only there
  steps-if : ((k : ℕ) → Content y (after h (take k (pending y h)))) → content_fits y h ≡ true
  steps-if c =
      let f = content-fine h (c 0) in
      let under : Under y.work.at (pending y h) = all-below (λ s. s.at < y.work.at) (pair_at y h) (count_in y h) (λ j l. (go-below _ ((c 0).places j l)).1) in
      let fits : Fits (Ok y) (pending y h) = fine-fits (Ok y) y.work.at h (pending y h) (omega (arith, g.whole)) under (λ k. content-fine _ (c k)) in
      each_all (content_steps y h) (
        each_all (word_rules y h)
            (lt-ltb _ _ (c 0).lock, (lt-ltb (killed_word y h) 2 (omega (arith, (c 0).killed)), (le-leb _ _ (c 0).pc, (eq-eqb _ _ (at_last _ (f (last_in y) (omega arith))), tt)))),
        (
          le-leb _ _ (c 0).count,
          (
            every-all (pair_fits y h) (count_in y h)
                (λ j l. and_both (may_take y (pair_at y h j).at) _ (two-take _ (go-two _ ((c 0).places j l))) (below_all (λ s. Ok y s.at s.value) (pair_at y h) (count_in y h) fits j l)),
            tt,
          ),
        ),
      )

  -- stores below WORK leave the pending pairs
  pub same_count : (ss : List Store) → Under y.work.at ss → count_in y (after h ss) ≡ count_in y h
  same_count ss u = after-avoids h ss y.work.at (under-avoids y.work.at y.work.at ss (omega arith) u)

  pub same-pair : (ss : List Store) → Under y.work.at ss → (j : ℕ) → pair_at y (after h ss) j ≡ pair_at y h j
  same-pair ss u j =
      let a = y.work.at + 1 + 2 * j in
      ap₂ store (after-avoids h ss a (under-avoids y.work.at a ss (omega arith) u)) (after-avoids h ss (a + 1) (under-avoids y.work.at (a + 1) ss (omega arith) u))

  if-steps : content_fits y h ≡ true → (k : ℕ) → Content y (after h (take k (pending y h)))
  if-steps e k =
      let t = all-each (content_steps y h) e in
      let w = all-each (word_rules y h) t.0 in
      let pair : (j : ℕ) → j < count_in y h → pair_fits y h j ≡ true = every-at (pair_fits y h) (count_in y h) t.1.1.0 in
      let goes : (j : ℕ) → j < count_in y h → may_go y (pair_at y h j).at ≡ true = λ j l. two-go _ (take-two _ (and_left (may_take y (pair_at y h j).at) _ (pair j l))) in
      let under : Under y.work.at (pending y h) = all-below (λ s. s.at < y.work.at) (pair_at y h) (count_in y h) (λ j l. (go-below _ (goes j l)).1) in
      let fits : Fits (Ok y) (pending y h) =
      all-below (λ s. Ok y s.at s.value) (pair_at y h) (count_in y h) (λ j l. and_right (may_take y (pair_at y h j).at) (may_stand y (pair_at y h j).at (pair_at y h j).value) (pair j l)) in
      let fine : Fine y.work.at (Ok y) h =
      λ i l. ok-if y i (word_at h i) (λ q. rw q (ltb-true _ _ w.0)) (λ q. rw q (ltb-true _ _ w.1.0)) (λ q. rw q (leb-true _ _ w.1.1.0))
      (λ q. let z : i ≡ last_in y = omega arith in rw z (eqb-true _ _ w.1.1.1.0)) in
      let ss = take k (pending y h) in
      let u : Under y.work.at ss = all_take (λ s. s.at < y.work.at) k (pending y h) under in
      fine-content (after h ss)
      (after-fine (Ok y) y.work.at h ss (omega (arith, g.whole)) (all_take (λ s. Ok y s.at s.value) k (pending y h) fits) fine)
      (rw (same_count ss u) (leb-true _ _ t.1.0))
      (λ j l. subst (λ (p : Store). may_go y p.at ≡ true) (sym (same-pair ss u j)) (goes j (rw (same_count ss u) at l)))

  pub same-content : content_good y h ≡ content_fits y h
  same-content =
      same_test (content_good y h) (content_fits y h) (λ e. steps-if ((content-both y h).0 e)) (λ e. (content-both y h).1 (if-steps e))

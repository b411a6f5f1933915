-- Demand 3 over the public operations: a command's cuts are cuts of its change, and power-ups those of `stores`. Assumes nothing.
use Prim.Native.Nat.{ℕ, suc, ◌+◌, ◌*◌, ◌≤◌, ◌<◌}
use mathlib.Core.Path.{◌≡◌, refl, sym, ap, ap₂, ◌∙◌, subst}
use mathlib.Core.Logic.{◌⊎◌, inl, inr}
use mathlib.Core.Bool.{Bool, cond}
use mathlib.Core.List.{List, [], ◌∷◌}
use native.Mathlib.Omega.{arith}
use native.Mathlib.Decide.{dec_lt}
use lib.Dec.{ltb}
use lib.ListN.{length, take}
use lib.Seq.{take_all, set-get_or}
use borrow.Author.Tests.{lt-ltb, le-ltb, eq-eqb, ne_eqb}
use Rattle.bits.specs.Words.{word_at, Store, after}
use Rattle.image.specs.declared.Layout.{Layout}
use Rattle.image.specs.Layout.{layout_of}
use Rattle.image.specs.Content.{count_in, pending}
use Rattle.image.specs.Check.{check_of, good}
use Rattle.image.specs.Rules.{Good}
use Rattle.image.proofs.Answers.{check-good, good-check, check-0}
use Rattle.stores.specs.Stores.{change_stores, epc_crc, power_stores, power_up}
use Rattle.stores.specs.Cuts.{Cut, with_byte, cut_after, cut_power_up, cut_power_ups, cut_image, reaches, CutLaws}
use Rattle.stores.proofs.Changes.{change-needs, power-idle, power-some}
use Rattle.stores.proofs.Sane.{crc-same, good-sane}
use Rattle.stores.proofs.Cuts.{cuts, power-good, power-word, power-settles}
use Rattle.tag.specs.Session.{off_session, new_session}
use Rattle.tag.specs.Result.{Result, first_of}
use Rattle.tag.specs.Power.{power_up_of}
use Rattle.demands.specs.Calls.{Tag, answer_of, words_in, torn}
use Rattle.demands.specs.Commands.{Start}
use Rattle.demands.specs.Demands.{Storing, by_radio, by_port, lasting, Completes, power_ups, Unbroken, Survives, Demand3}
use Rattle.demands.proofs.Plans.{plan-change}
use Rattle.demands.proofs.Rows.{Refused, Acting, words_of, acts, words-lasting}
use Rattle.demands.proofs.Rising.{rising}
use Rattle.tag.specs.Steps.{gives, first_in}

-- a power-up of a good image
module _ (y : Layout) (m : List ℕ) (g : Good y m) where
  stores : List Store
  stores = power_stores (layout_of m) m

  lost : ℕ → Result
  lost s = gives 11 off_session 0 s (after m (take s stores)) []

  made : Result
  made = gives 0 (new_session (first_in (layout_of m) (after m stores))) 0 (length stores) (after m stores) []

  power-ends : (s : ℕ) → first_of (power_up_of m s) ≡ cond (ltb s (length stores)) (lost s) made
  unfolding power_up_of stores lost made
  power-ends s = let h = check-0 m y (sym (good-check y m g)) in rw (h.0, h.1, h.2)

  pub power-image : (s : ℕ) → (first_of (power_up_of m s)).image ≡ after m (take s (power_stores (layout_of m) m))
  unfolding stores lost made
  power-image s = ap (λ (r : Result). r.image) (power-ends s) ∙ go (dec_lt s (length stores))
    where
      go : Dec (s < length stores) → (cond (ltb s (length stores)) (lost s) made).image ≡ after m (take s stores)
      go (yes l) = ap (λ (t : Bool). (cond t (lost s) made).image) (lt-ltb s (length stores) l)
      go (no l) =
          let h : length stores ≤ s = omega arith in
          ap (λ (t : Bool). (cond t (lost s) made).image) (le-ltb s (length stores) h) ∙ ap (after m) (sym (take_all s stores h))

  pub power-whole : (s : ℕ) → (first_of (power_up_of m s)).number ≡ 0 → (first_of (power_up_of m s)).image ≡ power_up m
  unfolding stores lost made
  power-whole s e = go (dec_lt s (length stores))
    where
      go : Dec (s < length stores) → (first_of (power_up_of m s)).image ≡ after m stores
      go (yes l) =
          absurd
          (let z : ◌≡◌ {A = ℕ} 11 0 = sym (ap (λ (t : Bool). (cond t (lost s) made).number) (lt-ltb s (length stores) l)) ∙ sym (ap (λ (r : Result). r.number) (power-ends s)) ∙ e in
          omega arith)
      go (no l) = ap (λ (r : Result). r.image) (power-ends s) ∙ ap (λ (t : Bool). (cond t (lost s) made).image) (le-ltb s (length stores) (omega arith))

  pub power-done : (s : ℕ) → length (power_stores (layout_of m) m) ≤ s
      → first_of (power_up_of m s) ≡ gives 0 (new_session (first_in (layout_of m) (power_up m))) 0 (length (power_stores (layout_of m) m)) (power_up m) []
  unfolding stores made
  power-done s l = power-ends s ∙ ap (λ (t : Bool). cond t (lost s) made) (le-ltb s (length stores) l)

  pub power-fails : (s : ℕ) → s < length (power_stores (layout_of m) m) → (first_of (power_up_of m s)).number ≡ 11
  unfolding stores lost made
  power-fails s l = ap (λ (r : Result). r.number) (power-ends s) ∙ ap (λ (t : Bool). (cond t (lost s) made).number) (lt-ltb s (length stores) l)

  pub power-made : (s : ℕ) → (first_of (power_up_of m s)).number ≡ 0 → (first_of (power_up_of m s)).stores ≡ length (power_stores (layout_of m) m)
  unfolding stores lost made
  power-made s e = go (dec_lt s (length stores))
    where
      go : Dec (s < length stores) → (first_of (power_up_of m s)).stores ≡ length stores
      go (yes l) = absurd (let z : ◌≡◌ {A = ℕ} 11 0 = sym (power-fails s l) ∙ e in omega arith)
      go (no l) = ap (λ (r : Result). r.stores) (power-ends s) ∙ ap (λ (t : Bool). (cond t (lost s) made).stores) (le-ltb s (length stores) (omega arith))

  -- the pending words, at most 255, the count 0 and the CRC-16
  pub power-needs : length (power_stores y m) ≤ 257
  power-needs = go (dec_lt 0 (count_in y m))
    where
      go : Dec (0 < count_in y m) → length (power_stores y m) ≤ 257
      go (yes l) = omega (arith, power-some y m (λ z. omega (arith, l, z)), (g.content 0).count, g.header.pairs_most)
      go (no n) = let z : count_in y m ≡ 0 = omega arith in omega (arith, power-idle y m z)

-- a power-up that is cut is a cut of its stores; power-ups from an image from which every cut one leaves a good image
pub power-torn : (y : Layout) (m : List ℕ) → Good y m → (f : Cut) → power_ups answer_of (f ∷ []) m ≡ cut_power_up f m
power-torn y m g f = ap₂ (with_byte f.byte) (power-image y m g (suc f.whole)) (power-image y m g f.whole)

powers-cut : (y : Layout) (fs : List Cut) (m : List ℕ) → ((ds : List Cut) → Good y (cut_power_ups ds m)) → power_ups answer_of fs m ≡ cut_power_ups fs m
powers-cut y [] m g = refl
powers-cut y (f ∷ fs) m g = ap (power_ups answer_of fs) (power-torn y m (g []) f) ∙ powers-cut y fs (cut_power_up f m) (λ ds. g (f ∷ ds))

-- a command's two images
pub torn-lasting : (t : Tag) (c : Storing) (k j : ℕ) → torn answer_of t (lasting c k) j ≡ with_byte j (answer_of t (lasting c (suc k))).image (answer_of t (lasting c k)).image
torn-lasting t (by_radio f bits fresh room) k j = refl
torn-lasting t (by_port at d) k j = refl

module _ (y : Layout) (t : Tag) (c : Storing) (n enough : ℕ) (h : Completes answer_of y t c n enough) (ws : List Store) (own : words_in t (lasting c enough) ≡ ws) (a : Acting y t c ws) where
  g : Good y t.image
  g = check-good t.image y h.idle.sound

  whole : length (change_stores y.work.at ws) ≤ enough
  whole = a.whole enough h.done

  words : length ws ≡ n
  words = ap length (sym own) ∙ h.words

  pub needs : length (change_stores y.work.at ws) ≡ 3 * n + 2
  needs =
      let d : length ws ≡ 0 → ⊥ = λ q. omega (arith, words, h.some) in
      change-needs y.work.at ws ∙ ap (λ (t : Bool). cond t 0 (3 * length ws + 2)) (ne_eqb (length ws) 0 d) ∙ ap (λ (k : ℕ). 3 * k + 2) words

  laws : CutLaws y t.image ws
  laws = cuts y t.image ws h.bytes g a.idle (plan-change y t.image g ws a.idle a.plan (omega (arith, words, h.some)))

  module _ (f : Cut) (fs : List Cut) where
    left : List ℕ
    left = power_ups answer_of fs (torn answer_of t (lasting c f.whole) f.byte)

    left-image : left ≡ cut_image y t.image ws f fs
    unfolding left
    left-image =
        ap (power_ups answer_of fs) (torn-lasting t c f.whole f.byte ∙ ap₂ (with_byte f.byte) (a.image (suc f.whole)) (a.image f.whole))
        ∙ powers-cut y fs (cut_after f t.image (change_stores y.work.at ws)) (laws.good f)

    left-good : Good y left
    left-good = subst (Good y) (sym left-image) (laws.good f fs)

    left_word : (j i : ℕ) → (first_of (power_up_of left j)).number ≡ 0 → word_at (first_of (power_up_of left j)).image i ≡ word_at (power_up (cut_image y t.image ws f fs)) i
    left_word j i z = ap (λ (x : List ℕ). word_at x i) (power-whole y left left-good j z ∙ ap power_up left-image)

  -- the command done, as a cut behind its last store
  done : (answer_of t (lasting c enough)).image ≡ cut_image y t.image ws (record { whole = enough; byte = 0 }) []
  done =
      let all = change_stores y.work.at ws in
      a.image enough
      ∙ ap (after t.image) (take_all enough all whole ∙ sym (take_all (suc enough) all (omega (arith, whole))))
      ∙ sym (set-get_or (after t.image (take (suc enough) all)) 0 0)
      ∙ ap (with_byte 0 (after t.image (take (suc enough) all)))
      (ap (after t.image) (take_all (suc enough) all (omega (arith, whole)) ∙ sym (take_all enough all whole)))

  done-word : (k i : ℕ) → i < y.work.at → (first_of (power_up_of (answer_of t (lasting c enough)).image k)).number ≡ 0
      → word_at (first_of (power_up_of (answer_of t (lasting c enough)).image k)).image i ≡ word_at (power_up (after t.image ws)) i
  done-word k i l z =
      let d : Cut = record { whole = enough; byte = 0 } in
      ap (λ (x : List ℕ). word_at x i) (power-whole y _ (subst (Good y) (sym done) (laws.good d [])) k z ∙ ap power_up done)
      ∙ laws.new d [] (omega (arith, needs, words, whole)) i l

  -- a good image has a whole power-up
  begins : (m : List ℕ) → Good y m → (u : ℕ) → 257 ≤ u → (first_of (power_up_of m u)).number ≡ 0
  begins m k u l =
      let few : length (power_stores (layout_of m) m) ≤ u = subst (λ (z : Layout). length (power_stores z m) ≤ u) k.layout (omega (arith, l, power-needs y m k)) in
      ap (λ (r : Result). r.number) (power-done y m k u few)

  unbroken : (f : Cut) (fs : List Cut) → Unbroken answer_of y t c n enough (reaches y f) (power_ups answer_of fs (torn answer_of t (lasting c f.whole) f.byte))
  unfolding left
  unbroken f fs =
      record {
        old = λ l j k p q i b.
            left_word f fs j i p ∙ laws.old f fs (omega (arith, words, l)) i b ∙ sym (ap (λ (x : List ℕ). word_at x i) (power-whole y t.image g k q));
        new = λ l j k p q i b. left_word f fs j i p ∙ laws.new f fs (omega (arith, words, l)) i b ∙ sym (done-word k i b q);
        starts = λ u l. begins (left f fs) (left-good f fs) u l;
      }

  all-cuts : Survives answer_of y t c n enough
  all-cuts =
      record {
        stores = a.stores enough ∙ (let z = needs in omega (arith, whole, z));
        rising = rising t (lasting c enough);
        never = begins t.image g;
        finished = begins (answer_of t (lasting c enough)).image (subst (Good y) (sym done) (laws.good (record { whole = enough; byte = 0 }) []));
        cut = unbroken;
      }

pub demand-3 : Demand3 answer_of
demand-3 y t c n enough h = go (acts y t c enough (check-good t.image y h.idle.sound))
  where
    go : Refused t.image (answer_of t (lasting c enough)) ⊎ Acting y t c (words_of t c) → Survives answer_of y t c n enough
    go (inl r) = absurd (omega (arith, h.done, r.1))
    go (inr a) = all-cuts y t c n enough h (words_of t c) (words-lasting t c enough) a

-- a whole power-up, for any good image
pub started-so : (y : Layout) (m : List ℕ) → check_of m ≡ good y → Start answer_of y m (after m (power_stores y m))
started-so y m e = subst (λ (z : Layout). Start answer_of z m (after m (power_stores z m))) (sym k.layout) here
  where
    k : Good y m
    k = check-good m y e

    g : Good (layout_of m) m
    g = subst (λ (x : Layout). Good x m) k.layout k

    n : List ℕ
    n = after m (power_stores (layout_of m) m)

    whole : Good (layout_of m) n
    whole = power-good (layout_of m) m g

    other : (i : ℕ) → i < (layout_of m).work.at → (i ≡ (layout_of m).epc.at → ⊥) → word_at n i ≡ word_at (after m (pending (layout_of m) m)) i
    other i l d =
        power-word (layout_of m) m g i l
        ∙ ap (λ (b : Bool). cond b (epc_crc (layout_of m) (after m (pending (layout_of m) m))) (word_at (after m (pending (layout_of m) m)) i)) (ne_eqb i (layout_of m).epc.at d)

    first : word_at n (layout_of m).epc.at ≡ epc_crc (layout_of m) (after m (pending (layout_of m) m))
    first =
        power-word (layout_of m) m g (layout_of m).epc.at (omega (arith, g.header))
        ∙ ap (λ (b : Bool). cond b (epc_crc (layout_of m) (after m (pending (layout_of m) m))) (word_at (after m (pending (layout_of m) m)) (layout_of m).epc.at)) (eq-eqb (layout_of m).epc.at (layout_of m).epc.at refl)

    here : Start answer_of (layout_of m) m n
    here =
        record {
          up = λ v s l. power-done (layout_of m) m g s l;
          enough = power-needs (layout_of m) m g;
          words = other;
          settled = power-settles (layout_of m) m g;
          sound = good-check (layout_of m) n whole;
          sum = first ∙ sym (crc-same (layout_of m) n whole.header n (after m (pending (layout_of m) m)) (good-sane (layout_of m) n whole).words (λ i l d. other i l d));
        }

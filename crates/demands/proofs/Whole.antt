-- The buyer's own words, of stores that are whole words, from the demands on torn ones: a byte behind the image's end is no byte of it. Assumes nothing.
use Prim.Native.Nat.{ℕ, suc, ◌+◌, ◌*◌}
use mathlib.Core.Path.{◌≡◌, refl, sym, ap, ◌∙◌, subst}
use mathlib.Core.Logic.{◌⊎◌, inl, inr}
use mathlib.Core.Bool.{Bool, cond}
use mathlib.Core.List.{List, [], ◌∷◌, ◌++◌}
use native.Mathlib.Nat.{add-zero}
use native.Mathlib.Omega.{arith}
use lib.ListN.{length, get_or, take}
use lib.Seq.{set_out}
use borrow.Author.Tests.{ne_eqb}
use Rattle.bits.specs.Words.{Store}
use Rattle.bits.proofs.Stores.{length-after}
use Rattle.image.specs.declared.Layout.{Layout}
use Rattle.image.specs.Rules.{Good}
use Rattle.image.proofs.Answers.{check-good}
use Rattle.stores.specs.Stores.{change_stores}
use Rattle.stores.specs.Cuts.{Cut, with_byte, reaches}
use Rattle.tag.specs.declared.Session.{Session}
use Rattle.tag.specs.Power.{power_up_of}
use Rattle.demands.specs.Calls.{Call, Tag, answer_of, image_after, more, torn, Turn, run_image}
use Rattle.demands.specs.Demands.{Storing, lasting, power_ups, whole_power_ups, Unbroken, Demand3, WholeWords, Kept, AnyRun, whole_run, WholeRuns}
use Rattle.demands.proofs.Rows.{Refused, Acting, words_of, acts, words-lasting}
use Rattle.demands.proofs.Cuts.{torn-lasting, needs, demand-3}
use Rattle.demands.proofs.Runs.{any-run}
use Rattle.tag.specs.Result.{first_of}

-- a byte past the end
past : (n m : List ℕ) → with_byte (length m) n m ≡ m
past n m = set_out m (length m) (get_or n (length m) 0) (omega arith)

-- power-ups that are cut at whole words
wholes : List ℕ → List ℕ → List Cut
wholes [] m = []
wholes (k ∷ ks) m = let n = (first_of (power_up_of m k)).image in record { whole = k; byte = length n } ∷ wholes ks n

wholes-same : (ks m : List ℕ) → power_ups answer_of (wholes ks m) m ≡ whole_power_ups answer_of ks m
unfolding wholes
wholes-same [] m = refl
wholes-same (k ∷ ks) m =
    let n = (first_of (power_up_of m k)).image in
    ap (power_ups answer_of (wholes ks n)) (past (first_of (power_up_of m (suc k))).image n) ∙ wholes-same ks n

-- with the power for s stores, and no byte of the next
module _ (y : Layout) (t : Tag) (c : Storing) (s : ℕ) where
  left : List ℕ
  left = (answer_of t (lasting c s)).image

  cut : Cut
  cut = record { whole = s; byte = length left }

  left-same : (ks : List ℕ) → power_ups answer_of (wholes ks left) (torn answer_of t (lasting c cut.whole) cut.byte) ≡ whole_power_ups answer_of ks left
  unfolding cut left
  left-same ks = ap (power_ups answer_of (wholes ks left)) (torn-lasting t c s (length left) ∙ past (answer_of t (lasting c (suc s))).image left) ∙ wholes-same ks left

  -- the byte is behind WORK, so the stores that count are those that are made
  left-reaches : Good y t.image → (ws : List Store) → Acting y t c ws → reaches y cut ≡ s
  unfolding cut left
  left-reaches g ws a =
      let size : length left ≡ length t.image = ap length (a.image s) ∙ length-after t.image (take s (change_stores y.work.at ws)) in
      let far : length left ≡ 2 * y.work.at + 1 → ⊥ = λ e. omega (arith, size, g.header.whole, g.header.work.least) in
      ap (λ (b : Bool). s + cond b 1 0) (ne_eqb (length left) (2 * y.work.at + 1) far) ∙ add-zero s

pub whole_words : Demand3 answer_of → WholeWords answer_of
unfolding left
whole_words d y t c n enough h s ks = go (acts y t c enough g)
  where
    g : Good y t.image
    g = check-good t.image y h.idle.sound

    all : Unbroken answer_of y t c n enough (reaches y (cut y t c s)) (whole_power_ups answer_of ks (left y t c s))
    all = subst (Unbroken answer_of y t c n enough (reaches y (cut y t c s))) (left-same y t c s ks) ((d y t c n enough h).cut (cut y t c s) (wholes ks (left y t c s)))

    go : Refused t.image (answer_of t (lasting c enough)) ⊎ Acting y t c (words_of t c)
        → Unbroken answer_of y t c n enough (answer_of t (lasting c s)).stores (whole_power_ups answer_of ks (answer_of t (lasting c s)).image)
    go (inl r) = absurd (omega (arith, h.done, r.1))
    go (inr a) =
        let made = a.stores s in
        let need = needs y t c n enough h (words_of t c) (words-lasting t c enough) a in
        let reach = left-reaches y t c s g (words_of t c) a in
        record {
          old = λ l. all.old (omega (arith, made, need, reach, l, h.some));
          new = λ l. all.new (omega (arith, made, need, reach, l, h.some));
          starts = all.starts;
        }

-- and so for runs
turns : List ℕ → List (Session × Call) → List Turn
turns m [] = []
turns m (c ∷ cs) =
    let n = image_after answer_of (record { session = c.0; image = m }) c.1 in
    record { session = c.0; call = c.1; byte = length n } ∷ turns n cs

turns_same : (m : List ℕ) (cs : List (Session × Call)) → run_image answer_of m (turns m cs) ≡ whole_run answer_of m cs
unfolding turns
turns_same m [] = refl
turns_same m (c ∷ cs) =
    let t : Tag = record { session = c.0; image = m } in
    let n = image_after answer_of t c.1 in
    ap (λ (x : List ℕ). run_image answer_of x (turns n cs)) (past (image_after answer_of t (more c.1)) n) ∙ turns_same n cs

turns-append : (m : List ℕ) (cs ds : List (Session × Call)) → turns m (cs ++ ds) ≡ turns m cs ++ turns (whole_run answer_of m cs) ds
unfolding turns
turns-append m [] ds = refl
turns-append m (c ∷ cs) ds = rw (turns-append (image_after answer_of (record { session = c.0; image = m }) c.1) cs ds)

pub whole-runs : AnyRun answer_of → WholeRuns answer_of
whole-runs a y m before later bytes idle =
    subst (λ (n : List ℕ). Kept y n (whole_run answer_of m (before ++ later))) (turns_same m before)
    (subst (Kept y (run_image answer_of m (turns m before))) (ap (run_image answer_of m) (sym (turns-append m before later)) ∙ turns_same m (before ++ later))
    (a y m (turns m before) (turns (whole_run answer_of m before) later) bytes idle))

-- both, of the tag
pub demand-3-whole : WholeWords answer_of
demand-3-whole = whole_words demand-3

pub any-whole-run : WholeRuns answer_of
any-whole-run = whole-runs any-run

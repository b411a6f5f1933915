-- Which row of an answer table is given, and what a call stores where none of the refusals is. Assumes nothing.
use Prim.Native.Nat.{ℕ, zero, suc, ◌+◌, ◌/◌, ◌%◌, ◌≤◌, ◌<◌, min}
use mathlib.Core.Path.{◌≡◌, refl, sym, ap, ◌∙◌, subst}
use mathlib.Core.Logic.{◌⊎◌, inl, inr}
use mathlib.Core.Bool.{true≢false, Bool, true, false, cond, not, ◌&&◌, ◌||◌}
use mathlib.Core.List.{List, [], ◌∷◌, ◌++◌}
use native.Mathlib.Omega.{arith}
use native.Mathlib.Decide.{dec_lt}
use lib.Dec.{eqb, ltb, lit<}
use lib.ListN.{length, take}
use lib.Seq.{take_all}
use borrow.Author.Tests.{eqb-true, ltb-false, lt-ltb, le-ltb, not-false}
use Rattle.bits.specs.Words.{Store, after}
use Rattle.bits.specs.First.{first}
use Rattle.image.specs.declared.Layout.{Layout}
use Rattle.image.specs.Layout.{layout_of, pairs_in}
use Rattle.image.specs.Content.{count_in}
use Rattle.image.specs.Rules.{Good}
use Rattle.frames.specs.Message.{Message}
use Rattle.frames.specs.Message as heard
use Rattle.frames.specs.Frames.{heard_of}
use Rattle.frames.proofs.Orders.{said-small}
use Rattle.rights.specs.Rights.{Code}
use Rattle.std.specs.Prelude.{Ok, Err}
use Rattle.stores.specs.Stores.{change_stores}
use Rattle.tag.specs.declared.Session.{Session}
use Rattle.tag.specs.Result.{Result, lost, first_of}
use Rattle.tag.specs.Steps.{gives, input}
use Rattle.states.specs.Commands.{is_killed}
use Rattle.plans.specs.Effects.{Effect, effect_of}
use Rattle.tag.specs.Table.{Input, is_off, live, turned_to, live_of, command_in, scene, effect, is_error, reply_of, fits, stores_of, replied, frame_of}
use Rattle.tag.specs.Port.{bad_count, bad_data, port_words, refusals, register_to, write_of}
use Rattle.tag.specs.PortSteps.{wrote_to}
use Rattle.tag.proofs.Plans.{none_or}
use Rattle.demands.specs.Calls.{Tag, answer_of, words_in}
use Rattle.demands.specs.Demands.{Storing, by_radio, by_port, lasting}
use Rattle.demands.proofs.Plans.{Plan, no-plan, order-plan, port-plan}

abbrev pub Rows : Type 0
Rows = List (Result × Bool)

-- no row of the list holds; each row that holds leaves what P says
abbrev pub None : Rows → Type 0
None [] = Unit {0}
None (r ∷ rs) = (r.1 ≡ false) × None rs

abbrev pub Each : (Result → Type 0) → Rows → Type 0
Each P [] = Unit {0}
Each P (r ∷ rs) = (r.1 ≡ true → P r.0) × Each P rs

pub none_first : (rs : Rows) (last : Result) → None rs → first rs last ≡ last
none_first [] last h = refl
none_first (r ∷ rs) last h = ap (λ (b : Bool). cond b r.0 (first rs last)) h.0 ∙ none_first rs last h.1

pub first-or : (P : Result → Type 0) (rs : Rows) (last : Result) → Each P rs → P (first rs last) ⊎ None rs
first-or P [] last h = inr tt
first-or P (r ∷ rs) last h = go r.1 refl (first-or P rs last h.1)
  where
    go : (b : Bool) → r.1 ≡ b → P (first rs last) ⊎ None rs → P (cond r.1 r.0 (first rs last)) ⊎ None (r ∷ rs)
    go true e f = inl (subst (λ (b : Bool). P (cond b r.0 (first rs last))) (sym e) (h.0 e))
    go false e (inl p) = inl (subst (λ (b : Bool). P (cond b r.0 (first rs last))) (sym e) p)
    go false e (inr n) = inr (e, n)

-- every row, and what is given where none holds
pub first-each : (P : Result → Type 0) (rs : Rows) (last : Result) → Each P rs → P last → P (first rs last)
first-each P [] last h p = p
first-each P (r ∷ rs) last h p = go r.1 refl (first-each P rs last h.1 p)
  where
    go : (b : Bool) → r.1 ≡ b → P (first rs last) → P (cond b r.0 (first rs last))
    go true e q = h.0 e
    go false e q = q

-- row k holds, and none before it
abbrev pub Reaches : ℕ → Rows → Type 0
Reaches k [] = ⊥
Reaches zero (r ∷ rs) = r.1 ≡ true
Reaches (suc k) (r ∷ rs) = (r.1 ≡ false) × Reaches k rs

abbrev pub row_at : ℕ → Rows → Result → Result
row_at k [] last = last
row_at zero (r ∷ rs) last = r.0
row_at (suc k) (r ∷ rs) last = row_at k rs last

pub first-at : (k : ℕ) (rs : Rows) (last : Result) → Reaches k rs → first rs last ≡ row_at k rs last
first-at k [] last h = absurd h
first-at zero (r ∷ rs) last h = ap (λ (b : Bool). cond b r.0 (first rs last)) h
first-at (suc k) (r ∷ rs) last h = ap (λ (b : Bool). cond b r.0 (first rs last)) h.0 ∙ first-at k rs last h.1

-- past rows that do not hold
abbrev pub past : Rows → ℕ → ℕ
past [] k = k
past (r ∷ rs) k = suc (past rs k)

pub reach-behind : (k : ℕ) (rs more : Rows) → None rs → Reaches k more → Reaches (past rs k) (rs ++ more)
reach-behind k [] more n h = h
reach-behind k (r ∷ rs) more n h = (n.0, reach-behind k rs more n.1 h)

-- refused, and nothing stored
abbrev pub Refused : List ℕ → Result → Type 0
Refused m r = (r.image ≡ m) × (0 < r.number)

-- the words ws are what the command stores, with whatever power
pub record Acting (y : Layout) (t : Tag) (c : Storing) (ws : List Store) : Type 0 where
  pub idle : count_in y t.image ≡ 0
  pub plan : Plan y t.image ws
  pub image : (s : ℕ) → (answer_of t (lasting c s)).image ≡ after t.image (take s (change_stores y.work.at ws))
  pub stores : (s : ℕ) → (answer_of t (lasting c s)).stores ≡ min s (length (change_stores y.work.at ws))
  pub whole : (s : ℕ) → (answer_of t (lasting c s)).number ≡ 0 → length (change_stores y.work.at ws) ≤ s
  pub fails : (s : ℕ) → s < length (change_stores y.work.at ws) → (answer_of t (lasting c s)).number ≡ 11

-- a cut or a whole call leaves the first s stores
ends-image : (s : ℕ) (m : List ℕ) (xs : List Store) (a b : Result) → a.image ≡ after m (take s xs) → b.image ≡ after m xs
    → (cond (ltb s (length xs)) a b).image ≡ after m (take s xs)
ends-image s m xs a b p q = go (dec_lt s (length xs))
  where
    go : Dec (s < length xs) → (cond (ltb s (length xs)) a b).image ≡ after m (take s xs)
    go (yes l) = ap (λ (t : Bool). (cond t a b).image) (lt-ltb s (length xs) l) ∙ p
    go (no l) =
        let h : length xs ≤ s = omega arith in
        ap (λ (t : Bool). (cond t a b).image) (le-ltb s (length xs) h) ∙ q ∙ ap (after m) (sym (take_all s xs h))

ends-stores : (s : ℕ) (xs : List Store) (a b : Result) → a.stores ≡ s → b.stores ≡ length xs → (cond (ltb s (length xs)) a b).stores ≡ min s (length xs)
ends-stores s xs a b p q = go (dec_lt s (length xs))
  where
    go : Dec (s < length xs) → (cond (ltb s (length xs)) a b).stores ≡ min s (length xs)
    go (yes l) = ap (λ (t : Bool). (cond t a b).stores) (lt-ltb s (length xs) l) ∙ p ∙ omega arith
    go (no l) = let h : length xs ≤ s = omega arith in ap (λ (t : Bool). (cond t a b).stores) (le-ltb s (length xs) h) ∙ q ∙ omega arith

ends-whole : (s : ℕ) (xs : List Store) (a b : Result) → a.number ≡ 11 → (cond (ltb s (length xs)) a b).number ≡ 0 → length xs ≤ s
ends-whole s xs a b p q = go (dec_lt s (length xs))
  where
    go : Dec (s < length xs) → length xs ≤ s
    go (yes l) = absurd (let z : ◌≡◌ {A = ℕ} 11 0 = sym p ∙ sym (ap (λ (t : Bool). (cond t a b).number) (lt-ltb s (length xs) l)) ∙ q in omega arith)
    go (no l) = omega arith

no-error : (e : Code) (b : Bool) → is_error e && b ≡ false → b ≡ true → e ≡ (Ok tt)
no-error (Ok u) b p q = refl
no-error (Err e) b p q =
    absurd (true≢false (sym q ∙ p))

-- a frame
module _ (v : Session) (m f : List ℕ) (bits fresh : ℕ) (room : List ℕ) (g : Good (layout_of m) m) where
  with-power : ℕ → Input
  with-power s = input v m f bits fresh room s

  front : ℕ → Rows
  front s = take 12 (frame_of change_stores (with-power s)).rows

  words : List Store
  words = (effect (with-power 0)).words

  radio : Storing
  radio = by_radio f bits fresh room

  cut : ℕ → Result
  cut s = lost m (stores_of change_stores (with-power s)) s room

  whole : ℕ → Result
  whole s = replied (with-power s) 0 (turned_to (live (with-power s)) (effect (with-power s)).flags (effect (with-power s)).state) (stores_of change_stores (with-power s))

  ends : ℕ → Result
  ends s = cond (ltb s (length (stores_of change_stores (with-power s)))) (cut s) (whole s)

  split : (s : ℕ) → first_of (frame_of change_stores (with-power s)) ≡ first (front s) (ends s)
  unfolding frame_of with-power front ends cut whole
  split s = refl

  front-refused : (s : ℕ) → Each (Refused m) (front s)
  unfolding frame_of with-power front
  front-refused s = (λ e. (refl, lit< tt), (λ e. (refl, lit< tt), (λ e. (refl, lit< tt), (λ e. (refl, lit< tt), (λ e. (refl, lit< tt), (λ e. (refl, lit< tt), (λ e. (refl, lit< tt), (λ e. (refl, lit< tt), (λ e. (refl, lit< tt), (λ e. (refl, lit< tt), (λ e. (refl, lit< tt), (λ e. (refl, lit< tt), tt))))))))))))

  -- the power matters to no row of the front
  same-front : (a b : ℕ) → None (front a) → None (front b)
  unfolding frame_of with-power front
  same-front a b h = h

  words-plan : None (front 0) → Plan (layout_of m) m words
  unfolding frame_of with-power front words
  words-plan h =
      go (heard_of f bits) refl
      (no-error (effect (with-power 0)).code (fits (reply_of (with-power 0)) room) h.1.1.1.1.1.1.1.1.1.1.0
      (not-false (fits (reply_of (with-power 0)) room) h.1.1.1.1.1.1.1.1.1.1.1.0))
    where
      at : Message → Effect
      at x = effect_of (scene (with-power 0)) (command_in x).order

      go : (x : Message) → heard_of f bits ≡ x → (at x).code ≡ (Ok tt) → Plan (layout_of m) m (at x).words
      go (heard.refused k) q e = no-plan (layout_of m) m
      go (heard.said c) q e = order-plan (layout_of m) m g (live_of v.power).flags (live_of v.power).state f fresh c.order (said-small f bits c q) e

  front-idle : None (front 0) → count_in (layout_of m) m ≡ 0
  unfolding frame_of with-power front
  front-idle n = eqb-true _ _ (not-false _ (none_or (is_off v.power) (not (eqb (count_in (layout_of m) m) 0)) n.1.1.1.0).1)

  frame-acting : (a : ℕ) → None (front a) → Acting (layout_of m) (record { session = v; image = m }) radio words
  unfolding with-power words ends radio cut whole
  frame-acting a h =
      record {
        idle = front-idle (same-front a 0 h);
        plan = words-plan (same-front a 0 h);
        image = λ s.
            ap (λ (r : Result). r.image) (split s ∙ none_first (front s) (ends s) (same-front a s h))
            ∙ ends-image s m (stores_of change_stores (with-power s)) (cut s) (whole s) refl refl;
        stores = λ s.
            ap (λ (r : Result). r.stores) (split s ∙ none_first (front s) (ends s) (same-front a s h))
            ∙ ends-stores s (stores_of change_stores (with-power s)) (cut s) (whole s) refl refl;
        whole = λ s e.
            ends-whole s (stores_of change_stores (with-power s)) (cut s) (whole s) refl
            (sym (ap (λ (r : Result). r.number) (split s ∙ none_first (front s) (ends s) (same-front a s h))) ∙ e);
        fails = λ s l.
            ap (λ (r : Result). r.number) (split s ∙ none_first (front s) (ends s) (same-front a s h))
            ∙ ap (λ (b : Bool). (cond b (cut s) (whole s)).number) (lt-ltb s (length (stores_of change_stores (with-power s))) l);
      }

  frame-acts : (s : ℕ) → Refused m (first_of (frame_of change_stores (with-power s))) ⊎ Acting (layout_of m) (record { session = v; image = m }) radio words
  frame-acts s = go (first-or (Refused m) (front s) (ends s) (front-refused s))
    where
      go : Refused m (first (front s) (ends s)) ⊎ None (front s) → Refused m (first_of (frame_of change_stores (with-power s))) ⊎ Acting (layout_of m) (record { session = v; image = m }) radio words
      go (inl r) = inl (subst (Refused m) (sym (split s)) r)
      go (inr h) = inr (frame-acting s h)

-- an SPI write
module _ (v : Session) (m : List ℕ) (at : ℕ) (d : List ℕ) (g : Good (layout_of m) m) where
  y : Layout
  y = layout_of m

  killed : Bool
  killed = is_killed (live_of v.power).state

  port-words : List Store
  port-words = port_words y m killed at d

  before : Rows
  before = refusals v m [] (bad_data y at d)

  stores : List Store
  stores = change_stores y.work.at port-words

  cut_off : ℕ → Result
  cut_off s = lost m stores s []

  made : Result
  made =
      let l = live_of v.power in
      gives 0 (register_to l (wrote_to y m l at (length d / 2))) 0 (length stores) (after m stores) []

  write-split : (s : ℕ) → first_of (write_of change_stores v m at d s) ≡ first before (cond (ltb s (length stores)) (cut_off s) made)
  unfolding write_of y killed port-words before stores cut_off made
  write-split s = refl

  before-refused : Each (Refused m) before
  unfolding before
  before-refused = (λ e. (refl, lit< tt), (λ e. (refl, lit< tt), (λ e. (refl, lit< tt), (λ e. (refl, lit< tt), (λ e. (refl, lit< tt), (λ e. (refl, lit< tt), tt))))))

  port-planned : None before → Plan (layout_of m) m port-words
  unfolding before y port-words
  port-planned h = go killed
    where
      go : (k : Bool) → Plan (layout_of m) m (port_words (layout_of m) m k at d)
      go true = no-plan (layout_of m) m
      go false =
          let n = length d / 2 in
          let few = none_or (not (eqb (length d % 2) 0) || bad_count (layout_of m) at n) (ltb (pairs_in (layout_of m)) n) h.1.1.1.1.1.0 in
          let count = none_or (not (eqb (length d % 2) 0)) (bad_count (layout_of m) at n) few.0 in
          let fit = none_or (eqb n 0 || ltb 255 n) (ltb (layout_of m).user.words (at + n)) count.1 in
          port-plan (layout_of m) m g at d n (ltb-false _ _ fit.1) (ltb-false _ _ few.1)

  write-acting : None before → Acting (layout_of m) (record { session = v; image = m }) (by_port at d) port-words
  unfolding before y stores cut_off made
  write-acting h =
      record {
        idle = eqb-true _ _ (not-false _ (none_or (is_off v.power) (not (eqb (count_in (layout_of m) m) 0)) h.1.1.1.0).1);
        plan = port-planned h;
        image = λ s.
            ap (λ (r : Result). r.image) (write-split s ∙ none_first before (cond (ltb s (length stores)) (cut_off s) made) h)
            ∙ ends-image s m stores (cut_off s) made refl refl;
        stores = λ s.
            ap (λ (r : Result). r.stores) (write-split s ∙ none_first before (cond (ltb s (length stores)) (cut_off s) made) h)
            ∙ ends-stores s stores (cut_off s) made refl refl;
        whole = λ s e.
            ends-whole s stores (cut_off s) made refl
            (sym (ap (λ (r : Result). r.number) (write-split s ∙ none_first before (cond (ltb s (length stores)) (cut_off s) made) h)) ∙ e);
        fails = λ s l.
            ap (λ (r : Result). r.number) (write-split s ∙ none_first before (cond (ltb s (length stores)) (cut_off s) made) h)
            ∙ ap (λ (b : Bool). (cond b (cut_off s) made).number) (lt-ltb s (length stores) l);
      }

  write-acts : (s : ℕ) → Refused m (first_of (write_of change_stores v m at d s)) ⊎ Acting (layout_of m) (record { session = v; image = m }) (by_port at d) port-words
  write-acts s = go (first-or (Refused m) before (cond (ltb s (length stores)) (cut_off s) made) before-refused)
    where
      go : Refused m (first before (cond (ltb s (length stores)) (cut_off s) made)) ⊎ None before
          → Refused m (first_of (write_of change_stores v m at d s)) ⊎ Acting (layout_of m) (record { session = v; image = m }) (by_port at d) port-words
      go (inl r) = inl (subst (Refused m) (sym (write-split s)) r)
      go (inr h) = inr (write-acting h)

-- the words that a command stores where it is not refused
pub words_of : Tag → Storing → List Store
words_of t (by_radio f bits fresh room) = (effect (input t.session t.image f bits fresh room 0)).words
words_of t (by_port at d) = port_words (layout_of t.image) t.image (is_killed (live_of t.session.power).state) at d

-- with any power a command is refused, or it acts
pub acts : (y : Layout) (t : Tag) (c : Storing) (s : ℕ) → Good y t.image → Refused t.image (answer_of t (lasting c s)) ⊎ Acting y t c (words_of t c)
unfolding words_of words port-words with-power radio y killed
acts y t c s g = subst (λ (z : Layout). Refused t.image (answer_of t (lasting c s)) ⊎ Acting z t c (words_of t c)) (sym g.layout) (go c)
  where
    h : Good (layout_of t.image) t.image
    h = subst (λ (z : Layout). Good z t.image) g.layout g

    go : (c : Storing) → Refused t.image (answer_of t (lasting c s)) ⊎ Acting (layout_of t.image) t c (words_of t c)
    go (by_radio f bits fresh room) = frame-acts t.session t.image f bits fresh room h s
    go (by_port at d) = write-acts t.session t.image at d h s

-- the words do not hang on the power
pub words-lasting : (t : Tag) (c : Storing) (s : ℕ) → words_in t (lasting c s) ≡ words_of t c
unfolding words_of
words-lasting t (by_radio f bits fresh room) s = refl
words-lasting t (by_port at d) s = refl

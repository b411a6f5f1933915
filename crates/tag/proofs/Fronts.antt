-- The rows 1, 2, 3, 5 and 6, which stand first in every table of a call with an image: the number that the code finds is the first that holds. Assumes nothing.
use Rattle.std.specs.Prelude.{Err, Option, None, Some}
use Prim.Native.Nat.{ℕ}
use mathlib.Core.Path.{◌≡◌, refl, sym, ap, ◌∙◌, subst}
use mathlib.Core.Bool.{true≢false, Bool, true, false, cond, not, ◌||◌}
use mathlib.Core.List.{List, ◌++◌}
use native.Mathlib.Omega.{arith}
use lib.Dec.{eqb}
use borrow.Author.Tests.{eqb-true, eqb-false}
use Rattle.bits.specs.First.{first}
use Rattle.image.specs.Layout.{layout_of}
use Rattle.image.specs.Content.{count_in}
use Rattle.image.specs.Check.{refused, good, row_of, check_of, image_rows}
use Rattle.image.specs.Rules.{Good}
use Rattle.image.specs.Steps.{ready_row, short, header_wrong, content_broken}
use Rattle.image.proofs.Answers.{row-0, ready-left, ready-none, ready-some, ready-zero, row-pending}
use Rattle.tag.specs.declared.Live.{Live}
use Rattle.tag.specs.declared.Answer.{Answer}
use Rattle.tag.specs.declared.Session.{Session}
use Rattle.tag.specs.Session.{row_in, Stops}
use Rattle.tag.specs.Result.{Result}
use Rattle.tag.specs.Table.{is_off, live_of, first_rows}
use Rattle.tag.specs.Steps.{radio_row, held_row, front_row}

-- a session's own answer: 5, 6 where the port forbids the call, or 0
abbrev pub own_row : Option Live → Bool → ℕ
own_row p port = cond (is_off p) 5 (cond port 6 0)

pub radio-own : (p : Option Live) → radio_row p ≡ own_row p (live_of p).held
radio-own None = refl
radio-own (Some l) = refl

pub held-own : (p : Option Live) → held_row p ≡ own_row p (not (live_of p).held)
held-own None = refl
held-own (Some l) = go l.held
  where
    go : (b : Bool) → ◌≡◌ {A = ℕ} (cond b 0 6) (cond (not b) 6 0)
    go true = refl
    go false = refl

-- the number of the first test that holds
abbrev number_by : Bool → Bool → Bool → Bool → Bool → ℕ
number_by a b c d e = cond a 1 (cond b 2 (cond c 3 (cond d 5 (cond e 6 0))))

module _ (p : Option Live) (m : List ℕ) (port : Bool) where
  number_is : front_row (own_row p port) m ≡ number_by (short m) (header_wrong m) (content_broken m) (is_off p || not (eqb (count_in (layout_of m) m) 0)) port
  unfolding front_row ready_row check_of
  number_is = go (short m) (header_wrong m) (content_broken m) (eqb (count_in (layout_of m) m) 0) (is_off p) port
    where
      go : (a b c w o e : Bool)
          → (let v = row_of (cond a (refused 1) (cond b (refused 2) (cond c (refused 3) (good (layout_of m))))) in
          let r = cond (eqb v 0) (cond w 0 5) v in
          cond (eqb r 0) (cond o 5 (cond e 6 0)) r)
          ≡ number_by a b c (o || not w) e
      go true b c w o e = refl
      go false true c w o e = refl
      go false false true w o e = refl
      go false false false true true e = refl
      go false false false true false e = refl
      go false false false false true e = refl
      go false false false false false e = refl

-- none of them holds
pub record Passed (p : Option Live) (m : List ℕ) (port : Bool) : Type 0 where
  pub long : short m ≡ false
  pub header : header_wrong m ≡ false
  pub content : content_broken m ≡ false
  pub ready : is_off p || not (eqb (count_in (layout_of m) m) 0) ≡ false
  pub allowed : port ≡ false

none : (a b c d e : Bool) → number_by a b c d e ≡ 0 → (a ≡ false) × (b ≡ false) × (c ≡ false) × (d ≡ false) × (e ≡ false)
none true b c d e h = absurd (omega arith)
none false true c d e h = absurd (omega arith)
none false false true d e h = absurd (omega arith)
none false false false true e h = absurd (omega arith)
none false false false false true h = absurd (omega arith)
none false false false false false h = (refl, refl, refl, refl, refl)

module _ (v : Session) (m : List ℕ) (port : Bool) {h row : ℕ} (own : h ≡ own_row v.power port) (is : row ≡ front_row h m) where
  by_tests : row ≡ number_by (short m) (header_wrong m) (content_broken m) (is_off v.power || not (eqb (count_in (layout_of m) m) 0)) port
  by_tests = is ∙ ap (λ (k : ℕ). front_row k m) own ∙ number_is v.power m port

  pub front-passes : row ≡ 0 → Passed v.power m port
  front-passes z =
      let n = none (short m) (header_wrong m) (content_broken m) (is_off v.power || not (eqb (count_in (layout_of m) m) 0)) port (sym by_tests ∙ z) in
      record { long = n.0; header = n.1; content = n.2; ready = n.3; allowed = n.4 }

  -- what a number leaves is what the first of the rows leaves
  pub front-stops : (everything : ℕ → Result) (x : Result) → (row ≡ 0 → ⊥) → everything row ≡ first (first_rows everything v m port) x
  front-stops everything x z =
      ap everything by_tests ∙ go (short m) (header_wrong m) (content_broken m) (is_off v.power || not (eqb (count_in (layout_of m) m) 0)) port (λ e. z (by_tests ∙ e))
    where
      go : (a b c d e : Bool) → (number_by a b c d e ≡ 0 → ⊥)
          → everything (number_by a b c d e)
          ≡ cond a (everything 1) (cond b (everything 2) (cond c (everything 3) (cond d (everything 5) (cond e (everything 6) x))))
      go true b c d e n = refl
      go false true c d e n = refl
      go false false true d e n = refl
      go false false false true e n = refl
      go false false false false true n = refl
      go false false false false false n = absurd (n refl)

-- past them the rest of the table follows
pub front-over : (v : Session) (m : List ℕ) (port : Bool) → Passed v.power m port → (everything : ℕ → Result) (x : Result)
    → first (first_rows everything v m port) x ≡ x
front-over v m port p everything x = rw (p.long, p.header, p.content, p.ready, p.allowed)

-- an image that passes is good, and the session is under power
pub passed-good : {p : Option Live} {m : List ℕ} {port : Bool} → Passed p m port → Good (layout_of m) m
unfolding check_of
passed-good {p} {m} {port} h = row-0 m (rw (h.long, h.header, h.content))

pub passed_on : {m : List ℕ} {port : Bool} → Passed None m port → ⊥
passed_on h = true≢false h.ready

-- an image whose number is none of 0 to 3 has pending words
pub ready-five : (m : List ℕ) {n : ℕ} → n ≡ ready_row m → (n ≡ 0 → ⊥) → (n ≡ 1 → ⊥) → (n ≡ 2 → ⊥) → (n ≡ 3 → ⊥) → 5 ≡ ready_row m
ready-five m {n} e o a b c = go (eqb (count_in (layout_of m) m) 0) refl
  where
    z : row_of (check_of m) ≡ 0
    z = ready-left m e a b c

    go : (t : Bool) → eqb (count_in (layout_of m) m) 0 ≡ t → 5 ≡ ready_row m
    go true q = absurd (o (e ∙ ready-none m (eqb-true _ 0 q) z))
    go false q = sym (ready-some m (eqb-false _ 0 q) z)

-- what the check refuses is the first of its rows
pub image-stops : (m : List ℕ) {n : ℕ} → row_of (check_of m) ≡ n → (n ≡ 0 → ⊥) → (everything : ℕ → Result) (rest : List (Result × Bool)) (x : Result)
    → everything n ≡ first (image_rows everything m ++ rest) x
unfolding check_of
image-stops m e z everything rest x = ap everything (sym e) ∙ go (short m) (header_wrong m) (content_broken m) (λ q. z (sym e ∙ q))
  where
    go : (a b c : Bool) → (row_of (cond a (refused 1) (cond b (refused 2) (cond c (refused 3) (good (layout_of m))))) ≡ 0 → ⊥)
        → everything (row_of (cond a (refused 1) (cond b (refused 2) (cond c (refused 3) (good (layout_of m))))))
        ≡ cond a (everything 1) (cond b (everything 2) (cond c (everything 3) (first rest x)))
    go true b c n = refl
    go false true c n = refl
    go false false true n = refl
    go false false false n = absurd (n refl)

-- an image that the check lets pass, words pending or not
pub passed-check : (m : List ℕ) (b : Bool) → cond b 5 0 ≡ ready_row m → row_of (check_of m) ≡ 0
passed-check m true e = row-pending m (sym e)
passed-check m false e = (ready-zero m (sym e)).0

-- an answer that stops is none of 0
pub err-stops : {r : _} {a : Answer} → ◌≡◌ {A = _} r (Err a) → Stops r → row_in r ≡ 0 → ⊥
err-stops e s z = subst Stops e s (sym (ap row_in e) ∙ z)

-- The facts of inventory are the tests of its definitions. Assumes nothing.
use Prim.Native.Nat.{ℕ, ◌+◌, ◌*◌, ◌<◌}
use mathlib.Core.Path.{◌≡◌, refl, sym, ap, ap₂, ◌∙◌}
use mathlib.Core.Logic.{◌≢◌, ◌⊎◌, inl, inr, ⊎_elim}
use mathlib.Core.Bool.{Bool, true, false, cond, not, ◌&&◌, ◌||◌}
use mathlib.Core.List.{List}
use native.Mathlib.Omega.{arith}
use lib.Dec.{eqb, leb, ltb}
use borrow.Author.Tests.{ltb-true, leb-true, eqb-true, not-true, eq-eqb, ne_eqb, le-leb, le-ltb, lt-ltb}
use Rattle.bits.specs.Bits.{bit_at, alike}
use Rattle.bits.specs.Below.{every}
use Rattle.bits.proofs.Below.{and_left, and_right, and_both, every-at, every-all, or_cases}
use Rattle.image.specs.declared.Layout.{Layout}
use Rattle.frames.specs.declared.Round.{Round}
use Rattle.frames.specs.declared.Choice.{Choice}
use Rattle.frames.specs.declared.Span.{Span}
use Rattle.rights.specs.Rights.{bank_of}
use Rattle.states.specs.declared.Flags.{Flags}
use Rattle.states.specs.declared.State.{State}
use Rattle.states.specs.declared.State.TheVariants as state
use Rattle.states.specs.declared.Who.TheVariants as who
use Rattle.states.specs.Commands.{bad_choice, bad_up_dn, link_of, was_acknowledged, hears}
use Rattle.states.specs.Inventory.{flag_at, queried_flags, inverted, matches, adjusted_q, counted_down, selects}
use Rattle.demands.specs.Facts.{Slotted, Singled, FirstStep, Matches, Adjusts, CountsDown, Selected, Takeable}
use Rattle.demands.specs.Facts as facts

-- which states hear a round's session
pub slotted-session : (st : State) (rd : Round) (slot k n : ℕ) → Slotted st rd slot → hears (who.InSession k) st n ≡ eqb rd.session k
slotted-session st rd slot k n (facts.arbitrate q s) = refl
slotted-session st rd slot k n (facts.reply q s) = refl

pub singled-session : (st : State) (rd : Round) (k n : ℕ) → Singled st rd → hears (who.InSession k) st n ≡ eqb rd.session k
singled-session st rd k n (facts.acknowledged q s) = refl
singled-session st rd k n (facts.opened l) = refl
singled-session st rd k n (facts.secured l) = refl

-- a Query's first step
same-session : State → ℕ → Bool
same-session st k = was_acknowledged st && eqb (link_of st).round.session k

singled-same : (st : State) (q : Round) (k : ℕ) → Singled st q → same-session st k ≡ eqb q.session k
unfolding same-session
singled-same st q k (facts.acknowledged p n) = refl
singled-same st q k (facts.opened l) = refl
singled-same st q k (facts.secured l) = refl

other-session : (st : State) (k : ℕ) → ((q : Round) → Singled st q → q.session ≢ k) → same-session st k ≡ false
unfolding same-session
other-session state.Ready k d = refl
other-session (state.Arbitrate q n) k d = refl
other-session (state.Reply q n) k d = refl
other-session (state.Acknowledged q n) k d = ne_eqb q.session k (d q (facts.acknowledged q n))
other-session (state.Open l) k d = ne_eqb l.round.session k (d l.round (facts.opened l))
other-session (state.Secured l) k d = ne_eqb l.round.session k (d l.round (facts.secured l))
other-session state.Killed k d = refl

pub first_step : (st : State) (k : ℕ) (f g : Flags) → FirstStep st k f g → queried_flags f st k ≡ g
unfolding same-session
first_step st k f g (inl x) =
    ap (λ (b : Bool). cond b (inverted f k) f) (singled-same st x.0 k x.1 ∙ eq-eqb x.0.session k x.2) ∙ sym x.3
first_step st k f g (inr x) = ap (λ (b : Bool). cond b (inverted f k) f) (other-session st k x.0) ∙ sym x.1

-- the tag matches
sel-test : ℕ → Bool → Bool
sel-test sel b = ltb sel 2 || (eqb sel 2 && not b) || (eqb sel 3 && b)

sel-so : (sel : ℕ) (b : Bool) → (sel < 2) ⊎ ((sel ≡ 2) × (b ≡ false)) ⊎ ((sel ≡ 3) × (b ≡ true)) → sel-test sel b ≡ true
unfolding sel-test
sel-so sel b (inl l) = ap (λ (t : Bool). t || (eqb sel 2 && not b) || (eqb sel 3 && b)) (lt-ltb sel 2 l)
sel-so sel b (inr (inl e)) = ap₂ (λ (x : ℕ) (t : Bool). ltb x 2 || (eqb x 2 && not t) || (eqb x 3 && t)) e.0 e.1
sel-so sel b (inr (inr e)) = ap₂ (λ (x : ℕ) (t : Bool). ltb x 2 || (eqb x 2 && not t) || (eqb x 3 && t)) e.0 e.1

so-sel : (sel : ℕ) (b : Bool) → sel-test sel b ≡ true → (sel < 2) ⊎ ((sel ≡ 2) × (b ≡ false)) ⊎ ((sel ≡ 3) × (b ≡ true))
unfolding sel-test
so-sel sel b e =
    ⊎_elim
    (λ x. ⊎_elim (λ y. inl (ltb-true sel 2 y)) (λ y. inr (inl (eqb-true sel 2 (and_left (eqb sel 2) (not b) y), not-true b (and_right (eqb sel 2) (not b) y)))) (or_cases (ltb sel 2) (eqb sel 2 && not b) x))
    (λ x. inr (inr (eqb-true sel 3 (and_left (eqb sel 3) b x), and_right (eqb sel 3) b x)))
    (or_cases (ltb sel 2 || (eqb sel 2 && not b)) (eqb sel 3 && b) e)

target-so : (t : ℕ) (b : Bool) → ((t ≡ 0) × (b ≡ false)) ⊎ ((t ≡ 1) × (b ≡ true)) → cond b (eqb t 1) (eqb t 0) ≡ true
target-so t b (inl e) = ap₂ (λ (x : ℕ) (c : Bool). cond c (eqb x 1) (eqb x 0)) e.0 e.1
target-so t b (inr e) = ap₂ (λ (x : ℕ) (c : Bool). cond c (eqb x 1) (eqb x 0)) e.0 e.1

so-target : (t : ℕ) (b : Bool) → cond b (eqb t 1) (eqb t 0) ≡ true → ((t ≡ 0) × (b ≡ false)) ⊎ ((t ≡ 1) × (b ≡ true))
so-target t true e = inr (eqb-true t 1 e, refl)
so-target t false e = inl (eqb-true t 0 e, refl)

pub matches-so : (f : Flags) (sel t k : ℕ) → Matches f sel t k → matches f sel t k ≡ true
unfolding sel-test
matches-so f sel t k m = and_both (sel-test sel f.sl) (cond (flag_at f k) (eqb t 1) (eqb t 0)) (sel-so sel f.sl m.0) (target-so t (flag_at f k) m.1)

not_so : (b : Bool) → (b ≡ true → ⊥) → b ≡ false
not_so true d = absurd (d refl)
not_so false d = refl

pub matches-not : (f : Flags) (sel t k : ℕ) → (Matches f sel t k → ⊥) → matches f sel t k ≡ false
unfolding sel-test
matches-not f sel t k d =
    not_so (matches f sel t k) (λ e.
    d
    (so-sel sel f.sl (and_left (sel-test sel f.sl) (cond (flag_at f k) (eqb t 1) (eqb t 0)) e), so-target t (flag_at f k) (and_right (sel-test sel f.sl) (cond (flag_at f k) (eqb t 1) (eqb t 0)) e)))

-- Q by UpDn, and a slot counted down
pub adjusts-so : (u old new : ℕ) → Adjusts u old new → adjusted_q u old ≡ new
adjusts-so u old new (inl e) = rw (e.0, lt-ltb old 15 e.1) (sym e.2)
adjusts-so u old new (inr (inl e)) = rw (e.0, le-ltb old 15 e.1) (sym e.2)
adjusts-so u old new (inr (inr (inl e))) = rw e.0 (sym e.1)
adjusts-so u old new (inr (inr (inr (inl e)))) = rw e.0 (omega (arith, e.2))
adjusts-so u old new (inr (inr (inr (inr e)))) = rw (e.0, e.1) (sym e.2)

pub says-up-down : (u old new : ℕ) → Adjusts u old new → bad_up_dn u ≡ false
says-up-down u old new (inl e) = rw e.0
says-up-down u old new (inr (inl e)) = rw e.0
says-up-down u old new (inr (inr (inl e))) = rw e.0
says-up-down u old new (inr (inr (inr (inl e)))) = rw e.0
says-up-down u old new (inr (inr (inr (inr e)))) = rw e.0

pub counts-so : (slot next : ℕ) → CountsDown slot next → counted_down slot ≡ next
counts-so slot next (inl e) = rw e.0 (sym e.1)
counts-so slot next (inr e) = rw (ne_eqb slot 0 (λ z. omega (arith, e, z))) (omega (arith, e))

-- a Select's mask
module _ (y : Layout) (m f : List ℕ) (s : Span) (at : ℕ) where
  inside : Bool
  inside = ltb s.pointer (16 * (bank_of y s.bank).words) && leb (s.pointer + s.count) (16 * (bank_of y s.bank).words)

  pub selects-so : Selected y m f s.bank s.pointer s.count at → selects y m f s at ≡ true
  unfolding selects alike inside
  selects-so h =
      let b = bank_of y s.bank in
      and_both inside _ (and_both _ _ (lt-ltb s.pointer (16 * b.words) h.begins) (le-leb (s.pointer + s.count) (16 * b.words) h.ends))
      (every-all (λ k. eqb (bit_at m (16 * b.at + s.pointer + k)) (bit_at f (at + k))) s.count (λ k l. eq-eqb _ _ (h.bits k l)))

  so-selects : selects y m f s at ≡ true → Selected y m f s.bank s.pointer s.count at
  unfolding selects alike inside
  so-selects e =
      let b = bank_of y s.bank in
      let begin : Bool = ltb s.pointer (16 * b.words) in
      let end : Bool = leb (s.pointer + s.count) (16 * b.words) in
      let test : ℕ → Bool = λ k. eqb (bit_at m (16 * b.at + s.pointer + k)) (bit_at f (at + k)) in
      let i = and_left (begin && end) (every test s.count) e in
      record {
        begins = ltb-true _ _ (and_left begin end i);
        ends = leb-true _ _ (and_right begin end i);
        bits = λ j l. eqb-true _ _ (every-at test s.count (and_right (begin && end) (every test s.count) e) j l);
      }

  pub selects-not : (Selected y m f s.bank s.pointer s.count at → ⊥) → selects y m f s at ≡ false
  selects-not d = not_so (selects y m f s at) (λ e. d (so-selects e))

pub taken-choice : (c : Choice) → Takeable c → bad_choice c ≡ false
taken-choice c h = rw (le-ltb 4 c.target h.0, ne_eqb c.bits.bank 0 h.1, h.2)

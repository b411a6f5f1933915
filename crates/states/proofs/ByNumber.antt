-- The rules over a session's numbers are the rules over its state. Assumes nothing.
use Rattle.std.specs.Prelude.{Option, None, Some}
use Prim.Native.Nat.{ℕ, zero, suc, ◌<◌}
use mathlib.Core.Path.{◌≡◌, refl, sym, ap, ap₂, ◌∙◌}
use mathlib.Core.Bool.{true≢false, Bool, true, false, cond, not, ◌&&◌, ◌||◌}
use mathlib.Core.List.{List}
use native.Mathlib.Omega.{arith}
use lib.Bits.{bit_xor, xor_zero_r}
use lib.Dec.{eqb, ltb}
use borrow.Author.Tests.{eqb-true, ne_eqb, le-ltb}
use Rattle.bits.proofs.Below.{and_left, and_right}
use Rattle.image.specs.declared.Layout.{Layout}
use Rattle.frames.specs.declared.Choice.{Choice}
use Rattle.frames.specs.declared.Order.{Order}
use Rattle.states.specs.declared.Half.{Half}
use Rattle.states.specs.declared.Half.TheVariants as half
use Rattle.states.specs.declared.Flags.{Flags}
use Rattle.states.specs.declared.State.{State}
use Rattle.states.specs.declared.State.TheVariants as state
use Rattle.states.specs.declared.Part.{Part}
use Rattle.states.specs.declared.Part.TheVariants as part
use Rattle.states.specs.declared.Who.{Who}
use Rattle.states.specs.declared.Who.TheVariants as who
use Rattle.states.specs.declared.Asks.{Asks}
use Rattle.states.specs.Commands.{asks_of, link_of, was_acknowledged, is_linked, hears, is_covered, uncovered, wrong_by, zero_access, halves_row, with_link, halved, used, numbered}
use Rattle.states.specs.Inventory.{flag_at, with_flag, inverted, queried_flags, matches, acknowledged, flag_after, selected_flags}
use Rattle.states.specs.Steps.{gate_of, picked}
use Rattle.states.specs.Numbers.{covered_in, cover_in, flags_in, half_in, upper_in, numbers_with}
use Rattle.states.specs.ByNumber.{hears_in, wrong_in, halves_in, gate_in, secured_in, used_in, halved_in, numbered_in, acknowledged_in, bit_for, is_set, flag_in, inverted_in, turned_by, selected_by, queried_in, meant, matches_in, idle_in, left_in, selected_in}

covered-in : (c : Option ℕ) → eqb (covered_in c) 0 ≡ not (is_covered c)
covered-in None = refl
covered-in (Some n) = refl

module _ (h g : ℕ) (f : Flags) (st : State) where
  hears-in : (w : Who) (n : ℕ) → hears_in w (numbers_with h g f st) n ≡ hears w st n
  hears-in who.Everyone n = refl
  hears-in who.InRound n = refl
  hears-in (who.InSession k) n = refl
  hears-in who.Replied n = refl
  hears-in who.Acknowledged n = refl
  hears-in who.Linked n = refl
  hears-in who.Secured n = refl

  pub wrong-in : (n : ℕ) (a : Asks) → wrong_in (numbers_with h g f st) n a ≡ wrong_by st n a
  wrong-in n a = rw (hears-in a.who n, covered-in (link_of st).cover)

pub bare-in : (c : Option ℕ) (w : ℕ) → bit_xor w (cover_in c) ≡ uncovered c w
bare-in None w = xor_zero_r w
bare-in (Some n) w = refl

module _ (y : Layout) (m : List ℕ) (h g : ℕ) (f : Flags) (st : State) where
  -- by the half that waits
  halves-in : (a : Option Half) (p : Part) → (link_of st).half ≡ a → halves_in y m (numbers_with h g f st) p ≡ halves_row y m (link_of st) a p
  halves-in None p e = rw e
  halves-in (Some (half.Access up)) part.Between e = rw e
  halves-in (Some (half.Access up)) (part.Access w) e = rw (e, bare-in (link_of st).cover w)
  halves-in (Some (half.Access up)) (part.Kill w) e = rw e
  halves-in (Some (half.Access up)) (part.To n) e = rw e
  halves-in (Some (half.Access up)) part.Other e = rw e
  halves-in (Some (half.Kill up)) part.Between e = rw e
  halves-in (Some (half.Kill up)) (part.Access w) e = rw e
  halves-in (Some (half.Kill up)) (part.Kill w) e = rw (e, bare-in (link_of st).cover w)
  halves-in (Some (half.Kill up)) (part.To n) e = rw e
  halves-in (Some (half.Kill up)) part.Other e = rw e

  pub gate-in : (n : ℕ) (o : Order) → gate_in y m (numbers_with h g f st) n o ≡ gate_of y m st n o
  gate-in n o = rw (wrong-in h g f st n (asks_of o), halves-in (link_of st).half (asks_of o).part refl)

module _ (h g : ℕ) (f : Flags) where
  pub used-in : (st : State) → used_in (numbers_with h g f st) ≡ numbers_with h g f (used st)
  used-in state.Ready = refl
  used-in (state.Arbitrate q slot) = refl
  used-in (state.Reply q n) = refl
  used-in (state.Acknowledged q n) = refl
  used-in (state.Open k) = refl
  used-in (state.Secured k) = refl
  used-in state.Killed = refl

  pub acknowledged-in : (st : State) → acknowledged_in (numbers_with h g f st) ≡ numbers_with h g f (acknowledged st)
  acknowledged-in state.Ready = refl
  acknowledged-in (state.Arbitrate q slot) = refl
  acknowledged-in (state.Reply q n) = refl
  acknowledged-in (state.Acknowledged q n) = refl
  acknowledged-in (state.Open k) = refl
  acknowledged-in (state.Secured k) = refl
  acknowledged-in state.Killed = refl

  -- Open and Secured
  pub halved-in : (st : State) (a : Option Half) → is_linked st ≡ true → halved_in (numbers_with h g f st) (half_in a) (upper_in a) ≡ numbers_with h g f (with_link st (halved (link_of st) a))
  halved-in state.Ready a e = absurd (true≢false (sym e))
  halved-in (state.Arbitrate q slot) a e = absurd (true≢false (sym e))
  halved-in (state.Reply q n) a e = absurd (true≢false (sym e))
  halved-in (state.Acknowledged q n) a e = absurd (true≢false (sym e))
  halved-in (state.Open k) a e = refl
  halved-in (state.Secured k) a e = refl
  halved-in state.Killed a e = absurd (true≢false (sym e))

  pub secured-in : (st : State) → is_linked st ≡ true → secured_in (numbers_with h g f st) ≡ numbers_with h g f (state.Secured (halved (link_of st) None))
  secured-in state.Ready e = absurd (true≢false (sym e))
  secured-in (state.Arbitrate q slot) e = absurd (true≢false (sym e))
  secured-in (state.Reply q n) e = absurd (true≢false (sym e))
  secured-in (state.Acknowledged q n) e = absurd (true≢false (sym e))
  secured-in (state.Open k) e = refl
  secured-in (state.Secured k) e = refl
  secured-in state.Killed e = absurd (true≢false (sym e))

  -- Acknowledged, Open and Secured
  module _ (y : Layout) (m : List ℕ) (fresh : ℕ) where
    opened_in : (q : _) (n : ℕ) (b : Bool) → zero_access y m ≡ b → numbered_in y m fresh (numbers_with h g f (state.Acknowledged q n)) ≡ numbers_with h g f (numbered y m fresh (state.Acknowledged q n))
    opened_in q n true e = rw e
    opened_in q n false e = rw e

    pub numbered-in : (st : State) → was_acknowledged st ≡ true → numbered_in y m fresh (numbers_with h g f st) ≡ numbers_with h g f (numbered y m fresh st)
    numbered-in state.Ready e = absurd (true≢false (sym e))
    numbered-in (state.Arbitrate q slot) e = absurd (true≢false (sym e))
    numbered-in (state.Reply q n) e = absurd (true≢false (sym e))
    numbered-in (state.Acknowledged q n) e = opened_in q n (zero_access y m) refl
    numbered-in (state.Open k) e = refl
    numbered-in (state.Secured k) e = refl
    numbered-in state.Killed e = absurd (true≢false (sym e))

-- what holds for both truth values, and so for six
unfoldable pub both : (Bool → Bool) → Bool
both p = p true && p false

each : (p : Bool → Bool) → both p ≡ true → (b : Bool) → p b ≡ true
unfolding both
each p e true = and_left (p true) (p false) e
each p e false = and_right (p true) (p false) e

unfoldable pub all : (Bool → Bool → Bool → Bool → Bool → Bool → Bool) → Bool
all p = both (λ a. both (λ b. both (λ c. both (λ d. both (λ e. both (λ t. p a b c d e t))))))

pub each6 : (p : Bool → Bool → Bool → Bool → Bool → Bool → Bool) → all p ≡ true → (f : Flags) (t : Bool) → p f.s0 f.s1 f.s2 f.s3 f.sl t ≡ true
unfolding all
each6 p h f t = each _ (each _ (each _ (each _ (each _ (each _ h f.s0) f.s1) f.s2) f.s3) f.sl) t

-- a number of the flags 0 to 4, or one past them
by_flag : (P : ℕ → Type 0) → P 0 → P 1 → P 2 → P 3 → P 4 → ((t : ℕ) → 4 < t → P t) → (t : ℕ) → P t
by_flag P a b c d e p zero = a
by_flag P a b c d e p (suc zero) = b
by_flag P a b c d e p (suc (suc zero)) = c
by_flag P a b c d e p (suc (suc (suc zero))) = d
by_flag P a b c d e p (suc (suc (suc (suc zero)))) = e
by_flag P a b c d e p (suc (suc (suc (suc (suc t))))) = p (suc (suc (suc (suc (suc t))))) (omega arith)

unfoldable pub flags : Bool → Bool → Bool → Bool → Bool → Flags
flags a b c d e = record { s0 = a; s1 = b; s2 = c; s3 = d; sl = e }

-- a flag asked, and as it is set, of every set of flags
asked : ℕ → Bool → Bool → Bool → Bool → Bool → Bool → Bool
asked k a b c d e t = let f = flags a b c d e in cond (is_set (flags_in f) (bit_for k)) (flag_at f k) (not (flag_at f k))

set : ℕ → Bool → Bool → Bool → Bool → Bool → Bool → Bool
set k a b c d e t = let f = flags a b c d e in eqb (turned_by (flags_in f) (bit_for k) (is_set (flags_in f) (bit_for k)) t) (flags_in (with_flag f k t))

turned : ℕ → Bool → Bool → Bool → Bool → Bool → Bool → Bool
turned k a b c d e t = let f = flags a b c d e in eqb (inverted_in (flags_in f) k) (flags_in (inverted f k))

pub alike : (x y : Bool) → cond x y (not y) ≡ true → x ≡ y
alike true true h = refl
alike true false h = sym h
alike false true h = h
alike false false h = refl

module _ (f : Flags) where
  pub flag-in : (t : ℕ) → flag_in (flags_in f) t ≡ flag_at f t
  unfolding both all flags asked
  flag-in =
      by_flag (λ t. flag_in (flags_in f) t ≡ flag_at f t)
      (alike _ _ (each6 (asked 0) refl f true)) (alike _ _ (each6 (asked 1) refl f true)) (alike _ _ (each6 (asked 2) refl f true)) (alike _ _ (each6 (asked 3) refl f true))
      (alike _ _ (each6 (asked 4) refl f true))
      (λ t h. rw (le-ltb t 4 (omega arith), ne_eqb t 0 (omega arith), ne_eqb t 1 (omega arith), ne_eqb t 2 (omega arith), ne_eqb t 3 (omega arith)) (alike _ _ (each6 (asked 4) refl f true)))

  -- the flag of a target, by its bit alone
  set-asked : (k : ℕ) → is_set (flags_in f) (bit_for k) ≡ flag_at f k → ((b : Bool) → turned_by (flags_in f) (bit_for k) (is_set (flags_in f) (bit_for k)) b ≡ flags_in (with_flag f k b))
      → (a : ℕ) (match : Bool) → selected_by (flags_in f) k a match ≡ flags_in (with_flag f k (flag_after k a match (flag_at f k)))
  set-asked k e h a match = h (flag_after k a match (is_set (flags_in f) (bit_for k))) ∙ ap (λ (o : Bool). flags_in (with_flag f k (flag_after k a match o))) e

  either_way : (b : Bool) (n k : ℕ) → k ≡ n → cond b n k ≡ n
  either_way true n k e = refl
  either_way false n k e = e

  past-them : (t : ℕ) → 4 < t → inverted_in (flags_in f) t ≡ flags_in f
  past-them t h = rw (ne_eqb t 0 (omega arith), ne_eqb t 1 (omega arith), ne_eqb t 2 (omega arith), ne_eqb t 3 (omega arith), ne_eqb t 4 (omega arith)) (xor_zero_r (flags_in f))

  none-set : (t : ℕ) (b : Bool) → 4 < t → flags_in (with_flag f t b) ≡ flags_in f
  none-set t b h = rw (ne_eqb t 0 (omega arith), ne_eqb t 1 (omega arith), ne_eqb t 2 (omega arith), ne_eqb t 3 (omega arith), ne_eqb t 4 (omega arith))

  pub inverted-in : (t : ℕ) → inverted_in (flags_in f) t ≡ flags_in (inverted f t)
  unfolding both all flags turned
  inverted-in =
      by_flag (λ t. inverted_in (flags_in f) t ≡ flags_in (inverted f t))
      (eqb-true _ _ (each6 (turned 0) refl f true)) (eqb-true _ _ (each6 (turned 1) refl f true)) (eqb-true _ _ (each6 (turned 2) refl f true)) (eqb-true _ _ (each6 (turned 3) refl f true))
      (eqb-true _ _ (each6 (turned 4) refl f true))
      (λ t h. past-them t h ∙ sym (none-set t (not (flag_at f t)) h))

  pub set-in : (a : ℕ) (match : Bool) (t : ℕ) → selected_by (flags_in f) t a match ≡ flags_in (with_flag f t (flag_after t a match (flag_at f t)))
  unfolding both all flags set asked
  set-in a match =
      by_flag (λ t. selected_by (flags_in f) t a match ≡ flags_in (with_flag f t (flag_after t a match (flag_at f t))))
      (set-asked 0 (alike _ _ (each6 (asked 0) refl f true)) (λ b. eqb-true _ _ (each6 (set 0) refl f b)) a match)
      (set-asked 1 (alike _ _ (each6 (asked 1) refl f true)) (λ b. eqb-true _ _ (each6 (set 1) refl f b)) a match)
      (set-asked 2 (alike _ _ (each6 (asked 2) refl f true)) (λ b. eqb-true _ _ (each6 (set 2) refl f b)) a match)
      (set-asked 3 (alike _ _ (each6 (asked 3) refl f true)) (λ b. eqb-true _ _ (each6 (set 3) refl f b)) a match)
      (set-asked 4 (alike _ _ (each6 (asked 4) refl f true)) (λ b. eqb-true _ _ (each6 (set 4) refl f b)) a match)
      (λ t h.
      let old = is_set (flags_in f) (bit_for t) in
      let new = flag_after t a match old in
      either_way (picked old new (not new)) (flags_in f) (bit_xor (flags_in f) (bit_for t)) (past-them t h) ∙ sym (none-set t (flag_after t a match (flag_at f t)) h))

-- Query: whom its Sel means, whom it matches, and what its first step leaves of the flags
meant-in : (sel : ℕ) (sl : Bool) → meant sel sl ≡ (ltb sel 2 || (eqb sel 2 && not sl) || (eqb sel 3 && sl))
meant-in sel sl = go (eqb sel 2) (ltb sel 2) sl refl
  where
    go : (b a s : Bool) → eqb sel 2 ≡ b → cond a true (cond b (not s) (eqb sel 3 && s)) ≡ (a || (b && not s) || (eqb sel 3 && s))
    go true true s e = refl
    go true false true e = rw (ne_eqb sel 3 (omega (arith, eqb-true sel 2 e)))
    go true false false e = refl
    go false true s e = refl
    go false false s e = refl

unless_not : (x y : Bool) → cond (not x) false y ≡ (x && y)
unless_not true y = refl
unless_not false y = refl

pub matches-in : (f : Flags) (sel t k : ℕ) → matches_in (flags_in f) sel t k ≡ matches f sel t k
matches-in f sel t k =
    ap₂ (λ (x y : Bool). cond (not (meant sel x)) false (cond y (eqb t 1) (eqb t 0))) (flag-in f 4) (flag-in f k)
    ∙ ap (λ (x : Bool). cond (not x) false (cond (flag_at f k) (eqb t 1) (eqb t 0))) (meant-in sel f.sl)
    ∙ unless_not (ltb sel 2 || (eqb sel 2 && not f.sl) || (eqb sel 3 && f.sl)) (cond (flag_at f k) (eqb t 1) (eqb t 0))

module _ (h g : ℕ) (f : Flags) (st : State) where
  pub queried-in : (k : ℕ) → queried_in (numbers_with h g f st) k ≡ flags_in (queried_flags f st k)
  queried-in k = go (was_acknowledged st && eqb (link_of st).round.session k)
    where
      go : (b : Bool) → cond b (inverted_in (flags_in f) k) (flags_in f) ≡ flags_in (cond b (inverted f k) f)
      go true = inverted-in f k
      go false = refl

  pub left-in : left_in (numbers_with h g f st) ≡ numbers_with h g (inverted f (link_of st).round.session) state.Ready
  left-in = rw (inverted-in f (link_of st).round.session)

  pub selected-in : (c : Choice) (match : Bool) → selected_in (numbers_with h g f st) c match ≡ numbers_with h g (selected_flags f c match) state.Ready
  selected-in c match =
      ap (idle_in (numbers_with h g f st)) (set-in f c.action match c.target)

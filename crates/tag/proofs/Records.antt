-- A session written as a record and read again is the session, and the code's reading of a record is `session_of`. Assumes nothing.
use Rattle.std.specs.Prelude.{Option, None, Some}
use Prim.Native.Nat.{ℕ, zero, suc, ◌+◌, ◌*◌, ◌/◌, ◌%◌, ◌^◌, ◌≤◌, ◌<◌}
use mathlib.Core.Path.{◌≡◌, refl, sym, ap, subst, ◌∙◌}
use mathlib.Core.Bool.{true≢false, Bool, true, false, cond, not, ◌&&◌, ◌||◌}
use mathlib.Core.List.{[], ◌∷◌}
use native.Mathlib.Omega.{arith}
use lib.Dec.{eqb, leb, ltb}
use borrow.Author.Tests.{eq-eqb, ne_eqb, eqb-true, eqb-false, leb-true, lt-ltb, le-ltb, ltb-true, ltb-false, not-true}
use Rattle.bits.proofs.Below.{and_left, and_right, and_both, all-each, every-at}
use Rattle.states.specs.declared.Half.{Half}
use Rattle.states.specs.declared.Half.TheVariants as half
use Rattle.states.specs.declared.Flags.{Flags}
use Rattle.states.specs.declared.Link.{Link}
use Rattle.states.specs.declared.State.{State}
use Rattle.states.specs.declared.State.TheVariants as state
use Rattle.states.specs.declared.Numbers.{Numbers}
use Rattle.states.specs.declared.Record.{Record}
use Rattle.states.specs.Commands.{link_of, slot_of, state_number}
use Rattle.states.specs.Numbers.{numbers_in, covered_in, cover_in, half_in, upper_in, flags_in, numbers_with}
use Rattle.states.proofs.ByNumber.{both, all, each6, alike, flags}
use Rattle.states.proofs.Parts.{equal}
use Rattle.tag.specs.declared.Register.{Register}
use Rattle.tag.specs.declared.Live.{Live}
use Rattle.tag.specs.declared.Session.{Session}
use Rattle.tag.specs.Session.{off_session, on}
use Rattle.tag.specs.Table.{is_off, live_of}
use Rattle.tag.specs.Port.{bit_of, number_in}
use Rattle.tag.specs.Records.{numbers_on, numbers_of, cover_of, half_of, round_from, link_from, is_one, flags_from, register_from, on_of, loose_of, same, session_of}
use Rattle.tag.specs.RecordSteps.{state_from, near_of, no_state, too_large, numbers_fit, idle_fits, bare_fits, state_fits, fits_of}

-- writing, then reading
bit-again : (b : Bool) → not (eqb (bit_of b) 0) ≡ b
bit-again true = refl
bit-again false = refl

cover_again : (c : Option ℕ) → cover_of (covered_in c) (cover_in c) ≡ c
cover_again None = refl
cover_again (Some n) = refl

half-again : (h : Option Half) → half_of (half_in h) (upper_in h) ≡ h
half-again None = refl
half-again (Some (half.Access u)) = refl
half-again (Some (half.Kill u)) = refl

link-again : (k : Link) → link_from (numbers_with 0 0 (flags true true true true true) (state.Open k)) ≡ k
link-again k = λ i. record { round = k.round; handle = k.handle; cover = cover_again k.cover i; half = half-again k.half i }

-- the flag that is read at each bit, of every set of flags
read : (Flags → Bool) → ℕ → Bool → Bool → Bool → Bool → Bool → Bool → Bool
read g k a b c d e t = let f = flags a b c d e in cond (is_one (flags_in f) k) (g f) (not (g f))

flags-again : (f : Flags) → flags_from (flags_in f) ≡ f
unfolding both all flags read
flags-again f =
    λ i. record {
      s0 = alike (is_one (flags_in f) 0) f.s0 (each6 (read (λ f. f.s0) 0) refl f true) i;
      s1 = alike (is_one (flags_in f) 1) f.s1 (each6 (read (λ f. f.s1) 1) refl f true) i;
      s2 = alike (is_one (flags_in f) 2) f.s2 (each6 (read (λ f. f.s2) 2) refl f true) i;
      s3 = alike (is_one (flags_in f) 3) f.s3 (each6 (read (λ f. f.s3) 3) refl f true) i;
      sl = alike (is_one (flags_in f) 4) f.sl (each6 (read (λ f. f.sl) 4) refl f true) i;
    }

register-again : (g : Register) → register_from (number_in g) ≡ g
register-again g = go g.unwritten g.killed
  where
    go : (a b : Bool) → register_from (2 * bit_of a + bit_of b) ≡ record { unwritten = a; killed = b }
    go true true = refl
    go true false = refl
    go false true = refl
    go false false = refl

on-again : (l : Live) (a b : State) → a ≡ b → on (flags_from (flags_in l.flags)) a (not (eqb (bit_of l.held) 0)) (register_from (number_in l.register)) ≡ on l.flags b l.held l.register
on-again l a b p = λ i. on (flags-again l.flags i) (p i) (bit-again l.held i) (register-again l.register i)

loose-again : (l : Live) (st : State) → loose_of (numbers_with (bit_of l.held) (number_in l.register) l.flags st) ≡ on l.flags st l.held l.register
unfolding loose_of
loose-again l state.Ready = on-again l state.Ready state.Ready refl
loose-again l (state.Arbitrate q slot) = on-again l (state.Arbitrate q slot) (state.Arbitrate q slot) refl
loose-again l (state.Reply q n) = on-again l (state.Reply q n) (state.Reply q n) refl
loose-again l (state.Acknowledged q n) = on-again l (state.Acknowledged q n) (state.Acknowledged q n) refl
loose-again l (state.Open k) = on-again l (state.Open _) (state.Open k) (ap (λ (j : Link). state.Open j) (link-again k))
loose-again l (state.Secured k) = on-again l (state.Secured _) (state.Secured k) (ap (λ (j : Link). state.Secured j) (link-again k))
loose-again l state.Killed = on-again l state.Killed state.Killed refl

same_self : (v : Numbers) → same v v ≡ true
unfolding same
same_self v = simp (eq-eqb v.state v.state refl, eq-eqb v.held v.held refl, eq-eqb v.reg v.reg refl, eq-eqb v.covered v.covered refl, eq-eqb v.half v.half refl, eq-eqb v.round v.round refl, eq-eqb v.q v.q refl, eq-eqb v.flags v.flags refl, eq-eqb v.number v.number refl, eq-eqb v.cover v.cover refl, eq-eqb v.upper v.upper refl, eq-eqb v.slot v.slot refl)

-- THE LAW: a session written and read is the session
pub again : (p : Option Live) → session_of (numbers_of p) ≡ record { power = p }
unfolding session_of loose_of same
again None = refl
again (Some l) = rw (loose-again l l.state) (simp (same_self (numbers_on l)))

-- numbers that are `same` are equal
same-is : (a b : Numbers) → same a b ≡ true → a ≡ b
unfolding same
same-is a b e =
    let t = all-each (eqb a.state b.state ∷ eqb a.held b.held ∷ eqb a.reg b.reg ∷ eqb a.covered b.covered ∷ eqb a.half b.half ∷ eqb a.round b.round ∷ eqb a.q b.q ∷ eqb a.flags b.flags ∷ eqb a.number b.number ∷ eqb a.cover b.cover ∷ eqb a.upper b.upper ∷ eqb a.slot b.slot ∷ []) e in
    let u = t.1.1.1.1.1.1 in
    equal a b (eqb-true _ _ t.0) (eqb-true _ _ t.1.0) (eqb-true _ _ t.1.1.0) (eqb-true _ _ t.1.1.1.0) (eqb-true _ _ t.1.1.1.1.0) (eqb-true _ _ t.1.1.1.1.1.0) (eqb-true _ _ u.0) (eqb-true _ _ u.1.0) (eqb-true _ _ u.1.1.0) (eqb-true _ _ u.1.1.1.0) (eqb-true _ _ u.1.1.1.1.0) (eqb-true _ _ u.1.1.1.1.1.0)

is_same : (a b : Numbers) → a ≡ b → same a b ≡ true
is_same a b e = subst (λ (v : Numbers). same a v ≡ true) e (same_self a)

-- numbers that don't read as Off are those of what they read as
pub only : (v : Numbers) → (session_of v ≡ off_session → ⊥) → numbers_of (session_of v).power ≡ v
unfolding session_of
only v live = go (same (numbers_of (loose_of v).power) v) refl live
  where
    go : (b : Bool) → same (numbers_of (loose_of v).power) v ≡ b → (session_of v ≡ off_session → ⊥) → numbers_of (session_of v).power ≡ v
    go true e live = rw e (same-is _ _ e)
    go false e live = absurd (live (rw e refl))

-- parts of a record that are asked at once: two bytes
module _ (w : ℕ) where
  bytes : w % 65536 ≡ 0 → (w % 256 ≡ 0) × (w / 256 % 256 ≡ 0)
  bytes e = (omega (arith, e), omega (arith, e))

  of-bytes : w % 256 ≡ 0 → w / 256 % 256 ≡ 0 → w % 65536 ≡ 0
  of-bytes a b = omega (arith, a, b)

module _ (n : ℕ) where
  at32 : n / 2 ^ 32 % 256 ≡ n / 2 ^ 24 / 256 % 256
  at32 = omega arith

  at48 : n / 2 ^ 48 % 256 ≡ n / 2 ^ 40 / 256 % 256
  at48 = omega arith

  -- the words of a number, from the lowest on
  by-words : n ≡ n % 65536 + 65536 * (n / 65536 % 65536 + 65536 * (n / 2 ^ 32 % 65536 + 65536 * (n / 2 ^ 48)))
  by-words = omega arith

  three-words : n % 2 ^ 48 ≡ n % 65536 + 65536 * (n / 65536 % 65536 + 65536 * (n / 2 ^ 32 % 65536))
  three-words = omega arith

module _ (a b c d : ℕ) where
  zeros : a + 65536 * (b + 65536 * c) ≡ 0 → (a ≡ 0) × (b ≡ 0) × (c ≡ 0)
  zeros e = (omega (arith, e), omega (arith, e), omega (arith, e))

  lowest : a + 65536 * (b + 65536 * (c + 65536 * d)) < 65536 → (b ≡ 0) × (c ≡ 0) × (d ≡ 0)
  lowest e = (omega (arith, e), omega (arith, e), omega (arith, e))

  alone : (n : ℕ) → n ≡ a + 65536 * (b + 65536 * (c + 65536 * d)) → b ≡ 0 → c ≡ 0 → d ≡ 0 → n ≡ a
  alone n e p q s = omega (arith, e, p, q, s)

-- reading, then writing, gives the number back
bit-back : (x : ℕ) → x ≤ 1 → bit_of (not (eqb x 0)) ≡ x
bit-back zero l = refl
bit-back (suc zero) l = refl
bit-back (suc (suc x)) l = absurd (omega arith)

covered-back : (d n : ℕ) → d ≤ 1 → covered_in (cover_of d n) ≡ d
covered-back zero n l = refl
covered-back (suc zero) n l = refl
covered-back (suc (suc d)) n l = absurd (omega arith)

cover-back : (d n : ℕ) → (d ≡ 0 → n ≡ 0) → cover_in (cover_of d n) ≡ n
cover-back zero n z = sym (z refl)
cover-back (suc d) n z = let some : suc d ≡ 0 → ⊥ = omega arith in simp (ne_eqb (suc d) 0 some)

half_back : (k u : ℕ) → k ≤ 2 → half_in (half_of k u) ≡ k
half_back zero u l = refl
half_back (suc zero) u l = refl
half_back (suc (suc zero)) u l = refl
half_back (suc (suc (suc k))) u l = absurd (omega arith)

upper-back : (k u : ℕ) → (k ≡ 0 → u ≡ 0) → upper_in (half_of k u) ≡ u
upper-back zero u z = sym (z refl)
upper-back (suc zero) u z = refl
upper-back (suc (suc k)) u z =
    let some : suc (suc k) ≡ 0 → ⊥ = omega arith in
    let more : suc (suc k) ≡ 1 → ⊥ = omega arith in
    simp (ne_eqb (suc (suc k)) 0 some, ne_eqb (suc (suc k)) 1 more)

flags-back : (n : ℕ) → n ≤ 31 → flags_in (flags_from n) ≡ n
flags-back n l = eqb-true _ _ (every-at (λ k. eqb (flags_in (flags_from k)) k) 32 refl n (omega arith))

register-back : (n : ℕ) → n ≤ 3 → number_in (register_from n) ≡ n
register-back n l = eqb-true _ _ (every-at (λ k. eqb (number_in (register_from k)) k) 4 refl n (omega arith))

-- what the tests tell of any numbers
neither : (a b : Bool) → (a || b) ≡ false → (a ≡ false) × (b ≡ false)
neither true b e = absurd (true≢false e)
neither false b e = (refl, e)

record Within (v : Numbers) : Type 0 where
  held : v.held ≤ 1
  reg : v.reg ≤ 3
  covered : v.covered ≤ 1
  flags : v.flags ≤ 31

within : (v : Numbers) → too_large v ≡ false → Within v
within v e =
    let t = neither (ltb 1 v.held || ltb 3 v.reg) (ltb 1 v.covered || ltb 31 v.flags) e in
    let a = neither (ltb 1 v.held) (ltb 3 v.reg) t.0 in
    let b = neither (ltb 1 v.covered) (ltb 31 v.flags) t.1 in
    record { held = ltb-false 1 _ a.0; reg = ltb-false 3 _ a.1; covered = ltb-false 1 _ b.0; flags = ltb-false 31 _ b.1 }

record Linked (v : Numbers) : Type 0 where
  slot : v.slot ≡ 0
  half : v.half ≤ 2
  cover : v.covered ≡ 0 → v.cover ≡ 0
  upper : v.half ≡ 0 → v.upper ≡ 0

zero-with : (a b : ℕ) → (not (eqb a 0) || eqb b 0) ≡ true → a ≡ 0 → b ≡ 0
zero-with a b e z = eqb-true b 0 (simp (eq-eqb a 0 z) at e)

zero-without : (k u : ℕ) → cond (eqb k 0) (eqb u 0) (leb k 2) ≡ true → k ≡ 0 → u ≡ 0
zero-without k u e z = eqb-true u 0 (simp (eq-eqb k 0 z) at e)

one_of_three : (k u : ℕ) → cond (eqb k 0) (eqb u 0) (leb k 2) ≡ true → k ≤ 2
one_of_three zero u e = omega arith
one_of_three (suc k) u e =
    let some : suc k ≡ 0 → ⊥ = omega arith in
    leb-true (suc k) 2 (simp (ne_eqb (suc k) 0 some) at e)

linked : (r : Record) (v : Numbers) → (eqb v.state 5 || eqb v.state 6) ≡ true → state_fits r v ≡ true → Linked v
unfolding state_fits numbers_fit
linked r v l e =
    let x = not (eqb v.covered 0) || eqb v.cover 0 in
    let y = cond (eqb v.half 0) (eqb v.upper 0) (leb v.half 2) in
    let g : (eqb v.slot 0 && (x && y)) ≡ true = simp l at e in
    let n = and_right (eqb v.slot 0) (x && y) g in
    record {
      slot = eqb-true v.slot 0 (and_left (eqb v.slot 0) (x && y) g);
      half = one_of_three v.half v.upper (and_right x y n);
      cover = zero-with v.covered v.cover (and_left x y n);
      upper = zero-without v.half v.upper (and_right x y n);
    }

bare : (r : Record) (v : Numbers) → (eqb v.state 5 || eqb v.state 6) ≡ false → state_fits r v ≡ true → bare_fits r v ≡ true
unfolding state_fits
bare r v l e = simp l at e

-- what the tests of a state without a cover tell
module _ (r : Record) (v : Numbers) (is : numbers_in r ≡ v) (fit : bare_fits r v ≡ true) where
  first-test : Bool
  first-test = eqb (r.low / 2 ^ 24 % 2 ^ 16) 0

  more-tests : Bool
  more-tests = cond (eqb v.state 2) (eqb (r.high % 2 ^ 48) 0) (cond (eqb v.state 3 || eqb v.state 4) (ltb r.high (2 ^ 16)) (idle_fits r))

  more : more-tests ≡ true
  unfolding bare_fits first-test more-tests
  more = and_right first-test more-tests fit

  uncovered : (v.covered ≡ 0) × (v.half ≡ 0)
  unfolding bare_fits first-test more-tests
  uncovered =
      let t = bytes (r.low / 2 ^ 24) (eqb-true _ 0 (and_left first-test more-tests fit)) in
      (sym (ap (λ (w : Numbers). w.covered) is) ∙ t.0, sym (ap (λ (w : Numbers). w.half) is) ∙ at32 r.low ∙ t.1)

  waiting : v.state ≡ 2 → (v.number ≡ 0) × (v.cover ≡ 0) × (v.upper ≡ 0)
  unfolding more-tests
  waiting s =
      let e : eqb (r.high % 2 ^ 48) 0 ≡ true = simp s at more in
      let t = zeros (r.high % 65536) (r.high / 65536 % 65536) (r.high / 2 ^ 32 % 65536) 0 (sym (three-words r.high) ∙ eqb-true _ 0 e) in
      (sym (ap (λ (w : Numbers). w.number) is) ∙ t.0, sym (ap (λ (w : Numbers). w.cover) is) ∙ t.1, sym (ap (λ (w : Numbers). w.upper) is) ∙ t.2)

  replied : ltb r.high (2 ^ 16) ≡ true → (v.cover ≡ 0) × (v.upper ≡ 0) × (v.slot ≡ 0)
  replied e =
      let t = lowest (r.high % 65536) (r.high / 65536 % 65536) (r.high / 2 ^ 32 % 65536) (r.high / 2 ^ 48) (subst (λ (n : ℕ). n < 65536) (by-words r.high) (ltb-true r.high 65536 e)) in
      (sym (ap (λ (w : Numbers). w.cover) is) ∙ t.0, sym (ap (λ (w : Numbers). w.upper) is) ∙ t.1, sym (ap (λ (w : Numbers). w.slot) is) ∙ t.2)

  resting : idle_fits r ≡ true → ((v.number ≡ 0) × (v.cover ≡ 0) × (v.upper ≡ 0) × (v.slot ≡ 0)) × (v.round ≡ 0) × (v.q ≡ 0)
  unfolding idle_fits
  resting e =
      let z : r.high ≡ 0 = eqb-true _ 0 (and_left (eqb r.high 0) (eqb (r.low / 2 ^ 40 % 2 ^ 16) 0) e) in
      let t = bytes (r.low / 2 ^ 40) (eqb-true _ 0 (and_right (eqb r.high 0) (eqb (r.low / 2 ^ 40 % 2 ^ 16) 0) e)) in (
        (sym (ap (λ (w : Numbers). w.number) is) ∙ ap (λ (n : ℕ). n % 65536) z, sym (ap (λ (w : Numbers). w.cover) is) ∙ ap (λ (n : ℕ). n / 65536 % 65536) z, sym (ap (λ (w : Numbers). w.upper) is) ∙ ap (λ (n : ℕ). n / 2 ^ 32 % 65536) z, sym (ap (λ (w : Numbers). w.slot) is) ∙ ap (λ (n : ℕ). n / 2 ^ 48) z),
        sym (ap (λ (w : Numbers). w.round) is) ∙ t.0,
        sym (ap (λ (w : Numbers). w.q) is) ∙ at48 r.low ∙ t.1,
      )

-- what is read in the state st
abbrev live_in : Numbers → State → Live
live_in v st = record { flags = flags_from v.flags; state = st; held = not (eqb v.held 0); register = register_from v.reg }

module _ (r : Record) (v : Numbers) (is : numbers_in r ≡ v) (f : Within v) (fit : state_fits r v ≡ true) where
  written : (st : State) → state_number st ≡ v.state → covered_in (link_of st).cover ≡ v.covered → half_in (link_of st).half ≡ v.half → (link_of st).round.session ≡ v.round → (link_of st).round.q ≡ v.q
      → (link_of st).handle ≡ v.number → cover_in (link_of st).cover ≡ v.cover → upper_in (link_of st).half ≡ v.upper → slot_of st ≡ v.slot → numbers_on (live_in v st) ≡ v
  written st a c h k q n p u s =
      equal (numbers_on (live_in v st)) v a (bit-back v.held f.held) (register-back v.reg f.reg) c h k q (flags-back v.flags f.flags) n p u s

  reads : (st : State) → loose_of v ≡ on_of v st → near_of v ≡ on_of v st → numbers_on (live_in v st) ≡ v → near_of v ≡ session_of v
  unfolding session_of
  reads st p q e = rw (q, p, is_same (numbers_on (live_in v st)) v e)

  -- a state with its link
  with-link : (st : State) → (eqb v.state 5 || eqb v.state 6) ≡ true → state_number st ≡ v.state → link_of st ≡ link_from v → slot_of st ≡ 0 → numbers_on (live_in v st) ≡ v
  with-link st l e k s =
      let t = linked r v l fit in
      written st e (ap (λ (j : Link). covered_in j.cover) k ∙ covered-back v.covered v.cover f.covered) (ap (λ (j : Link). half_in j.half) k ∙ half_back v.half v.upper t.half)
      (ap (λ (j : Link). j.round.session) k) (ap (λ (j : Link). j.round.q) k) (ap (λ (j : Link). j.handle) k)
      (ap (λ (j : Link). cover_in j.cover) k ∙ cover-back v.covered v.cover t.cover) (ap (λ (j : Link). upper_in j.half) k ∙ upper-back v.half v.upper t.upper) (s ∙ sym t.slot)

  by_state : (n : ℕ) → v.state ≡ n → 1 ≤ n → n ≤ 7 → near_of v ≡ session_of v
  unfolding loose_of near_of state_from more-tests
  by_state zero e l m = absurd (omega arith)
  by_state (suc zero) e l m =
      let g = bare r v (simp e) fit in
      let u = uncovered r v is g in
      let i = resting r v is g (simp e at (more r v is g)) in
      reads state.Ready (simp e) (simp e) (written state.Ready (sym e) (sym u.0) (sym u.1) (sym i.1) (sym i.2) (sym i.0.0) (sym i.0.1) (sym i.0.2) (sym i.0.3))
  by_state (suc (suc zero)) e l m =
      let g = bare r v (simp e) fit in
      let u = uncovered r v is g in
      let i = waiting r v is g e in
      let st = state.Arbitrate (round_from v) v.slot in
      reads st (simp e) (simp e) (written st (sym e) (sym u.0) (sym u.1) refl refl (sym i.0) (sym i.1) (sym i.2) refl)
  by_state (suc (suc (suc zero))) e l m =
      let g = bare r v (simp e) fit in
      let u = uncovered r v is g in
      let i = replied r v is g (simp e at (more r v is g)) in
      let st = state.Reply (round_from v) v.number in
      reads st (simp e) (simp e) (written st (sym e) (sym u.0) (sym u.1) refl refl refl (sym i.0) (sym i.1) (sym i.2))
  by_state (suc (suc (suc (suc zero)))) e l m =
      let g = bare r v (simp e) fit in
      let u = uncovered r v is g in
      let i = replied r v is g (simp e at (more r v is g)) in
      let st = state.Acknowledged (round_from v) v.number in
      reads st (simp e) (simp e) (written st (sym e) (sym u.0) (sym u.1) refl refl refl (sym i.0) (sym i.1) (sym i.2))
  by_state (suc (suc (suc (suc (suc zero))))) e l m = reads (state.Open (link_from v)) (simp e) (simp e) (with-link (state.Open (link_from v)) (simp e) (sym e) refl refl)
  by_state (suc (suc (suc (suc (suc (suc zero)))))) e l m = reads (state.Secured (link_from v)) (simp e) (simp e) (with-link (state.Secured (link_from v)) (simp e) (sym e) refl refl)
  by_state (suc (suc (suc (suc (suc (suc (suc zero))))))) e l m =
      let g = bare r v (simp e) fit in
      let u = uncovered r v is g in
      let i = resting r v is g (simp e at (more r v is g)) in
      reads state.Killed (simp e) (simp e) (written state.Killed (sym e) (sym u.0) (sym u.1) (sym i.1) (sym i.2) (sym i.0.0) (sym i.0.1) (sym i.0.2) (sym i.0.3))
  by_state (suc (suc (suc (suc (suc (suc (suc (suc n)))))))) e l m = absurd (omega arith)

  near-state : no_state v ≡ false → near_of v ≡ session_of v
  near-state e =
      let t = neither (eqb v.state 0) (ltb 7 v.state) e in
      let n : v.state ≡ 0 → ⊥ = eqb-false _ 0 t.0 in
      by_state v.state refl (omega arith) (ltb-false 7 v.state t.1)

-- a record that fits is read as the session under power nearest to it
pub fit-near : (r : Record) → fits_of r ≡ true → near_of (numbers_in r) ≡ session_of (numbers_in r)
unfolding fits_of
fit-near r e =
    let v = numbers_in r in
    let t = all-each (not (no_state v) ∷ not (too_large v) ∷ state_fits r v ∷ []) e in
    near-state r v refl (within v (not-true (too_large v) t.1.0)) t.1.1.0 (not-true (no_state v) t.0)

-- and is that session's own
pub fit-live : (r : Record) → fits_of r ≡ true
    → (session_of (numbers_in r) ≡ record { power = Some (live_of (session_of (numbers_in r)).power) }) × (numbers_on (live_of (session_of (numbers_in r)).power) ≡ numbers_in r)
unfolding near_of
fit-live r e =
    let v = numbers_in r in
    let s : near_of v ≡ session_of v = fit-near r e in
    let up : session_of v ≡ record { power = Some (live_of (session_of v).power) } = subst (λ (x : Session). x ≡ record { power = Some (live_of x.power) }) s refl in
    (up, sym (ap (λ (x : Session). numbers_of x.power) up) ∙ only v (λ q. true≢false (sym (ap (λ (x : Session). is_off x.power) (s ∙ q)))))

-- the record of any session under power fits
share-small : (b : Bool) (w : ℕ) → cond b w 0 ≤ w
share-small true w = omega arith
share-small false w = omega arith

covered-small : (c : Option ℕ) → covered_in c ≤ 1
covered-small None = omega arith
covered-small (Some n) = omega arith

cover-zero : (c : Option ℕ) → (not (eqb (covered_in c) 0) || eqb (cover_in c) 0) ≡ true
cover-zero None = refl
cover-zero (Some n) = refl

upper-zero : (h : Option Half) → cond (eqb (half_in h) 0) (eqb (upper_in h) 0) (leb (half_in h) 2) ≡ true
upper-zero None = refl
upper-zero (Some (half.Access u)) = refl
upper-zero (Some (half.Kill u)) = refl

none-large : (a b c d : ℕ) → a ≤ 1 → b ≤ 3 → c ≤ 1 → d ≤ 31 → ((ltb 1 a || ltb 3 b) || (ltb 1 c || ltb 31 d)) ≡ false
none-large a b c d p q s t = rw (le-ltb 1 a p, le-ltb 3 b q, le-ltb 1 c s, le-ltb 31 d t)

small : (l : Live) → too_large (numbers_on l) ≡ false
small l =
    let f = l.flags in
    none-large (bit_of l.held) (number_in l.register) (covered_in (link_of l.state).cover) (flags_in f) (share-small l.held 1)
    (omega (arith, share-small l.register.unwritten 1, share-small l.register.killed 1)) (covered-small (link_of l.state).cover)
    (omega (arith, share-small f.s0 1, share-small f.s1 2, share-small f.s2 4, share-small f.s3 8, share-small f.sl 16))

a-state : (h g : ℕ) (f : Flags) (st : State) → no_state (numbers_with h g f st) ≡ false
a-state h g f state.Ready = refl
a-state h g f (state.Arbitrate q slot) = refl
a-state h g f (state.Reply q n) = refl
a-state h g f (state.Acknowledged q n) = refl
a-state h g f (state.Open k) = refl
a-state h g f (state.Secured k) = refl
a-state h g f state.Killed = refl

module _ (r : Record) (v : Numbers) (is : numbers_in r ≡ v) where
  none-covered : v.covered ≡ 0 → v.half ≡ 0 → eqb (r.low / 2 ^ 24 % 2 ^ 16) 0 ≡ true
  none-covered a b =
      eq-eqb _ 0 (of-bytes (r.low / 2 ^ 24) (ap (λ (w : Numbers). w.covered) is ∙ a) (sym (at32 r.low) ∙ ap (λ (w : Numbers). w.half) is ∙ b))

  no-round : v.round ≡ 0 → v.q ≡ 0 → eqb (r.low / 2 ^ 40 % 2 ^ 16) 0 ≡ true
  no-round a b =
      eq-eqb _ 0 (of-bytes (r.low / 2 ^ 40) (ap (λ (w : Numbers). w.round) is ∙ a) (sym (at48 r.low) ∙ ap (λ (w : Numbers). w.q) is ∙ b))

  no_number : v.number ≡ 0 → v.cover ≡ 0 → v.upper ≡ 0 → eqb (r.high % 2 ^ 48) 0 ≡ true
  no_number a b c =
      eq-eqb _ 0 (three-words r.high ∙ λ i. (ap (λ (w : Numbers). w.number) is ∙ a) i + 65536 * ((ap (λ (w : Numbers). w.cover) is ∙ b) i + 65536 * (ap (λ (w : Numbers). w.upper) is ∙ c) i))

  number-alone : v.cover ≡ 0 → v.upper ≡ 0 → v.slot ≡ 0 → r.high ≡ r.high % 65536
  number-alone a b c =
      alone (r.high % 65536) (r.high / 65536 % 65536) (r.high / 2 ^ 32 % 65536) (r.high / 2 ^ 48) r.high (by-words r.high)
      (ap (λ (w : Numbers). w.cover) is ∙ a) (ap (λ (w : Numbers). w.upper) is ∙ b) (ap (λ (w : Numbers). w.slot) is ∙ c)

  only-number : v.cover ≡ 0 → v.upper ≡ 0 → v.slot ≡ 0 → ltb r.high (2 ^ 16) ≡ true
  only-number a b c = lt-ltb r.high 65536 (omega (arith, number-alone a b c))

  nothing : v.number ≡ 0 → v.cover ≡ 0 → v.upper ≡ 0 → v.slot ≡ 0 → eqb r.high 0 ≡ true
  nothing n a b c = eq-eqb _ 0 (number-alone a b c ∙ ap (λ (w : Numbers). w.number) is ∙ n)

belongs : (r : Record) (h g : ℕ) (f : Flags) (st : State) → numbers_in r ≡ numbers_with h g f st → state_fits r (numbers_with h g f st) ≡ true
unfolding state_fits bare_fits idle_fits numbers_fit
belongs r h g f state.Ready e = simp (none-covered r _ e refl refl, nothing r _ e refl refl refl refl, no-round r _ e refl refl)
belongs r h g f (state.Arbitrate q slot) e = simp (none-covered r _ e refl refl, no_number r _ e refl refl refl)
belongs r h g f (state.Reply q n) e = simp (none-covered r _ e refl refl, only-number r _ e refl refl refl)
belongs r h g f (state.Acknowledged q n) e = simp (none-covered r _ e refl refl, only-number r _ e refl refl refl)
belongs r h g f (state.Open k) e = and_both (not (eqb (covered_in k.cover) 0) || eqb (cover_in k.cover) 0) _ (cover-zero k.cover) (upper-zero k.half)
belongs r h g f (state.Secured k) e = and_both (not (eqb (covered_in k.cover) 0) || eqb (cover_in k.cover) 0) _ (cover-zero k.cover) (upper-zero k.half)
belongs r h g f state.Killed e = simp (none-covered r _ e refl refl, nothing r _ e refl refl refl refl, no-round r _ e refl refl)

fit : (r : Record) (l : Live) → numbers_on l ≡ numbers_in r → fits_of r ≡ true
unfolding fits_of
fit r l e =
    let v = numbers_in r in
    let a : no_state v ≡ false = sym (ap no_state e) ∙ a-state (bit_of l.held) (number_in l.register) l.flags l.state in
    let b : too_large v ≡ false = sym (ap too_large e) ∙ small l in
    let c : state_fits r v ≡ true = sym (ap (state_fits r) e) ∙ belongs r (bit_of l.held) (number_in l.register) l.flags l.state (sym e) in
    three (no_state v) (too_large v) (state_fits r v) a b c
  where
    three : (a b c : Bool) → a ≡ false → b ≡ false → c ≡ true → (not a && not b && c) ≡ true
    three a b c p q s = rw (p, q, s)

-- and one that doesn't fit is no session's, or Off's
pub unfit-off : (r : Record) → fits_of r ≡ false → session_of (numbers_in r) ≡ off_session
unfolding session_of
unfit-off r n = go (same (numbers_of (loose_of (numbers_in r)).power) (numbers_in r)) refl
  where
    own : (p : Option Live) → (loose_of (numbers_in r)).power ≡ p → numbers_of p ≡ numbers_in r → loose_of (numbers_in r) ≡ off_session
    own None e q = ap (λ (p : Option Live). record { power = p }) e
    own (Some l) e q = absurd (true≢false (sym (fit r l q) ∙ n))

    go : (b : Bool) → same (numbers_of (loose_of (numbers_in r)).power) (numbers_in r) ≡ b → session_of (numbers_in r) ≡ off_session
    go true e = rw e (own (loose_of (numbers_in r)).power refl (same-is _ _ e))
    go false e = rw e

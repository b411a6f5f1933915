-- A read by the record alone: its session's answer, the record itself, and the record afterwards. Assumes nothing.
use Rattle.std.specs.Prelude.{Option, None, Some}
use Prim.Native.Nat.{ℕ, ◌+◌, ◌*◌}
use mathlib.Core.Path.{◌≡◌, refl, sym, ap, ◌∙◌, subst}
use mathlib.Core.Bool.{true≢false, Bool, true, false, cond, not}
use mathlib.Core.List.{List}
use lib.Bits.{bit_or}
use lib.Dec.{eqb}
use borrow.Author.Tests.{eqb-false, eq-eqb, ne_eqb}
use Rattle.states.specs.declared.Numbers.{Numbers}
use Rattle.states.specs.declared.Record.{Record}
use Rattle.states.specs.Commands.{is_killed}
use Rattle.states.specs.Numbers.{numbers_in}
use Rattle.tag.specs.declared.Live.{Live}
use Rattle.tag.specs.declared.Session.{Session}
use Rattle.tag.specs.Table.{is_off, live_of}
use Rattle.tag.specs.Port.{bit_of, with_killed}
use Rattle.tag.specs.PortSteps.{read_row, after_killed}
use Rattle.tag.specs.Records.{numbers_on, numbers_of, session_of}
use Rattle.tag.specs.RecordSteps.{off_record, near_of, fits_of}
use Rattle.tag.specs.Result.{Left}
use Rattle.tag.specs.Steps.{held_row}
use Rattle.tag.proofs.Ports.{row_none, own-zero}
use Rattle.tag.proofs.Records.{only, fit-near, unfit-off}
use Rattle.capi.specs.Steps.{killed_numbers}

-- what a read leaves, but for its session
abbrev pub left_by : ℕ → ℕ → List ℕ → List ℕ → Numbers → Left Numbers
left_by number reply image room session =
    record { number = number; session = session; reply = reply; stores = 0; value = 0; image = image; room = room }

-- the answer by the session
pub row-off : (r : Record) → fits_of r ≡ false → 5 ≡ held_row (session_of (numbers_in r)).power
row-off r e = sym (ap (λ (s : Session). held_row s.power) (unfit-off r e))

port_row : Bool → ℕ
port_row b = cond (not b) 0 6

row_on : (r : Record) → fits_of r ≡ true → port_row (eqb (numbers_in r).held 0) ≡ held_row (session_of (numbers_in r)).power
unfolding port_row near_of
row_on r e = ap (λ (s : Session). held_row s.power) (fit-near r e)

pub row-free : (r : Record) → fits_of r ≡ true → (numbers_in r).held ≡ 0 → 6 ≡ held_row (session_of (numbers_in r)).power
unfolding port_row
row-free r e z = sym (ap port_row (eq-eqb (numbers_in r).held 0 z)) ∙ row_on r e

pub row-held : (r : Record) → fits_of r ≡ true → ((numbers_in r).held ≡ 0 → ⊥) → 0 ≡ held_row (session_of (numbers_in r)).power
unfolding port_row
row-held r e z = sym (ap port_row (ne_eqb (numbers_in r).held 0 z)) ∙ row_on r e

-- a read that no row stops has the port
pub row-port : (h : ℕ) (m : List ℕ) (at count n : ℕ) → read_row h m at count n ≡ 0 → h ≡ 0
row-port h m at count n e = own-zero h m at count n (row_none h m at count n e).0

-- a session under power is that of its numbers
own_of : (v : Numbers) (l : Live) → (session_of v).power ≡ Some l → numbers_on l ≡ v
own_of v l e =
    subst (λ (p : Option Live). numbers_of p ≡ v) e
    (only v (λ q. true≢false (sym (ap (λ (s : Session). is_off s.power) q) ∙ ap is_off e)))

-- the number by which a record tells its session
number-on : (b : Bool) → eqb (cond b 0 6) 5 ≡ false
number-on true = refl
number-on false = refl

pub own-record : (r : Record) {h : ℕ} → h ≡ held_row (session_of (numbers_in r)).power → numbers_in (cond (eqb h 5) off_record r) ≡ numbers_of (session_of (numbers_in r)).power
own-record r {h} e = go (session_of (numbers_in r)).power refl
  where
    go : (p : Option Live) → (session_of (numbers_in r)).power ≡ p → numbers_in (cond (eqb h 5) off_record r) ≡ numbers_of (session_of (numbers_in r)).power
    go None q = ap (λ (n : ℕ). numbers_in (cond (eqb n 5) off_record r)) (e ∙ ap held_row q) ∙ sym (ap numbers_of q)
    go (Some l) q =
        ap (λ (b : Bool). numbers_in (cond b off_record r)) (ap (λ (n : ℕ). eqb n 5) (e ∙ ap held_row q) ∙ number-on l.held)
        ∙ sym (own_of (numbers_in r) l q)
        ∙ sym (ap numbers_of q)

-- bit 0 of the register
bit-set : (a b : Bool) → bit_or (2 * bit_of a + bit_of b) 1 ≡ 2 * bit_of a + 1
bit-set true true = refl
bit-set true false = refl
bit-set false true = refl
bit-set false false = refl

killed-on : (l : Live) → killed_numbers (numbers_on l) ≡ numbers_on (record { flags = l.flags; state = l.state; held = l.held; register = with_killed l.register })
killed-on l =
    let v = numbers_on l in
    λ i. record { state = v.state; held = v.held; reg = bit-set l.register.unwritten l.register.killed i; covered = v.covered; half = v.half; round = v.round; q = v.q; flags = v.flags; number = v.number; cover = v.cover; upper = v.upper; slot = v.slot }

module _ (v : Numbers) {h : ℕ} (e : h ≡ held_row (session_of v).power) (z : h ≡ 0) where
  off-never : (session_of v).power ≡ None → ⊥
  off-never q = let five : ◌≡◌ {A = ℕ} 5 0 = sym (e ∙ ap held_row q) ∙ z in eqb-false 5 0 refl five

  pub dead-state : eqb v.state 7 ≡ is_killed (live_of (session_of v).power).state
  dead-state = go (session_of v).power refl
    where
      go : (p : Option Live) → (session_of v).power ≡ p → eqb v.state 7 ≡ is_killed (live_of (session_of v).power).state
      go None q = absurd (off-never q)
      go (Some l) q =
          ap (λ (x : Numbers). eqb x.state 7) (sym (own_of v l q))
          ∙ sym (ap (λ (p : Option Live). is_killed (live_of p).state) q)

  pub numbers_after : (k : Bool) → cond k (killed_numbers v) v ≡ numbers_of (cond k (after_killed (session_of v).power) (session_of v)).power
  numbers_after k = go (session_of v).power refl k
    where
      go : (p : Option Live) → (session_of v).power ≡ p → (k : Bool) → cond k (killed_numbers v) v ≡ numbers_of (cond k (after_killed (session_of v).power) (session_of v)).power
      go None q k = absurd (off-never q)
      go (Some l) q true =
          ap killed_numbers (sym (own_of v l q))
          ∙ killed-on l
          ∙ sym (ap (λ (p : Option Live). numbers_of (after_killed p).power) q)
      go (Some l) q false = sym (own_of v l q) ∙ sym (ap numbers_of q)

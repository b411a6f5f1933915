-- A session as the numbers of its record, and back (RULES 10.1 to 10.3). Assumes nothing.
use Rattle.std.specs.Prelude.{ℕ, ◌/◌, ◌%◌, ◌^◌, Bool, cond, not, ◌&&◌, eqb, Option, None, Some}
use Rattle.frames.specs.declared.Round.{Round}
use Rattle.states.specs.declared.Half.{Half}
use Rattle.states.specs.declared.Half.TheVariants as half
use Rattle.states.specs.declared.Flags.{Flags}
use Rattle.states.specs.declared.Link.{Link}
use Rattle.states.specs.declared.State.{State}
use Rattle.states.specs.declared.State.TheVariants as state
use Rattle.states.specs.declared.Numbers.{Numbers}
use Rattle.states.specs.Numbers.{numbers_with}
use Rattle.tag.specs.declared.Register.{Register}
use Rattle.tag.specs.declared.Live.{Live}
use Rattle.tag.specs.declared.Session.{Session}
use Rattle.tag.specs.Session.{off_session, on}
use Rattle.tag.specs.Result.{Left, Result}
use Rattle.tag.specs.Port.{bit_of, number_in}

-- writing: Off is all 0; under power the port is 0 or 1, and the register its number
abbrev pub blank : Numbers
blank =
    record {
      state = 0;
      held = 0;
      reg = 0;
      covered = 0;
      half = 0;
      round = 0;
      q = 0;
      flags = 0;
      number = 0;
      cover = 0;
      upper = 0;
      slot = 0;
    }

abbrev pub numbers_on : Live → Numbers
numbers_on l = numbers_with (bit_of l.held) (number_in l.register) l.flags l.state

-- THE NUMBERS of a session
abbrev pub numbers_of : Option Live → Numbers
numbers_of None = blank
numbers_of (Some l) = numbers_on l

-- reading: the session that the numbers come nearest to
abbrev pub cover_of : ℕ → ℕ → Option ℕ
cover_of covered n = cond (eqb covered 0) None (Some n)

abbrev pub half_of : ℕ → ℕ → Option Half
half_of kind u = cond (eqb kind 0) None (cond (eqb kind 1) (Some (half.Access u)) (Some (half.Kill u)))

abbrev pub round_from : Numbers → Round
round_from v = record { session = v.round; q = v.q }

abbrev pub link_from : Numbers → Link
link_from v =
    record {
      round = round_from v;
      handle = v.number;
      cover = cover_of v.covered v.cover;
      half = half_of v.half v.upper;
    }

-- bit i of a number, from the lowest on
abbrev pub is_one : ℕ → ℕ → Bool
is_one n i = eqb (n / 2 ^ i % 2) 1

-- bits 0 to 3: S0 to S3 are B; bit 4: SL
abbrev pub flags_from : ℕ → Flags
flags_from n = record { s0 = is_one n 0; s1 = is_one n 1; s2 = is_one n 2; s3 = is_one n 3; sl = is_one n 4 }

abbrev pub register_from : ℕ → Register
register_from n = record { unwritten = is_one n 1; killed = is_one n 0 }

abbrev pub on_of : Numbers → State → Session
on_of v st = on (flags_from v.flags) st (not (eqb v.held 0)) (register_from v.reg)

unfoldable pub loose_of : Numbers → Session
loose_of v =
    cond (eqb v.state 1) (on_of v state.Ready)
    (cond (eqb v.state 2) (on_of v (state.Arbitrate (round_from v) v.slot))
    (cond (eqb v.state 3) (on_of v (state.Reply (round_from v) v.number))
    (cond (eqb v.state 4) (on_of v (state.Acknowledged (round_from v) v.number))
    (cond (eqb v.state 5) (on_of v (state.Open (link_from v)))
    (cond (eqb v.state 6) (on_of v (state.Secured (link_from v)))
    (cond (eqb v.state 7) (on_of v state.Killed) off_session))))))

unfoldable pub same : Numbers → Numbers → Bool
same a b =
    eqb a.state b.state
    && eqb a.held b.held
    && eqb a.reg b.reg
    && eqb a.covered b.covered
    && eqb a.half b.half
    && eqb a.round b.round
    && eqb a.q b.q
    && eqb a.flags b.flags
    && eqb a.number b.number
    && eqb a.cover b.cover
    && eqb a.upper b.upper
    && eqb a.slot b.slot

-- THE SESSION of a record's numbers: those that no session writes are Off
unfoldable pub session_of : Numbers → Session
session_of v = let s = loose_of v in cond (same (numbers_of s.power) v) s off_session

-- what an operation leaves, with its session written
abbrev pub in_numbers : Result → Left Numbers
in_numbers r =
    let v = numbers_of r.session.power in
    record { number = r.number; session = v; reply = r.reply; stores = r.stores; value = r.value; image = r.image; room = r.room }

-- A session's record of two numbers (RULES 10.1): what its parts say. Assumes nothing.
use Rattle.std.specs.Prelude.{ℕ, Option, None, Some, ◌+◌, ◌/◌, ◌%◌, ◌^◌, cond}
use Rattle.states.specs.declared.Record.{Record}
use Rattle.states.specs.declared.Numbers.{Numbers}
use Rattle.states.specs.declared.Half.{Half}
use Rattle.states.specs.declared.Half.TheVariants as half
use Rattle.states.specs.declared.Flags.{Flags}
use Rattle.states.specs.declared.State.{State}
use Rattle.states.specs.Commands.{link_of, slot_of, state_number}

-- eight parts of 8 bits and four of 16, from the lowest bits on
abbrev pub numbers_in : Record → Numbers
numbers_in r =
    record {
      state = r.low % 2 ^ 8;
      held = r.low / 2 ^ 8 % 2 ^ 8;
      reg = r.low / 2 ^ 16 % 2 ^ 8;
      covered = r.low / 2 ^ 24 % 2 ^ 8;
      half = r.low / 2 ^ 32 % 2 ^ 8;
      round = r.low / 2 ^ 40 % 2 ^ 8;
      q = r.low / 2 ^ 48 % 2 ^ 8;
      flags = r.low / 2 ^ 56;
      number = r.high % 2 ^ 16;
      cover = r.high / 2 ^ 16 % 2 ^ 16;
      upper = r.high / 2 ^ 32 % 2 ^ 16;
      slot = r.high / 2 ^ 48;
    }

-- a cover number: whether it is there, and its value; a half: none, of an Access or a Kill, and its value
abbrev pub covered_in : Option ℕ → ℕ
covered_in None = 0
covered_in (Some n) = 1

abbrev pub cover_in : Option ℕ → ℕ
cover_in None = 0
cover_in (Some n) = n

abbrev pub half_in : Option Half → ℕ
half_in None = 0
half_in (Some (half.Access u)) = 1
half_in (Some (half.Kill u)) = 2

abbrev pub upper_in : Option Half → ℕ
upper_in None = 0
upper_in (Some (half.Access u)) = u
upper_in (Some (half.Kill u)) = u

-- the flags: a bit for each that is B, and for SL
abbrev pub flags_in : Flags → ℕ
flags_in f = cond f.s0 1 0 + cond f.s1 2 0 + cond f.s2 4 0 + cond f.s3 8 0 + cond f.sl 16 0

-- the numbers of a session with this port and register: its state's, what that holds and its slot, and the flags
abbrev pub numbers_with : ℕ → ℕ → Flags → State → Numbers
numbers_with held reg f st =
    let k = link_of st in
    record {
      state = state_number st;
      held = held;
      reg = reg;
      covered = covered_in k.cover;
      half = half_in k.half;
      round = k.round.session;
      q = k.round.q;
      flags = flags_in f;
      number = k.handle;
      cover = cover_in k.cover;
      upper = upper_in k.half;
      slot = slot_of st;
    }

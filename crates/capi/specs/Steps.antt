-- A record handed back as it is, but for a bit, as the code does it. Assumes nothing.
use Rattle.std.specs.Prelude.{ℕ}
use Rattle.std.specs.Int.Bits.{bit_or}
use Rattle.states.specs.declared.Numbers.{Numbers}
use Rattle.states.specs.declared.Record.{Record}
use Rattle.capi.specs.declared.Told.{Told}

-- the numbers with bit 0 of their register set
abbrev pub killed_numbers : Numbers → Numbers
killed_numbers v =
    record {
      state = v.state;
      held = v.held;
      reg = bit_or v.reg 1;
      covered = v.covered;
      half = v.half;
      round = v.round;
      q = v.q;
      flags = v.flags;
      number = v.number;
      cover = v.cover;
      upper = v.upper;
      slot = v.slot;
    }

-- an answer without stores: its number, the record and the reply's length
abbrev pub told_with : ℕ → Record → ℕ → Told
told_with answer session reply = record { answer = answer; value = 0; session = session; reply = reply; stores = 0 }

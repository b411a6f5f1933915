-- What a frame can say (RULES 3.5 to 3.8). Assumes nothing.
use Rattle.std.specs.Prelude.{ℕ, Result, Ok, Err}
use Rattle.frames.specs.declared.Command.{Command}
use Rattle.frames.specs.declared.Flaw.{Flaw}
use Rattle.frames.specs.declared.Flaw.TheVariants as flaw

-- a number of the answer table, or a command
pub data Message : Type 0 where
  refused : ℕ → Message
  said : Command → Message

-- the number of each flaw, and what each answer in the code says
abbrev pub flaw_number : Flaw → ℕ
flaw_number flaw.Malformed = 7
flaw_number flaw.Checksum = 8

abbrev pub meaning : Result Command Flaw → Message
meaning (Ok c) = said c
meaning (Err f) = refused (flaw_number f)

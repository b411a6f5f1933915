-- Sessions and the numbers of the answer table (RULES 3.1, 3.3 and 5). Assumes nothing.
use Rattle.std.specs.Prelude.{ℕ, ◌≡◌, Bool, false, cond, Result, Ok, Err, None, Some}
use Rattle.states.specs.declared.Flags.{Flags}
use Rattle.states.specs.declared.State.{State}
use Rattle.tag.specs.declared.Register.{Register}
use Rattle.tag.specs.declared.Session.{Session}
use Rattle.tag.specs.declared.Answer.{Answer}
use Rattle.tag.specs.declared.Answer.TheVariants as answer

abbrev pub off_session : Session
off_session = record { power = None }

-- a session under power: flags, state, port and register
abbrev pub on : Flags → State → Bool → Register → Session
on flags state held register = record { power = Some (record { flags = flags; state = state; held = held; register = register }) }

abbrev pub clear : Register
clear = record { unwritten = false; killed = false }

-- every inventoried flag A, SL deasserted
abbrev pub new_flags : Flags
new_flags = record { s0 = false; s1 = false; s2 = false; s3 = false; sl = false }

-- a new session as steps and cases write it: new flags, port free, register 0 (2.7 itself: Power)
abbrev pub new_session : State → Session
new_session state = on new_flags state false clear

-- the number of each answer
abbrev pub number_of : Answer → ℕ
number_of answer.Done = 0
number_of answer.Short = 1
number_of answer.Header = 2
number_of answer.Content = 3
number_of answer.NoRoom = 4
number_of answer.NotReady = 5
number_of answer.Port = 6
number_of answer.Malformed = 7
number_of answer.Checksum = 8
number_of answer.Wrong = 9
number_of answer.Error = 10
number_of answer.PowerLost = 11
number_of answer.Password = 12
number_of answer.Count = 13
number_of answer.Halves = 14

-- the number of an answer that stops a call, or 0; and it is none of 0
abbrev pub row_in : Result Unit Answer → ℕ
row_in (Ok u) = 0
row_in (Err a) = number_of a

abbrev pub Stops : Result Unit Answer → Type 0
Stops (Ok u) = Unit {0}
Stops (Err a) = number_of a ≡ 0 → ⊥

-- the same of an image: 5 where words are pending; and an answer is the check's
abbrev pub ready_in : Result Bool Answer → ℕ
ready_in (Ok pending) = cond pending 5 0
ready_in (Err a) = number_of a

abbrev pub Rejects : Result Bool Answer → Type 0
Rejects (Ok pending) = Unit {0}
Rejects (Err a) = (number_of a ≡ 0 → ⊥) × (number_of a ≡ 5 → ⊥)

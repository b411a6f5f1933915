-- A DEPOT'S COMMAND as a record of numbers, and what making and reading hand back (RULES 12.9). Assumes nothing.
use Rattle.std.specs.Prelude.{ℕ, cond, Option, Some, None, List, [], ◌∷◌, eqb, ltb}
use Rattle.bits.specs.First.{first}
use Rattle.depot.specs.declared.Place.{Place}
use Rattle.depot.specs.declared.Round.{Round}
use Rattle.depot.specs.declared.Command.{Command}
use Rattle.depot.specs.declared.Command.TheVariants as command
use Rattle.depot.specs.Making.{Sent, sending, make_of}
use Rattle.readings.specs.Reading.{Told, error, words, number, done, refused}
use Rattle.depot.specs.Reading.{read_of}
use Rattle.capi.specs.declared.Request.{Request}
use Rattle.capi.specs.declared.Frame.{Frame}
use Rattle.capi.specs.declared.Reply.{Reply}

-- parts of a record
abbrev pub place_in : Request → Place
place_in r = record { bank = r.bank; pointer = r.pointer }

abbrev pub round_in : Request → Round
round_in r =
    record {
      dr = r.dr;
      m = r.m;
      trext = r.trext;
      sel = r.sel;
      session = r.session;
      target = r.target;
      q = r.q;
    }

-- a word has 16 bits: a number of more is none, and no command
abbrev pub short : ℕ → Option Command → Option Command
short w a = cond (ltb w 0x10000) a None

abbrev pub writing : Request → Option Command
writing r = short r.word (Some (command.Write (place_in r) r.word))

abbrev pub killing : Request → Option Command
killing r = short r.word (Some (command.Kill r.word))

abbrev pub locking : Request → Option Command
locking r = short r.mask (short r.action (Some (command.Lock r.mask r.action)))

abbrev pub opening : Request → Option Command
opening r = short r.word (Some (command.Access r.word))

-- THE COMMAND of a record, by its kind; another kind is none
unfoldable pub command_of : Request → Option Command
command_of r =
    first
    ((Some (command.QueryRep r.session), eqb r.kind 0)
    ∷ (Some command.Ack, eqb r.kind 1)
    ∷ (Some (command.Query (round_in r)), eqb r.kind 2)
    ∷ (Some (command.QueryAdjust r.session r.up_down), eqb r.kind 3)
    ∷ (Some (command.Select r.target r.action (place_in r) r.count), eqb r.kind 4)
    ∷ (Some command.Nak, eqb r.kind 5)
    ∷ (Some command.ReqRn, eqb r.kind 6)
    ∷ (Some (command.Read (place_in r) r.count), eqb r.kind 7)
    ∷ (writing r, eqb r.kind 8)
    ∷ (killing r, eqb r.kind 9)
    ∷ (locking r, eqb r.kind 10)
    ∷ (opening r, eqb r.kind 11)
    ∷ (Some (command.BlockWrite (place_in r)), eqb r.kind 12)
    ∷ (Some (command.BlockErase (place_in r) r.count), eqb r.kind 13)
    ∷ (Some (command.ReadPermalock (place_in r) r.count), eqb r.kind 14)
    ∷ (Some (command.Permalock (place_in r)), eqb r.kind 15)
    ∷ [])
    None

-- MAKING AND READING by a record: one that is no command is beyond the limits
abbrev pub make_for : Option Command → List ℕ → ℕ → ℕ → List ℕ → Sent
make_for None m n c room = sending 9 0 room
make_for (Some o) m n c room = make_of o m n c room

abbrev pub read_for : Option Command → List ℕ → ℕ → ℕ → List ℕ → Told
read_for None d h n m = refused 9
read_for (Some o) d h n m = read_of o d h n m

-- the numbers of a frame and of a reply
abbrev pub framed : Frame → List ℕ → Sent
framed f room = sending f.answer f.bits room

abbrev pub replied : ℕ → ℕ → ℕ → ℕ → Reply
replied answer kind value at = record { answer = answer; kind = kind; value = value; at = at }

abbrev pub reply_of : Told → Reply
reply_of (error e) = replied 0 1 e 0
reply_of (words k i) = replied 0 2 k i
reply_of (number w) = replied 0 3 w 0
reply_of done = replied 0 4 0 0
reply_of (refused n) = replied n 0 0 0

-- The answer table for frames, in its order (RULES 5). Assumes nothing.
use Rattle.std.specs.Prelude.{ℕ, ◌+◌, ◌/◌, Bool, true, false, not, ◌&&◌, ◌||◌, List, [], ◌∷◌, ◌++◌, eqb, ltb, length, Option, None, Some}
use Rattle.bits.specs.Words.{Store}
use Rattle.image.specs.declared.Layout.{Layout}
use Rattle.image.specs.Layout.{layout_of}
use Rattle.image.specs.Content.{count_in}
use Rattle.image.specs.Check.{image_rows}
use Rattle.frames.specs.Message.{Message}
use Rattle.frames.specs.Message as heard
use Rattle.frames.specs.Frames.{heard_of}
use Rattle.frames.specs.declared.Command.{Command}
use Rattle.frames.specs.declared.Order.TheVariants as order
use Rattle.replies.specs.declared.Reply.{Reply}
use Rattle.replies.specs.declared.Reply.TheVariants as reply
use Rattle.replies.specs.Replies.{reply_bits, reply_length}
use Rattle.rights.specs.Rights.{Code}
use Rattle.std.specs.Prelude.{Ok, Err}
use Rattle.rights.specs.Rights.{fault_number}
use Rattle.states.specs.declared.Flags.{Flags}
use Rattle.states.specs.declared.State.{State}
use Rattle.states.specs.declared.State.TheVariants as state
use Rattle.tag.specs.declared.Live.{Live}
use Rattle.tag.specs.declared.Session.{Session}
use Rattle.tag.specs.Session.{on, new_flags, clear}
use Rattle.tag.specs.Result.{Result, leaves, replying, storing, lost, Answers}
use Rattle.states.specs.Commands.{asks_of, link_of, wrong_by, halves_of, used, fallen}
use Rattle.plans.specs.Effects.{Scene, Effect, effect_of}

-- what a frame call is handed
pub record Input : Type 0 where
  pub session : Session
  pub image : List ℕ
  pub frame : List ℕ
  pub bits : ℕ
  pub fresh : ℕ
  pub room : List ℕ
  pub power : ℕ

abbrev pub layout : Input → Layout
layout i = layout_of i.image

abbrev pub is_off : Option Live → Bool
is_off None = true
is_off (Some l) = false

-- of an Off session nothing is asked past answer 5: a new one in Ready stands in
abbrev pub live_of : Option Live → Live
live_of None = record { flags = new_flags; state = state.Ready; held = false; register = clear }
live_of (Some l) = l

abbrev pub live : Input → Live
live i = live_of i.session.power

abbrev pub state_of : Input → State
state_of i = (live i).state

-- 7 and 8: what the frame itself is refused with
abbrev pub refused_by : ℕ → Message → Bool
refused_by n (heard.refused k) = eqb k n
refused_by n (heard.said c) = false

-- of a refused frame nothing is asked past answer 8: a NAK stands in
abbrev pub command_in : Message → Command
command_in (heard.refused k) = record { number = 0; order = order.Nak }
command_in (heard.said c) = c

abbrev pub command : Input → Command
command i = command_in (heard_of i.frame i.bits)

-- 12 a wrong password, 14 broken halves, 0 neither
abbrev pub halves : Input → ℕ
halves i = halves_of (layout i) i.image (state_of i) (command i).order

abbrev pub wrong_password : Input → Bool
wrong_password i = eqb (halves i) 12

abbrev pub broken_halves : Input → Bool
broken_halves i = eqb (halves i) 14

-- what the command comes to
abbrev pub scene : Input → Scene
scene i = record { layout = layout i; image = i.image; flags = (live i).flags; state = state_of i; frame = i.frame; fresh = i.fresh }

abbrev pub effect : Input → Effect
effect i = effect_of (scene i) (command i).order

abbrev pub is_error : Code → Bool
is_error (Ok u) = false
is_error (Err e) = true

-- the reply: the error's where there is one
abbrev pub reply_or : Code → ℕ → Reply → Reply
reply_or (Ok u) handle r = r
reply_or (Err e) handle r = reply.Error (fault_number e) handle

abbrev pub reply_of : Input → Reply
reply_of i = reply_or (effect i).code (link_of (state_of i)).handle (effect i).reply

abbrev pub fits : Reply → List ℕ → Bool
fits r room = not (ltb (length room) ((reply_length r + 7) / 8))

-- the session with other flags and in another state, or in another state alone; port and register stay
abbrev pub turned_to : Live → Flags → State → Session
turned_to l f st = on f st l.held l.register

abbrev pub moved_to : Live → State → Session
moved_to l st = turned_to l l.flags st

-- what answers leave: everything; Arbitrate; a reply with a session and stores
abbrev pub everything : Input → ℕ → Result
everything i n = leaves n i.session i.image i.room

abbrev pub dropped : Input → ℕ → Result
dropped i n = leaves n (moved_to (live i) (fallen (state_of i))) i.image i.room

abbrev pub replied : Input → ℕ → Session → List Store → Result
replied i n v ss =
    let r = leaves n v i.image i.room in
    storing ss (replying (reply_length (reply_of i)) (reply_bits i.image (reply_of i)) r)

-- 1, 2, 3, 5 and 6, for every call with an image; `port` is when the port forbids it
abbrev pub first_rows : (ℕ → Result) → Session → List ℕ → Bool → List (Result × Bool)
first_rows everything session m port =
    image_rows everything m
    ++ (everything 5, is_off session.power || not (eqb (count_in (layout_of m) m) 0))
    ∷ (everything 6, port)
    ∷ []

-- the stores of a command; `change` is how words are stored, given WORK's place: `change_stores` (2.1) in every promise
module _ (change : ℕ → List Store → List Store) where
  abbrev pub stores_of : Input → List Store
  stores_of i = change (layout i).work.at (effect i).words

  -- THE TABLE
  unfoldable pub frame_of : Input → Answers
  frame_of i =
      record {
        rows =
            first_rows (everything i) i.session i.image (live i).held
            ++ (everything i 7, refused_by 7 (heard_of i.frame i.bits))
            ∷ (everything i 8, refused_by 8 (heard_of i.frame i.bits))
            ∷ (everything i 9, wrong_by (state_of i) (command i).number (asks_of (command i).order))
            ∷ (dropped i 12, wrong_password i)
            ∷ (dropped i 14, broken_halves i)
            ∷ (replied i 10 (moved_to (live i) (used (state_of i))) [], is_error (effect i).code && fits (reply_of i) i.room)
            ∷ (everything i 4, not (fits (reply_of i) i.room))
            ∷ (lost i.image (stores_of i) i.power i.room, ltb i.power (length (stores_of i)))
            ∷ [];
        done = replied i 0 (turned_to (live i) (effect i).flags (effect i).state) (stores_of i);
      }

-- the answers of calls without an image, which start at 5: Off, then what the port forbids
abbrev pub answered : ℕ → Session → Result
answered n session = leaves n session [] []

abbrev pub port_rows : Session → Bool → List (Result × Bool)
port_rows s port = (answered 5 s, is_off s.power) ∷ (answered 6 s, port) ∷ []

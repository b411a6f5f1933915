-- Outcomes as the code makes them; the table's ends, of whatever stands for the session; and steps over a session, between the table and the code's own (ByNumber).
-- Assumes nothing.
use Rattle.std.specs.Prelude.{ℕ, ◌+◌, ◌*◌, cond, not, List, [], eqb, ltb, length, take, Option, None, Some}
use Rattle.bits.specs.Words.{Store, after}
use Rattle.image.specs.declared.Layout.{Layout}
use Rattle.image.specs.Content.{killed_word}
use Rattle.image.specs.Steps.{ready_row}
use Rattle.frames.specs.declared.Order.{Order}
use Rattle.frames.specs.declared.Command.{Command}
use Rattle.frames.specs.Message.{Message}
use Rattle.frames.specs.Message as heard
use Rattle.replies.specs.declared.Reply.{Reply}
use Rattle.replies.specs.declared.Reply.TheVariants as reply
use Rattle.replies.specs.Replies.{reply_bits, reply_length}
use Rattle.replies.specs.Pack.{packed}
use Rattle.rights.specs.Rights.{Code}
use Rattle.std.specs.Prelude.{Ok, Err}
use Rattle.rights.specs.Rights.{fault_number}
use Rattle.stores.specs.Stores.{change_stores, power_stores}
use Rattle.states.specs.declared.State.{State}
use Rattle.states.specs.declared.State.TheVariants as state
use Rattle.tag.specs.declared.Live.{Live}
use Rattle.tag.specs.declared.Session.{Session}
use Rattle.tag.specs.declared.Answer.{Answer}
use Rattle.tag.specs.declared.Answer.TheVariants as answer
use Rattle.tag.specs.declared.Outcome.{Outcome}
use Rattle.tag.specs.Session.{off_session, new_session}
use Rattle.tag.specs.Result.{Left, Result, leaves, lost}
use Rattle.states.specs.Commands.{link_of, halves_of, used, fallen}
use Rattle.states.specs.Steps.{wrong_command}
use Rattle.plans.specs.Effects.{Scene, Effect, effect_of}
use Rattle.tag.specs.Table.{Input, fits, turned_to, moved_to}

-- an answer with its reply's length and the stores made
abbrev pub gives : ℕ → Session → ℕ → ℕ → List ℕ → List ℕ → Result
gives number session reply stores image room =
    record { number = number; session = session; reply = reply; stores = stores; value = 0; image = image; room = room }

-- what a frame call is handed, one after the other
abbrev pub input : Session → List ℕ → List ℕ → ℕ → ℕ → List ℕ → ℕ → Input
input session image frame bits fresh room power =
    record { session = session; image = image; frame = frame; bits = bits; fresh = fresh; room = room; power = power }

-- a session's own answer: 5 where it is Off, else one number where the port is held and one where it is free
abbrev pub session_row : Option Live → ℕ → ℕ → ℕ
session_row None held free = 5
session_row (Some l) held free = cond l.held held free

abbrev pub radio_row : Option Live → ℕ
radio_row p = session_row p 6 0

abbrev pub held_row : Option Live → ℕ
held_row p = session_row p 0 6

-- the number of the first of the rows 1, 2, 3, 5 and 6 that holds, or 0, by the session's h
abbrev pub front_by : ℕ → ℕ → ℕ
front_by h row = cond (eqb row 0) h row

unfoldable pub front_row : ℕ → List ℕ → ℕ
front_row h m = front_by h (ready_row m)

-- the first state of an image
abbrev pub first_in : Layout → List ℕ → State
first_in y m = cond (eqb (killed_word y m) 0) state.Ready state.Killed

-- an Off session, after so many stores
abbrev pub stopped_at : Answer → ℕ → Outcome
stopped_at a k = record { answer = a; session = off_session; reply = 0; stores = k; value = 0 }

-- a power-up of a good image of the layout y: the first s stores where it needs more, else all of them
unfoldable pub started : Layout → List ℕ → ℕ → Result
started y m s =
    let stores = power_stores y m in
    cond (ltb s (length stores)) (lost m stores s [])
    (gives 0 (new_session (first_in y (after m stores))) 0 (length stores) (after m stores) [])

-- a session under power
abbrev pub on_session : Live → Session
on_session l = record { power = Some l }

abbrev pub kept : ℕ → Live → List ℕ → List ℕ → Result
kept n l m room = leaves n (on_session l) m room

-- what is left, by what stands for the session: everything; a reply and stores
abbrev pub stays : {S : Type 0} → ℕ → S → List ℕ → List ℕ → Left S
stays n v m room = record { number = n; session = v; reply = 0; stores = 0; value = 0; image = m; room = room }

abbrev pub tells : {S : Type 0} → ℕ → S → ℕ → ℕ → List ℕ → List ℕ → Left S
tells n v reply stores m room = record { number = n; session = v; reply = reply; stores = stores; value = 0; image = m; room = room }

-- an error's reply with another session, or no room for it
unfoldable pub error_by : {S : Type 0} → S → S → ℕ → List ℕ → List ℕ → ℕ → Left S
error_by old new h m room e =
    let r = reply.Error e h in
    cond (fits r room) (tells 10 new (reply_length r) 0 m (packed (reply_bits m r) room)) (stays 4 old m room)

-- no room for the reply, too little power, or done with another session; WORK is at word w
unfoldable pub done_by : {S : Type 0} → S → S → ℕ → List ℕ → List ℕ → ℕ → Reply → S → List Store → Left S
done_by off old w m room s r new ss =
    let stores = change_stores w ss in
    cond (not (fits r room)) (stays 4 old m room)
    (cond (ltb s (length stores)) (tells 11 off 0 s (after m (take s stores)) room)
    (tells 0 new (reply_length r) (length stores) (after m stores) (packed (reply_bits m r) room)))

abbrev pub error_end : Live → ℕ → List ℕ → List ℕ → ℕ → Result
error_end l h m room e = error_by (on_session l) (moved_to l (used l.state)) h m room e

abbrev pub done_end : Live → ℕ → List ℕ → List ℕ → ℕ → Reply → Session → List Store → Result
done_end l w m room s r v ss = done_by off_session (on_session l) w m room s r v ss

-- how many stores a change of c words needs
abbrev pub needed_for : ℕ → ℕ
needed_for c = cond (eqb c 0) 0 (3 * c + 2)

-- an order that no refusal stops, by its error code
abbrev pub end_by : Code → Live → ℕ → List ℕ → List ℕ → ℕ → Effect → Result
end_by (Ok u) l w m room s x = done_end l w m room s x.reply (turned_to l x.flags x.state) x.words
end_by (Err e) l w m room s x = error_end l (link_of l.state).handle m room (fault_number e)

abbrev pub scene_of : Live → Layout → List ℕ → List ℕ → ℕ → Scene
scene_of l y m f fresh = record { layout = y; image = m; flags = l.flags; state = l.state; frame = f; fresh = fresh }

abbrev pub order_of : Live → Layout → List ℕ → List ℕ → ℕ → List ℕ → ℕ → Order → Result
order_of l y m f fresh room s o = let x = effect_of (scene_of l y m f fresh) o in end_by x.code l y.work.at m room s x

-- back to Arbitrate
abbrev pub fell : ℕ → Live → List ℕ → List ℕ → Result
fell n l m room = leaves n (moved_to l (fallen l.state)) m room

-- by the number that its halves say: a wrong password, broken halves, or what the order leaves
abbrev pub halves_by : ℕ → Live → List ℕ → List ℕ → Result → Result
halves_by n l m room x = cond (eqb n 12) (fell 12 l m room) (cond (eqb n 14) (fell 14 l m room) x)

-- a command whose frame is whole
unfoldable pub command_of : Live → Layout → List ℕ → List ℕ → ℕ → List ℕ → ℕ → Command → Result
command_of l y m f fresh room s c =
    cond (wrong_command l.state c) (kept 9 l m room)
    (halves_by (halves_of y m l.state c.order) l m room (order_of l y m f fresh room s c.order))

-- done, with the session, the reply's length, the stores made and the register as it was read
abbrev pub done_with : Session → ℕ → ℕ → ℕ → Outcome
done_with v reply stores value = record { answer = answer.Done; session = v; reply = reply; stores = stores; value = value }

-- a session as it was, with an answer
abbrev pub kept_with : Session → Answer → Outcome
kept_with s a = record { answer = a; session = s; reply = 0; stores = 0; value = 0 }

-- what was heard, of a session that the front lets pass
abbrev pub heard_by : Live → Layout → List ℕ → List ℕ → ℕ → List ℕ → ℕ → Message → Result
heard_by l y m f fresh room s (heard.refused k) = kept k l m room
heard_by l y m f fresh room s (heard.said c) = command_of l y m f fresh room s c

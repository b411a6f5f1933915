-- What a frame comes to over a session's numbers, as the code goes. Equal to the table's steps by the laws of proofs/ByNumber. Assumes nothing.
use Rattle.std.specs.Prelude.{Ok, Err, ℕ, ◌+◌, ◌*◌, ◌≤◌, ◌<◌, ◌≡◌, cond, not, ◌&&◌, List, [], ◌∷◌, eqb, ltb}
use Rattle.bits.specs.Words.{Store, store}
use Rattle.bits.specs.Below.{below}
use Rattle.image.specs.declared.Layout.{Layout}
use Rattle.image.specs.Layout.{layout_of}
use Rattle.image.specs.Content.{length_of, pc_word}
use Rattle.frames.specs.declared.Calling.{Calling}
use Rattle.frames.specs.declared.Calling.TheVariants as call
use Rattle.frames.specs.declared.Choice.{Choice}
use Rattle.frames.specs.declared.Command.{Command}
use Rattle.frames.specs.Frames.{heard_of}
use Rattle.replies.specs.declared.Reply.{Reply}
use Rattle.replies.specs.declared.Reply.TheVariants as reply
use Rattle.replies.specs.Replies.{reply_bits, reply_length}
use Rattle.replies.specs.Pack.{packed}
use Rattle.rights.specs.Rights.{fault_number}
use Rattle.stores.specs.Steps.{word_from}
use Rattle.changes.specs.Changes.{Holds, or_to}
use Rattle.plans.specs.declared.Plan.{Plan}
use Rattle.plans.specs.declared.Plan.TheVariants as plan
use Rattle.plans.specs.Steps.{Decided, plan_of}
use Rattle.states.specs.declared.Numbers.{Numbers}
use Rattle.states.specs.declared.Record.{Record}
use Rattle.states.specs.Commands.{bad_choice, bad_up_dn}
use Rattle.states.specs.Inventory.{adjusted_q, counted_down, selects}
use Rattle.states.specs.Numbers.{numbers_in}
use Rattle.states.specs.ByNumber.{past, bare_to, used_in, halved_in, fallen_in, numbered_in, secured_in, killed_in, acknowledged_in, idle_in, left_in, queried_in, matches_in, slot_out, selected_in, gate_in}
use Rattle.tag.specs.declared.Answer.{Answer}
use Rattle.tag.specs.declared.Live.{Live}
use Rattle.tag.specs.declared.Noted.{Noted}
use Rattle.tag.specs.declared.Outcome.{Outcome}
use Rattle.tag.specs.Session.{number_of}
use Rattle.tag.specs.Result.{Left}
use Rattle.tag.specs.Records.{blank, numbers_on, session_of, in_numbers}
use Rattle.tag.specs.Table.{live_of}
use Rattle.tag.specs.Steps.{stays, tells, error_by, done_by, heard_by}

-- what a frame leaves, by the session's record; and as an outcome
abbrev pub noted : Noted → List ℕ → List ℕ → Left Numbers
noted o m room = tells (number_of o.answer) (numbers_in o.session) o.reply o.stores m room

abbrev pub refused_at : Record → Answer → Noted
refused_at r a = record { answer = a; session = r; reply = 0; stores = 0 }

abbrev pub outcome_of : Noted → Outcome
outcome_of o = record { answer = o.answer; session = session_of (numbers_in o.session); reply = o.reply; stores = o.stores; value = 0 }

-- the ends of the table: another session; back to Arbitrate; an error; a reply; stores and a reply
abbrev pub done_at : Numbers → ℕ → ℕ → List ℕ → List ℕ → Left Numbers
done_at v reply stores m room = tells 0 v reply stores m room

abbrev pub dropped_at : ℕ → Numbers → List ℕ → List ℕ → Left Numbers
dropped_at n v m room = stays n (fallen_in v) m room

abbrev pub error_at : Numbers → ℕ → List ℕ → List ℕ → ℕ → Left Numbers
error_at v h m room e = error_by v (used_in v) h m room e

abbrev pub tell_at : Numbers → List ℕ → List ℕ → Reply → Numbers → Left Numbers
tell_at v m room r u = done_by blank v 0 m room 0 r u []

abbrev pub store_at : Numbers → ℕ → Numbers → ℕ → List ℕ → List ℕ → ℕ → List Store → Left Numbers
store_at v h u w m room s ss = done_by blank v w m room s (reply.Success h) u ss

-- after so many of the stores that were needed: too little power, or done
unfoldable pub finish_at : ℕ → Numbers → List ℕ → List ℕ → ℕ → ℕ → ℕ → Left Numbers
finish_at h u m room made need s =
    let r = reply.Success h in
    cond (ltb s need) (tells 11 blank 0 made m room) (tells 0 u (reply_length r) made m (packed (reply_bits m r) room))

-- the commands of inventory
unfoldable pub drawn_at : Numbers → ℕ → ℕ → ℕ → ℕ → ℕ → List ℕ → List ℕ → Left Numbers
drawn_at v f k q slot fresh m room =
    cond (eqb slot 0) (tell_at v m room (reply.Drawn fresh) (bare_to v 3 f k q fresh 0)) (done_at (bare_to v 2 f k q 0 slot) 0 0 m room)

-- in the round of session k: from Acknowledged on it is left, else another Q and slot
unfoldable pub moved_at : Numbers → ℕ → ℕ → ℕ → ℕ → List ℕ → List ℕ → Left Numbers
moved_at v k q slot fresh m room =
    cond (not (past v 1 && eqb v.round k)) (stays 9 v m room)
    (cond (past v 3) (done_at (left_in v) 0 0 m room) (drawn_at v v.flags v.round q slot fresh m room))

unfoldable pub rep_at : Numbers → ℕ → ℕ → List ℕ → List ℕ → Left Numbers
rep_at v k fresh m room =
    cond (not (past v 1 && eqb v.round k)) (stays 9 v m room)
    (cond (past v 3) (done_at (left_in v) 0 0 m room)
    (drawn_at v v.flags v.round v.q (counted_down v.slot) fresh m room))

unfoldable pub adjust_at : Numbers → ℕ → ℕ → ℕ → List ℕ → List ℕ → Left Numbers
adjust_at v k u fresh m room =
    let q = adjusted_q u v.q in
    cond (not (past v 1 && eqb v.round k)) (stays 9 v m room)
    (cond (bad_up_dn u) (stays 9 v m room)
    (cond (past v 3) (done_at (left_in v) 0 0 m room) (drawn_at v v.flags v.round q (slot_out q fresh) fresh m room)))

unfoldable pub query_at : Numbers → ℕ → ℕ → ℕ → ℕ → ℕ → List ℕ → List ℕ → Left Numbers
query_at v sel t k q fresh m room =
    let f = queried_in v k in
    cond (eqb v.state 7) (stays 9 v m room)
    (cond (not (matches_in f sel t k)) (done_at (idle_in v f) 0 0 m room) (drawn_at v f k q (slot_out q fresh) fresh m room))

unfoldable pub ack_at : Layout → Numbers → ℕ → List ℕ → List ℕ → Left Numbers
ack_at y v n m room =
    cond (not (past v 2)) (stays 9 v m room)
    (cond (eqb v.number n)
    (cond (eqb v.half 0) (tell_at v m room (reply.Epc (y.epc.at + 1) (length_of (pc_word y m) + 1)) (acknowledged_in v)) (dropped_at 14 v m room))
    (done_at (fallen_in v) 0 0 m room))

unfoldable pub select_at : Layout → Numbers → Choice → ℕ → List ℕ → List ℕ → List ℕ → Left Numbers
select_at y v c p m f room =
    cond (eqb v.state 7) (stays 9 v m room)
    (cond (bad_choice c) (stays 9 v m room) (done_at (selected_in v c (selects y m f c.bits p)) 0 0 m room))

-- a frame of inventory, and where its mask begins
abbrev pub calling_at : Layout → Numbers → List ℕ → List ℕ → ℕ → List ℕ → Calling → Left Numbers
calling_at y v m f fresh room (call.QueryRep k) = rep_at v k fresh m room
calling_at y v m f fresh room (call.Ack n) = ack_at y v n m room
calling_at y v m f fresh room (call.Query sel t k q) = query_at v sel t k q fresh m room
calling_at y v m f fresh room (call.QueryAdjust k u) = adjust_at v k u fresh m room
calling_at y v m f fresh room (call.Select c p) = select_at y v c p m f room

abbrev pub CallPlaced : Calling → Type 0
CallPlaced (call.QueryRep k) = Unit {0}
CallPlaced (call.Ack n) = Unit {0}
CallPlaced (call.Query sel t k q) = Unit {0}
CallPlaced (call.QueryAdjust k u) = Unit {0}
CallPlaced (call.Select c p) = (p ≤ 51) × (c.bits.count < 256)

-- a plan that an image of n bytes with WORK at word w can take
abbrev pub Sound : ℕ → ℕ → Plan → Type 0
Sound w n plan.Nothing = Unit {0}
Sound w n plan.Fall = Unit {0}
Sound w n plan.Number = Unit {0}
Sound w n (plan.Half kind up) = Unit {0}
Sound w n plan.Secure = Unit {0}
Sound w n (plan.Kill v at) = Holds w at 1 n
Sound w n (plan.Words at k) = (2 * (at + k) ≤ n) × (k < 65536)
Sound w n (plan.Word v at) = Holds w at 1 n
Sound w n (plan.Bits at k p) = Holds w at k n × (p ≤ 51)
Sound w n (plan.Zeros at k) = Holds w at k n
Sound w n (plan.Mask at k p) = Holds w at k n × (p ≤ 51) × (k ≤ 16)

-- the same of a plan, or an error in its place
abbrev pub SoundWhere : ℕ → ℕ → Decided → Type 0
SoundWhere w n (Ok p) = Sound w n p
SoundWhere w n (Err e) = Unit {0}

-- what a plan comes to, with this handle
abbrev pub perform_at : Numbers → ℕ → Layout → List ℕ → List ℕ → ℕ → List ℕ → ℕ → Plan → Left Numbers
perform_at v h y m f fresh room s plan.Nothing = stays 9 v m room
perform_at v h y m f fresh room s plan.Fall = done_at (fallen_in v) 0 0 m room
perform_at v h y m f fresh room s plan.Number = tell_at v m room (reply.Number fresh) (numbered_in y m fresh v)
perform_at v h y m f fresh room s (plan.Half kind up) = tell_at v m room (reply.Number h) (halved_in v kind up)
perform_at v h y m f fresh room s plan.Secure = tell_at v m room (reply.Number h) (secured_in v)
perform_at v h y m f fresh room s (plan.Kill w at) = store_at v h (killed_in v) y.work.at m room s (store at w ∷ [])
perform_at v h y m f fresh room s (plan.Words at k) = tell_at v m room (reply.Words at k h) (used_in v)
perform_at v h y m f fresh room s (plan.Word w at) = store_at v h (used_in v) y.work.at m room s (store at w ∷ [])
perform_at v h y m f fresh room s (plan.Bits at n p) = store_at v h (used_in v) y.work.at m room s (below (word_from at f p) n)
perform_at v h y m f fresh room s (plan.Zeros at n) = store_at v h (used_in v) y.work.at m room s (below (λ j. store (at + j) 0) n)
perform_at v h y m f fresh room s (plan.Mask at n p) = store_at v h (used_in v) y.work.at m room s (below (or_to m f at p) n)

-- a plan performed, or the error in its place
abbrev pub decided_at : Numbers → ℕ → Layout → List ℕ → List ℕ → ℕ → List ℕ → ℕ → Decided → Left Numbers
decided_at v h y m f fresh room s (Ok p) = perform_at v h y m f fresh room s p
decided_at v h y m f fresh room s (Err e) = error_at v h m room (fault_number e)

-- a command that the gate stops with this number
abbrev pub gated_at : ℕ → Numbers → List ℕ → List ℕ → Left Numbers
gated_at g v m room = cond (eqb g 9) (stays 9 v m room) (cond (eqb g 12) (dropped_at 12 v m room) (dropped_at 14 v m room))

-- any other command whose frame is whole
unfoldable pub command_at : Layout → Numbers → List ℕ → List ℕ → ℕ → List ℕ → ℕ → Command → Left Numbers
command_at y v m f fresh room s c =
    let g = gate_in y m v c.number c.order in
    cond (eqb g 0) (decided_at v c.number y m f fresh room s (plan_of y m f v c.order)) (gated_at g v m room)

-- the session under power that a record's numbers are those of
abbrev pub live_at : Numbers → Live
live_at v = live_of (session_of v).power

abbrev pub Fit : Numbers → Type 0
Fit v = numbers_on (live_at v) ≡ v

-- what was heard, of a session that the front lets pass
abbrev pub heard_at : Numbers → List ℕ → List ℕ → ℕ → ℕ → List ℕ → ℕ → Left Numbers
heard_at v m f n fresh room s = in_numbers (heard_by (live_at v) (layout_of m) m f fresh room s (heard_of f n))

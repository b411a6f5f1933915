-- The frames without a pointer, one by one, and what a frame of inventory says, as the code reads them. Assumes nothing.
use Rattle.std.specs.Prelude.{ℕ, List, Result, Ok, Err}
use Rattle.bits.specs.Bits.{field_at}
use Rattle.frames.specs.declared.Flaw.{Flaw}
use Rattle.frames.specs.declared.Calling.{Calling}
use Rattle.frames.specs.declared.Calling.TheVariants as call
use Rattle.frames.specs.declared.Order.{Order}
use Rattle.frames.specs.declared.Order.TheVariants as order
use Rattle.frames.specs.Message.{Message, flaw_number}
use Rattle.frames.specs.Message as heard
use Rattle.frames.specs.Frames.{exactly, plainly, to_all}

-- the order that a call of inventory is, and what each answer in the code says
abbrev pub order_in : Calling → Order
order_in (call.QueryRep k) = order.QueryRep k
order_in (call.Ack n) = order.Ack n
order_in (call.Query sel t k q) = order.Query sel t (record { session = k; q = q })
order_in (call.QueryAdjust k u) = order.QueryAdjust k u
order_in (call.Select c p) = order.Select c p

abbrev pub called : Result Calling Flaw → Message
called (Ok c) = heard.said (to_all (order_in c))
called (Err f) = heard.refused (flaw_number f)

abbrev pub query_rep_frame : List ℕ → ℕ → Message
query_rep_frame m n = plainly n 4 (order.QueryRep (field_at m 2 2))

abbrev pub ack_frame : List ℕ → ℕ → Message
ack_frame m n = plainly n 18 (order.Ack (field_at m 2 16))

abbrev pub query_adjust_frame : List ℕ → ℕ → Message
query_adjust_frame m n = plainly n 9 (order.QueryAdjust (field_at m 4 2) (field_at m 6 3))

abbrev pub nak_frame : ℕ → Message
nak_frame n = plainly n 8 order.Nak

abbrev pub req_rn_frame : List ℕ → ℕ → Message
req_rn_frame m n = exactly m n 40 order.ReqRn

abbrev pub kill_frame : List ℕ → ℕ → Message
kill_frame m n = exactly m n 59 (order.Kill (field_at m 8 16))

abbrev pub lock_frame : List ℕ → ℕ → Message
lock_frame m n = exactly m n 60 (order.Lock (field_at m 8 10) (field_at m 18 10))

abbrev pub access_frame : List ℕ → ℕ → Message
access_frame m n = exactly m n 56 (order.Access (field_at m 8 16))

-- `capi::tag_read` meets its contract: the core's own, by the record alone. Assumes nothing.
use Prim.Native.Nat.{ℕ, ◌*◌}
use mathlib.Core.Path.{sym, ap, ◌∙◌, subst}
use mathlib.Core.Bool.{true, false}
use mathlib.Core.List.{List}
use native.Mathlib.Omega.{arith}
use lib.Dec.{eqb}
use lib.ListN.{length}
use Rattle.image.specs.Layout.{layout_of}
use Rattle.replies.specs.Pack.{packed}
use Rattle.tag.specs.Session.{number_of, row_in, Stops}
use Rattle.tag.specs.Port.{read_bits}
use Rattle.tag.specs.PortSteps.{read_room}
use Rattle.tag.proofs.Ports.{fits_count, room-kept, room-shown, read-stops, read-counts, read-shows}
use Rattle.states.specs.Numbers.{numbers_in}
use Rattle.tag.specs.Records.{session_of, in_numbers}
use Rattle.capi.proofs.Own.{left_by, own-record, row-port, dead-state, numbers_after}
use Rattle.capi.proofs.tag_read.Goals.{then-dead, else-dead}
use Rattle.capi.proofs.tag_read.Goals as goal

pub returns-in-Err : goal.returns-in-Err
returns-in-Err c = let a = c.args in let m = a.image.now in
    let w = c.read_held.ensures c.held-h.ensures.1 in
    let e = ap row_in c.in-Err.is in
    let z = subst Stops c.in-Err.is w.2 in
    let n = number_of c.in-Err.answer in
    let d = eqb (numbers_in a.session).state 7 in
    rw (c.told.ensures, c.from.ensures) (ap (λ (x : List ℕ). left_by n 0 m x (numbers_in c.own.result)) (w.1 ∙ ap (λ (r : ℕ). read_room r d m a.at a.count a.room.now) e ∙ sym (room-kept d m a.at a.count a.room.now z)) ∙ ap (left_by n 0 m a.room.now) (ap numbers_in c.own.ensures ∙ own-record a.session c.held-h.ensures.0) ∙ ap in_numbers (read-stops m a.at a.count a.room.now (session_of (numbers_in a.session)) c.held-h.ensures.0 (sym e ∙ w.0) z))

pub overflow_mul-count : goal.overflow_mul-count
overflow_mul-count c = let a = c.args in let m = a.image.now in
    let w = c.read_held.ensures c.held-h.ensures.1 in
    record { fits = omega (arith, fits_count (layout_of m) a.at a.count (read-counts m a.at a.count a.room.now (session_of (numbers_in a.session)) c.held-h.ensures.0 w.0 (ap row_in c.in_default.is))) }

pub returns : goal.returns
returns c = let a = c.args in let m = a.image.now in
    let w = c.read_held.ensures c.held-h.ensures.1 in
    let o = ap row_in c.in_default.is in
    let z = row-port _ m a.at a.count (length a.room.now) (sym w.0 ∙ o) in
    let d = eqb (numbers_in a.session).state 7 in
    elim c.if-dead.branch [
      | then-dead v ↦ let q = v.if-dead.true-raw in let k = sym q ∙ dead-state (numbers_in a.session) c.held-h.ensures.0 z in rw (c.told-2.ensures, w.1, room-shown d m a.at a.count a.room.now o, v.after-is, q) (ap (left_by 0 (16 * a.count) m (packed (read_bits (layout_of m) m true a.at a.count) a.room.now)) (v.with_killed-after.ensures ∙ numbers_after (numbers_in a.session) c.held-h.ensures.0 z true) ∙ ap in_numbers (read-shows m a.at a.count a.room.now (session_of (numbers_in a.session)) c.held-h.ensures.0 w.0 o true k))
      | else-dead v ↦ let q = v.if-dead.false-raw in let k = sym q ∙ dead-state (numbers_in a.session) c.held-h.ensures.0 z in rw (c.told-2.ensures, w.1, room-shown d m a.at a.count a.room.now o, v.after-is, q) (ap (left_by 0 (16 * a.count) m (packed (read_bits (layout_of m) m false a.at a.count) a.room.now)) (numbers_after (numbers_in a.session) c.held-h.ensures.0 z false) ∙ ap in_numbers (read-shows m a.at a.count a.room.now (session_of (numbers_in a.session)) c.held-h.ensures.0 w.0 o false k))
    ]

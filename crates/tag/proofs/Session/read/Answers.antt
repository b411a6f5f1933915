-- `tag::Session::read` meets its contract: by its answer, then by what is shown. Assumes nothing.
use Prim.Native.Nat.{ℕ}
use mathlib.Core.Path.{sym, ap, ◌∙◌, subst}
use mathlib.Core.List.{List}
use native.Mathlib.Omega.{arith}
use Rattle.image.specs.Layout.{layout_of}
use Rattle.tag.specs.Session.{number_of, row_in, Stops}
use Rattle.tag.specs.PortSteps.{read_room}
use Rattle.tag.specs.Result.{leaves}
use Rattle.tag.proofs.Ports.{fits_count, room-kept, room-shown, read-stops, read-counts, read_killed, read-lives}
use Rattle.tag.proofs.Session.read.Goals.{then-dead, else-dead}
use Rattle.tag.proofs.Session.read.Goals as goal

pub returns-in-Err : goal.returns-in-Err
returns-in-Err c = let a = c.args in let m = a.image.now in
    let w = c.read_held.ensures c.held.ensures.1 in
    let e = ap row_in c.in-Err.is in
    let z = subst Stops c.in-Err.is w.2 in
    let n = number_of c.in-Err.answer in
    rw c.unmoved.ensures (ap (λ (x : List ℕ). leaves n a.self m x) (w.1 ∙ ap (λ (r : ℕ). read_room r c.is_dead-dead.result m a.at a.count a.room.now) e ∙ sym (room-kept _ m a.at a.count a.room.now z)) ∙ read-stops m a.at a.count a.room.now a.self c.held.ensures.0 (sym e ∙ w.0) z)

pub overflow_mul-count : goal.overflow_mul-count
overflow_mul-count c = let a = c.args in let m = a.image.now in
    let w = c.read_held.ensures c.held.ensures.1 in
    record { fits = omega (arith, fits_count (layout_of m) a.at a.count (read-counts m a.at a.count a.room.now a.self c.held.ensures.0 w.0 (ap row_in c.in_default.is))) }

pub returns : goal.returns
returns c = let a = c.args in let m = a.image.now in
    let w = c.read_held.ensures c.held.ensures.1 in
    let z = ap row_in c.in_default.is in
    elim c.if-dead.branch [
      | then-dead v ↦ rw (c.done.ensures, v.session-is, v.after_killed-session.ensures, w.1, room-shown c.is_dead-dead.result m a.at a.count a.room.now z) (read_killed m a.at a.count a.room.now a.self c.held.ensures.0 w.0 z _ c.is_dead-dead.ensures v.if-dead.true)
      | else-dead v ↦ rw (c.done.ensures, v.session-is, w.1, room-shown c.is_dead-dead.result m a.at a.count a.room.now z) (read-lives m a.at a.count a.room.now a.self c.held.ensures.0 w.0 z _ c.is_dead-dead.ensures v.if-dead.false)
    ]

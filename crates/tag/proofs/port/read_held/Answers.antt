-- `tag::port::read_held` meets its contract: the front, then the transfer. Assumes nothing.
use mathlib.Core.Path.{◌≡◌, sym, ap, ◌∙◌}
use lib.ListN.{length}
use Rattle.std.proofs.Common.{rules}
use Rattle.tag.specs.Session.{row_in}
use Rattle.tag.proofs.Fronts.{err-stops}
use Rattle.tag.proofs.Ports.{row-front, row-end, ready-front, room-kept}
use Rattle.tag.proofs.port.read_held.Goals as goal

pub returns-in_err-front : goal.returns-in_err-front
returns-in_err-front c = λ s. let a = c.args in let m = a.image.now in
    let q : c.from_residual.result ≡ c.front.result = search rules in
    let z = err-stops c.in_err-front.was (c.front.ensures.1 s) in
    rw q (row-front (row_in a.h) m a.at a.count (length a.room.now) c.front.ensures.0 z, room-kept a.dead m a.at a.count a.room.now z, c.front.ensures.1 s)

pub transfer-requires : goal.transfer-requires
transfer-requires c = let a = c.args in
    ready-front (row_in a.h) a.image.now a.at a.count (length a.room.now) (sym c.front.ensures.0 ∙ ap row_in c.in_ok-front.was)

pub returns : goal.returns
returns c = λ s. let a = c.args in let m = a.image.now in
    let f = sym c.front.ensures.0 ∙ ap row_in c.in_ok-front.was in
    (c.transfer.ensures.0 ∙ row-end (row_in a.h) m a.at a.count (length a.room.now) f, c.transfer.ensures.1, c.transfer.ensures.2)

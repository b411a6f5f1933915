-- `tag::port::transfer` meets its contract: 13 and 4, then the words. Assumes nothing.
use mathlib.Core.Path.{◌≡◌, refl, sym, ap, ◌∙◌}
use native.Mathlib.Omega.{arith}
use lib.ListN.{length}
use Rattle.std.proofs.Common.{rules}
use Rattle.image.specs.Layout.{layout_of}
use Rattle.image.proofs.Answers.{ready-zero, row-0}
use Rattle.tag.specs.Session.{row_in}
use Rattle.tag.proofs.Fronts.{err-stops}
use Rattle.tag.proofs.Ports.{room-kept, room-shown, end-zero}
use Rattle.tag.proofs.port.transfer.Goals as goal

pub read_end-requires : goal.read_end-requires
read_end-requires c = let h = (row-0 c.args.image.now (ready-zero c.args.image.now c.requires).0).header in omega arith

pub returns-in_err-read_end : goal.returns-in_err-read_end
returns-in_err-read_end c = let a = c.args in let m = a.image.now in
    let q : c.from_residual.result ≡ c.read_end.result = search rules in
    let z = err-stops c.in_err-read_end.was c.read_end.ensures.1 in
    rw q (c.read_end.ensures.0, room-kept a.dead m a.at a.count a.room.now z, c.read_end.ensures.1)

pub show-requires : goal.show-requires
show-requires c = let a = c.args in let m = a.image.now in
    let e = end-zero (layout_of m) a.at a.count (length a.room.now) (sym c.read_end.ensures.0 ∙ ap row_in c.in_ok-read_end.was) in
    record { good = row-0 m (ready-zero m c.requires).0; count_value = e.0; count_in_bounds = e.1 }

pub returns : goal.returns
returns c = let a = c.args in let m = a.image.now in
    (sym (ap row_in c.in_ok-read_end.was) ∙ c.read_end.ensures.0, c.show.ensures ∙ sym (room-shown a.dead m a.at a.count a.room.now refl), tt)

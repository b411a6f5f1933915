-- `tag::port::read_words` meets its contract: the image's number, the session's, then the transfer's. Assumes nothing.
use Prim.Native.Nat.{ℕ}
use mathlib.Core.Path.{◌≡◌, sym, ap, ◌∙◌}
use lib.ListN.{length}
use Rattle.tag.specs.Session.{row_in}
use Rattle.tag.specs.PortSteps.{read_room}
use Rattle.tag.proofs.Fronts.{err-stops}
use Rattle.tag.proofs.Ports.{row-front, row-end, front-own, front-image, room-kept}
use Rattle.tag.proofs.port.read_words.Goals as goal

pub returns-in-Err : goal.returns-in-Err
returns-in-Err c = let a = c.args in let m = a.image.now in
    let z = err-stops c.in-Err.is c.ready.ensures.1 in
    let e : c.from.result ≡ row_in c.ready.result = c.from.ensures ∙ sym (ap row_in c.in-Err.is) in
    let f = e ∙ c.ready.ensures.0 ∙ sym (front-image a.h m (λ k. z (c.ready.ensures.0 ∙ k))) in
    (row-front a.h m a.at a.count (length a.room.now) f (λ k. z (sym e ∙ k)), room-kept a.dead m a.at a.count a.room.now (λ k. z (sym e ∙ k)))

pub returns-then-h-ne0 : goal.returns-then-h-ne0
returns-then-h-ne0 c = let a = c.args in let m = a.image.now in
    let z = sym c.ready.ensures.0 ∙ ap row_in c.in_default.is in
    (row-front a.h m a.at a.count (length a.room.now) (sym (front-own a.h m z)) c.if-h-ne0.true, room-kept a.dead m a.at a.count a.room.now c.if-h-ne0.true)

pub transfer-requires : goal.transfer-requires
transfer-requires c = sym c.ready.ensures.0 ∙ ap row_in c.in_default.is

pub returns-in-Ok : goal.returns-in-Ok
returns-in-Ok c = let a = c.args in let m = a.image.now in
    let z = sym c.ready.ensures.0 ∙ ap row_in c.in_default.is in
    let e = ap row_in c.in-Ok.is in (
      sym e ∙ c.transfer.ensures.0 ∙ row-end a.h m a.at a.count (length a.room.now) (front-own a.h m z ∙ c.if-h-ne0.false),
      c.transfer.ensures.1 ∙ ap (λ (r : ℕ). read_room r a.dead m a.at a.count a.room.now) e,
    )

pub returns-in-Err-transfer : goal.returns-in-Err-transfer
returns-in-Err-transfer c = let a = c.args in let m = a.image.now in
    let z = sym c.ready.ensures.0 ∙ ap row_in c.in_default.is in
    let e : row_in c.transfer.result ≡ c.from-in-Err-transfer.result = ap row_in c.in-Err-transfer.is ∙ sym c.from-in-Err-transfer.ensures in (
      sym e ∙ c.transfer.ensures.0 ∙ row-end a.h m a.at a.count (length a.room.now) (front-own a.h m z ∙ c.if-h-ne0.false),
      c.transfer.ensures.1 ∙ ap (λ (r : ℕ). read_room r a.dead m a.at a.count a.room.now) e,
    )

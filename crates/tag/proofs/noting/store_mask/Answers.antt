-- `tag::noting::store_mask` meets its contract: no room, or the stores and their end. Assumes nothing.
use Prim.Native.Nat.{◌≤◌}
use lib.ListN.{length}
use mathlib.Core.Path.{sym, ap, ◌∙◌}
use native.Mathlib.Omega.{arith}
use Rattle.bits.specs.Below.{below}
use Rattle.bits.proofs.Below.{length-below}
use Rattle.stores.proofs.Changes.{change-needs}
use Rattle.states.specs.Numbers.{numbers_in}
use Rattle.tag.specs.Steps.{needed_for}
use Rattle.changes.specs.Changes.{or_to}
use Rattle.tag.proofs.Plans.{store-small, store-end}
use Rattle.tag.proofs.noting.store_mask.Goals as goal

pub returns-then-room-lt5 : goal.returns-then-room-lt5
returns-then-room-lt5 c = let a = c.args in
    let ss = below (or_to a.image.now a.frame.now a.at a.from) a.n in
    rw c.refused.ensures (store-small (numbers_in a.r) a.next a.handle a.work a.image.now a.room.now a.s ss c.if-room-lt5.true)

pub returns : goal.returns
returns c = let a = c.args in
    let ss = below (or_to a.image.now a.frame.now a.at a.from) a.n in
    let h : 5 ≤ length a.room.now = omega (arith, c.if-room-lt5.false) in
    c.finish.ensures ∙ store-end (numbers_in a.r) a.next a.handle a.work a.image.now a.room.now a.s ss h (c.needed.ensures.0 ∙ ap needed_for (sym (length-below _ a.n)) ∙ sym (change-needs a.work ss)) c.store_mask-made.ensures

-- `tag::noting::store_word` meets its contract: no room, or the stores and their end. Assumes nothing.
use Prim.Native.Nat.{◌≤◌}
use lib.ListN.{length}
use mathlib.Core.Path.{refl, ◌∙◌}
use native.Mathlib.Omega.{arith}
use mathlib.Core.List.{[], ◌∷◌}
use Rattle.bits.specs.Words.{store}
use Rattle.states.specs.Numbers.{numbers_in}
use Rattle.tag.proofs.Plans.{store-small, store-end}
use Rattle.tag.proofs.noting.store_word.Goals as goal

pub returns-then-room-lt5 : goal.returns-then-room-lt5
returns-then-room-lt5 c = let a = c.args in
    rw c.refused.ensures (store-small (numbers_in a.r) a.next a.handle a.work a.image.now a.room.now a.s (store a.at a.v ∷ []) c.if-room-lt5.true)

pub returns : goal.returns
returns c = let a = c.args in
    let h : 5 ≤ length a.room.now = omega (arith, c.if-room-lt5.false) in
    c.finish.ensures ∙ store-end (numbers_in a.r) a.next a.handle a.work a.image.now a.room.now a.s (store a.at a.v ∷ []) h refl c.store_one-made.ensures

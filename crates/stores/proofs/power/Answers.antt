-- `stores::power` meets its contract: the CRC is read off the image that the stores before it made. Assumes nothing.
use Rattle.stores.specs.Stores.{settling, epc_crc, power_stores}
use Rattle.image.specs.Content.{length_of, pc_word}
use Rattle.bits.proofs.Stores.{length-after}
use Rattle.bits.specs.Words.{after}
use lib.ListN.{take}
use Prim.Native.Nat.{◌+◌, ◌≤◌}
use native.Mathlib.Omega.{arith}
use Rattle.stores.proofs.Runs.{ran-made, ran-length}
use Rattle.stores.proofs.Changes.{pending-under, settling-pc, ran_then}
use Rattle.stores.proofs.power.Goals as goal

pub settle-requires-clause-n_bound : goal.settle-requires-clause-n_bound
settle-requires-clause-n_bound c =
    let g = c.requires in
    let e = c.word-c.ensures in
    (omega (arith, (g.content 0).count, g.header.pairs_most), omega arith, omega (arith, (g.content 0).count, g.header.whole, g.header.work.least))

pub settle-requires-clause-by_index : goal.settle-requires-clause-by_index
settle-requires-clause-by_index c = let a = c.args in
    λ j l. pending-under a.y a.image.now c.requires j (rw c.word-c.ensures at l)

pub epc_crc-sum-requires : goal.epc_crc-sum-requires
epc_crc-sum-requires c = let a = c.args in
    let g = c.requires in
    let r = rw c.word-c.ensures at c.settle.ensures in
    let h = g.header in
    let p : length_of (pc_word a.y (after a.image.now (take a.s (settling a.y a.image.now)))) + 2 ≤ a.y.epc.words = settling-pc a.y a.image.now g a.s in
    rw r.image (rw (length-after) (omega arith))

pub store-requires : goal.store-requires
store-requires c =
    let h = c.requires.header in
    omega (arith, ran-length c.settle.ensures)

pub returns : goal.returns
unfolding power_stores
returns c = let a = c.args in
    let r = rw c.word-c.ensures at c.settle.ensures in
    ran-made (ran_then (settling a.y a.image.now) a.y.epc.at (epc_crc a.y) _ r (rw c.epc_crc-sum.ensures at c.store.ensures))

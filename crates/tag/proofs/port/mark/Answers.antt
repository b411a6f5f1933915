-- `tag::port::mark` meets its contract: zeros where no block is locked; else the lock has been asked, or is still that of the block. Assumes nothing.
use Prim.Native.Nat.{◌+◌, ◌<◌}
use mathlib.Core.Path.{◌≡◌, sym, ap, ◌∙◌}
use native.Mathlib.Omega.{arith}
use lib.ListN.{length-set}
use Rattle.tag.specs.Port.{bit_of}
use Rattle.tag.proofs.Ports.{mask_next, mask-clear, Known, known-new, known-old, known_next}
use Rattle.tag.proofs.port.mark.Goals as goal
use Rattle.tag.proofs.port.mark.Goals.{then-at-j, else-at-j}

pub returns-then-none_locked : goal.returns-then-none_locked
returns-then-none_locked c =
    let a = c.args in
    (mask-clear a.y a.image.now a.at a.mask.now a.n c.requires.by_index (sym c.none_locked.ensures ∙ c.if-none_locked.true), omega arith)

pub overflow_sub-writable : goal.overflow_sub-writable
overflow_sub-writable c =
    elim c.if-at-j.branch [
      | then-at-j w ↦ omega (arith, w.bit-locked.ensures.1)
      | else-at-j w ↦ omega (arith, c.loop-j.invariant.3.bit)
    ]

pub loop-j-preserved : goal.loop-j-preserved
loop-j-preserved c =
    let a = c.args in
    let l = c.loop-j in
    let k : (a.at + l.j < c.if-at-j.next) × Known a.y a.image.now (a.at + l.j) c.if-at-j.locked c.if-at-j.next =
    elim c.if-at-j.branch [
      | then-at-j w ↦ known-new a.y a.image.now (a.at + l.j) (omega arith) (w.locked-is ∙ w.bit-locked.ensures.0 ∙ ap bit_of w.locked.ensures) (omega (arith, w.locked-is, w.bit-locked.ensures.1)) (w.next-is ∙ w.next-next.ensures.0)
      | else-at-j w ↦ rw (w.locked-is, w.next-is) (known-old l.invariant.3 w.if-at-j.false)
    ] in
    let v = c.if-at-j.locked in
    let e : a.at + l.j + 1 ≡ a.at + (l.j + 1) = omega arith in
    (length-set l.mask l.j v ∙ l.invariant.0, mask_next a.y a.image.now a.at l.mask l.j l.writable v (omega (arith, l.invariant.0)) (k.1.same (a.at + l.j) (omega arith) k.0) l.invariant.1, omega (arith, l.invariant.2), rw e at (known_next k.1 k.0))

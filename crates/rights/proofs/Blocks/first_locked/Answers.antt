-- `rights::Blocks::first_locked` meets its contract: blocks that are open are passed, and a locked one ends the search. Assumes nothing.
use Prim.Native.Nat.{◌+◌, ◌-◌, ◌≤◌}
use mathlib.Core.Path.{◌≡◌, sym, ◌∙◌}
use native.Mathlib.Omega.{arith}
use borrow.Author.Tests.{eq-eqb, ne_eqb}
use Rattle.rights.proofs.Searches.{same_block, word-passed, found-locked, block-then, block-covers, search-ends}
use Rattle.rights.proofs.Blocks.first_locked.Goals as goal

pub loop-i-preserved : goal.loop-i-preserved
loop-i-preserved c =
    let y = c.args.self.now.layout in
    let m = c.args.self.now.image.now in
    let l = c.loop-i in
    let stop = c.args.from + c.args.count in
    let p = same_block y m l.i c.permalock-locked.ensures (l.invariant.here l.i (omega arith) (omega arith)) in
    record {
      here = λ k s t. l.invariant.here k (omega arith) t;
      left = word-passed y m l.i stop (omega (arith, c.min-end.ensures)) (p ∙ eq-eqb c.permalock-locked.result 0 (omega arith)) ∙ l.invariant.left;
    }

pub loop-b-preserved : goal.loop-b-preserved
loop-b-preserved c =
    let n = c.args.self.now.layout.block in
    let b = c.loop-b in
    let v = b.invariant in
    let stop = c.args.from + c.args.count in
    let w = c.match-self.width in
    let e = c.min-end.result in
    let covers : b.next ≤ e = block-covers n stop w b.next b.b e v.wide v.here v.later c.min-end.ensures v.inside in
    let ends : c.loop-i.i ≡ e = omega arith in
    record {
      inside = omega (arith, c.min-end.ensures);
      here = λ h. block-then n stop w b.next b.b e v.wide v.here v.later c.min-end.ensures h;
      later = λ h. omega (arith, c.min-end.ensures);
      wide = v.wide;
      left = rw ends at c.loop-i.invariant.left;
    }

pub returns-then-locked : goal.returns-then-locked
returns-then-locked c =
    let y = c.args.self.now.layout in
    let m = c.args.self.now.image.now in
    let l = c.loop-i in
    let p = same_block y m l.i c.permalock-locked.ensures (l.invariant.here l.i (omega arith) (omega arith)) in
    sym (found-locked y m l.i (c.args.from + c.args.count) (omega (arith, c.min-end.ensures)) (p ∙ ne_eqb c.permalock-locked.result 0 (omega arith))) ∙ l.invariant.left

pub returns-after-loop-b : goal.returns-after-loop-b
returns-after-loop-b c =
    let n = c.args.self.now.layout.block in
    let b = c.loop-b in
    let v = b.invariant in
    let stop = c.args.from + c.args.count in
    let e : b.next ≡ stop = search-ends n b.next stop b.b v.inside v.here (omega (arith, c.block_of-b-end.ensures.0)) in
    let z : stop - b.next ≡ 0 = omega arith in
    rw z at v.left

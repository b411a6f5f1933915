-- `image::pending` meets its contract: word 14 says where WORK stands. Assumes nothing.
use Rattle.image.specs.Layout.{layout_of}
use Rattle.bits.specs.Words.{word_at}
use mathlib.Core.Path.{◌≡◌, ap, ◌∙◌}
use mathlib.Core.Bool.{not}
use mathlib.Core.List.{List}
use Prim.Native.Nat.{ℕ}
use lib.Dec.{eqb}
use native.Mathlib.Omega.{arith}
use Rattle.image.proofs.pending.Goals as goal

work-at : (m : List ℕ) {w : ℕ} → w ≡ word_at m 14 → w ≡ (layout_of m).work.at
unfolding layout_of
work-at m e = e

pub word_in-requires : goal.word_in-requires
word_in-requires c = let h = c.requires.header in omega arith

pub word_in-requires-2 : goal.word_in-requires-2
word_in-requires-2 c =
    let h = c.requires.header in
    omega (arith, work-at c.args.image.now c.word_in.ensures, h.whole, h.work.least)

pub returns : goal.returns
returns c =
    let m = c.args.image.now in
    ap (λ (x : ℕ). not (eqb x 0)) (c.word_in-2.ensures ∙ ap (word_at m) (work-at m c.word_in.ensures))

-- `image::Layout::blocks` meets its contract: a block size of 0 gives no block. Assumes nothing.
use Rattle.image.specs.Layout.{blocks_in}
use native.Mathlib.Omega.{arith}
use native.Mathlib.Nat.{div-zero, div-le_self}
use mathlib.Core.Path.{refl, sym, ap, ◌∙◌}
use Prim.Native.Nat.{ℕ, ◌+◌, ◌-◌, ◌/◌}
use Rattle.image.proofs.Layout.blocks.Goals as goal

pub returns-then-b-eq0 : goal.returns-then-b-eq0
unfolding blocks_in
returns-then-b-eq0 c = let y = c.args.self in
    (sym (ap (λ (b : ℕ). (y.user.words + (b - 1)) / b) c.if-b-eq0.true ∙ div-zero (y.user.words + (0 - 1))), omega arith)

pub returns : goal.returns
unfolding blocks_in
returns c = let y = c.args.self in
    (refl, omega (arith, div-le_self (y.user.words + (y.block - 1)) y.block))

-- `bits::alike_slowly` meets its contract: 16 bits at a time are alike where their fields are equal, then the rest. Assumes nothing.
use Rattle.std.proofs.Common.{rules}
use Prim.Native.Nat.{◌+◌, ◌-◌, ◌*◌, ◌/◌}
use mathlib.Core.Path.{◌≡◌, refl, ap, ◌∙◌}
use native.Mathlib.Omega.{arith}
use lib.Dec.{eqb}
use borrow.Author.Tests.{tests}
use Rattle.bits.specs.Bits.{field_at, alike}
use Rattle.bits.proofs.All.{every_from_all}
use Rattle.bits.proofs.Equal.{runs-alike, runs-other}
use Rattle.bits.proofs.alike_slowly.Goals as goal

pub returns-then-all : goal.returns-then-all
returns-then-all c =
    let a = c.args in
    let most = a.n / 16 * 16 in
    let e : most + (a.n - most) ≡ a.n = omega arith in
    runs-alike a.a.now a.i a.b.now a.j 16 (a.n / 16) (every_from_all (λ k. eqb (field_at c.args.a.now (c.args.i + 16 * k) 16) (field_at c.args.b.now (c.args.j + 16 * k) 16)) (c.args.n / 16) (λ x r q l k. search (rules, tests)) refl c.all.ensures.ran) c.if-all.true most (a.n - most) (omega arith) c.field.ensures.0 c.field-then-all.ensures.0
    ∙ ap (alike a.a.now a.i a.b.now a.j) e

pub returns-else-all : goal.returns-else-all
returns-else-all c =
    let a = c.args in
    runs-other a.a.now a.i a.b.now a.j 16 (a.n / 16) (every_from_all (λ k. eqb (field_at c.args.a.now (c.args.i + 16 * k) 16) (field_at c.args.b.now (c.args.j + 16 * k) 16)) (c.args.n / 16) (λ x r q l k. search (rules, tests)) refl c.all.ensures.ran) c.if-all.false a.n (omega arith)

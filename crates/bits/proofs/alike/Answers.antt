-- `bits::alike` meets its contract: 56 bits at a time are alike where their fields are equal, then the last 56. Assumes nothing.
use Rattle.std.proofs.Common.{rules}
use Prim.Native.Nat.{ℕ, ◌+◌, ◌-◌, ◌*◌, ◌/◌}
use mathlib.Core.Path.{◌≡◌, refl, ap, ◌∙◌}
use native.Mathlib.Omega.{arith}
use lib.Dec.{eqb}
use borrow.Author.Tests.{tests}
use Rattle.bits.specs.Bits.{field_at, alike}
use Rattle.bits.proofs.All.{every_from_all}
use Rattle.bits.proofs.Equal.{runs-alike, runs-other}
use Rattle.bits.proofs.alike.Goals as goal

pub returns-then-all : goal.returns-then-all
returns-then-all c =
    let a = c.args in
    let n = a.n in
    let x : a.i + n - 56 ≡ a.i + (n - 56) = omega arith in
    let y : a.j + n - 56 ≡ a.j + (n - 56) = omega arith in
    let e : n - 56 + 56 ≡ n = omega arith in
    runs-alike a.a.now a.i a.b.now a.j 56 (a.n / 56) (every_from_all (λ k. eqb (field_at c.args.a.now (c.args.i + 56 * k) 56) (field_at c.args.b.now (c.args.j + 56 * k) 56)) (c.args.n / 56) (λ x r q l k. search (rules, tests)) refl c.all.ensures.ran) c.if-all.true (n - 56) 56 (omega arith)
    (c.wide_field.ensures ∙ ap (λ (p : ℕ). field_at a.a.now p 56) x) (c.wide_field-then-all.ensures ∙ ap (λ (p : ℕ). field_at a.b.now p 56) y)
    ∙ ap (alike a.a.now a.i a.b.now a.j) e

pub returns-else-all : goal.returns-else-all
returns-else-all c =
    let a = c.args in
    runs-other a.a.now a.i a.b.now a.j 56 (a.n / 56) (every_from_all (λ k. eqb (field_at c.args.a.now (c.args.i + 56 * k) 56) (field_at c.args.b.now (c.args.j + 56 * k) 56)) (c.args.n / 56) (λ x r q l k. search (rules, tests)) refl c.all.ensures.ran) c.if-all.false a.n (omega arith)

-- `fields::Pen::put_field` meets its contract. Assumes nothing.
use Rattle.fields.proofs.Behind.{start, goes_on, field-more}
use Rattle.bits.proofs.Bits.{length-bits}
use Rattle.bits.specs.Bits.{bits_of}
use mathlib.Core.Path.{refl, ◌∙◌}
use Prim.Native.Nat.{◌-◌, ◌/◌, ◌^◌}
use native.Mathlib.Omega.{arith}
use Rattle.fields.proofs.Pen.put_field.Goals as goal

pub loop-k-init : goal.loop-k-init
loop-k-init c =
    let p = c.args.self.now in (omega arith, refl, refl, omega arith, start p.at c.args.f.bits c.args.f.value p.room.now)

pub loop-k-preserved : goal.loop-k-preserved
loop-k-preserved c =
    let p = c.args.self.now in
    let f = c.args.f in
    let l = c.loop-k in
    let put = c.put_bit.ensures in (
      omega arith,
      put.same_room ∙ l.invariant.1,
      put.same_length ∙ l.invariant.2,
      omega (arith, put.moved, l.invariant.3),
      rw (field-more f.bits l.k f.value c.loop-k-test.true, c.bit_of.ensures.0) (goes_on p.at l.self.at (bits_of l.k (f.value / 2 ^ (f.bits - l.k))) _ (omega (arith, l.invariant.3, length-bits l.k (f.value / 2 ^ (f.bits - l.k)))) l.invariant.4 put.put),
    )

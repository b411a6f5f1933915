-- `fields::Pen::put_payload` meets its contract. Assumes nothing.
use Rattle.fields.proofs.Behind.{goes_on, length_from, payload-more}
use Rattle.bits.specs.Bits.{bits_from}
use mathlib.Core.Path.{◌∙◌}
use native.Mathlib.Omega.{arith}
use Rattle.fields.proofs.Pen.put_payload.Goals as goal

pub loop-k-preserved : goal.loop-k-preserved
loop-k-preserved c =
    let p = c.args.self.now in
    let m = c.args.payload.now in
    let l = c.loop-k in
    let put = c.put_bit.ensures in (
      omega arith,
      put.same_room ∙ l.invariant.1,
      put.same_length ∙ l.invariant.2,
      omega (arith, put.moved, l.invariant.3),
      rw (payload-more m l.k, ← c.bit.ensures.0) (goes_on p.at l.self.at (bits_from m 0 l.k) _ (omega (arith, l.invariant.3, length_from m 0 l.k)) l.invariant.4 put.put),
    )

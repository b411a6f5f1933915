-- `ebv::read` meets its contract. Invariant: the groups that are left make of the value so far what all groups make of 0. Assumes nothing.
use mathlib.Core.Path.{refl}
use native.Mathlib.Omega.{arith}
use Rattle.ebv.specs.Ebv.{pointer_at}
use Rattle.ebv.proofs.Groups.{small, grows, short, ends, goes, none}
use Rattle.ebv.proofs.read.Goals as goal

pub loop-k-init : goal.loop-k-init
unfolding pointer_at
loop-k-init c = (omega arith, omega arith, refl)

pub returns-then-n-here-clause-says : goal.returns-then-n-here-clause-says
returns-then-n-here-clause-says c =
    let l = c.loop-k in
    short _ _ _ l.k l.acc (omega arith) l.invariant.2 (omega arith)

pub overflow_mul-result : goal.overflow_mul-result
overflow_mul-result c = omega (arith, small c.loop-k.k (omega arith))

pub overflow_add-result : goal.overflow_add-result
overflow_add-result c = omega (arith, small c.loop-k.k (omega arith))

pub returns-then-g-lt128-clause-says : goal.returns-then-g-lt128-clause-says
returns-then-g-lt128-clause-says c =
    let l = c.loop-k in
    ends _ _ _ l.k l.acc (omega arith) l.invariant.2 c.field-g.result c.field-g.ensures.0 (omega arith) (omega arith)

pub overflow_mul-acc : goal.overflow_mul-acc
overflow_mul-acc c = omega (arith, small c.loop-k.k (omega arith))

pub overflow_add-acc : goal.overflow_add-acc
overflow_add-acc c = omega (arith, small c.loop-k.k (omega arith))

pub loop-k-preserved : goal.loop-k-preserved
loop-k-preserved c =
    let l = c.loop-k in
    let g = c.field-g.result in
    (omega arith, grows l.k l.acc g l.invariant.1 c.field-g.ensures.1, goes _ _ _ l.k l.acc (omega arith) l.invariant.2 g c.field-g.ensures.0 (omega arith) (omega arith))

pub returns-clause-says : goal.returns-clause-says
returns-clause-says c = none _ _ _ c.loop-k.k c.loop-k.acc (omega arith) c.loop-k.invariant.2

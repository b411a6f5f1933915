-- `fields::Pen::put_check` meets its contract: the check is that of the bits which stand in the room. Assumes nothing.
use Rattle.fields.proofs.Sealing.{seals}
use mathlib.Core.Path.{sym}
use native.Mathlib.Omega.{arith}
use Rattle.fields.proofs.Pen.put_check.Goals as goal

pub returns-in-Some-clause-sealed : goal.returns-in-Some-clause-sealed
returns-in-Some-clause-sealed c = seals c.args.self.now.at c.args.bits c.in-Some.sum (sym c.in-Some.ensures) (omega (arith, c.requires.0)) (rw c.from.ensures at c.put_field.ensures.put)

-- `fields::Pen::check` meets its contract: the CRC-5 is over the first 17 bits. Assumes nothing.
use Rattle.fields.proofs.Sealing.{first-17}
use mathlib.Core.Path.{sym}
use Rattle.fields.proofs.Pen.check.Goals as goal

pub returns-in-5 : goal.returns-in-5
returns-in-5 c = rw c.crc5.ensures (sym (first-17 c.args.self.now.room.now c.args.self.now.at c.args.bits c.in-5.is (c.requires.1 c.in-5.is)))

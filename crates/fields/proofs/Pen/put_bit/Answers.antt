-- `fields::Pen::put_bit` meets its contract. Assumes nothing.
use borrow.Author.Rules.{rules}
use Rattle.fields.proofs.Behind.{goes-bit}
use Rattle.fields.proofs.Pen.put_bit.Goals as goal

pub returns-clause-put : goal.returns-clause-put
returns-clause-put c = let p = c.args.self.now in rw c.with_bit.ensures (goes-bit p.room.now p.at c.args.b c.requires.0 (search rules))

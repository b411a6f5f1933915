-- `frames::Frame::code` meets its contract: a byte. Assumes nothing.
use mathlib.Core.Path.{sym}
use Rattle.bits.proofs.Fields.{field-byte}
use Rattle.frames.proofs.Frame.code.Goals as goal

pub returns : goal.returns
returns c = sym (field-byte c.args.self.now.bytes.now c.args.self.now.lent 0)

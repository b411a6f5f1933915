-- `frames::Frame::one` meets its contract: a bit. Assumes nothing.
use mathlib.Core.Path.{sym, ◌∙◌}
use Rattle.bits.proofs.Fields.{single}
use Rattle.frames.proofs.Frame.one.Goals as goal

pub returns : goal.returns
returns c = c.bit.ensures.0 ∙ sym (single c.args.self.now.bytes.now c.args.at)

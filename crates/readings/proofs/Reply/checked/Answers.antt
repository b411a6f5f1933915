-- `readings::Reply::checked` meets its contract. Assumes nothing.
use borrow.Author.Tests.{eq-eqb, ne_eqb}
use mathlib.Core.Path.{sym, ◌∙◌}
use Rattle.frames.specs.Frames.{checksum_right}
use Rattle.readings.proofs.Reply.checked.Goals as goal

pub returns-then-field-crc16 : goal.returns-then-field-crc16
unfolding checksum_right
returns-then-field-crc16 c = simp (eq-eqb _ _ (sym c.field.ensures.0 ∙ c.if-field-crc16.true ∙ c.crc16.ensures))

pub returns : goal.returns
unfolding checksum_right
returns c = simp (ne_eqb _ _ (λ e. c.if-field-crc16.false (c.field.ensures.0 ∙ e ∙ sym c.crc16.ensures)))

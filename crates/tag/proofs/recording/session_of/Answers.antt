-- `tag::recording::session_of` meets its contract: a record that fits, or Off, by `fit-near` and `unfit-off`. Assumes nothing.
use mathlib.Core.Path.{sym, ap, ◌∙◌}
use Rattle.tag.specs.RecordSteps.{near_of}
use Rattle.tag.proofs.Records.{fit-near, unfit-off}
use Rattle.tag.proofs.recording.session_of.Goals as goal

pub returns-then-fits : goal.returns-then-fits
returns-then-fits c =
    c.near.ensures ∙ ap near_of c.from.ensures ∙ fit-near _ (sym c.fits.ensures ∙ c.if-fits.true)

pub returns-else-fits : goal.returns-else-fits
returns-else-fits c = sym (unfit-off _ (sym c.fits.ensures ∙ c.if-fits.false))

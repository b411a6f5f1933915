-- `bank::word_of` meets its contract: a view is made and read, and it answers as the plain form does. Assumes nothing.
use mathlib.Core.Path.{ap, ◌∙◌}
use Rattle.bank.specs.Views.{Shown, bank_number, word_in}
use Rattle.bank.specs.Shows.{same_word}
use Rattle.bank.proofs.word_of.Goals as goal

pub returns : goal.returns
returns c =
    c.read.ensures ∙ ap (λ (s : Shown). word_in s c.args.i) c.view_of.ensures ∙ same_word c.args.image.now (bank_number c.args.bank) c.args.i

-- `rights::Blocks::none_locked` meets its contract: nothing is found. Assumes nothing.
use mathlib.Core.Path.{ap, ◌∙◌}
use Rattle.std.specs.Prelude.{is_none}
use Rattle.rights.proofs.Searches.{nothing-locked, none-told}
use Rattle.rights.proofs.Blocks.none_locked.Goals as goal

pub returns : goal.returns
returns c =
    let a = c.args in
    none-told c.first_locked.result c.is_none.result c.is_none.ensures
    ∙ ap is_none c.first_locked.ensures
    ∙ nothing-locked a.self.now.layout a.self.now.image.now a.p a.n

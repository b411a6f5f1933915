-- `rights::Blocks::some_permalock` meets its contract: each block is asked. Assumes nothing.
use Rattle.std.proofs.Common.{rules, refl, ap, ◌∙◌}
use borrow.Author.Tests.{tests}
use lib.Dec.{eqb}
use mathlib.Core.Bool.{not}
use Rattle.image.specs.Content.{permalock}
use Rattle.bits.proofs.All.{every_from_any}
use Rattle.rights.proofs.Searches.{every-twice}
use Rattle.rights.proofs.Blocks.some_permalock.Goals as goal

pub returns : goal.returns
returns c =
    let y = c.args.self.now.layout in
    let m = c.args.self.now.image.now in
    every_from_any (λ k. not (eqb (permalock y m k) 0)) _ (λ x r q l k. search (rules, tests)) refl c.any.ensures.ran
    ∙ ap not (every-twice (λ k. eqb (permalock y m k) 0) c.blocks-2.result ∙ search (rules, tests))

-- `image::Pairs::fit` meets its contract: pair by pair. Assumes nothing.
use Rattle.std.proofs.Common.{rules, refl}
use borrow.Author.Tests.{tests}
use Rattle.bits.proofs.All.{every_from_all}
use Rattle.image.proofs.Pairs.fit.Goals as goal

pub returns : goal.returns
returns c = every_from_all _ _ (λ x r q l k. search (rules, tests)) refl c.all.ensures.ran

-- `rights::pairs_kept` meets its contract: each pair is asked. Assumes nothing.
use Rattle.std.proofs.Common.{rules, refl}
use borrow.Author.Tests.{tests}
use mathlib.Core.Bool.{not}
use Rattle.rights.specs.Rights.{pair_breaks}
use Rattle.bits.proofs.All.{every_from_all}
use Rattle.rights.proofs.pairs_kept.Goals as goal

pub returns : goal.returns
returns c = every_from_all (λ k. not (pair_breaks c.args.old c.args.new k)) 5 (λ x r q l k. search (rules, tests)) refl c.all.ensures.ran

-- `rights::mask_fits` meets its contract: each bit of a block that doesn't exist is asked. Assumes nothing.
use Rattle.std.proofs.Common.{rules, ◌∙◌, ◌+◌, ◌-◌}
use borrow.Author.Tests.{tests}
use lib.Dec.{eqb}
use Rattle.bits.specs.Bits.{bit_at}
use Rattle.bits.proofs.All.{every_from_all}
use Rattle.image.specs.Layout.{blocks_in}
use Rattle.rights.proofs.Masks.{mask-rest}
use Rattle.rights.proofs.mask_fits.Goals as goal

pub returns : goal.returns
returns c =
    let a = c.args in
    let s = c.saturating_sub-first.result in
    every_from_all (λ k. eqb (bit_at a.frame.now (a.from + (s + k))) 0) (a.n - s) (λ x r q l k. search (rules, tests)) (search (rules, tests)) c.all.ensures.ran
    ∙ mask-rest a.frame.now a.from a.at (blocks_in a.y) a.n s (search (rules, tests))

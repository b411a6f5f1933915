-- `rights::Blocks::rest_open` meets its contract: bank by bank. Assumes nothing.
use Rattle.std.proofs.Common.{rules}
use borrow.Author.Tests.{tests}
use mathlib.Core.Bool.{and-true}
use mathlib.Core.Path.{sym}
use Rattle.bits.proofs.Below.{every-all}
use Rattle.rights.proofs.Spans.{beyond-zero}
use Rattle.rights.proofs.Blocks.rest_open.Goals as goal

pub returns-in-1 : goal.returns-in-1
returns-in-1 c = rw c.in-1.is (simp and-true (beyond-zero _ _ c.requires.1))

pub returns-in_default : goal.returns-in_default
returns-in_default c = sym (every-all _ c.args.n (λ j h. search (rules, tests)))

-- `capi::records::held` meets its contract: by whether the record fits. Assumes nothing.
use Rattle.capi.proofs.Own.{row-off, row-free, row-held}
use mathlib.Core.Path.{sym, ◌∙◌}
use native.Mathlib.Omega.{arith}
use borrow.Author.Tests.{not-true, not-false}
use Rattle.capi.proofs.records.held.Goals as goal

pub returns-then-not-fits : goal.returns-then-not-fits
returns-then-not-fits c = (row-off c.args.r (sym c.fits.ensures ∙ not-true _ c.if-not-fits.true-raw), λ e. omega (arith, e))

pub returns-then-r-eq0 : goal.returns-then-r-eq0
returns-then-r-eq0 c = (row-free c.args.r (sym c.fits.ensures ∙ not-false _ c.if-not-fits.false-raw) c.if-r-eq0.true, λ e. omega (arith, e))

pub returns : goal.returns
returns c = (row-held c.args.r (sym c.fits.ensures ∙ not-false _ c.if-not-fits.false-raw) c.if-r-eq0.false, tt)

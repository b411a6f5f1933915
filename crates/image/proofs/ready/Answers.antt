-- `image::ready` meets its contract: past the header its number is the content's, by `from_row`. Assumes nothing.
use Rattle.image.proofs.Answers.{from_row}
use Rattle.image.proofs.Rules.{header-both, same-header}
use Rattle.image.specs.Check.{check_of}
use Rattle.image.specs.Steps.{ready_row}
use mathlib.Core.Path.{sym, ◌∙◌}
use borrow.Author.Tests.{lt-ltb, le-ltb, not-false}
use Rattle.image.proofs.ready.Goals as goal

pub returns-then-image-lt32 : goal.returns-then-image-lt32
unfolding check_of ready_row
returns-then-image-lt32 c = simp (lt-ltb _ _ c.if-image-lt32.true)

pub returns-then-not-header_good : goal.returns-then-not-header_good
unfolding check_of ready_row
returns-then-not-header_good c = simp (le-ltb _ _ c.if-image-lt32.false, ← c.read_layout-y.ensures, same-header, ← c.header_good.ensures, c.if-not-header_good.true-raw)

pub content_row-requires : goal.content_row-requires
content_row-requires c = (header-both _ _).0 (same-header _ _ ∙ sym c.header_good.ensures ∙ not-false c.header_good.result c.if-not-header_good.false-raw)

pub returns : goal.returns
returns c = c.content_row.ensures ∙ from_row _ c.read_layout-y.ensures c.if-image-lt32.false (same-header _ _ ∙ sym c.header_good.ensures ∙ not-false c.header_good.result c.if-not-header_good.false-raw)

-- `tag::port::store` meets its contract: killed, closed, or open. Assumes nothing.
use Rattle.tag.proofs.Ports.{fits_count, fits-data, write_killed, write-closed}
use borrow.Author.Tests.{not-true}
use lib.ListN.{length}
use mathlib.Core.Path.{sym, ◌∙◌}
use Prim.Native.Nat.{◌/◌}
use Rattle.tag.proofs.port.store.Goals as goal

pub returns-then-is_killed : goal.returns-then-is_killed
returns-then-is_killed c = let a = c.args in
    rw (c.done.ensures, c.with_killed.ensures) (write_killed a.l a.y a.image.now a.at a.words.now a.s (sym c.is_killed.ensures ∙ c.if-is_killed.true))

pub returns-then-not-is_open : goal.returns-then-not-is_open
returns-then-not-is_open c = let a = c.args in
    let h = fits_count a.y a.at (length a.words.now / 2) (fits-data a.y a.at a.words.now c.requires.words_value).0 in
    rw (c.done-then-not-is_open.ensures, c.with_unwritten.ensures) (write-closed a.l a.y a.image.now a.at a.words.now a.s (sym c.is_killed.ensures ∙ c.if-is_killed.false) (sym c.is_open.ensures ∙ not-true c.is_open.result c.if-not-is_open.true-raw) h.0)

-- `rights::reserved_open` meets its contract: each part of the bank is tested once, by `two_parts`. Assumes nothing.
use Rattle.std.proofs.Common.{rules, ◌∙◌, sym, ◌≡◌, ◌+◌}
use borrow.Author.Tests.{tests}
use lib.Dec.{eqb, leb}
use mathlib.Core.Bool.{◌&&◌, ◌||◌}
use Rattle.rights.specs.Rights.{opens}
use Rattle.rights.proofs.Spans.{two_parts}
use Rattle.rights.proofs.reserved_open.Goals as goal

pub returns-then-low : goal.returns-then-low
returns-then-low c =
    let a = c.args in
    let f = opens a.secured a.lock in
    let e : c.if-p-n-le2.high ≡ ((eqb a.n 0 || leb 2 a.p || f 0) && (eqb a.n 0 || leb (a.p + a.n) 2 || f 1)) = search (rules, tests) in
    e ∙ sym (two_parts f a.p a.n)

pub returns-else-low : goal.returns-else-low
returns-else-low c =
    let a = c.args in
    let f = opens a.secured a.lock in
    let e : c.if-p-ge2.low ≡ ((eqb a.n 0 || leb 2 a.p || f 0) && (eqb a.n 0 || leb (a.p + a.n) 2 || f 1)) = search (rules, tests) in
    e ∙ sym (two_parts f a.p a.n)

-- `bank::part` meets its contract: by the check's answer. Assumes nothing.
use mathlib.Core.Path.{◌≡◌, sym}
use Rattle.image.proofs.Answers.{check-good}
use Rattle.image.specs.Check.{refused, good, refusal_number, check_of}
use Rattle.bank.specs.Views.{view_of}
use Rattle.bank.specs.Shows.{bank-ends}
use Rattle.bank.proofs.part.Goals as goal

pub bytes-requires : goal.bytes-requires
bytes-requires c =
    let a = c.args in
    let e : good c.in-Ok.y ≡ check_of a.image.now = c.in-Ok.ensures in
    rw c.bank.ensures (bank-ends _ a.image.now a.bank (check-good a.image.now _ (sym e)).header)

pub returns-in-Ok : goal.returns-in-Ok
unfolding view_of
returns-in-Ok c =
    let e : good c.in-Ok.y ≡ check_of c.args.image.now = c.in-Ok.ensures in
    rw (c.bytes.ensures, c.bank.ensures, ← e)

pub returns-in-Err : goal.returns-in-Err
unfolding view_of
returns-in-Err c =
    let e : refused (refusal_number c.in-Err.refusal) ≡ check_of c.args.image.now = c.in-Err.ensures in
    rw (c.from.ensures, ← e)

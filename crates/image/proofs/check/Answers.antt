-- `image::check` meets its contract: a refusal is the check's, by `ready-refused`, and past it the image is good, by `ready-passed`. Assumes nothing.
use Rattle.image.proofs.Answers.{ready-refused, ready-passed, row-good, row-long}
use Rattle.image.specs.Check.{good}
use Rattle.image.specs.Steps.{ready_number}
use mathlib.Core.Path.{sym, ap, ◌∙◌}
use Rattle.std.proofs.lemmas.Result.{err_from_is_err_and}
use native.Mathlib.Omega.{arith}
use Rattle.image.proofs.check.Goals as goal

pub returns-in_err-ready : goal.returns-in_err-ready
returns-in_err-ready c =
    let p = err_from_is_err_and c.from_residual.result c.from_residual.ensures.1 in
    rw (p.1, p.2) (ready-refused c.args.image.now _ (sym (ap ready_number c.in_err-ready.was) ∙ c.ready.ensures))

pub read_layout-requires : goal.read_layout-requires
read_layout-requires c =
    let m = c.args.image.now in
    row-long m (λ e. omega (arith, e, ready-passed m _ (sym (ap ready_number c.in_ok-ready.was) ∙ c.ready.ensures)))

pub returns : goal.returns
returns c =
    let m = c.args.image.now in
    ap good c.read_layout.ensures ∙ row-good m (ready-passed m _ (sym (ap ready_number c.in_ok-ready.was) ∙ c.ready.ensures))

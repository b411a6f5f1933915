-- `capi::sheets::sheet` meets its contract: a refusal by its number, or the layout, read anew. Assumes nothing.
use Rattle.image.proofs.Answers.{ready-refused, ready-passed, row-good, row-long}
use Rattle.image.specs.Steps.{ready_number}
use Rattle.capi.specs.Told.{sheet_of}
use native.Mathlib.Omega.{arith}
use mathlib.Core.Path.{sym, ap, ◌∙◌}
use Rattle.capi.proofs.sheets.sheet.Goals as goal

pub read_layout-requires : goal.read_layout-requires
read_layout-requires c =
    let m = c.args.image.now in
    row-long m (λ e. omega (arith, e, ready-passed m _ (sym (ap ready_number c.in-Ok.is) ∙ c.ready.ensures)))

pub returns-in-Ok : goal.returns-in-Ok
returns-in-Ok c =
    let m = c.args.image.now in
    rw (c.from.ensures, c.read_layout.ensures) (ap sheet_of (row-good m (ready-passed m _ (sym (ap ready_number c.in-Ok.is) ∙ c.ready.ensures))))

pub returns-in-Err : goal.returns-in-Err
returns-in-Err c =
    rw (c.refused.ensures, c.from-in-Err.ensures) (ap sheet_of (ready-refused c.args.image.now c.in-Err.refusal (sym (ap ready_number c.in-Err.is) ∙ c.ready.ensures)))

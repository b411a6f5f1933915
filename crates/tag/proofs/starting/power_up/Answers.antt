-- `tag::starting::power_up` meets its contract: by the check's answer. Assumes nothing.
use mathlib.Core.Path.{sym, ap, ◌∙◌, subst}
use mathlib.Core.List.{[], ◌∷◌}
use native.Mathlib.Omega.{arith}
use lib.Dec.{ltb}
use lib.ListN.{length}
use Rattle.image.specs.Layout.{layout_of}
use Rattle.image.proofs.Answers.{ready-is, row-good, row-0, row-long, check-0}
use Rattle.stores.specs.Stores.{power_stores}
use Rattle.tag.specs.Result.{leaves, lost}
use Rattle.tag.specs.Session.{off_session, ready_in, Rejects}
use Rattle.tag.specs.Power.{power_up_of}
use Rattle.tag.specs.Steps.{started}
use Rattle.tag.proofs.Fronts.{image-stops, passed-check}
use Rattle.tag.proofs.starting.power_up.Goals as goal

pub returns-in-Err : goal.returns-in-Err
unfolding power_up_of
returns-in-Err c =
    let m = c.args.image.now in
    let z = subst Rejects c.in-Err.is c.checked.ensures.1 in
    rw c.stopped.ensures (image-stops m (ready-is m _ (sym c.checked.ensures.0 ∙ ap ready_in c.in-Err.is) z.1) z.0 (λ n. leaves n off_session m []) ((lost m (power_stores (layout_of m) m) c.args.s [], ltb c.args.s (length (power_stores (layout_of m) m))) ∷ []) (power_up_of m c.args.s).done)

pub read_layout-requires : goal.read_layout-requires
read_layout-requires c =
    let m = c.args.image.now in
    row-long m (λ e. omega (arith, e, passed-check m _ (sym (ap ready_in c.in_default.is) ∙ c.checked.ensures.0)))

pub start-requires : goal.start-requires
start-requires c =
    let m = c.args.image.now in
    rw c.read_layout.ensures (row-0 m (passed-check m _ (sym (ap ready_in c.in_default.is) ∙ c.checked.ensures.0)))

pub returns : goal.returns
unfolding power_up_of started
returns c =
    let m = c.args.image.now in
    let h = check-0 m _ (row-good m (passed-check m _ (sym (ap ready_in c.in_default.is) ∙ c.checked.ensures.0))) in
    rw (c.start.ensures, c.read_layout.ensures) (simp (h.0, h.1, h.2))

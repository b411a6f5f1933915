-- `tag::acting::command` meets its contract: stopped, or decided and performed. Assumes nothing.
use mathlib.Core.Path.{sym, ap, ◌∙◌, subst}
use Rattle.image.specs.Layout.{layout_of}
use Rattle.plans.specs.Steps.{Decided, plan_of}
use Rattle.states.specs.declared.Numbers.{Numbers}
use Rattle.states.specs.Numbers.{numbers_in}
use Rattle.states.specs.ByNumber.{gate_in}
use Rattle.states.specs.Steps.{stop_row}
use lib.ListN.{length}
use Prim.Native.Nat.{ℕ}
use Rattle.tag.specs.ByNumber.{decided_at, error_at, SoundWhere}
use Rattle.tag.proofs.Plans.{plan-sound}
use Rattle.tag.proofs.Ways.{command-way, stopped-way}
use Rattle.tag.proofs.acting.command.Goals as goal

pub returns-in-Err : goal.returns-in-Err
returns-in-Err c = let a = c.args in let m = a.image.now in let y = layout_of m in let v = numbers_in a.r in
    let g = c.gate.ensures ∙ ap (λ (w : Numbers). gate_in y m w a.c.number a.c.order) c.from-v.ensures in
    c.stopped.ensures _ _ ∙ stopped-way y v m a.room.now a.frame.now a.fresh a.s a.c _ (sym (ap stop_row c.in-Err.is) ∙ g)

pub perform-requires-clause-sound : goal.perform-requires-clause-sound
perform-requires-clause-sound c = let a = c.args in let m = a.image.now in let y = layout_of m in
    subst (SoundWhere y.work.at (length m)) (sym c.in-Ok.ensures) (plan-sound y m a.frame.now c.requires.good c.from-v.result a.c.order c.requires.placed)

pub returns-in-Ok : goal.returns-in-Ok
returns-in-Ok c = let a = c.args in let m = a.image.now in let y = layout_of m in let v = numbers_in a.r in
    let g = c.gate.ensures ∙ ap (λ (w : Numbers). gate_in y m w a.c.number a.c.order) c.from-v.ensures in
    let p = c.in-Ok.ensures ∙ ap (λ (w : Numbers). plan_of y m a.frame.now w a.c.order) c.from-v.ensures in
    c.perform.ensures ∙ ap (λ (p : Decided). decided_at v a.c.number y m a.frame.now a.fresh a.room.now a.s p) p ∙ command-way y v m a.room.now a.frame.now a.fresh a.s a.c (sym (ap stop_row c.in_default.is) ∙ g)

pub returns-in-Err-decide : goal.returns-in-Err-decide
returns-in-Err-decide c = let a = c.args in let m = a.image.now in let y = layout_of m in let v = numbers_in a.r in
    let g = c.gate.ensures ∙ ap (λ (w : Numbers). gate_in y m w a.c.number a.c.order) c.from-v.ensures in
    let p = c.in-Err-decide.ensures ∙ ap (λ (w : Numbers). plan_of y m a.frame.now w a.c.order) c.from-v.ensures in
    c.give_error.ensures ∙ ap (λ (e : ℕ). error_at v a.c.number m a.room.now e) c.from.ensures ∙ ap (λ (p : Decided). decided_at v a.c.number y m a.frame.now a.fresh a.room.now a.s p) p ∙ command-way y v m a.room.now a.frame.now a.fresh a.s a.c (sym (ap stop_row c.in_default.is) ∙ g)

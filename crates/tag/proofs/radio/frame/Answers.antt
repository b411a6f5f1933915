-- `tag::radio::frame` meets its contract: stopped by the front, or heard. Assumes nothing.
use mathlib.Core.Path.{◌≡◌, sym, ap, ◌∙◌, subst}
use mathlib.Core.Bool.{true, false}
use borrow.Author.Tests.{not-true, not-false}
use Rattle.states.specs.declared.Numbers.{Numbers}
use Rattle.tag.specs.Session.{row_in, Stops}
use Rattle.tag.specs.RecordSteps.{fits_of}
use Rattle.tag.specs.Steps.{front_by}
use Rattle.tag.proofs.Entry.{off-stops, image-stops, port-stops, fit, entry-good, entry-heard}
use Rattle.tag.proofs.radio.frame.Goals as goal

pub returns-then-not-fits : goal.returns-then-not-fits
returns-then-not-fits c = let a = c.args in let m = a.image.now in
    let e : fits_of a.r ≡ false = sym c.fits.ensures ∙ not-true _ c.if-not-fits.true-raw in
    rw (c.refused.ensures, c.off_record.ensures) (off-stops a.r m a.frame.now a.n a.fresh a.room.now a.s e (c.or_five.ensures ∙ ap (front_by 5) (c.stop.ensures.0 ∙ c.ready-ready.ensures)))

pub returns-in-Err : goal.returns-in-Err
returns-in-Err c = let a = c.args in let m = a.image.now in
    let e : fits_of a.r ≡ true = sym c.fits.ensures ∙ not-false _ c.if-not-fits.false-raw in
    let row = c.stop-2.ensures.0 ∙ c.ready-ready.ensures in
    rw c.refused-in-Err.ensures (image-stops a.r m a.frame.now a.n a.fresh a.room.now a.s e (sym (ap row_in c.in-Err.is) ∙ row) (subst Stops c.in-Err.is c.stop-2.ensures.1))

pub returns-then-from-ne0 : goal.returns-then-from-ne0
returns-then-from-ne0 c = let a = c.args in let m = a.image.now in
    let e : fits_of a.r ≡ true = sym c.fits.ensures ∙ not-false _ c.if-not-fits.false-raw in
    let row = c.stop-2.ensures.0 ∙ c.ready-ready.ensures in
    rw c.refused-then-from-ne0.ensures (port-stops a.r m a.frame.now a.n a.fresh a.room.now a.s e (sym (ap row_in c.in_default.is) ∙ row) (λ i. 0) (λ z. c.if-from-ne0.true (ap (λ (v : Numbers). v.held) c.from.ensures ∙ z)))

pub hearing-requires : goal.hearing-requires
hearing-requires c = let a = c.args in let m = a.image.now in
    let e : fits_of a.r ≡ true = sym c.fits.ensures ∙ not-false _ c.if-not-fits.false-raw in
    let z = sym (ap row_in c.in_default.is) ∙ c.stop-2.ensures.0 ∙ c.ready-ready.ensures in
    record {
      good = entry-good a.r m a.frame.now a.n a.fresh a.room.now a.s e z (λ i. 0) (ap (λ (v : Numbers). v.held) (sym c.from.ensures) ∙ c.if-from-ne0.false);
      fit = fit a.r m a.frame.now a.n a.fresh a.room.now a.s e z;
    }

pub returns : goal.returns
returns c = let a = c.args in let m = a.image.now in
    let e : fits_of a.r ≡ true = sym c.fits.ensures ∙ not-false _ c.if-not-fits.false-raw in
    let row = sym (ap row_in c.in_default.is) ∙ c.stop-2.ensures.0 ∙ c.ready-ready.ensures in
    c.hearing.ensures ∙ entry-heard a.r m a.frame.now a.n a.fresh a.room.now a.s e row (λ i. 0) (ap (λ (v : Numbers). v.held) (sym c.from.ensures) ∙ c.if-from-ne0.false)

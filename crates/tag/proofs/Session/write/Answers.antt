-- `tag::Session::write` meets its contract: stopped by the front, 13, or what a write stores. Assumes nothing.
use Rattle.std.specs.Prelude.{Option}
use mathlib.Core.Path.{◌≡◌, sym, ap, ◌∙◌, subst}
use mathlib.Core.Bool.{not}
use native.Mathlib.Omega.{arith}
use Rattle.stores.specs.Stores.{change_stores}
use Rattle.tag.specs.declared.Live.{Live}
use Rattle.tag.specs.declared.Session.{Session}
use Rattle.tag.specs.Session.{row_in, Stops}
use Rattle.tag.specs.Result.{first_of}
use Rattle.tag.specs.Table.{live_of}
use Rattle.tag.specs.Port.{write_of}
use Rattle.tag.specs.Steps.{on_session}
use Rattle.tag.proofs.Fronts.{Passed, passed-good, passed_on}
use Rattle.tag.proofs.Ports.{write-stops, write-passes, write-counts, write-live}
use Rattle.tag.proofs.Session.write.Goals as goal

pub returns-in-Err : goal.returns-in-Err
returns-in-Err c = let a = c.args in let m = a.image.now in rw c.unmoved.ensures (write-stops m a.at a.words.now a.s a.self c.held.ensures.0 (sym (ap row_in c.in-Err.is) ∙ c.front.ensures.0) (subst Stops c.in-Err.is (c.front.ensures.1 c.held.ensures.1)))

pub returns-in_default-power : goal.returns-in_default-power
returns-in_default-power c = let a = c.args in let m = a.image.now in absurd (passed_on (subst (λ (p : Option Live). Passed p m (not (live_of p).held)) c.in_default-power.is (write-passes m a.at a.words.now a.s a.self c.held.ensures.0 (sym (ap row_in c.in_default.is) ∙ c.front.ensures.0) (λ i. 0))))

pub read_layout-y-requires : goal.read_layout-y-requires
read_layout-y-requires c = let a = c.args in let m = a.image.now in let h = (passed-good (write-passes m a.at a.words.now a.s a.self c.held.ensures.0 (sym (ap row_in c.in_default.is) ∙ c.front.ensures.0) (λ i. 0))).header in omega arith

pub returns-then-bad_data : goal.returns-then-bad_data
returns-then-bad_data c = let a = c.args in let m = a.image.now in let l : Live = c.in-Some.l in let e : a.self ≡ on_session l = ap (λ (p : Option Live). record { power = p }) c.in-Some.is in rw (c.unmoved-then-bad_data.ensures, c.on.ensures) (write-counts m a.at a.words.now a.s l (subst (λ (p : Option Live). Passed p m (not (live_of p).held)) c.in-Some.is (write-passes m a.at a.words.now a.s a.self c.held.ensures.0 (sym (ap row_in c.in_default.is) ∙ c.front.ensures.0) (λ i. 0))) (sym (rw c.read_layout-y.ensures at c.bad_data.ensures) ∙ c.if-bad_data.true) ∙ ap (λ (v : Session). first_of (write_of change_stores v m a.at a.words.now a.s)) (sym e))

pub store-requires : goal.store-requires
store-requires c = let a = c.args in let m = a.image.now in record { good = rw c.read_layout-y.ensures (passed-good (write-passes m a.at a.words.now a.s a.self c.held.ensures.0 (sym (ap row_in c.in_default.is) ∙ c.front.ensures.0) (λ i. 0))); words_value = sym c.bad_data.ensures ∙ c.if-bad_data.false }

pub returns : goal.returns
returns c = let a = c.args in let m = a.image.now in let l : Live = c.in-Some.l in let e : a.self ≡ on_session l = ap (λ (p : Option Live). record { power = p }) c.in-Some.is in (rw c.read_layout-y.ensures at c.store.ensures) ∙ write-live m a.at a.words.now a.s l (subst (λ (p : Option Live). Passed p m (not (live_of p).held)) c.in-Some.is (write-passes m a.at a.words.now a.s a.self c.held.ensures.0 (sym (ap row_in c.in_default.is) ∙ c.front.ensures.0) (λ i. 0))) (sym (rw c.read_layout-y.ensures at c.bad_data.ensures) ∙ c.if-bad_data.false) ∙ ap (λ (v : Session). first_of (write_of change_stores v m a.at a.words.now a.s)) (sym e)

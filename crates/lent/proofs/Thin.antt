-- One walk for every wrapper `fn f(session: &mut Session) -> Outcome { let o = (*session).g(); *session = o.session; o }`, whatever g promises.
--     Says                 what g promises of the session that it takes and of its outcome
--     Plain, Lent          the signatures of g and f.        plainly, lently     their contracts
--     body                 f's MIR, with g's name in it
--     thin                 where g meets its contract, f meets its own
-- Assumes `Logic`.
use types.Logic.{Logic}
use mathlib.Core.Path.{◌≡◌, refl}
use mir.Syntax.{Fn, place, deref, field, copy, rv_opd, assign, call, seq, return, local, value_local}
use prog.Model.{Model}
use prog.Routine.{Callee as Named, Env}
use prog.Wp.{Closed}
use contract.Running.{Running}
use denote.Triple.Clauses.{Ended, Clauses, closing}
use denote.Builtin.{RefMutOf}
use Rattle.walk.proofs.Walk.{[], ◌∷◌, List, ℕ, Ura, named, Val, vptr, SProp, ent, emp, via, fst∗, GName, Lft, Share, ftrue, flft, Calls, Loops, WpFn, fact, tables, MutBor, mut_vals, MutRef}
use Rattle.walk.proofs.Walk.{‵, raw, ◌⊛◌, ⋆, ◌$◌, ◌∵◌, !, qed, by, move, keep, drop, use0, split, join, fsplit, fsplit3, fjoin, fjoin3, feq_i, suffices, frame, done}
use Rattle.walk.proofs.Walk.{look, init, stop, from, load, and_then, no_more, returns, enter, alloc1, alloc0, params1, pass1, pass0, free0, gone}
use Rattle.walk.proofs.Walk.{FmC, owns, Is, mut_Tells, plain, only, heard, nothing, Contract, Triple, calls_at, hears, on_entry, triple_of, says, Stays, stay_ref, walk_of, Goes-ref, ends_at, walked, yes, concluded}
use Rattle.tag.specs.declared.Session.{Session}
use Rattle.tag.specs.declared.Outcome.{Outcome}
use Rattle.tag.specs.contracts.Session as T
use Rattle.tag.proofs.Session.TheLaws as T'
use Rattle.tag.specs.contracts.Outcome as O
use Rattle.tag.proofs.Outcome.TheLaws as O'
use Rattle.lent.proofs.Lent.{s-vals, o-vals, s-owned, lent_ty, borrowed, seen, begun, settled}

abbrev pub Says : Type 1
Says = Session → Outcome → Type 0

abbrev Plain : Ended
Plain = record { signature = record { lifetimes = 0; outlives = []; params = plain (λ _. T.the_row) ∷ []; result = plain (λ _. O.the_row) }; kept = (yes, tt) }

abbrev Lent : Ended
Lent = record { signature = record { lifetimes = 1; outlives = []; params = RefMutOf (0 ∷ []) tt (plain (λ _. T.the_row)) (λ _. tt) ∷ []; result = plain (λ _. O.the_row) }; kept = (yes, tt) }

abbrev plainly : {M : Type 1} (𝓤 : Ura M) → Says → Clauses 𝓤 Plain
plainly 𝓤 φ κs a = record { ghost = Unit {0}; requires = λ _. emp 𝓤; ensures = λ _ r _. fact 𝓤 (φ a.0 r) }

abbrev lently : {M : Type 1} (𝓤 : Ura M) → Says → Clauses 𝓤 Lent
lently 𝓤 φ κs a = record { ghost = Unit {0}; requires = λ _. emp 𝓤; ensures = λ _ r e. fact 𝓤 (φ a.0.now r × (e.0.now ≡ r.session)) }

abbrev body : Named → Fn
body g = record {
  lifetimes = 1;
  outlives = [];
  ty_params = [];
  givens = 0;
  params = 1;
  locals = local O'.mir value_local ∷ local lent_ty value_local ∷ local O'.mir value_local ∷ local T'.mir value_local ∷ [];
  body =
      seq (assign (place 3 []) (rv_opd (copy (place 1 (deref T'.mir ∷ [])))))
      (seq (call g (copy (place 3 []) ∷ []) (place 2 []))
      (seq (assign (place 1 (deref T'.mir ∷ [])) (rv_opd (copy (place 2 (field 1 ∷ [])))))
      (seq (assign (place 0 []) (rv_opd (copy (place 2 [])))) return)));
}

abbrev stayed : Stays Lent.signature.params Lent.kept
stayed = (stay_ref (0 ∷ []) tt (plain (λ _. T.the_row)), tt)

abbrev pub Callee : {M : Type 1} {𝓤 : Ura M} (𝓛 : Logic 𝓤) → Says → Contract 𝓤
Callee {𝓤 = 𝓤} 𝓛 φ = triple_of 𝓛 Plain.signature (closing 𝓛 Plain (plainly 𝓤 φ))

module _ {M : Type 1} {𝓤 : Ura M} (𝓛 : Logic 𝓤) (φ : Says) (κ : Lft) (q : Share) (b o : ℕ) (γ : GName) (h : Session) where
  open 𝓛 use {H}

  abbrev x : MutBor Session × Unit {0}
  x = (record { ref_ptr = (b, o); ghost_name = γ; now = h }, tt)

  abbrev at : List Val × Unit {0}
  at = (vptr b o ∷ [], tt)

  abbrev Post : Val → SProp 𝓤
  Post = (walk_of 𝓛 Lent stayed (lently 𝓤 φ)).post (((κ, tt), (q, tt), tt, x, at), tt)

  -- what g's triple binds outside
  abbrev to : (Callee 𝓛 φ).Ghost
  to = ((tt, tt, tt, (h, tt), (s-vals h, tt)), tt)

  asked : Is T.the_row h (s-vals h) → ent 𝓤 (emp 𝓤) ((Callee 𝓛 φ).pre to)
  asked is = qed 𝓛 [] ∵ nothing ! $ nothing ! $ nothing ! $ s-owned ! h is $ fjoin ! $ move ! (1 ∷ 0 ∷ []) $ join ! $ frame ! $ done !

  exits : (r : Outcome) → φ h r → ent 𝓤 (⋆ 𝓛 (‵ (seen γ r.session) ∷ ‵ (borrowed κ b o γ) ∷ ‵ (flft κ q) ∷ ‵ ((O.the_row).own_val r (o-vals r)) ∷ [])) (Post (only (o-vals r)))
  exits r e =
      qed 𝓛 (‵ (seen γ r.session) ∷ ‵ (borrowed κ b o γ) ∷ ‵ (flft κ q) ∷ ‵ ((O.the_row).own_val r (o-vals r)) ∷ []) ∵
      suffices ! _ (ends_at 𝓛 Lent stayed (lently 𝓤 φ) (((κ, tt), (q, tt), tt, x, at), tt) (only (o-vals r)) r (r.session, tt) (tt, tt)) $ says ! (e, refl) $ nothing ! $ move ! (3 ∷ 0 ∷ []) $ join ! $
      frame ! $ feq_i ! (List Val) (vptr b o ∷ []) (vptr b o ∷ []) refl $ fjoin3 ! $ nothing ! $ move ! (1 ∷ 0 ∷ []) $ fjoin ! $ frame ! $ done !

  module _ (C : Calls 𝓤 H) (Λ : Loops 𝓤 H) (g : Named) (fm : FmC 𝓤 H 𝓛.laws C) (known : Triple 𝓤 (C g) (Callee 𝓛 φ)) where
    walk : ent 𝓤 (on_entry 𝓛 Lent.signature (κ, tt) (q, tt) x at) (WpFn 𝓤 H C Λ (body g) (vptr b o ∷ []) Post)
    walk =
        qed 𝓛 ((‵ (flft κ q) ⊛ ‵ ftrue) ∷ ‵ (owns (MutRef (named 0) κ T.the_row ∷ []) x at) ∷ []) ∵ enter ! C Λ (body g) (vptr b o ∷ []) _ $
        alloc1 ! (λ l₀. alloc1 ! (λ l₁. alloc1 ! (λ l₂. alloc1 ! (λ l₃. alloc0 ! $ params1 ! $ pass1 ! (init ! 4 refl (tt, tt)) $ pass0 ! $
        move ! (9 ∷ []) $ fsplit ! $ fsplit3 ! $ drop ! $ move ! (11 ∷ []) $ split ! $ move ! (2 ∷ 3 ∷ 0 ∷ 5 ∷ 9 ∷ []) $
        -- [seen; the borrow; the token; room for _3; _1; true; true; …; room for _2; …; …; room for _0; …]
        begun ! h b o 3 l₃ refl (λ was. use0 𝓛 (raw ((Callee 𝓛 φ).pre to)) (asked was) $
        calls_at ! fm (Callee 𝓛 φ) known to (and_then ! (load ! (from ! (stop !)) (look ! 5 refl)) (no_more !)) (λ v.
        hears ! tt Plain (plainly 𝓤 φ) to v (λ r ws. heard ! (φ h r) (λ e. drop ! $ drop ! $
        -- [the outcome's; the session's cell; the open borrow; seen; auth; _3; _1; true; true; …; room for _2; …; …; room for _0; …]
        move ! (0 ∷ 1 ∷ 2 ∷ 3 ∷ 4 ∷ 10 ∷ 6 ∷ 13 ∷ []) $ settled ! h r v b o 2 l₂ refl $
        -- [seen; the borrow; the token; the outcome's; _2; _1; _0; _3; true; true; …; …; …; …]
        returns ! (look ! 6 refl) $ move ! (6 ∷ 13 ∷ 5 ∷ 12 ∷ 4 ∷ 11 ∷ 7 ∷ 10 ∷ []) $ gone ! $ gone ! $ gone ! $ gone ! $ free0 ! $
        keep ! (0 ∷ 1 ∷ 2 ∷ 3 ∷ []) $ by ! (exits r e)))))))))

module _ {M : Type 1} {𝓤 : Ura M} (𝓛 : Logic 𝓤) (𝓜 : Model 𝓤 𝓛.H) (𝓡 : Running 𝓤 𝓛.H 𝓜) (φ : Says) (env : Env) (f g : Named) where
  open 𝓛 use {H}

  pub thin : Closed 𝓤 H (tables 𝓤 H 𝓜 𝓡 env).C (tables 𝓤 H 𝓜 𝓡 env).Λ f (body g) → Triple 𝓤 ((tables 𝓤 H 𝓜 𝓡 env).C g) (Callee 𝓛 φ)
      → Triple 𝓤 ((tables 𝓤 H 𝓜 𝓡 env).C f) (triple_of 𝓛 Lent.signature (closing 𝓛 Lent (lently 𝓤 φ)))
  thin unfolded known =
      concluded 𝓛 𝓜 𝓡 Lent stayed (lently 𝓤 φ) env f (body g) unfolded (Goes-ref 𝓛 1 0 tt (plain (λ _. T.the_row)), tt)
      (λ fm. walked 𝓛 Lent stayed (lently 𝓤 φ) (WpFn 𝓤 H (tables 𝓤 H 𝓜 𝓡 env).C (tables 𝓤 H 𝓜 𝓡 env).Λ (body g)) (λ κs. (mut_vals, tt)) (λ κs. (mut_Tells (named 0) κs.0 T.the_row, tt))
      (λ κs qs bounds a _ are. via 𝓤 _ (fst∗ 𝓤 _ (emp 𝓤)) (walk 𝓛 φ κs.0 qs.0 a.0.ref_ptr.0 a.0.ref_ptr.1 a.0.ghost_name a.0.now (tables 𝓤 H 𝓜 𝓡 env).C (tables 𝓤 H 𝓜 𝓡 env).Λ g fm known)))

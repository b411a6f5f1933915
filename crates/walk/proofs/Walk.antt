-- What every walk by hand shares: the names that each of them uses, passed on, and three laws.
--     Slice, sl    a lent slice of bytes, and its machine value
--     gone         a local that stands first is freed
--     hears        a call has returned: its result r, some last values ws, what the callee ensures of them, what says them, the tokens, and what r owns
--     concluded    the closing lines of a walk: walks of a function's MIR, over the machine's tables, give its theorem
-- Assumes `Logic`.
use mathlib.Core.Path.{refl}
use Prim.Native.Nat.{zero}
use mir.Syntax.{Ty, Fn}
use base.Fml.{fat, fdies}
use prog.Model.{Model}
use prog.Routine.{Callee, Env}
use prog.Wp.{Env as Locals, Closed}
use types.Kit.{Goal, Soaks, Seq, Step, step, frees, some, later, pick, await}
use types.Run.{forget, free1}
use contract.Running.{Running, tables_of}
use denote.Signature.{type_at}
use denote.Triple.Entry.{Res, alive}
use denote.Triple.Clauses.{Ended, Clauses, Lasts, at_exit, closing, ensured, lasts}
use denote.Triple.Table.{entered}
use sound.WpLaws.{fm_of, WpFn-mono}
use denote.Triple.Walked.{walk_Meets, AllGo, Walks}
use base.Fraction.{full_share}
use denote.Slice.{slice_val}
pub use mathlib.Core.List.{[], ◌∷◌, List}
pub use Prim.Native.Nat.{ℕ, ◌<◌, ◌^◌}
pub use seplogic.Ra.Ura.{Ura}
pub use mir.Syntax.{named, w8, w16, w64}
pub use mir.Val.{Val, vint, vptr}
pub use base.Logic.{SProp, ent, emp, via, fst∗, id⊢}
pub use base.Fml.{GName, Lft, Share, Fml, ftrue, flft}
pub use prog.Memory.{Memory}
pub use prog.Routine.{Routine}
pub use prog.Wp.{Heap, Calls, Loops, WpFn}
pub use ghost.Atoms.{Atoms}
use types.Logic.{Logic}
pub use contract.Monad.{Fun, fact}
pub use contract.Running.{tables}
pub use types.Kit.{Item, ‵, raw, ◌⊛◌, ⋆, ◌$◌, ◌∵◌, !, qed, by, move, keep, drop, use0, use1, use2, split, join, fsplit, fsplit3, fjoin, fjoin3, feq_l, feq_i, suffices, frame, done}
pub use types.Run.{look, init, stop, fld, from, load, of_opd, and_then, no_more, assigns, land, returns, enter, alloc1, alloc0, params1, pass1, pass0, free0}
pub use types.Part.{agg, whole, sub, look_in}
pub use sound.WpLaws.{FmC}
pub use denote.RattleType.{owns}
pub use denote.Laws.{Is, shows}
pub use denote.Plain.{uint_vals, uint_Tells, uint_Makes}
pub use denote.Builtin.{u8, u16, usize}
pub use denote.Ref.{Bor, MutBor, MutRef, shr_vals, mut_vals, mut_Tells}
pub use denote.Signature.{plain}
pub use denote.Slice.{ShrSlice, MutSlice, finally, shr_slice_vals, mut_slice_vals, shr_slice_Tells, shr_slice_Lawful, shr_slice_copy, mut_slice_Tells, mut_slice_Lawful}
pub use lib.ListN.{length}
pub use denote.Steps.{only, owned, peeks, heard, nothing}
pub use denote.Triple.Statement.{Contract, Triple}
pub use denote.Triple.Call.{calls_at}
pub use denote.Triple.Entry.{on_entry}
pub use denote.Triple.Spec.{triple_of}
pub use denote.Triple.Table.{cited}
pub use denote.Triple.Walked.{says, Stays, stay_ref, stay_none, stay_none_slice, gave_slice, walk_of, Goes-none, Goes-ref, Goes-none_slice, Goes-gave_slice, ends_at, walked}
pub use denote.Exit.{yes}

abbrev pub Slice : Type 0
Slice = Bor (List ℕ)

abbrev pub sl : Slice → Val
sl s = slice_val s.ref_ptr (length s.now)

module _ {M : Type 1} {𝓤 : Ura M} {𝓛 : Logic 𝓤} {K : Type 0} {Γ : List (Item 𝓤)} {G : Goal 𝓤 𝓛.H} where
  open 𝓛 use {H}

  pub gone : K → {τ : Ty} {b : ℕ} {v : Val} {E : Locals 𝓤 H} → Step K 𝓛 Γ (frees E G) (‵ (fat full_share τ b zero v) ∷ ‵ (fdies τ b) ∷ Γ) (frees ((τ, b) ∷ E) G)
  gone t = step (λ k. forget t 0 refl $ free1 t $ k)

  pub hears : K → Soaks G → (T : Ended) (c : Clauses 𝓤 T) (y : (triple_of 𝓛 T.signature (closing 𝓛 T c)).Ghost) (v : Val)
      → ((r : Res T.signature y.0.0) (ws : Lasts T y.0.0 y.0.3) → Seq K 𝓛 (raw ((c y.0.0 y.0.3).ensures y.1 r (at_exit T y.0.0 y.0.3 ws)) ∷ ‵ (lasts T y.0.0 y.0.3 ws) ∷ raw (alive 𝓛 T.signature y.0.0 y.0.1) ∷ ‵ ((type_at T.signature.result y.0.0).own_val r (v ∷ [])) ∷ Γ) G)
      → Seq K 𝓛 (raw ((triple_of 𝓛 T.signature (closing 𝓛 T c)).post y v) ∷ Γ) G
  hears t z T c y v k =
      use1 𝓛 (later (some (λ (r : Res T.signature y.0.0). (raw (alive 𝓛 T.signature y.0.0 y.0.1) ⊛ ‵ ((type_at T.signature.result y.0.0).own_val r (v ∷ []))) ⊛ raw (ensured 𝓛 T c y.0.0 y.0.3 y.1 r)))) (id⊢ 𝓤 _) $ await t z $ pick t (λ r. split t $ move t (1 ∷ []) $
      use1 𝓛 (some (λ (ws : Lasts T y.0.0 y.0.3). ‵ (lasts T y.0.0 y.0.3 ws) ⊛ raw ((c y.0.0 y.0.3).ensures y.1 r (at_exit T y.0.0 y.0.3 ws)))) (id⊢ 𝓤 _) $ pick t (λ ws. split t $ move t (2 ∷ []) $ split t $ move t (3 ∷ 2 ∷ []) $ k r ws))

module _ {M : Type 1} {𝓤 : Ura M} (𝓛 : Logic 𝓤) (𝓜 : Model 𝓤 𝓛.H) (𝓡 : Running 𝓤 𝓛.H 𝓜) (T : Ended) (hs : Stays T.signature.params T.kept) (c : Clauses 𝓤 T) where
  open 𝓛 use {H}

  pub concluded : (γ : Env) (k : Callee) (e : Fn) → Closed 𝓤 H (tables 𝓤 H 𝓜 𝓡 γ).C (tables 𝓤 H 𝓜 𝓡 γ).Λ k e
      → AllGo 𝓛 T.signature.lifetimes T.signature.params T.kept hs
      → (FmC 𝓤 H 𝓛.laws (tables 𝓤 H 𝓜 𝓡 γ).C → Walks 𝓛 T hs (WpFn 𝓤 H (tables 𝓤 H 𝓜 𝓡 γ).C (tables 𝓤 H 𝓜 𝓡 γ).Λ e) c)
      → Triple 𝓤 ((tables 𝓤 H 𝓜 𝓡 γ).C k) (triple_of 𝓛 T.signature (closing 𝓛 T c))
  unfolding tables_of
  concluded γ k e unfolded goes walks =
      entered 𝓤 H (triple_of 𝓛 T.signature (closing 𝓛 T c)) (tables 𝓤 H 𝓜 𝓡 γ).C (tables 𝓤 H 𝓜 𝓡 γ).Λ k e unfolded
      (walk_Meets 𝓛 T hs goes c (WpFn 𝓤 H (tables 𝓤 H 𝓜 𝓡 γ).C (tables 𝓤 H 𝓜 𝓡 γ).Λ e)
      (WpFn-mono 𝓤 H 𝓛.laws (tables_of 𝓤 H 𝓜 (tables 𝓤 H 𝓜 𝓡 γ)) e) (walks (fm_of 𝓤 H 𝓛.laws (tables_of 𝓤 H 𝓜 (tables 𝓤 H 𝓜 𝓡 γ)))))

-- The steps that every walk of a wrapper over a lent session has in common. Each holds in any context Γ.
--     s-vals, o-vals       how a session's and an outcome's machine values are spelled
--     s_typed, o-typed     they have their MIR types.        inner     an outcome's session is one.        s-owned     what a session owns is had for nothing
--     taken                the lent session is opened
--     begun                the wrapper's first statement: the lent session is opened, and copied to the local that the call takes
--     relent               a `&mut` slice of bytes is lent on: its place and its count go to a local that the call takes
--     settled              what follows the call: its outcome stands in a local, its session goes behind the reference, the whole of it to the result, and the borrow is closed at the new session
-- Assumes `Logic`.
use mathlib.Core.Path.{◌≡◌, refl, ap, sym, subst}
use Prim.Native.Nat.{ℕ, ◌<◌, ◌^◌}
use mathlib.Core.List.{[], ◌∷◌, List}
use seplogic.Ra.Ura.{Ura}
use base.Fraction.{full_share}
use lib.Dec.{T as Holds}
use mir.Syntax.{Ty, Step as Way, Body as Code, named, erased, mut, w8, ty_int, ty_ref, place, deref, field, copy, rv_opd, addr_of, aggregate, assign, seq, return}
use mir.Val.{Val, WT, has_ty, vptr}
use base.Stored.{Gv}
use base.Fml.{GName, Lft, Share, Fml, fat, froom, flft, fobs, fauth, fbor, fobor}
use prog.Wp.{Heap, Env, Spot, spot_of, Calls, Loops}
use types.Logic.{Logic}
use types.Kit.{Goal, Soaks, Post, runs, lands, Step, step, Seq, Item, ‵, ◌$◌, move, drop, rewrite}
use types.Run.{Walks, Finds, from, stop, hop, fld, load, addr, and_then, no_more, look, look_raw, init, store_raw, of_opd, assigns, land}
use types.Part.{agg, whole, sub, look_in}
use types.SemTy.{Body}
use denote.Laws.{Is, shows}
use denote.Memory.{mem, cell_at, pointee}
use denote.Slice.{slice_ty}
use denote.Steps.{only, opens, closes, owned, peeks}
use denote.Struct.Steps.{spelt}
use denote.Struct.Laws as LL
use lib.ListN.{length}
use Rattle.walk.proofs.Walk.{Slice, sl}
use Rattle.tag.specs.declared.Session.{Session}
use Rattle.tag.specs.declared.Outcome.{Outcome}
use Rattle.tag.specs.contracts.Session as T
use Rattle.tag.proofs.Session.TheLaws as T'
use Rattle.tag.specs.contracts.Outcome as O
use Rattle.tag.proofs.Outcome.TheLaws as O'

abbrev pub s-vals : Session → List Val
s-vals = LL.vals T.the_type T'.the_laws

abbrev pub o-vals : Outcome → List Val
o-vals = LL.vals O.the_type O'.the_laws

inner : (r : Outcome) → Is O.the_row r (o-vals r) → Is T.the_row r.session (s-vals r.session)
inner r is = (LL.owed O.the_type O'.the_laws r (o-vals r) is).1.0

module _ {M : Type 1} {𝓤 : Ura M} (𝓛 : Logic 𝓤) where
  s_typed : (s : Session) → Is T.the_row s (s-vals s) → Holds (has_ty T'.mir (only (s-vals s))) × WT (only (s-vals s))
  s_typed s is = ((LL.lawful T.the_type T'.the_laws 𝓛).typed s (s-vals s) is).0

  o-typed : (r : Outcome) (v : Val) → Is O.the_row r (v ∷ []) → Holds (has_ty O'.mir v) × WT v
  o-typed r v is = ((LL.lawful O.the_type O'.the_laws 𝓛).typed r (v ∷ []) is).0

module _ {M : Type 1} {𝓤 : Ura M} {𝓛 : Logic 𝓤} {K : Type 0} {Γ : List (Item 𝓤)} {G : Goal 𝓤 𝓛.H} where
  pub s-owned : K → (s : Session) → Is T.the_row s (s-vals s) → Step K 𝓛 (‵ ((T.the_row).own_val s (s-vals s)) ∷ Γ) G Γ G
  s-owned t s is = owned t T.the_row (Is T.the_row) (LL.makes T.the_type T'.the_plain 𝓛) s (s-vals s) is

-- the MIR type of the lent session, and the cells of a local that holds the reference, the outcome, a session
abbrev pub lent_ty : Ty
lent_ty = ty_ref (named 0) mut (pointee (T.the_row).written)

abbrev pub ref-in : ℕ → ℕ → ℕ → Fml
ref-in l b o = fat full_share lent_ty l 0 (vptr b o)

abbrev pub outcome-in : ℕ → Outcome → Fml
outcome-in l r = fat full_share O'.mir l 0 (only (o-vals r))

abbrev pub session-in : ℕ → Session → Fml
session-in l s = fat full_share T'.mir l 0 (only (s-vals s))

-- what lies behind the reference while its borrow is open, and the borrow
abbrev pub behind : Session → ℕ → ℕ → Fml
behind s b o = cell_at full_share (T.the_row).mir (s-vals s) b o

abbrev pub opened : Lft → Share → ℕ → ℕ → GName → Fml
opened κ q b o γ = fobor κ q (Body (mem T.the_row) b o γ)

abbrev pub borrowed : Lft → ℕ → ℕ → GName → Fml
borrowed κ b o γ = fbor κ (Body (mem T.the_row) b o γ)

abbrev pub seen : GName → Session → Fml
seen γ s = fobs γ ((T.the_row).coded.code s)

module _ {M : Type 1} {𝓤 : Ura M} {𝓛 : Logic 𝓤} {K : Type 0} {Γ : List (Item 𝓤)} {G : Goal 𝓤 𝓛.H} where
  pub taken : K → Soaks G → {κ : Lft} {p : Share} {γ : GName} (h : Session) (b o : ℕ)
      → (Is T.the_row h (s-vals h) → Seq K 𝓛 (‵ (behind h b o) ∷ ‵ (opened κ p b o γ) ∷ ‵ (seen γ h) ∷ ‵ (fauth γ ((T.the_row).coded.code h)) ∷ Γ) G) → Seq K 𝓛 (‵ (seen γ h) ∷ ‵ (borrowed κ b o γ) ∷ ‵ (flft κ p) ∷ Γ) G
  taken t z h b o k =
      opens t z T.the_row {h = h} b o (λ vs. spelt t T.the_row (Is T.the_row) (shows 𝓛 T.the_row) s-vals (LL.tells T.the_type T'.the_laws) full_share h vs b o $
      move t (1 ∷ []) $ peeks t T.the_row (Is T.the_row) (shows 𝓛 T.the_row) h (s-vals h) (λ was. drop t $ k was))

module _ {M : Type 1} {𝓤 : Ura M} {𝓛 : Logic 𝓤} {K : Type 0} {Γ : List (Item 𝓤)} where
  -- a place of a local whose cell is known
  open 𝓛 use {H}

  at_local : K → {E : Env 𝓤 H} {i : ℕ} {st : List Way} {sp sp' : Spot 𝓤 H} → spot_of 𝓤 H E i ≡ sp → Walks K 𝓛 Γ E sp st sp' → Finds K 𝓛 Γ E (place i st) sp'
  at_local t {E} {i} {st} {sp} {sp'} e w = from t (subst (λ (s : Spot 𝓤 H). Walks K 𝓛 Γ E s st sp') (sym e) w)

-- a wrapper's locals: the result, the reference, and the others
abbrev pub locals : {M : Type 1} (𝓤 : Ura M) (H : Heap 𝓤) → ℕ → ℕ → Env 𝓤 H → Env 𝓤 H
locals 𝓤 H l₀ l₁ E = (O'.mir, l₀) ∷ (lent_ty, l₁) ∷ E

module _ {M : Type 1} {𝓤 : Ura M} {𝓛 : Logic 𝓤} {K : Type 0} {Γ : List (Item 𝓤)}
    {C : Calls 𝓤 𝓛.H} {Λ : Loops 𝓤 𝓛.H} {q : Post 𝓤 𝓛.H} {κ : Lft} {p : Share} {γ : GName} {l₀ l₁ : ℕ} {E : Env 𝓤 𝓛.H} where
  open 𝓛 use {H}

  pub begun : K → (h : Session) (b o : ℕ) (i l : ℕ) {rest : Code} → spot_of 𝓤 H (locals 𝓤 H l₀ l₁ E) i ≡ (T'.mir, l, 0)
      → (Is T.the_row h (s-vals h) → Seq K 𝓛 (‵ (behind h b o) ∷ ‵ (opened κ p b o γ) ∷ ‵ (seen γ h) ∷ ‵ (fauth γ ((T.the_row).coded.code h)) ∷ ‵ (session-in l h) ∷ ‵ (ref-in l₁ b o) ∷ Γ) (runs C Λ (locals 𝓤 H l₀ l₁ E) rest q))
      → Seq K 𝓛 (‵ (seen γ h) ∷ ‵ (borrowed κ b o γ) ∷ ‵ (flft κ p) ∷ ‵ (froom T'.mir l 0) ∷ ‵ (ref-in l₁ b o) ∷ Γ) (runs C Λ (locals 𝓤 H l₀ l₁ E) (seq (assign (place i []) (rv_opd (copy (place 1 (deref T'.mir ∷ []))))) rest) q)
  begun t h b o i l e k =
      taken t tt h b o (λ was. assigns t (of_opd t (load t (from t (hop t (look t 5 refl) (stop t))) (look_raw t 0 refl))) (at_local t e (stop t)) (init t 4 refl (s_typed 𝓛 h was)) $ k was)

  pub settled : K → {u v : Gv} (h : Session) (r : Outcome) (w : Val) (b o : ℕ) (i l : ℕ) → spot_of 𝓤 H (locals 𝓤 H l₀ l₁ E) i ≡ (O'.mir, l, 0)
      → Step K 𝓛 (‵ (seen γ r.session) ∷ ‵ (borrowed κ b o γ) ∷ ‵ (flft κ p) ∷ ‵ ((O.the_row).own_val r (o-vals r)) ∷ ‵ (outcome-in l r) ∷ ‵ (ref-in l₁ b o) ∷ ‵ (outcome-in l₀ r) ∷ Γ) (runs C Λ (locals 𝓤 H l₀ l₁ E) return q)
      (‵ ((O.the_row).own_val r (w ∷ [])) ∷ ‵ (behind h b o) ∷ ‵ (opened κ p b o γ) ∷ ‵ (fobs γ u) ∷ ‵ (fauth γ v) ∷ ‵ (froom O'.mir l 0) ∷ ‵ (ref-in l₁ b o) ∷ ‵ (froom O'.mir l₀ 0) ∷ Γ)
      (lands C Λ (locals 𝓤 H l₀ l₁ E) (place i []) w (seq (assign (place 1 (deref T'.mir ∷ [])) (rv_opd (copy (place i (field 1 ∷ []))))) (seq (assign (place 0 []) (rv_opd (copy (place i [])))) return)) q)
  settled t h r w b o i l e =
      step (λ k. peeks t O.the_row (Is O.the_row) (shows 𝓛 O.the_row) r (w ∷ []) (λ is. land t (at_local t e (stop t)) (init t 5 refl (o-typed 𝓛 r w is)) $
      rewrite t 5 (λ (x : Val). ‵ (fat full_share O'.mir l 0 x)) (ap only (LL.tells O.the_type O'.the_laws r (w ∷ []) is)) refl $
      rewrite t 0 (λ (xs : List Val). ‵ ((O.the_row).own_val r xs)) (LL.tells O.the_type O'.the_laws r (w ∷ []) is) refl $
      peeks t O.the_row (Is O.the_row) (shows 𝓛 O.the_row) r (o-vals r) (λ is'.
      assigns t (of_opd t (load t (at_local t e (fld t refl (stop t))) (look_in t 5 (sub t 1 refl (whole t))))) (from t (hop t (look t 6 refl) (stop t))) (store_raw t 1 refl (s_typed 𝓛 r.session (inner r is'))) $
      assigns t (of_opd t (load t (at_local t e (stop t)) (look t 5 refl))) (from t (stop t)) (init t 7 refl (o-typed 𝓛 r (only (o-vals r)) is')) $
      move t (1 ∷ 2 ∷ 3 ∷ 4 ∷ []) $ owned t T.the_row (Is T.the_row) (LL.makes T.the_type T'.the_plain 𝓛) r.session (s-vals r.session) (inner r is') $
      move t (1 ∷ 0 ∷ []) $ closes t tt T.the_row r.session (s-vals r.session) b o $ k)))

abbrev bytes-at : ℕ → Ty
bytes-at n = slice_ty (ty_ref (named n) mut (ty_int w8))

module _ {M : Type 1} {𝓤 : Ura M} {𝓛 : Logic 𝓤} {K : Type 0} {Γ : List (Item 𝓤)} {C : Calls 𝓤 𝓛.H} {Λ : Loops 𝓤 𝓛.H} {q : Post 𝓤 𝓛.H} {E : Env 𝓤 𝓛.H} where
  open 𝓛 use {H}

  pub relent : K → {n : ℕ} (s : Slice) → length s.now < 2 ^ 64 → (i j k : ℕ) {l l' l'' : ℕ} {rest : Code}
      → spot_of 𝓤 H E i ≡ (bytes-at n, l, 0) → spot_of 𝓤 H E j ≡ (ty_ref erased mut (ty_int w8), l', 0) → spot_of 𝓤 H E k ≡ (slice_ty (ty_ref erased mut (ty_int w8)), l'', 0)
      → Step K 𝓛 (‵ (fat full_share (bytes-at n) l 0 (sl s)) ∷ ‵ (fat full_share (ty_ref erased mut (ty_int w8)) l' 0 (vptr s.ref_ptr.0 s.ref_ptr.1)) ∷ ‵ (fat full_share (slice_ty (ty_ref erased mut (ty_int w8))) l'' 0 (sl s)) ∷ Γ) (runs C Λ E rest q)
      (‵ (fat full_share (bytes-at n) l 0 (sl s)) ∷ ‵ (froom (ty_ref erased mut (ty_int w8)) l' 0) ∷ ‵ (froom (slice_ty (ty_ref erased mut (ty_int w8))) l'' 0) ∷ Γ)
      (runs C Λ E (seq (assign (place j []) (addr_of (place i (field 0 ∷ deref (ty_int w8) ∷ [])))) (seq (assign (place k []) (aggregate (copy (place j []) ∷ copy (place i (field 1 ∷ [])) ∷ []))) rest)) q)
  relent t s fits i j k e e' e'' =
      step (λ z. assigns t (addr t (at_local t e (fld t refl (hop t (look_in t 0 (sub t 0 refl (whole t))) (stop t))))) (at_local t e' (stop t)) (init t 1 refl (tt, tt)) $
      assigns t (agg t (and_then t (load t (at_local t e' (stop t)) (look t 1 refl)) (and_then t (load t (at_local t e (fld t refl (stop t))) (look_in t 0 (sub t 1 refl (whole t)))) (no_more t)))) (at_local t e'' (stop t))
      (init t 2 refl (tt, (tt, (record { fits = fits }, tt)))) $ z)

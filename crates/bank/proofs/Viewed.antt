-- The steps that the walks of the functions over a view have in common.
--     at_a, Row      the signature's lifetime, and the view's type at it
--     words-out      what a view owns can be copied, and of one copy what its slice owns comes out
--     shut           what a slice owns is what a view of it owns
--     spells         a slice that a call returned in the local at l is spelled out there
--     n-vals, n-owned, n-typed     the machine values of a bank's name, that what it owns is had for nothing, and their type
--     made           a view of a bank's part and of the check's number
-- Assumes `Logic`.
use mathlib.Core.Path.{◌≡◌, refl, ap}
use Prim.Native.Nat.{ℕ, suc, ◌<◌, ◌^◌}
use mathlib.Core.List.{[], ◌∷◌, List}
use seplogic.Ra.Ura.{Ura}
use base.Fraction.{full_share}
use lib.Dec.{T as Holds}
use mir.Syntax.{Ty, named, w8}
use mir.Val.{Val, WT, has_ty}
use base.Logic.{ent}
use base.Fml.{Lft, Fml, fat}
use types.Logic.{Logic, sem}
use types.Kit.{Goal, Step, step, Item, ‵, ◌⊛◌, ⋆, given, ◌$◌, ◌∵◌, !, qed, by, nth, put, move, drop, use1, split, fsplit, fjoin, learn, rewrite, frame, done}
use denote.RattleType.{RattleType}
use denote.Laws.{Is, shows}
use denote.Plain.{uint_Makes}
use denote.Builtin.{u8}
use denote.Ref.{NamedLft}
use denote.Signature.{named_lft}
use denote.Slice.{ShrSlice, shr_slice_Tells}
use denote.Steps.{only, owned, peeks, nothing}
use denote.Enum.Laws as EL
use denote.Struct.Laws as LL
use denote.Struct.Rest.{all_own, own_open, own_shut}
use Rattle.walk.proofs.Walk.{Slice, sl}
use Rattle.image.specs.Check.{Checked, refused, good, row_of, check_of}
use Rattle.bank.specs.declared.Bank.{Bank}
use Rattle.bank.specs.declared.View.{View}
use Rattle.bank.specs.Views.{Shown, view_if, view_of}
use Rattle.bank.specs.contracts.View as T
use Rattle.bank.proofs.View.TheLaws as T'
use Rattle.bank.specs.contracts.Bank as N
use Rattle.bank.proofs.Bank.TheLaws as N'

abbrev pub at_a : Lft → NamedLft
at_a κ = named_lft 1 0 tt (κ, tt)

abbrev pub Row : Lft → RattleType
Row κ = T.the_row (at_a κ)

abbrev pub viewing : Slice → ℕ → View
viewing s n = record { words = s; answer = n }

abbrev pub sl-own : Lft → Slice → Fml
sl-own κ s = (ShrSlice (named 0) κ u8).own_val s (sl s ∷ [])

abbrev pub v-own : Lft → View → Fml
v-own κ d = (Row κ).own_val d (T'.lowered d ∷ [])

module _ {M : Type 1} {𝓤 : Ura M} (𝓛 : Logic 𝓤) (κ : Lft) where
  pub words-out : (d : View) → ent 𝓤 (sem 𝓛 (v-own κ d)) (⋆ 𝓛 (‵ (sl-own κ d.words) ∷ ‵ (v-own κ d) ∷ []))
  words-out d =
      qed 𝓛 (‵ (v-own κ d) ∷ []) ∵ use1 𝓛 (‵ (v-own κ d) ⊛ ‵ (v-own κ d)) ((LL.copy (T.the_type (at_a κ)) (T'.the_copy (at_a κ)) 𝓛).twice d (T'.lowered d ∷ [])) $ split ! $
      use1 𝓛 (given (T'.lowered d ∷ [] ≡ T'.lowered d ∷ []) (‵ (all_own (T.the_type (at_a κ)).parts (T'.the_laws (at_a κ)) (d.words, (d.answer, tt))))) (own_open 𝓛 (T.the_type (at_a κ)) (T'.the_laws (at_a κ)) (d.words, (d.answer, tt)) (T'.lowered d)) $ learn ! (λ _.
      fsplit ! $ move ! (1 ∷ []) $ drop ! $ frame ! $ done !)

  pub shut : (s : Slice) (n : ℕ) → n < 2 ^ 8 → ent 𝓤 (sem 𝓛 (sl-own κ s)) (sem 𝓛 (v-own κ (viewing s n)))
  shut s n fits =
      qed 𝓛 (‵ (sl-own κ s) ∷ []) ∵ nothing ! $ owned ! u8 (Is u8) (uint_Makes 𝓛 w8) n _ (refl, fits) $ fjoin ! $ move ! (1 ∷ 0 ∷ []) $ fjoin ! $
      by ! (own_shut 𝓛 (T.the_type (at_a κ)) (T'.the_laws (at_a κ)) (s, (n, tt)))

abbrev pub n-vals : Bank → List Val
n-vals = EL.vals N.the_type N'.the_laws

module _ {M : Type 1} {𝓤 : Ura M} (𝓛 : Logic 𝓤) where
  pub n-typed : (b : Bank) → Is N.the_row b (n-vals b) → Holds (has_ty N'.mir (only (n-vals b))) × WT (only (n-vals b))
  n-typed b is = ((EL.lawful N.the_type N'.the_laws 𝓛 tt).typed b (n-vals b) is).0

module _ {M : Type 1} {𝓤 : Ura M} {𝓛 : Logic 𝓤} {K : Type 0} {Γ : List (Item 𝓤)} {G : Goal 𝓤 𝓛.H} where
  pub n-owned : K → (b : Bank) → Is N.the_row b (n-vals b) → Step K 𝓛 (‵ ((N.the_row).own_val b (n-vals b)) ∷ Γ) G Γ G
  n-owned t b is = owned t N.the_row (Is N.the_row) (EL.makes N.the_type N'.the_plain 𝓛) b (n-vals b) is

  -- the slice's local stands at place n behind what the slice owns
  pub spells : K → (n : ℕ) {τ : Ty} (κ : Lft) (s : Slice) (v : Val) (l : ℕ) → nth 𝓛 n Γ ≡ ‵ (fat full_share τ l 0 v)
      → Step K 𝓛 (‵ (sl-own κ s) ∷ put 𝓛 n (‵ (fat full_share τ l 0 (sl s))) Γ) G (‵ ((ShrSlice (named 0) κ u8).own_val s (v ∷ [])) ∷ Γ) G
  spells t n {τ} κ s v l at_n =
      step (λ k. peeks t (ShrSlice (named 0) κ u8) (Is (ShrSlice (named 0) κ u8)) (shows 𝓛 (ShrSlice (named 0) κ u8)) s (v ∷ []) (λ is.
      rewrite t (suc n) (λ (u : Val). ‵ (fat full_share τ l 0 u)) (ap only (shr_slice_Tells (named 0) κ u8 s (v ∷ []) is)) at_n $
      rewrite t 0 (λ (us : List Val). ‵ ((ShrSlice (named 0) κ u8).own_val s us)) (shr_slice_Tells (named 0) κ u8 s (v ∷ []) is) refl $ k))

pub made : (m l : List ℕ) (b n : ℕ) → l ≡ (view_of m b).bytes → n ≡ row_of (check_of m) → ◌≡◌ {A = Shown} (record { number = n; bytes = l }) (view_of m b)
unfolding view_of
made m l b n e f = rw (e, f) (go (check_of m))
  where
    go : (c : Checked) → ◌≡◌ {A = Shown} (record { number = row_of c; bytes = (view_if m b c).bytes }) (view_if m b c)
    go (refused k) = refl
    go (good y) = refl

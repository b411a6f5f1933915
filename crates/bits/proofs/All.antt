-- `(0..n).all(..)` and `(0..n).any(..)`, as a test of each number below n. Assumes nothing.
use Prim.Native.Nat.{ℕ, ◌+◌, ◌<◌}
use mathlib.Core.Path.{◌≡◌, refl, sym, ap, subst, ◌∙◌}
use mathlib.Core.Bool.{Bool, true, false, not}
use mathlib.Core.List.{List, [], ◌∷◌}
use native.Mathlib.Omega.{arith}
use native.Mathlib.Decide.{dec_lt}
use Rattle.std.specs.Prelude.{Option, Some, None}
use Rattle.std.specs.declared.ops.Range.{Range}
use Rattle.std.specs.Iterator.{Yields, YieldsThen}
use Rattle.std.specs.List.{FoldsTo}
use Rattle.std.specs.Fn.{Called}
use Rattle.std.specs.Option.{MatchOption}
use Rattle.std.proofs.iter.Yields.{nat_range_steps}
use denote.Param.Members.{Mut}
use Rattle.bits.specs.Below.{every}
use Rattle.bits.proofs.Below.{every-all, every-not}

-- the closure g in its state f computes the test of each number below n
abbrev pub Computes : {F : Type 0} → Mut F (ℕ × Unit {0}) Bool → F → (ℕ → Bool) → ℕ → Type 0
Computes {F} g f test n = (x : ℕ) (r : Bool) (q : F) → x < n → Called g f (x, tt) r q → (q ≡ f) × (r ≡ test x)

module _ {F : Type 0} {g : Mut F (ℕ × Unit {0}) Bool} {f : F} (test : ℕ → Bool) (n : ℕ) (known : Computes g f test n) where
  -- the numbers below t's first were asked, and each was answered b
  abbrev Asked : Bool → Range ℕ → F → Type 0
  Asked b t j = (t.end ≡ n) × (j ≡ f) × ((k : ℕ) → k < t.start → test k ≡ b)

  -- a test that answers b while the numbers from s to t are asked answers b of each number below t
  walk : (b : Bool) (xs : List ℕ) (s t : Range ℕ) (p j : F) → s.end ≡ n → p ≡ f → ((k : ℕ) → k < s.start → test k ≡ b)
      → Yields nat_range_steps s xs t → FoldsTo (λ p x q. Called g p (x, tt) b q) p xs j
      → Asked b t j
  walk b [] s t p j e q h y c = (sym (ap (λ (a : Range ℕ). a.end) y) ∙ e, sym c ∙ q, subst (λ (a : Range ℕ). (k : ℕ) → k < a.start → test k ≡ b) y h)
  walk b (x ∷ xs) s t p j e q h y c =
      let i = y.0 in
      let s₁ = y.1 in
      let a = known x b c.0 (omega (arith, s₁.1.0, s₁.1.1)) (subst (λ (z : F). Called g z (x, tt) b c.0) q c.1) in
      walk b xs i t c.0 j (s₁.0 ∙ e) a.0 (λ k l. go k (λ m. h k m) (λ m. ap test (m ∙ sym s₁.1.1) ∙ sym a.1) (dec_lt k s.start) (omega (arith, s₁.1.2))) y.2 c.2
    where
      go : (k : ℕ) → (k < s.start → test k ≡ b) → (k ≡ s.start → test k ≡ b) → Dec (k < s.start) → k < s.start + 1 → test k ≡ b
      go k u v (yes l) m = u l
      go k u v (no l) m = v (omega arith)

  -- from 0 on
  walked : (b : Bool) (xs : List ℕ) (s t : Range ℕ) (j : F) → s ≡ record { start = 0; end = n } → Yields nat_range_steps s xs t → FoldsTo (λ p x q. Called g p (x, tt) b q) f xs j → Asked b t j
  walked b xs s t j z y c = walk b xs s t f j (ap (λ (a : Range ℕ). a.end) z) refl (λ k h. absurd (omega (arith, ap (λ (a : Range ℕ). a.start) z))) y c

  -- what `all` says of its calls, and `any`
  pub every_from_all : {s u : Range ℕ} {r : Bool} → s ≡ record { start = 0; end = n }
      → (xs : List ℕ) × (o : Option ℕ) × (j : F) × YieldsThen nat_range_steps s xs o u × FoldsTo (λ p x q. Called g p (x, tt) true q) f xs j × MatchOption o (r ≡ true) (λ x. (r ≡ false) × ((h : F) × Called g j (x, tt) false h))
      → r ≡ every test n
  every_from_all {s} {u} {r} z (xs, o, j, (t, y, l), c, m) = go o l m (walked true xs s t j z y c)
    where
      go : (o : Option ℕ) → nat_range_steps t o u → MatchOption o (r ≡ true) (λ x. (r ≡ false) × ((h : F) × Called g j (x, tt) false h)) → Asked true t j → r ≡ every test n
      go None l m w = m ∙ sym (every-all test n (λ k h. w.2 k (omega (arith, l.1.0, w.0))))
      go (Some x) l m w =
          let b : x < n = omega (arith, l.1.0, l.1.1, w.0) in
          m.0 ∙ sym (every-not test n x b (sym (known x false m.1.0 b (subst (λ (p : F). Called g p (x, tt) false m.1.0) w.1 m.1.1)).1))

  pub every_from_any : {s u : Range ℕ} {r : Bool} → s ≡ record { start = 0; end = n }
      → (xs : List ℕ) × (o : Option ℕ) × (j : F) × YieldsThen nat_range_steps s xs o u × FoldsTo (λ p x q. Called g p (x, tt) false q) f xs j × MatchOption o (r ≡ false) (λ x. (r ≡ true) × ((h : F) × Called g j (x, tt) true h))
      → r ≡ not (every (λ k. not (test k)) n)
  every_from_any {s} {u} {r} z (xs, o, j, (t, y, l), c, m) = go o l m (walked false xs s t j z y c)
    where
      go : (o : Option ℕ) → nat_range_steps t o u → MatchOption o (r ≡ false) (λ x. (r ≡ true) × ((h : F) × Called g j (x, tt) true h)) → Asked false t j → r ≡ not (every (λ k. not (test k)) n)
      go None l m w = m ∙ sym (ap not (every-all (λ k. not (test k)) n (λ k h. ap not (w.2 k (omega (arith, l.1.0, w.0))))))
      go (Some x) l m w =
          let b : x < n = omega (arith, l.1.0, l.1.1, w.0) in
          m.0 ∙ sym (ap not (every-not (λ k. not (test k)) n x b (ap not (sym (known x true m.1.0 b (subst (λ (p : F). Called g p (x, tt) true m.1.0) w.1 m.1.1)).1))))

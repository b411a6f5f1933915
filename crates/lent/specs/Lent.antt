-- What a lent call promises, and that it allows one outcome and one record (RULES 7.1 and 9.4). Assumes nothing.
use Rattle.std.specs.Prelude.{ℕ, ◌≡◌, List}
use Rattle.std.proofs.Common.{sym, ap, ◌∙◌}
use Rattle.tag.specs.declared.Session.{Session}
use Rattle.tag.specs.declared.Outcome.{Outcome}
use Rattle.tag.specs.Result.{Result, result_of}
use Rattle.tag.specs.One.{one-outcome}

-- where the by-value form leaves x, the outcome o tells it with image and room, and the session found in the record is o's
pub record Lent (x : Result) (o : Outcome) (image room : List ℕ) (found : Session) : Type 0 where
  pub same : result_of o image room ≡ x
  pub holds : found ≡ o.session

-- the record holds the session that the by-value form hands back
pub finds : (x : Result) (o : Outcome) (image room : List ℕ) (found : Session) → Lent x o image room found → found ≡ x.session
finds x o image room found l = l.holds ∙ ap (λ (r : Result). r.session) l.same

-- two calls that meet one promise leave the same
pub one_lent : (x : Result) (p q : Outcome) (m n a b : List ℕ) (s t : Session) → Lent x p m a s → Lent x q n b t → (p ≡ q) × (m ≡ n) × (a ≡ b) × (s ≡ t)
one_lent x p q m n a b s t k l =
    let e = one-outcome p q m n a b x k.same l.same in
    (e.0, e.1, e.2, finds x p m a s k ∙ sym (finds x q n b t l))

-- A promise of the form `result_of r image room ≡ x` allows one outcome (RULES 7.1). Assumes nothing.
use Rattle.std.specs.Prelude.{ℕ, ◌≡◌, refl, cond, List, eqb}
use Rattle.std.proofs.Common.{sym, ap, ◌∙◌}
use Rattle.tag.specs.declared.Answer.{Answer}
use Rattle.tag.specs.declared.Answer.TheVariants as answer
use Rattle.tag.specs.declared.Outcome.{Outcome}
use Rattle.tag.specs.Session.{number_of}
use Rattle.tag.specs.Result.{Result, result_of}

-- the answer of a number
answer_at : ℕ → Answer
answer_at n =
    cond (eqb n 0) answer.Done
    (cond (eqb n 1) answer.Short
    (cond (eqb n 2) answer.Header
    (cond (eqb n 3) answer.Content
    (cond (eqb n 4) answer.NoRoom
    (cond (eqb n 5) answer.NotReady
    (cond (eqb n 6) answer.Port
    (cond (eqb n 7) answer.Malformed
    (cond (eqb n 8) answer.Checksum
    (cond (eqb n 9) answer.Wrong
    (cond (eqb n 10) answer.Error
    (cond (eqb n 11) answer.PowerLost (cond (eqb n 12) answer.Password (cond (eqb n 13) answer.Count answer.Halves)))))))))))))

again : (a : Answer) → answer_at (number_of a) ≡ a
unfolding answer_at
again answer.Done = refl
again answer.Short = refl
again answer.Header = refl
again answer.Content = refl
again answer.NoRoom = refl
again answer.NotReady = refl
again answer.Port = refl
again answer.Malformed = refl
again answer.Checksum = refl
again answer.Wrong = refl
again answer.Error = refl
again answer.PowerLost = refl
again answer.Password = refl
again answer.Count = refl
again answer.Halves = refl

pub one_answer : (a b : Answer) → number_of a ≡ number_of b → a ≡ b
one_answer a b e = sym (again a) ∙ ap answer_at e ∙ again b

-- two outcomes, images and rooms that meet one promise are the same
pub one-outcome : (p q : Outcome) (m n a b : List ℕ) (x : Result) → result_of p m a ≡ x → result_of q n b ≡ x → (p ≡ q) × (m ≡ n) × (a ≡ b)
one-outcome p q m n a b x e f =
    let g : result_of p m a ≡ result_of q n b = e ∙ sym f in
    let v : p.answer ≡ q.answer = one_answer p.answer q.answer (ap (λ (r : Result). r.number) g) in
    let s : p.session ≡ q.session = ap (λ (r : Result). r.session) g in
    let t : p.reply ≡ q.reply = ap (λ (r : Result). r.reply) g in
    let u : p.stores ≡ q.stores = ap (λ (r : Result). r.stores) g in
    let w : p.value ≡ q.value = ap (λ (r : Result). r.value) g in
    (built p q v s t u w, ap (λ (r : Result). r.image) g, ap (λ (r : Result). r.room) g)
  where
    built : (p q : Outcome) → p.answer ≡ q.answer → p.session ≡ q.session → p.reply ≡ q.reply → p.stores ≡ q.stores → p.value ≡ q.value → p ≡ q
    built p q v s t u w = λ i. record { answer = v i; session = s i; reply = t i; stores = u i; value = w i }

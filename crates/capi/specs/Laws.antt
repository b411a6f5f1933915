-- A promise of an exported operation allows one outcome (RULES 10.6). Assumes nothing.
use Rattle.std.specs.Prelude.{ℕ, ◌≡◌, List}
use Rattle.std.proofs.Common.{sym, ap, ◌∙◌}
use Rattle.states.specs.declared.Numbers.{Numbers}
use Rattle.states.proofs.Parts.{one-record}
use Rattle.tag.specs.Result.{Left}
use Rattle.capi.specs.declared.Told.{Told}
use Rattle.capi.specs.Told.{told}
use Rattle.depot.specs.Making.{Sent}
use Rattle.capi.specs.declared.Frame.{Frame}
use Rattle.capi.specs.declared.Reply.{Reply}
use Rattle.capi.specs.Depot.{framed}

-- a promise of the form `told r image room ≡ x` allows one outcome
pub one_told : (p q : Told) (m n a b : List ℕ) (x : Left Numbers) → told p m a ≡ x → told q n b ≡ x → (p ≡ q) × (m ≡ n) × (a ≡ b)
one_told p q m n a b x e f =
    let g : told p m a ≡ told q n b = e ∙ sym f in (
      built p q (ap (λ (r : Left Numbers). r.number) g) (one-record p.session q.session (ap (λ (r : Left Numbers). r.session) g)) (ap (λ (r : Left Numbers). r.reply) g) (ap (λ (r : Left Numbers). r.stores) g) (ap (λ (r : Left Numbers). r.value) g),
      ap (λ (r : Left Numbers). r.image) g,
      ap (λ (r : Left Numbers). r.room) g,
    )
  where
    built : (p q : Told) → p.answer ≡ q.answer → p.session ≡ q.session → p.reply ≡ q.reply → p.stores ≡ q.stores → p.value ≡ q.value → p ≡ q
    built p q v s t u w = λ i. record { answer = v i; value = w i; session = s i; reply = t i; stores = u i }

-- and so does one of the form `framed r room ≡ x`, and one of the form `r ≡ x`
pub one-frame : (p q : Frame) (a b : List ℕ) (x : Sent) → framed p a ≡ x → framed q b ≡ x → (p ≡ q) × (a ≡ b)
one-frame p q a b x e f =
    let g : framed p a ≡ framed q b = e ∙ sym f in (ap (λ (s : Sent). record { answer = s.number; bits = s.bits }) g, ap (λ (s : Sent). s.room) g)

pub one-reply : (p q x : Reply) → p ≡ x → q ≡ x → p ≡ q
one-reply p q x e f = e ∙ sym f

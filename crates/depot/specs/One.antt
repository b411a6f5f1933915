-- Each promise of the depot allows one outcome (RULES 12.3 and 12.4). Assumes nothing.
use Rattle.std.specs.Prelude.{ℕ, ◌≡◌, refl, cond, Result, Ok, Err, List, eqb}
use Rattle.std.proofs.Common.{sym, ap, ◌∙◌}
use Rattle.depot.specs.declared.NotMade.{NotMade}
use Rattle.depot.specs.declared.NotMade.TheVariants as made
use Rattle.readings.specs.declared.Reading.{Reading}
use Rattle.readings.specs.declared.Reading.TheVariants as reading
use Rattle.readings.specs.declared.NotRead.{NotRead}
use Rattle.readings.specs.declared.NotRead.TheVariants as refusal
use Rattle.depot.specs.Making.{Sent, sent}
use Rattle.readings.specs.Reading.{Told, error, words, number, done, refused, meaning}

-- the answer of the code by its number and values
abbrev made_of : Sent → Result ℕ NotMade
made_of s = cond (eqb s.number 0) (Ok s.bits) (cond (eqb s.number 9) (Err made.Beyond) (Err made.NoRoom))

made_again : (r : Result ℕ NotMade) (room : List ℕ) → made_of (sent r room) ≡ r
made_again (Ok n) room = refl
made_again (Err made.Beyond) room = refl
made_again (Err made.NoRoom) room = refl

room-again : (r : Result ℕ NotMade) (room : List ℕ) → (sent r room).room ≡ room
room-again (Ok n) room = refl
room-again (Err made.Beyond) room = refl
room-again (Err made.NoRoom) room = refl

-- a promise of the form `sent r room ≡ x` allows one outcome
pub one-made : (p q : Result ℕ NotMade) (a b : List ℕ) (x : Sent) → sent p a ≡ x → sent q b ≡ x → (p ≡ q) × (a ≡ b)
one-made p q a b x e f =
    let g : sent p a ≡ sent q b = e ∙ sym f in
    (sym (made_again p a) ∙ ap made_of g ∙ made_again q b, sym (room-again p a) ∙ ap (λ (s : Sent). s.room) g ∙ room-again q b)

abbrev reading_of : Told → Result Reading NotRead
reading_of (error e) = Ok (reading.Error e)
reading_of (words k i) = Ok (reading.Words k i)
reading_of (number w) = Ok (reading.Number w)
reading_of done = Ok reading.Done
reading_of (refused n) = cond (eqb n 9) (Err refusal.Beyond) (cond (eqb n 8) (Err refusal.Checksum) (Err refusal.Other))

read_again : (r : Result Reading NotRead) → reading_of (meaning r) ≡ r
read_again (Ok (reading.Error e)) = refl
read_again (Ok (reading.Words k i)) = refl
read_again (Ok (reading.Number w)) = refl
read_again (Ok reading.Done) = refl
read_again (Err refusal.Beyond) = refl
read_again (Err refusal.Checksum) = refl
read_again (Err refusal.Other) = refl

-- and so does one of the form `meaning r ≡ x`
pub one-read : (p q : Result Reading NotRead) (x : Told) → meaning p ≡ x → meaning q ≡ x → p ≡ q
one-read p q x e f = sym (read_again p) ∙ ap reading_of (e ∙ sym f) ∙ read_again q

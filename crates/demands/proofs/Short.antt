-- When the room is too small or the power too short: the same frame in two rooms comes to the same row but for the reply that doesn't fit. Assumes nothing.
use Prim.Native.Nat.{ℕ, ◌*◌, ◌<◌}
use mathlib.Core.Path.{◌≡◌, refl, ap, ◌∙◌, subst}
use mathlib.Core.Logic.{◌⊎◌, inl, inr}
use mathlib.Core.Bool.{Bool, true, false, cond, not, ◌&&◌}
use mathlib.Core.List.{List, []}
use native.Mathlib.Omega.{arith}
use lib.Dec.{ltb}
use lib.ListN.{length, take, drop}
use borrow.Author.Tests.{lt-ltb}
use Rattle.bits.specs.First.{first}
use Rattle.image.specs.declared.Layout.{Layout}
use Rattle.image.specs.Check.{check_of, good}
use Rattle.image.proofs.Answers.{check-good}
use Rattle.replies.specs.Replies.{reply_length}
use Rattle.replies.specs.Steps.{reply_bytes}
use Rattle.states.specs.Commands.{used}
use Rattle.tag.specs.declared.Session.{Session}
use Rattle.tag.specs.Result.{Result, lost, first_of}
use Rattle.tag.specs.Steps.{input}
use Rattle.stores.specs.Stores.{change_stores}
use Rattle.tag.specs.Table.{Input, live, turned_to, moved_to, live_of, effect, is_error, reply_of, fits, stores_of, everything, replied, frame_of}
use Rattle.demands.specs.Calls.{Tag, answer_of}
use Rattle.demands.specs.Demands.{Storing, lasting}
use Rattle.demands.specs.Refusals.{TooLittle}
use Rattle.demands.proofs.Codes.{and-false}
use Rattle.demands.proofs.Rows.{Rows, None, Each, first-or, none_first, first-at, reach-behind, Refused, Acting, words_of, acts}
use Rattle.demands.proofs.Cuts.{power-fails, power-made}

-- answered with a reply
abbrev Replies : Result → Type 0
Replies r = (r.number ≡ 0) ⊎ (r.number ≡ 10)

never : (n : ℕ) → (n ≡ 0 → ⊥) → (n ≡ 10 → ⊥) → (n ≡ 0) ⊎ (n ≡ 10) → ⊥
never n a b (inl e) = a e
never n a b (inr e) = b e

module _ (v : Session) (m f : List ℕ) (bits fresh : ℕ) where
  at : List ℕ → ℕ → Input
  at room power = input v m f bits fresh room power

  -- rows 1 to 14, and what follows them
  before : List ℕ → ℕ → Rows
  before room power = take 10 (frame_of change_stores (at room power)).rows

  done : List ℕ → ℕ → Result
  done room power = replied (at room power) 0 (turned_to (live (at room power)) (effect (at room power)).flags (effect (at room power)).state) (stores_of change_stores (at room power))

  behind : List ℕ → ℕ → Result
  behind room power = first (drop 10 (frame_of change_stores (at room power)).rows) (done room power)

  split : (room : List ℕ) (power : ℕ) → first_of (frame_of change_stores (at room power)) ≡ first (before room power) (behind room power)
  unfolding frame_of at before behind done
  split room power = refl

  silent : (room : List ℕ) (power : ℕ) → Each (λ r. Replies r → ⊥) (before room power)
  unfolding frame_of at before
  silent room power = (
    λ e. never 1 (omega arith) (omega arith),
    (
      λ e. never 2 (omega arith) (omega arith),
      (
        λ e. never 3 (omega arith) (omega arith),
        (
          λ e. never 5 (omega arith) (omega arith),
          (
            λ e. never 6 (omega arith) (omega arith),
            (
              λ e. never 7 (omega arith) (omega arith),
              (λ e. never 8 (omega arith) (omega arith), (λ e. never 9 (omega arith) (omega arith), (λ e. never 12 (omega arith) (omega arith), (λ e. never 14 (omega arith) (omega arith), tt)))),
            ),
          ),
        ),
      ),
    ),
  )

  -- what a reply behind them is
  reply-behind : (room : List ℕ) (power : ℕ) → Replies (behind room power) → (behind room power).reply ≡ reply_length (reply_of (at room power))
  unfolding frame_of at behind done
  reply-behind room power h =
      go (is_error (effect (at room power)).code && fits (reply_of (at room power)) room) (fits (reply_of (at room power)) room) (ltb power (length (stores_of change_stores (at room power)))) h
    where
      rest : Bool → Bool → Bool → Result
      rest a b c =
          cond a (replied (at room power) 10 (moved_to (live (at room power)) (used (live_of v.power).state)) [])
          (cond (not b) (everything (at room power) 4) (cond c (lost m (stores_of change_stores (at room power)) power room) (done room power)))

      go : (a b c : Bool) → Replies (rest a b c) → (rest a b c).reply ≡ reply_length (reply_of (at room power))
      go true b c h = refl
      go false true true h = absurd (never 11 (omega arith) (omega arith) h)
      go false true false h = refl
      go false false c h = absurd (never 4 (omega arith) (omega arith) h)

  -- room and power matter to nothing before, and not to the reply
  module _ (a b : List ℕ) (p q : ℕ) where
    tight : Replies (first_of (frame_of change_stores (at b q))) → 8 * length a < (first_of (frame_of change_stores (at b q))).reply → first_of (frame_of change_stores (at a p)) ≡ everything (at a p) 4
    unfolding frame_of at before behind done
    tight h l = go (first-or (λ r. Replies r → ⊥) (before b q) (behind b q) (silent b q))
      where
        go : (Replies (first (before b q) (behind b q)) → ⊥) ⊎ None (before b q) → first_of (frame_of change_stores (at a p)) ≡ everything (at a p) 4
        go (inl n) = absurd (n (subst Replies (split b q) h))
        go (inr n) =
            let is : first_of (frame_of change_stores (at b q)) ≡ behind b q = split b q ∙ none_first (before b q) (behind b q) n in
            let long : 8 * length a < reply_length (reply_of (at b q)) = rw (ap (λ (r : Result). r.reply) is ∙ reply-behind b q (subst Replies is h)) at l in
            let small : length a < reply_bytes (reply_of (at a p)) = omega (arith, long) in
            let no : fits (reply_of (at a p)) a ≡ false = ap not (lt-ltb (length a) (reply_bytes (reply_of (at a p))) small) in
            first-at 11 (frame_of change_stores (at a p)).rows (done a p)
            (reach-behind 1 (before a p) (drop 10 (frame_of change_stores (at a p)).rows) n
            (ap (λ (t : Bool). is_error (effect (at a p)).code && t) no ∙ and-false (is_error (effect (at a p)).code), ap not no))

pub short : TooLittle answer_of
unfolding at
short =
    record {
      room = λ a s other enough h l. tight s a.image a.frame a.bits a.fresh a.room other a.power enough h l;
      power = λ y t c s enough e z l. power y t c s enough e z l;
      at_power_up = λ y m v s enough e z l.
          (let g = check-good m y e in power-fails y m g s (subst (λ (k : ℕ). s < k) (power-made y m g enough z) l));
    }
  where
    power : (y : Layout) (t : Tag) (c : Storing) (s enough : ℕ) → check_of t.image ≡ good y → (answer_of t (lasting c enough)).number ≡ 0
        → s < (answer_of t (lasting c enough)).stores → (answer_of t (lasting c s)).number ≡ 11
    power y t c s enough e z l = go (acts y t c enough (check-good t.image y e))
      where
        go : Refused t.image (answer_of t (lasting c enough)) ⊎ Acting y t c (words_of t c) → (answer_of t (lasting c s)).number ≡ 11
        go (inl r) = absurd (omega (arith, z, r.1))
        go (inr a) = a.fails s (omega (arith, l, a.stores enough))

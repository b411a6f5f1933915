-- The hypotheses of the laws of cuts met on the worked image, computed. Assumes nothing.
use Rattle.std.specs.Prelude.{ℕ, zero, suc, ◌≡◌, refl, List, [], ◌∷◌, take}
use Rattle.std.proofs.Common.{lit<, lit≤}
use Rattle.bits.specs.Words.{Bytes, word_at, with_word, Store, store, after}
use Rattle.bits.proofs.Words.{are-bytes}
use Rattle.image.specs.Layout.{blocks_in}
use Rattle.image.specs.Content.{count_in, rules_hold}
use Rattle.image.specs.Worked.{worked, worked_layout, cases}
use Rattle.image.specs.Rules.{Content, Good}
use Rattle.image.proofs.Rules.{rules-both}
use Rattle.image.proofs.Answers.{check-good}
use Rattle.stores.specs.Cuts.{Change}

-- ABCDh in USER 3
abbrev pub one_word : List Store
one_word = store 31 0xABCD ∷ []

-- the worked image consists of bytes and is good, nothing is pending, and the word is a change
pub worked-bytes : Bytes worked
unfolding worked
worked-bytes = are-bytes worked refl

pub worked-good : Good worked_layout worked
worked-good = check-good worked worked_layout cases.found

pub worked-idle : count_in worked_layout worked ≡ 0
unfolding worked word_at
worked-idle = refl

stored-rules : Content worked_layout (after worked one_word)
unfolding worked word_at with_word rules_hold blocks_in
stored-rules = (rules-both worked_layout (after worked one_word)).0 refl

pub worked-change : Change worked_layout worked one_word
worked-change = record { some = lit< tt; few = lit≤ tt; places = (refl, tt); rules = rules }
  where
    rules : (k : ℕ) → Content worked_layout (after worked (take k one_word))
    rules zero = worked-good.content 0
    rules (suc zero) = stored-rules
    rules (suc (suc k)) = stored-rules

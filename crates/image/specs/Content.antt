-- The words of an image that rules speak of, and the content rules (RULES 1.6, 1.7 and 1.9 to 1.16). Assumes nothing.
use Rattle.std.specs.Prelude.{ℕ, ◌+◌, ◌-◌, ◌*◌, ◌/◌, ◌%◌, ◌^◌, Bool, true, ◌&&◌, ◌||◌, List, [], ◌∷◌, eqb, leb, ltb}
use Rattle.bits.specs.Words.{word_at, with_word, Store, store}
use Rattle.bits.specs.Below.{below, every, all}
use Rattle.image.specs.declared.Section.{Section}
use Rattle.image.specs.declared.Layout.{Layout}
use Rattle.image.specs.Layout.{end, blocks_in, pairs_in}

-- 1.4: STATUS is the lock word and the killed word
abbrev pub lock_word : Layout → List ℕ → ℕ
lock_word y m = word_at m y.status.at

abbrev pub killed_word : Layout → List ℕ → ℕ
killed_word y m = word_at m (y.status.at + 1)

-- 1.11: L, the top five bits of the PC
abbrev pub length_of : ℕ → ℕ
length_of pc = pc / 2048

abbrev pub pc_word : Layout → List ℕ → ℕ
pc_word y m = word_at m (y.epc.at + 1)

-- 1.6: block i's permalock, bit 15 - (i mod 16) of PERMA word i / 16
abbrev pub permalock : Layout → List ℕ → ℕ → ℕ
permalock y m i = word_at m (y.perma.at + i / 16) / 2 ^ (15 - i % 16) % 2

-- 1.7: the pending count c, pair j of WORK, and the first c pairs
abbrev pub count_in : Layout → List ℕ → ℕ
count_in y m = word_at m y.work.at

abbrev pub pair_at : Layout → List ℕ → ℕ → Store
pair_at y m j = let a = y.work.at + 1 + 2 * j in store (word_at m a) (word_at m (a + 1))

abbrev pub pending : Layout → List ℕ → List Store
pending y m = below (pair_at y m) (count_in y m)

-- word o lies in the section s
abbrev pub inside : Section → ℕ → Bool
inside s o = leb s.at o && ltb o (end s)

-- 1.14: where a pending value may go
abbrev pub may_go : Layout → ℕ → Bool
may_go y o = inside y.status o || inside y.reserved o || inside y.epc o || inside y.user o || inside y.perma o

-- 1.9 to 1.14, one to a line
abbrev pub content_rules : Layout → List ℕ → List Bool
content_rules y m =
    ltb (lock_word y m) (2 ^ 10)
    ∷ leb (killed_word y m) 1
    ∷ leb (length_of (pc_word y m) + 2) y.epc.words
    ∷ every (λ k. eqb (permalock y m (blocks_in y + k)) 0) (16 * y.perma.words - blocks_in y)
    ∷ leb (count_in y m) (pairs_in y)
    ∷ every (λ j. may_go y (pair_at y m j).at) (count_in y m)
    ∷ []

unfoldable pub rules_hold : Layout → List ℕ → Bool
rules_hold y m = all (content_rules y m)

-- 1.15: the rules hold again after each of the values, stored in order
abbrev pub again_after : Layout → List ℕ → List Store → Bool
again_after y m [] = true
again_after y m (s ∷ ss) = let n = with_word m s.at s.value in rules_hold y n && again_after y n ss

unfoldable pub content_good : Layout → List ℕ → Bool
content_good y m = rules_hold y m && again_after y m (pending y m)

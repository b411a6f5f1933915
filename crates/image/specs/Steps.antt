-- The check as the code makes it: the header's rules in four parts, and which value may stand at which word. Equal to Layout's and
-- Content's by `same-header` and `same-content`. Assumes nothing.
use Rattle.std.specs.Prelude.{ℕ, ◌+◌, ◌-◌, ◌*◌, ◌/◌, ◌%◌, ◌^◌, Bool, true, not, cond, ◌&&◌, ◌||◌, List, [], ◌∷◌, eqb, leb, ltb, length, Result, Ok, Err}
use Rattle.bits.specs.Words.{word_at}
use Rattle.bits.specs.Below.{every, all}
use Rattle.image.specs.declared.Layout.{Layout}
use Rattle.image.specs.declared.Refusal.{Refusal}
use Rattle.image.specs.Layout.{layout_of, header_good, end, blocks_in, pairs_in, within}
use Rattle.image.specs.Layout.{stands as Layout·stands}
use Rattle.image.specs.Content.{content_good, lock_word, killed_word, length_of, pc_word, count_in, pair_at}
use Rattle.image.specs.Check.{refusal_number, row_of, check_of}

-- the rows 1, 2 and 3, by name
abbrev pub short : List ℕ → Bool
short m = ltb (length m) 32

abbrev pub header_wrong : List ℕ → Bool
header_wrong m = not (header_good (layout_of m) m)

abbrev pub content_broken : List ℕ → Bool
content_broken m = not (content_good (layout_of m) m)

-- the header's rules up to STATUS
abbrev pub start_rules : Layout → List ℕ → List Bool
start_rules y m = eqb (word_at m 0) 7 ∷ within 1 4096 y.block ∷ Layout·stands y.status 16 2 2 ∷ []

abbrev pub start_good : Layout → List ℕ → Bool
start_good y m = all (start_rules y m)

-- those of the four banks
abbrev pub bank_rules : Layout → List Bool
bank_rules y =
    Layout·stands y.reserved (end y.status) 4 64
    ∷ Layout·stands y.epc (end y.reserved) 2 33
    ∷ Layout·stands y.tid (end y.epc) 0 64
    ∷ Layout·stands y.user (end y.tid) 0 4096
    ∷ []

abbrev pub banks_good : Layout → Bool
banks_good y = all (bank_rules y)

-- the words of USER that one word of PERMA stands for
abbrev pub width_in : Layout → ℕ
width_in y = 16 * y.block

-- those of PERMA: its words stand for all of USER's, and one fewer would not
abbrev pub perma_rules : Layout → List Bool
perma_rules y =
    Layout·stands y.perma (end y.user) 0 16
    ∷ leb y.user.words (width_in y * y.perma.words)
    ∷ ltb (width_in y * y.perma.words) (y.user.words + width_in y)
    ∷ []

abbrev pub perma_good : Layout → Bool
perma_good y = all (perma_rules y)

-- those of WORK, which has an odd number of words, and of the length
abbrev pub work_rules : Layout → List ℕ → List Bool
work_rules y m = Layout·stands y.work (end y.perma) 33 511 ∷ not (eqb (y.work.words % 2) 0) ∷ eqb (length m) (2 * end y.work) ∷ []

abbrev pub work_good : Layout → List ℕ → Bool
work_good y m = all (work_rules y m)

-- all of them
abbrev pub header_steps : Layout → List ℕ → List Bool
header_steps y m = start_good y m ∷ banks_good y ∷ perma_good y ∷ work_good y m ∷ []

-- the PERMA bits of blocks that don't exist: the lowest so many of its last word
abbrev pub spare_in : Layout → ℕ
spare_in y = (16 - blocks_in y % 16) % 16

-- the word before WORK: where PERMA has words, its last
abbrev pub last_in : Layout → ℕ
last_in y = y.work.at - 1

-- the words that rules speak of: lock word, killed word, PC and the last of PERMA
abbrev pub word_rules : Layout → List ℕ → List Bool
word_rules y m =
    ltb (lock_word y m) 1024
    ∷ ltb (killed_word y m) 2
    ∷ leb (length_of (pc_word y m) + 2) y.epc.words
    ∷ eqb (word_at m (last_in y) % 2 ^ spare_in y) 0
    ∷ []

abbrev pub words_fit : Layout → List ℕ → Bool
words_fit y m = all (word_rules y m)

-- v may stand at word i
abbrev pub may_stand : Layout → ℕ → ℕ → Bool
may_stand y i v =
    cond (eqb i y.status.at) (ltb v 1024)
    (cond (eqb i (y.status.at + 1)) (ltb v 2)
    (cond (eqb i (y.epc.at + 1)) (leb (v / 2048 + 2) y.epc.words)
    (cond (eqb (i + 1) (end y.perma)) (eqb (v % 2 ^ spare_in y) 0) true)))

abbrev pub between : ℕ → ℕ → ℕ → Bool
between a o b = leb a o && ltb o b

-- a pending value may go to word o: from STATUS to TID, or from USER to WORK
abbrev pub may_take : Layout → ℕ → Bool
may_take y o = between 16 o y.tid.at || between y.user.at o y.work.at

abbrev pub pair_fits : Layout → List ℕ → ℕ → Bool
pair_fits y m j = may_take y (pair_at y m j).at && may_stand y (pair_at y m j).at (pair_at y m j).value

abbrev pub content_steps : Layout → List ℕ → List Bool
content_steps y m = words_fit y m ∷ leb (count_in y m) (pairs_in y) ∷ every (pair_fits y m) (count_in y m) ∷ []

abbrev pub content_fits : Layout → List ℕ → Bool
content_fits y m = all (content_steps y m)

-- the content's number: 3 where a rule is broken, 5 where they hold and words are pending, else 0
abbrev pub pending_row : Layout → List ℕ → ℕ
pending_row y m = cond (eqb (count_in y m) 0) 0 5

abbrev pub content_row : Layout → List ℕ → ℕ
content_row y m = cond (content_fits y m) (pending_row y m) 3

-- the number of the code's answer: words are pending or not, or a refusal
abbrev pub ready_number : Result Bool Refusal → ℕ
ready_number (Ok pending) = cond pending 5 0
ready_number (Err r) = refusal_number r

-- the number of the answer that an image alone decides
unfoldable pub ready_row : List ℕ → ℕ
ready_row m = cond (eqb (row_of (check_of m)) 0) (pending_row (layout_of m) m) (row_of (check_of m))

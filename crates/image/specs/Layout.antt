-- The header of an image: where its sections stand, and how many words each has (RULES 1.2 to 1.8). Assumes nothing.
use Rattle.std.specs.Prelude.{ℕ, ◌+◌, ◌-◌, ◌*◌, ◌/◌, Bool, ◌&&◌, List, [], ◌∷◌, eqb, leb, length}
use Rattle.bits.specs.Words.{word_at}
use Rattle.bits.specs.Below.{all}
use Rattle.image.specs.declared.Section.{Section}
use Rattle.image.specs.declared.Layout.{Layout}

-- 1.2: the pair (offset, count) at words i and i + 1 of the header
abbrev pub section_at : List ℕ → ℕ → Section
section_at m i = record { at = word_at m i; words = word_at m (i + 1) }

unfoldable pub layout_of : List ℕ → Layout
layout_of m =
    record {
      block = word_at m 1;
      status = section_at m 2;
      reserved = section_at m 4;
      epc = section_at m 6;
      tid = section_at m 8;
      user = section_at m 10;
      perma = section_at m 12;
      work = section_at m 14;
    }

-- 1.3: where the section after s stands
abbrev pub end : Section → ℕ
end s = s.at + s.words

-- a / b, rounded up
abbrev pub up : ℕ → ℕ → ℕ
up a b = (a + (b - 1)) / b

-- 1.5: the blocks of USER
unfoldable pub blocks_in : Layout → ℕ
blocks_in y = up y.user.words y.block

-- 1.7: W, the pairs of WORK
abbrev pub pairs_in : Layout → ℕ
pairs_in y = (y.work.words - 1) / 2

-- x is a to b
abbrev pub within : ℕ → ℕ → ℕ → Bool
within a b x = leb a x && leb x b

-- 1.3 and 1.4: a section stands at o and has a to b words
abbrev pub stands : Section → ℕ → ℕ → ℕ → Bool
stands s o a b = eqb s.at o && within a b s.words

-- the header's rules, one to a line; W is at most 255, so that a count is one byte and one torn on its way is the old count or the new
-- one (D3)
abbrev pub header_rules : Layout → List ℕ → List Bool
header_rules y m =
    eqb (word_at m 0) 7
    ∷ within 1 4096 y.block
    ∷ stands y.status 16 2 2
    ∷ stands y.reserved (end y.status) 4 64
    ∷ stands y.epc (end y.reserved) 2 33
    ∷ stands y.tid (end y.epc) 0 64
    ∷ stands y.user (end y.tid) 0 4096
    ∷ leb (blocks_in y) 256
    ∷ stands y.perma (end y.user) (up (blocks_in y) 16) (up (blocks_in y) 16)
    ∷ stands y.work (end y.perma) (1 + 2 * pairs_in y) (1 + 2 * pairs_in y)
    ∷ within 16 255 (pairs_in y)
    ∷ eqb (length m) (2 * end y.work)
    ∷ []

unfoldable pub header_good : Layout → List ℕ → Bool
header_good y m = all (header_rules y m)

-- The worked image (RULES 6.1), and what the check says of it and of images beside it, computed. Assumes nothing.
use Rattle.std.specs.Prelude.{ℕ, ◌/◌, ◌%◌, ◌≡◌, refl, List, [], ◌∷◌, ◌++◌, take, replicate, Ok, Err}
use Rattle.std.proofs.Common.{arith}
use Rattle.bits.specs.Words.{word_at, with_word, after, store}
use Rattle.image.specs.declared.Section.{Section}
use Rattle.image.specs.declared.Layout.{Layout}
use Rattle.image.specs.declared.Refusal.TheVariants as refusal
use Rattle.image.specs.Layout.{layout_of, blocks_in, header_good}
use Rattle.image.specs.Content.{rules_hold, content_good}
use Rattle.image.specs.Check.{meaning, refused, good, check_of}

-- words as bytes, the most significant first
abbrev pub bytes_of : List ℕ → List ℕ
bytes_of [] = []
bytes_of (v ∷ vs) = v / 256 ∷ v % 256 ∷ bytes_of vs

-- B = 4, 16 words of USER, 4 blocks, W = 16; kill password 4B494C4Ch, access password 0, L = 2; USER begins with a loan entry of seven
-- words
unfoldable pub worked : List ℕ
worked =
    bytes_of
    (7 ∷ 4 ∷ 16 ∷ 2 ∷ 18 ∷ 4 ∷ 22 ∷ 4 ∷ 26 ∷ 2 ∷ 28 ∷ 16 ∷ 44 ∷ 1 ∷ 45 ∷ 33
    ∷ 0 ∷ 0
    ∷ 0x4B49 ∷ 0x4C4C ∷ 0 ∷ 0
    ∷ 0x9297 ∷ 0x1000 ∷ 0x3034 ∷ 0x0257
    ∷ 0xE200 ∷ 0x6001
    ∷ 3 ∷ 3 ∷ 6 ∷ 10 ∷ 24 ∷ 57 ∷ 0x1811 ∷ 0 ∷ 0 ∷ 0 ∷ 0 ∷ 0 ∷ 0 ∷ 0 ∷ 0 ∷ 0
    ∷ 0
    ∷ replicate 33 0)

abbrev section : ℕ → ℕ → Section
section at words = record { at = at; words = words }

abbrev pub worked_layout : Layout
worked_layout =
    record {
      block = 4;
      status = section 16 2;
      reserved = section 18 4;
      epc = section 22 4;
      tid = section 26 2;
      user = section 28 16;
      perma = section 44 1;
      work = section 45 33;
    }

-- the image with one value pending
abbrev pub pending_one : ℕ → ℕ → List ℕ
pending_one o v = after worked (store 46 o ∷ store 47 v ∷ store 45 1 ∷ [])

pub record Cases : Type 0 where
  pub found : check_of worked ≡ good worked_layout
  pub under_32 : check_of (take 31 worked) ≡ refused 1
  pub cut_off : check_of (take 154 worked) ≡ refused 2
  pub longer : check_of (worked ++ 0 ∷ []) ≡ refused 2
  pub no_block_size : check_of (with_word worked 1 0) ≡ refused 2
  pub gap : check_of (with_word worked 4 19) ≡ refused 2
  pub spare_lock_bit : check_of (with_word worked 16 0x0400) ≡ refused 3
  pub killed_twice : check_of (with_word worked 17 2) ≡ refused 3
  pub l_is_3 : check_of (with_word worked 23 0x1800) ≡ refused 3
  pub block_3 : check_of (with_word worked 44 0x1000) ≡ good worked_layout
  pub block_4 : check_of (with_word worked 44 0x0800) ≡ refused 3
  pub over_w : check_of (with_word worked 45 17) ≡ refused 3
  pub pends : check_of (pending_one 23 0x0800) ≡ good worked_layout
  pub pends_in_tid : check_of (pending_one 26 0) ≡ refused 3
  pub pends_l_3 : check_of (pending_one 23 0x1800) ≡ refused 3

pub cases : Cases
unfolding check_of layout_of header_good blocks_in content_good rules_hold worked word_at with_word
cases =
    record {
      found = refl;
      under_32 = refl;
      cut_off = refl;
      longer = refl;
      no_block_size = refl;
      gap = refl;
      spare_lock_bit = refl;
      killed_twice = refl;
      l_is_3 = refl;
      block_3 = refl;
      block_4 = refl;
      over_w = refl;
      pends = refl;
      pends_in_tid = refl;
      pends_l_3 = refl;
    }

-- two wrong answers that the check's promise rules out: good, where only the pending value breaks a rule; and a refusal of the worked image
pub never-good : (y : Layout) → meaning (Ok y) ≡ check_of (pending_one 23 0x1800) → ⊥
never-good y e = let p = cases.pends_l_3 in let z : ◌≡◌ {A = ℕ} 0 1 = cc in omega arith

pub never-refused : meaning (Err refusal.Content) ≡ check_of worked → ⊥
never-refused e = let p = cases.found in let z : ◌≡◌ {A = ℕ} 0 1 = cc in omega arith

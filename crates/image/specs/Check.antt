-- What the image check answers (RULES 5.1 to 5.3). Assumes nothing.
use Rattle.std.specs.Prelude.{ℕ, Bool, not, List, [], ◌∷◌, ltb, length, Result, Ok, Err}
use Rattle.image.specs.declared.Layout.{Layout}
use Rattle.image.specs.declared.Refusal.{Refusal}
use Rattle.image.specs.declared.Refusal.TheVariants as refusal
use Rattle.image.specs.Layout.{layout_of, header_good}
use Rattle.image.specs.Content.{content_good}
use Rattle.bits.specs.First.{first}

-- a number of the answer table, or 0 with the layout
pub data Checked : Type 0 where
  refused : ℕ → Checked
  good : Layout → Checked

-- the number of each refusal, and what each answer in the code says
abbrev pub refusal_number : Refusal → ℕ
refusal_number refusal.Short = 1
refusal_number refusal.Header = 2
refusal_number refusal.Content = 3

-- the check's answer in the code
abbrev pub Verdict : Type 0
Verdict = Result Layout Refusal

abbrev pub meaning : Verdict → Checked
meaning (Ok y) = good y
meaning (Err r) = refused (refusal_number r)

-- the number in the answer table
abbrev pub row_of : Checked → ℕ
row_of (refused n) = n
row_of (good y) = 0

-- the rows that an image alone decides, given what each number leaves
abbrev pub image_rows : {A : Type 0} → (ℕ → A) → List ℕ → List (A × Bool)
image_rows leaving m =
    (leaving 1, ltb (length m) 32) ∷ (leaving 2, not (header_good (layout_of m) m)) ∷ (leaving 3, not (content_good (layout_of m) m)) ∷ []

unfoldable pub check_of : List ℕ → Checked
check_of m = first (image_rows refused m) (good (layout_of m))

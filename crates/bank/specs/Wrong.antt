-- Wrong answers that the promises of a view rule out, two for each, computed on the worked image: TID is words 26 and 27, USER follows
-- (RULES 7.2). Assumes nothing.
use Rattle.std.specs.Prelude.{ℕ, ◌+◌, ◌≡◌, refl, List, [], ◌∷◌, length, take, Some, None, Ok, Err}
use Rattle.std.proofs.Common.{sym, ap, ◌∙◌, arith}
use Rattle.bits.specs.Words.{word_at, with_word}
use Rattle.image.specs.Layout.{layout_of, header_good, blocks_in}
use Rattle.image.specs.Content.{rules_hold, content_good}
use Rattle.image.specs.Check.{check_of}
use Rattle.image.specs.Worked.{worked}
use Rattle.bank.specs.declared.View.{View}
use Rattle.bank.specs.Views.{Shown, Word, shown, view_of, words_shown, word_in, word_of}

-- the worked image without its last word
abbrev pub cut_off : List ℕ
cut_off = take 154 worked

pub record Cases : Type 0 where
  pub tid : view_of worked 2 ≡ record { number = 0; bytes = 0xE2 ∷ 0x00 ∷ 0x60 ∷ 0x01 ∷ [] }
  pub bad : view_of cut_off 2 ≡ record { number = 2; bytes = [] }
  pub last : word_of worked 2 1 ≡ Ok (Some 0x6001)
  pub past : word_of worked 2 2 ≡ Ok None
  pub user : word_of worked 3 0 ≡ Ok (Some 3)
  pub refused : word_of cut_off 2 0 ≡ Err 2

pub cases : Cases
unfolding view_of word_of check_of layout_of header_good blocks_in content_good rules_hold worked word_at with_word
cases = record { tid = refl; bad = refl; last = refl; past = refl; user = refl; refused = refl }

-- a word as a number
abbrev told : Word → ℕ
told (Err n) = n
told (Ok None) = 4
told (Ok (Some v)) = 5 + v

-- a view one word longer, and one that is made of a bad image
pub never-longer : (v : View) → shown v ≡ view_of worked 2 → length v.words.now ≡ 6 → ⊥
never-longer v e n = let z : ◌≡◌ {A = ℕ} 6 4 = sym n ∙ ap (λ (x : Shown). length x.bytes) (e ∙ cases.tid) in omega arith

pub never-made : (v : View) → shown v ≡ view_of cut_off 2 → v.answer ≡ 0 → ⊥
never-made v e n = let z : ◌≡◌ {A = ℕ} 0 2 = sym n ∙ ap (λ (x : Shown). x.number) (e ∙ cases.bad) in omega arith

-- a count of the bytes, and one of USER too
pub never-bytes : (v : View) → shown v ≡ view_of worked 2 → words_shown (shown v) ≡ 4 → ⊥
never-bytes v e n = let z : ◌≡◌ {A = ℕ} 4 2 = sym n ∙ ap words_shown (e ∙ cases.tid) in omega arith

pub never_both : (v : View) → shown v ≡ view_of worked 2 → words_shown (shown v) ≡ 18 → ⊥
never_both v e n = let z : ◌≡◌ {A = ℕ} 18 2 = sym n ∙ ap words_shown (e ∙ cases.tid) in omega arith

-- a view that reads on into USER, and one that reads nothing
pub never_on : (v : View) → shown v ≡ view_of worked 2 → word_in (shown v) 2 ≡ Ok (Some 3) → ⊥
never_on v e n = let z : ◌≡◌ {A = ℕ} 8 4 = sym (ap told n) ∙ ap (λ (x : Shown). told (word_in x 2)) (e ∙ cases.tid) in omega arith

pub never-nothing : (v : View) → shown v ≡ view_of worked 2 → word_in (shown v) 1 ≡ Ok None → ⊥
unfolding word_at
never-nothing v e n = let z : ◌≡◌ {A = ℕ} 4 0x6006 = sym (ap told n) ∙ ap (λ (x : Shown). told (word_in x 1)) (e ∙ cases.tid) in omega arith

-- the same of a word read in one call: the next bank's, and one of a bad image
pub never-next : word_of worked 2 2 ≡ word_of worked 3 0 → ⊥
never-next e = let z : ◌≡◌ {A = ℕ} 4 8 = ap told (sym cases.past ∙ e ∙ cases.user) in omega arith

pub never-unchecked : word_of cut_off 2 0 ≡ Ok (Some 0xE200) → ⊥
never-unchecked e = let z : ◌≡◌ {A = ℕ} 2 0xE205 = ap told (sym cases.refused ∙ e) in omega arith

-- A view shows its bank's words and no other (RULES 9.1): it answers as the plain form does, and a store outside the bank changes no byte
-- of it. Assumes nothing.
use Rattle.std.specs.Prelude.{ℕ, ◌+◌, ◌-◌, ◌*◌, ◌/◌, ◌≤◌, ◌<◌, ◌≡◌, refl, Bool, true, false, cond, List, ◌⊎◌, ltb, length, drop, get_or, Some, None, Ok}
use Rattle.std.proofs.Common.{sym, ◌∙◌, inl, inr, arith, ltb-true, length-drop, length-take-le, get_or-take, get_or-drop, drop-set-lt}
use Rattle.std.proofs.Math.Path.{subst⁻¹}
use Rattle.bits.specs.Words.{word_at, with_word}
use Rattle.bits.proofs.Words.{drop-with, take-with}
use Rattle.image.specs.declared.Section.{Section}
use Rattle.image.specs.declared.Layout.{Layout}
use Rattle.image.specs.Layout.{layout_of, end}
use Rattle.image.specs.Check.{Checked, refused, good, check_of}
use Rattle.image.specs.Steps.{short, header_wrong, content_broken}
use Rattle.image.specs.Rules.{Header}
use Rattle.image.proofs.Answers.{check-good}
use Rattle.rights.specs.Rights.{bank_of}
use Rattle.rights.proofs.Banks.{bank-end}
use Rattle.bank.specs.declared.View.{View}
use Rattle.bank.specs.Views.{Word, shown, bytes_of, view_if, view_of, words_shown, word_in, word_if, word_of}

-- every bank of a good image lies in it
pub bank-ends : (y : Layout) (m : List ℕ) (b : ℕ) → Header y m → 2 * end (bank_of y b) ≤ length m
bank-ends y m b h = omega (arith, bank-end y m b h)

-- the part of a section has its words, and they are the image's
part_count : (s : Section) (m : List ℕ) → 2 * end s ≤ length m → length (bytes_of s m) / 2 ≡ s.words
part_count s m h =
    let d : 2 * s.words ≤ length m - 2 * s.at = omega arith in
    rw (length-take-le (2 * s.words) (drop (2 * s.at) m) (subst⁻¹ (λ (n : ℕ). 2 * s.words ≤ n) (length-drop (2 * s.at) m) d)) (omega arith)

part-byte : (s : Section) (m : List ℕ) (j : ℕ) → j < 2 * s.words → get_or (bytes_of s m) j 0 ≡ get_or m (2 * s.at + j) 0
part-byte s m j h = get_or-take (2 * s.words) (drop (2 * s.at) m) j 0 h ∙ get_or-drop (2 * s.at) m j 0

part-word : (s : Section) (m : List ℕ) (i : ℕ) → i < s.words → word_at (bytes_of s m) i ≡ word_at m (s.at + i)
unfolding word_at
part-word s m i h =
    let a : 2 * (s.at + i) ≡ 2 * s.at + 2 * i = omega arith in
    let z : 2 * s.at + 2 * i + 1 ≡ 2 * s.at + (2 * i + 1) = omega arith in
    rw (part-byte s m (2 * i) (omega arith), part-byte s m (2 * i + 1) (omega arith), a, z) refl

shown-word : (s : Section) (m : List ℕ) (i : ℕ) → 2 * end s ≤ length m → word_in (record { number = 0; bytes = bytes_of s m }) i ≡ cond (ltb i s.words) (Ok (Some (word_at m (s.at + i)))) (Ok None)
shown-word s m i h = rw (part_count s m h) (go (ltb i s.words) refl)
  where
    go : (p : Bool) → ltb i s.words ≡ p → ◌≡◌ {A = Word} (cond p (Ok (Some (word_at (bytes_of s m) i))) (Ok None)) (cond p (Ok (Some (word_at m (s.at + i)))) (Ok None))
    go true e = rw (part-word s m i (ltb-true i s.words e)) refl
    go false e = refl

-- what the check answers
abbrev among : List ℕ → Bool → Bool → Bool → Checked
among m p q r = cond p (refused 1) (cond q (refused 2) (cond r (refused 3) (good (layout_of m))))

-- THE SAME ANSWERS: a view of any image answers for each word what the plain form does
pub same_word : (m : List ℕ) (b i : ℕ) → word_in (view_of m b) i ≡ word_of m b i
unfolding view_of word_of check_of
same_word m b i = go (short m) (header_wrong m) (content_broken m) refl refl refl
  where
    go : (p q r : Bool) → short m ≡ p → header_wrong m ≡ q → content_broken m ≡ r → word_in (view_if m b (among m p q r)) i ≡ word_if m b i (among m p q r)
    go true q r e f g = refl
    go false true r e f g = refl
    go false false true e f g = refl
    go false false false e f g =
        let y = layout_of m in
        let c : check_of m ≡ good y = rw (e, f, g) refl in
        shown-word (bank_of y b) m i (bank-ends y m b (check-good m y c).header)

-- THAT BANK'S WORDS: of a good image a view has as many as the bank
pub same_count : (m : List ℕ) (y : Layout) (b : ℕ) → check_of m ≡ good y → words_shown (view_of m b) ≡ (bank_of y b).words
unfolding view_of
same_count m y b c = rw c (part_count (bank_of y b) m (bank-ends y m b (check-good m y c).header))

-- NO OTHER: a store to a word outside the bank changes no byte of its part
pub no_other : (s : Section) (m : List ℕ) (j v : ℕ) → (j < s.at) ⊎ (end s ≤ j) → bytes_of s (with_word m j v) ≡ bytes_of s m
unfolding with_word
no_other s m j v (inl h) =
    let a : 2 * j < 2 * s.at = omega arith in
    let z : 2 * j + 1 < 2 * s.at = omega arith in
    simp drop-set-lt
no_other s m j v (inr h) =
    let k : j ≡ s.at + (s.words + (j - end s)) = omega arith in
    rw (k, drop-with, take-with) refl

-- ONE OUTCOME: two views that meet one promise show the same
pub one-view : (m : List ℕ) (b : ℕ) (v w : View) → shown v ≡ view_of m b → shown w ≡ view_of m b → shown v ≡ shown w
one-view m b v w e f = e ∙ sym f

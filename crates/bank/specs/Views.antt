-- A view of one bank, and the plain form of it: a word of a bank, read from the image itself (RULES 9.1). Assumes nothing.
use Rattle.std.specs.Prelude.{ℕ, ◌+◌, ◌*◌, ◌/◌, cond, List, [], eqb, ltb, length, take, drop, Option, Some, None, Result, Ok, Err}
use Rattle.bits.specs.Words.{word_at}
use Rattle.image.specs.declared.Section.{Section}
use Rattle.image.specs.Check.{Checked, refused, good, check_of}
use Rattle.rights.specs.Rights.{bank_of}
use Rattle.bank.specs.declared.Bank.{Bank}
use Rattle.bank.specs.declared.Bank.TheVariants as bank
use Rattle.bank.specs.declared.View.{View}

-- the banks by number
abbrev pub bank_number : Bank → ℕ
bank_number bank.Reserved = 0
bank_number bank.Epc = 1
bank_number bank.Tid = 2
bank_number bank.User = 3

-- what a view shows: 0 and the bank's bytes, or the check's number and none
pub record Shown : Type 0 where
  pub number : ℕ
  pub bytes : List ℕ

abbrev pub shown : View → Shown
shown v = record { number = v.answer; bytes = v.words.now }

-- a section's part of the image
abbrev pub bytes_of : Section → List ℕ → List ℕ
bytes_of s m = take (2 * s.words) (drop (2 * s.at) m)

abbrev pub view_if : List ℕ → ℕ → Checked → Shown
view_if m b (refused n) = record { number = n; bytes = [] }
view_if m b (good y) = record { number = 0; bytes = bytes_of (bank_of y b) m }

unfoldable pub view_of : List ℕ → ℕ → Shown
view_of m b = view_if m b (check_of m)

-- what reading a word answers: the check's number, a word, or none past the bank's end
abbrev pub Word : Type 0
Word = Result (Option ℕ) ℕ

-- the words of a view, and word i of it
abbrev pub words_shown : Shown → ℕ
words_shown v = length v.bytes / 2

abbrev pub word_in : Shown → ℕ → Word
word_in v i = cond (eqb v.number 0) (cond (ltb i (words_shown v)) (Ok (Some (word_at v.bytes i))) (Ok None)) (Err v.number)

-- THE PLAIN FORM: word i of bank b of the image m
abbrev pub word_if : List ℕ → ℕ → ℕ → Checked → Word
word_if m b i (refused n) = Err n
word_if m b i (good y) = cond (ltb i (bank_of y b).words) (Ok (Some (word_at m ((bank_of y b).at + i)))) (Ok None)

unfoldable pub word_of : List ℕ → ℕ → ℕ → Word
word_of m b i = word_if m b i (check_of m)

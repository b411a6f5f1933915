-- Worked replies, computed, into a room of bytes AAh. Assumes nothing.
use Rattle.std.specs.Prelude.{ℕ, ◌≡◌, refl, List, [], ◌∷◌, replicate}
use Rattle.bits.specs.Words.{word_at}
use Rattle.bits.specs.Bits.{bits_of}
use Rattle.crc.specs.Crc.{crc_of}
use Rattle.replies.specs.Pack.{filled, packed}
use Rattle.replies.specs.Replies.{checked, reply_bits}
use Rattle.bits.specs.Bits.{words_bits}
use Rattle.replies.specs.declared.Reply.{Reply}
use Rattle.replies.specs.declared.Reply.TheVariants.{Silence, Number, Success, Words, Error, Drawn, Epc}

-- six words
abbrev image : List ℕ
image = 0x92 ∷ 0x97 ∷ 0x10 ∷ 0x00 ∷ 0x30 ∷ 0x34 ∷ 0x02 ∷ 0x57 ∷ 0xE2 ∷ 0x00 ∷ 0x60 ∷ 0x01 ∷ []

-- a room of n bytes after a reply
abbrev sent : ℕ → Reply → List ℕ
sent n r = packed (reply_bits image r) (replicate n 0xAA)

pub record Cases : Type 0 where
  pub silence : sent 2 Silence ≡ 0xAA ∷ 0xAA ∷ []
  pub number : sent 6 (Number 0x1234) ≡ 0x12 ∷ 0x34 ∷ 0xF1 ∷ 0x36 ∷ 0xAA ∷ 0xAA ∷ []
  pub success : sent 6 (Success 0xBEEF) ≡ 0x5F ∷ 0x77 ∷ 0xFA ∷ 0x11 ∷ 0x00 ∷ 0xAA ∷ []
  pub error : sent 7 (Error 0x04 0xBEEF) ≡ 0x82 ∷ 0x5F ∷ 0x77 ∷ 0xF6 ∷ 0xA8 ∷ 0x80 ∷ 0xAA ∷ []
  pub one_word : sent 8 (Words 4 1 0xBEEF) ≡ 0x71 ∷ 0x00 ∷ 0x5F ∷ 0x77 ∷ 0xDF ∷ 0x0F ∷ 0x80 ∷ 0xAA ∷ []
  pub six_words : sent 18 (Words 0 6 0xBEEF)
      ≡ 0x49 ∷ 0x4B ∷ 0x88 ∷ 0x00 ∷ 0x18 ∷ 0x1A ∷ 0x01 ∷ 0x2B ∷ 0xF1 ∷ 0x00 ∷ 0x30 ∷ 0x00 ∷ 0xDF ∷ 0x77 ∷ 0xB1 ∷ 0x2B ∷ 0x80 ∷ 0xAA ∷ []
  pub drawn : sent 4 (Drawn 0x1234) ≡ 0x12 ∷ 0x34 ∷ 0xAA ∷ 0xAA ∷ []
  pub epc : sent 9 (Epc 1 3) ≡ 0x10 ∷ 0x00 ∷ 0x30 ∷ 0x34 ∷ 0x02 ∷ 0x57 ∷ 0x92 ∷ 0x97 ∷ 0xAA ∷ []
  pub plain : packed (words_bits image 1 2) (replicate 6 0xAA) ≡ 0x10 ∷ 0x00 ∷ 0x30 ∷ 0x34 ∷ 0xAA ∷ 0xAA ∷ []
  pub zeros : packed (replicate 32 0) (replicate 6 0xAA) ≡ 0x00 ∷ 0x00 ∷ 0x00 ∷ 0x00 ∷ 0xAA ∷ 0xAA ∷ []

pub cases : Cases
unfolding word_at bits_of crc_of filled packed words_bits checked
cases =
    record { silence = refl; number = refl; success = refl; error = refl; one_word = refl; six_words = refl; drawn = refl; epc = refl; plain = refl; zeros = refl }

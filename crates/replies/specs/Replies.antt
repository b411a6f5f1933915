-- The bits of each reply (RULES 3.9, 3.10, 11.5 and 11.6). Assumes nothing.
use Rattle.std.specs.Prelude.{ℕ, ◌+◌, ◌*◌, List, [], ◌∷◌, ◌++◌}
use Rattle.bits.specs.Bits.{bits_of, words_bits}
use Rattle.crc.specs.Crc.{crc_of}
use Rattle.replies.specs.declared.Reply.{Reply}
use Rattle.replies.specs.declared.Reply.TheVariants.{Silence, Number, Success, Words, Error, Drawn, Epc}

-- 3.10: bits with the CRC-16 over all of them behind them
unfoldable pub checked : List ℕ → List ℕ
checked bs = bs ++ bits_of 16 (crc_of bs)

-- 3.9: a number alone; a handle after a 0; words and the handle after a 0; a code and the handle after a 1; a number without a CRC-16; words without a handle
abbrev pub reply_bits : List ℕ → Reply → List ℕ
reply_bits m Silence = []
reply_bits m (Number n) = checked (bits_of 16 n)
reply_bits m (Success h) = checked (0 ∷ bits_of 16 h)
reply_bits m (Words i k h) = checked ((0 ∷ words_bits m i k) ++ bits_of 16 h)
reply_bits m (Error e h) = checked ((1 ∷ bits_of 8 e) ++ bits_of 16 h)
reply_bits m (Drawn n) = bits_of 16 n
reply_bits m (Epc i k) = checked (words_bits m i k)

-- how many bits a reply has
abbrev pub reply_length : Reply → ℕ
reply_length Silence = 0
reply_length (Number n) = 32
reply_length (Success h) = 33
reply_length (Words i k h) = 16 * k + 33
reply_length (Error e h) = 41
reply_length (Drawn n) = 16
reply_length (Epc i k) = 16 * k + 16

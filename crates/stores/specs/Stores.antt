-- The stores of a change and of power-up (RULES 2.1 to 2.6). Assumes nothing.
use Rattle.std.specs.Prelude.{ℕ, ◌+◌, List, [], ◌∷◌, ◌++◌, length}
use Rattle.bits.specs.Words.{Store, store, after}
use Rattle.bits.specs.Bits.{words_bits}
use Rattle.crc.specs.Crc.{crc_of}
use Rattle.image.specs.declared.Layout.{Layout}
use Rattle.image.specs.Content.{length_of, pc_word, pending}
use Rattle.image.specs.Layout.{layout_of}

-- offset and value of each pair, from word a on
abbrev pub staged : ℕ → List Store → List Store
staged a [] = []
staged a (s ∷ ss) = store a s.at ∷ store (a + 1) s.value ∷ staged (a + 2) ss

-- the words, then the count 0 in word w; nothing where there is no word
abbrev pub finished : ℕ → List Store → List Store
finished w [] = []
finished w (s ∷ ss) = (s ∷ ss) ++ (store w 0 ∷ [])

-- 2.1: a change of the words ss, with WORK from word w on: the pairs, the count, the words, the count 0; nothing where there is no word
abbrev pub change_stores : ℕ → List Store → List Store
change_stores w [] = []
change_stores w (s ∷ ss) = staged (w + 1) (s ∷ ss) ++ (store w (length (s ∷ ss)) ∷ []) ++ finished w (s ∷ ss)

-- 2.6: the CRC-16 over the PC and the L words after it
abbrev pub epc_crc : Layout → List ℕ → ℕ
epc_crc y m = crc_of (words_bits m (y.epc.at + 1) (length_of (pc_word y m) + 1))

-- the pending words and the count 0, if any is pending; then the CRC-16 as the words stand then
abbrev pub settling : Layout → List ℕ → List Store
settling y m = finished y.work.at (pending y m)

unfoldable pub power_stores : Layout → List ℕ → List Store
power_stores y m = settling y m ++ (store y.epc.at (epc_crc y (after m (settling y m))) ∷ [])

-- the image after a whole power-up
abbrev pub power_up : List ℕ → List ℕ
power_up m = after m (power_stores (layout_of m) m)

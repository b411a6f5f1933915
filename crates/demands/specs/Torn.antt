-- Cuts between the two bytes of a word on the worked image, computed (RULES 6.4), and rules of what decides that are wrong. Assumes
-- nothing.
use Rattle.std.specs.Prelude.{ℕ, ◌+◌, ◌*◌, ◌≤◌, ◌<◌, ◌≡◌, refl, cond, List, [], ◌∷◌, eqb, replicate}
use Rattle.std.proofs.Common.{sym, ◌∙◌, subst, arith, lit<, lit≤}
use Rattle.bits.specs.Words.{word_at, with_word}
use Rattle.bits.specs.Bits.{field_at, bits_of, words_bits}
use Rattle.crc.specs.Crc.{crc_of}
use Rattle.ebv.specs.Ebv.{pointer_at}
use Rattle.image.specs.Layout.{layout_of, header_good, blocks_in}
use Rattle.image.specs.Content.{rules_hold, content_good}
use Rattle.image.specs.Worked.{worked, worked_layout}
use Rattle.frames.specs.Frames.{heard_of, checksum_right}
use Rattle.replies.specs.Pack.{filled, packed}
use Rattle.replies.specs.Replies.{checked}
use Rattle.rights.specs.Rights.{write_code}
use Rattle.stores.specs.Stores.{power_stores}
use Rattle.stores.specs.Cuts.{Cut}
use Rattle.tag.specs.Power.{power_up_of}
use Rattle.tag.specs.Table.{frame_of}
use Rattle.demands.specs.Calls.{Tag, answer_of, torn}
use Rattle.demands.specs.Demands.{Storing, by_radio, lasting, power_ups, SameOnce}
use Rattle.demands.specs.Worked.{write3, secured}
use Rattle.demands.specs.Cases.{Case, p, Hold, outside}
use Rattle.tag.specs.Result.{first_of}

-- P7's Write: its stores are (46, 31) (47, ABCDh) (45, 1) (31, ABCDh) (45, 0)
abbrev pub tag : Tag
tag = record { session = secured; image = worked }

abbrev pub p7 : Storing
p7 = by_radio write3 66 0x1234 (replicate 12 0xAA)

abbrev cut : ℕ → ℕ → Cut
cut k j = record { whole = k; byte = j }

-- no byte of the image
abbrev none : ℕ
none = 156

-- after the write cut so; after a power-up, cut so, of an image
abbrev written : ℕ → ℕ → List ℕ
written k j = torn answer_of tag (lasting p7 k) j

abbrev powered : ℕ → ℕ → List ℕ → List ℕ
powered k j m = power_ups answer_of (cut k j ∷ []) m

-- the images on the way: the pair's two words, the second whole or not; the count; word 31, whole or not; the count 0
abbrev one : List ℕ
one = with_word worked 46 31

abbrev two : ℕ → List ℕ
two v = with_word one 47 v

abbrev announced : List ℕ
announced = with_word (two 0xABCD) 45 1

abbrev word : ℕ → List ℕ
word v = with_word announced 31 v

abbrev finished : List ℕ
finished = with_word (word 0xABCD) 45 0

-- the worked image with another word where the CRC-16 stands
abbrev summed : ℕ → List ℕ
summed v = with_word worked 22 v

pub torn-table : List Case
torn-table =
    -- what stands after the high byte, and after the low byte, of each store of the write
    p 1 (written 0 92) worked
    ∷ p 2 (written 0 93) one
    ∷ p 3 (written 1 94) (two 0xAB00)
    ∷ p 4 (written 1 95) (two 0x00CD)
    ∷ p 5 (written 2 90) (two 0xABCD)
    ∷ p 6 (written 2 91) announced
    ∷ p 7 (written 3 62) (word 0xAB0A)
    ∷ p 8 (written 3 63) (word 0x00CD)
    ∷ p 9 (written 4 90) (word 0xABCD)
    ∷ p 10 (written 4 91) finished
    ∷ p 11 (answer_of tag (lasting p7 5)).image finished
    -- of each store of the power-up that follows a cut after the count: the word, the count 0; and of the CRC-16, where another word stood
    ∷ p 12 (written 3 none) announced
    ∷ p 13 (powered 0 62 announced) (word 0xAB0A)
    ∷ p 14 (powered 0 63 announced) (word 0x00CD)
    ∷ p 15 (powered 1 90 announced) (word 0xABCD)
    ∷ p 16 (powered 1 91 announced) finished
    ∷ p 17 (powered 0 44 (summed 0x1234)) (summed 0x9234)
    ∷ p 18 (powered 0 45 (summed 0x1234)) (summed 0x1297)
    -- of a torn word, torn again
    ∷ p 19 (powered 0 62 (word 0x00CD)) (word 0xABCD)
    ∷ p 20 (powered 0 63 (word 0x00CD)) (word 0x00CD)
    -- what a whole power-up makes of these images outside WORK: before the count's low byte the old words
    ∷ p 21 (outside one) (outside worked)
    ∷ p 22 (outside (two 0xAB00)) (outside worked)
    ∷ p 23 (outside (two 0x00CD)) (outside worked)
    ∷ p 24 (outside (two 0xABCD)) (outside worked)
    ∷ p 25 (outside (summed 0x9234)) (outside worked)
    ∷ p 26 (outside (summed 0x1297)) (outside worked)
    -- and from it on the new ones
    ∷ p 27 (outside announced) (outside finished)
    ∷ p 28 (outside (word 0xAB0A)) (outside finished)
    ∷ p 29 (outside (word 0x00CD)) (outside finished)
    ∷ p 30 (outside (word 0xABCD)) (outside finished)
    ∷ []

pub torn-cases : Hold torn-table
unfolding torn-table frame_of power_up_of power_stores layout_of header_good blocks_in content_good rules_hold worked word_at with_word words_bits bits_of crc_of field_at pointer_at heard_of checksum_right filled packed checked write_code write3
torn-cases = (refl, (refl, (refl, (refl, (refl, (refl, (refl, (refl, (refl, (refl, (refl, (refl, (refl, (refl, (refl, (refl, (refl, (refl, (refl, (refl, (refl, (refl, (refl, (refl, (refl, (refl, (refl, (refl, (refl, (refl, tt))))))))))))))))))))))))))))))

-- word 31 after a whole power-up of four of them
record Comes (m : List ℕ) (v : ℕ) : Type 0 where
  starts : (first_of (power_up_of m 257)).number ≡ 0
  shows : word_at (first_of (power_up_of m 257)).image 31 ≡ v

record Four : Type 0 where
  before : Comes worked 10
  high : Comes (two 0xABCD) 10
  low : Comes announced 0xABCD
  done : Comes finished 0xABCD

four : Four
unfolding power_up_of power_stores layout_of header_good blocks_in content_good rules_hold worked word_at with_word words_bits bits_of crc_of
four =
    record {
      before = record { starts = refl; shows = refl };
      high = record { starts = refl; shows = refl };
      low = record { starts = refl; shows = refl };
      done = record { starts = refl; shows = refl };
    }

-- equal after a whole power-up: not where word 31 is another
apart : (m n : List ℕ) (v w : ℕ) → Comes m v → Comes n w → SameOnce answer_of worked_layout m n → v ≡ w
apart m n v w p q h = sym p.shows ∙ h 257 257 p.starts q.starts 31 (lit< tt) ∙ q.shows

count-images : (written 2 90 ≡ two 0xABCD) × (written 2 91 ≡ announced) × ((answer_of tag (lasting p7 5)).image ≡ finished)
unfolding frame_of layout_of header_good blocks_in content_good rules_hold worked word_at with_word words_bits bits_of crc_of field_at pointer_at heard_of checksum_right filled packed checked write_code write3
count-images = (refl, refl, refl)

-- wrong: the whole stores alone decide, so that at most 2n of them come to the old words
pub whole-alone : ((f : Cut) → f.whole ≤ 2 → SameOnce answer_of worked_layout (torn answer_of tag (lasting p7 f.whole) f.byte) worked) → ⊥
whole-alone h =
    let z : ◌≡◌ {A = ℕ} 0xABCD 10 =
    apart announced worked 0xABCD 10 four.low four.before (subst (λ (m : List ℕ). SameOnce answer_of worked_layout m worked) count-images.1 (h (cut 2 91) (lit≤ tt))) in
    omega arith

-- wrong: the count's high byte decides
pub high-decides : ((f : Cut) → 2 < f.whole + cond (eqb f.byte (2 * 45)) 1 0
    → SameOnce answer_of worked_layout (torn answer_of tag (lasting p7 f.whole) f.byte) (answer_of tag (lasting p7 5)).image) → ⊥
high-decides h =
    let z : ◌≡◌ {A = ℕ} 10 0xABCD =
    apart (two 0xABCD) finished 10 0xABCD four.high four.done
    (subst (SameOnce answer_of worked_layout (two 0xABCD)) count-images.2
    (subst (λ (m : List ℕ). SameOnce answer_of worked_layout m (answer_of tag (lasting p7 5)).image) count-images.0 (h (cut 2 90) (lit< tt)))) in
    omega arith

-- P1 to P12 (RULES 6.2): one table under one statement, computed. Assumes nothing.
use Rattle.std.specs.Prelude.{ℕ, ◌+◌, ◌≡◌, refl, false, List, [], ◌∷◌, take, replicate}
use Rattle.bits.specs.Words.{word_at, with_word, Store}
use Rattle.bits.specs.Bits.{field_at, bits_of, words_bits}
use Rattle.bits.specs.Below.{below}
use Rattle.crc.specs.Crc.{crc_of}
use Rattle.ebv.specs.Ebv.{Read, pointer_at}
use Rattle.ebv.specs.Ebv as pointer
use Rattle.image.specs.Layout.{layout_of, header_good, blocks_in}
use Rattle.image.specs.Content.{rules_hold, content_good}
use Rattle.image.specs.Worked.{bytes_of, worked}
use Rattle.frames.specs.Frames.{heard_of, checksum_right}
use Rattle.replies.specs.Pack.{filled, packed}
use Rattle.replies.specs.Replies.{checked}
use Rattle.rights.specs.Rights.{write_code, locked_to, lock_code}
use Rattle.stores.specs.Stores.{power_stores, change_stores}
use Rattle.states.specs.declared.State.TheVariants as state
use Rattle.tag.specs.Result.{Result, first_of}
use Rattle.tag.specs.Power.{power_up_of}
use Rattle.tag.specs.Table.{live_of, frame_of}
use Rattle.tag.specs.Port.{number_in, write_of}
use Rattle.demands.specs.Calls.{frame, stores_in}
use Rattle.demands.specs.Worked.{write3, lock10, lock11, secured, sent, locked}
use Rattle.demands.specs.Ports.{holding, four_words}
use Rattle.demands.specs.Ports.{locked as block_locked}

-- a case: its number, what the definitions compute, what is expected
pub record Case : Type 0 where
  pub number : ℕ
  pub computed : List ℕ
  pub expected : List ℕ

abbrev pub p : ℕ → List ℕ → List ℕ → Case
p n computed expected = record { number = n; computed = computed; expected = expected }

-- every case of the table holds
abbrev pub Hold : List Case → Type 0
Hold [] = Unit {0}
Hold (c ∷ cs) = (c.computed ≡ c.expected) × Hold cs

-- a pointer's value and bytes; stores as numbers, place and value of each; the bytes of every word outside WORK after a whole power-up
abbrev pointed : Read → List ℕ
pointed (pointer.refused k) = []
pointed (pointer.whole v e) = v ∷ e ∷ []

abbrev pub flat : List Store → List ℕ
flat [] = []
flat (s ∷ ss) = s.at ∷ s.value ∷ flat ss

abbrev pub outside : List ℕ → List ℕ
outside m = take 90 (first_of (power_up_of m 257)).image

-- the words outside WORK of the worked image with v in USER 3: header, STATUS, RESERVED, EPC, TID, USER, PERMA
abbrev user3 : ℕ → List ℕ
user3 v =
    bytes_of
    (7 ∷ 4 ∷ 16 ∷ 2 ∷ 18 ∷ 4 ∷ 22 ∷ 4 ∷ 26 ∷ 2 ∷ 28 ∷ 16 ∷ 44 ∷ 1 ∷ 45 ∷ 33
    ∷ 0 ∷ 0
    ∷ 0x4B49 ∷ 0x4C4C ∷ 0 ∷ 0
    ∷ 0x9297 ∷ 0x1000 ∷ 0x3034 ∷ 0x0257
    ∷ 0xE200 ∷ 0x6001
    ∷ 3 ∷ 3 ∷ 6 ∷ v ∷ 24 ∷ 57 ∷ 0x1811 ∷ 0 ∷ 0 ∷ 0 ∷ 0 ∷ 0 ∷ 0 ∷ 0 ∷ 0 ∷ 0
    ∷ 0
    ∷ [])

-- P7's Write with power for s stores, P11's Lock, and P12's SPI write
abbrev p7 : ℕ → Result
p7 s = sent worked write3 66 s

abbrev p11 : Result
p11 = sent locked lock11 60 5

abbrev p12 : Result
p12 = first_of (write_of change_stores (holding state.Ready false false) block_locked 2 four_words 8)

pub table : List Case
table =
    p 1 (crc_of [] ∷ []) (0x0000 ∷ [])
    ∷ p 2 (crc_of (bits_of 16 0x0000) ∷ []) (0xE2F0 ∷ [])
    ∷ p 3 (crc_of (bits_of 16 0xFFFF) ∷ []) (0xFFFF ∷ [])
    ∷ p 4 (pointed (pointer_at (0x7F ∷ []) 8 0)) (127 ∷ 1 ∷ [])
    ∷ p 5 (pointed (pointer_at (0x81 ∷ 0x6A ∷ []) 16 0)) (234 ∷ 2 ∷ [])
    ∷ p 6 (pointed (pointer_at (0x80 ∷ 0x05 ∷ []) 16 0)) (5 ∷ 2 ∷ [])
    ∷ p 7 ((p7 5).number ∷ flat (stores_in (record { session = secured; image = worked }) (frame write3 66 0x1234 (replicate 12 0xAA) 5)))
    (0 ∷ 46 ∷ 31 ∷ 47 ∷ 0xABCD ∷ 45 ∷ 1 ∷ 31 ∷ 0xABCD ∷ 45 ∷ 0 ∷ [])
    ∷ p 8 (outside (p7 2).image) (user3 10)
    ∷ p 9 (outside (p7 3).image) (user3 0xABCD)
    ∷ p 10 (word_at (sent locked lock10 60 5).image 16 ∷ []) (0x023 ∷ [])
    ∷ p 11 (p11.number ∷ field_at p11.room 1 8 ∷ word_at p11.image 16 ∷ []) (10 ∷ 0x04 ∷ 0x003 ∷ [])
    ∷ p 12 (p12.stores ∷ number_in (live_of p12.session.power).register ∷ below (λ j. word_at p12.image (30 + j)) 4)
    (8 ∷ 2 ∷ 6 ∷ 10 ∷ 0x5566 ∷ 0x7788 ∷ [])
    ∷ []

pub proved-cases : Hold table
unfolding table frame_of write_of power_up_of power_stores layout_of header_good blocks_in content_good rules_hold worked word_at with_word words_bits bits_of crc_of field_at pointer_at heard_of checksum_right filled packed checked write_code locked_to lock_code write3 lock10 lock11
proved-cases = (refl, (refl, (refl, (refl, (refl, (refl, (refl, (refl, (refl, (refl, (refl, (refl, tt))))))))))))

-- Power-up and frames on the worked image, computed (RULES 6.3), and wrong answers that the promises rule out. Assumes nothing.
use Rattle.std.specs.Prelude.{ℕ, ◌≡◌, refl, List, [], ◌∷◌, replicate, Option, None, Some}
use Rattle.std.proofs.Common.{sym, ap, ◌∙◌, arith}
use Rattle.bits.specs.Words.{word_at, with_word}
use Rattle.bits.specs.Bits.{field_at, bits_of, words_bits}
use Rattle.crc.specs.Crc.{crc_of}
use Rattle.ebv.specs.Ebv.{pointer_at}
use Rattle.image.specs.Layout.{layout_of, header_good, blocks_in}
use Rattle.image.specs.Content.{rules_hold, content_good}
use Rattle.image.specs.Worked.{worked, pending_one}
use Rattle.frames.specs.Frames.{heard_of, checksum_right}
use Rattle.replies.specs.Pack.{filled, packed}
use Rattle.replies.specs.Replies.{checked}
use Rattle.rights.specs.Rights.{read_code, write_code}
use Rattle.stores.specs.Stores.{power_stores, change_stores}
use Rattle.frames.specs.declared.Round.{Round}
use Rattle.states.specs.declared.Half.{Half}
use Rattle.states.specs.declared.State.TheVariants as state
use Rattle.states.specs.Commands.{plain_link}
use Rattle.tag.specs.declared.Session.{Session}
use Rattle.tag.specs.Session.{off_session, new_session}
use Rattle.tag.specs.Result.{Result, first_of}
use Rattle.tag.specs.Power.{power_up_of}
use Rattle.tag.specs.Table.{frame_of}
use Rattle.tag.specs.Steps.{input, gives}

-- Req_RN with the number BEEFh
unfoldable pub req_rn : List ℕ
req_rn = 0xC1 ∷ 0xBE ∷ 0xEF ∷ 0x13 ∷ 0x67 ∷ []

-- Query of session 2, target A, Q = 0
unfoldable pub query0 : List ℕ
query0 = 0x80 ∷ 0x20 ∷ 0x7C ∷ []

-- Write ABCDh to USER 3, covered
unfoldable pub write3 : List ℕ
write3 = 0xC3 ∷ 0xC0 ∷ 0xFC ∷ 0x65 ∷ 0xC4 ∷ 0x8D ∷ 0x0C ∷ 0xDE ∷ 0x80 ∷ []

-- Write to USER 15
unfoldable pub write15 : List ℕ
write15 = 0xC3 ∷ 0xC3 ∷ 0xD6 ∷ 0x96 ∷ 0x84 ∷ 0x8D ∷ 0x0A ∷ 0x27 ∷ 0x80 ∷ []

-- Write to USER 16
unfoldable pub write16 : List ℕ
write16 = 0xC3 ∷ 0xC4 ∷ 0x16 ∷ 0x96 ∷ 0x84 ∷ 0x8D ∷ 0x12 ∷ 0x4F ∷ 0x40 ∷ []

-- Lock: EPC pwd set, USER permalock set again
unfoldable pub lock10 : List ℕ
lock10 = 0xC5 ∷ 0x08 ∷ 0x42 ∷ 0x11 ∷ 0x23 ∷ 0x45 ∷ 0x43 ∷ 0x60 ∷ []

-- Lock: the same, but USER permalock cleared
unfoldable pub lock11 : List ℕ
lock11 = 0xC5 ∷ 0x08 ∷ 0x42 ∷ 0x01 ∷ 0x23 ∷ 0x46 ∷ 0x30 ∷ 0x60 ∷ []

-- Write a PC with L = 2
unfoldable pub pc2 : List ℕ
pc2 = 0xC3 ∷ 0x40 ∷ 0x52 ∷ 0x96 ∷ 0x84 ∷ 0x8D ∷ 0x1D ∷ 0xF4 ∷ 0x40 ∷ []

-- Write a PC with L = 3
unfoldable pub pc3 : List ℕ
pc3 = 0xC3 ∷ 0x40 ∷ 0x50 ∷ 0x96 ∷ 0x84 ∷ 0x8D ∷ 0x3C ∷ 0x84 ∷ 0x80 ∷ []

-- Read two words of USER from word 2 on
unfoldable pub read_two : List ℕ
read_two = 0xC2 ∷ 0xC0 ∷ 0x80 ∷ 0x84 ∷ 0x8D ∷ 0x02 ∷ 0x47 ∷ 0x80 ∷ []

-- BlockWrite of 16 words
unfoldable pub block16 : List ℕ
block16 = 0xC7 ∷ 0xC0 ∷ 0x04 ∷ 0x00 ∷ 0x00 ∷ 0x00 ∷ 0x00 ∷ 0x40 ∷ 0x00 ∷ 0x80 ∷ 0x00 ∷ 0xC0 ∷ 0x01 ∷ 0x00 ∷ 0x01 ∷ 0x40 ∷ 0x01 ∷ 0x80 ∷ 0x01 ∷ 0xC0 ∷ 0x02 ∷ 0x00 ∷ 0x02 ∷ 0x40 ∷ 0x02 ∷ 0x80 ∷ 0x02 ∷ 0xC0 ∷ 0x03 ∷ 0x00 ∷ 0x03 ∷ 0x40 ∷ 0x03 ∷ 0x80 ∷ 0x03 ∷ 0xC4 ∷ 0x8D ∷ 0x04 ∷ 0xA9 ∷ 0x00 ∷ []

-- BlockWrite of 17 words
unfoldable pub block17 : List ℕ
block17 = 0xC7 ∷ 0xC0 ∷ 0x04 ∷ 0x40 ∷ 0x00 ∷ 0x00 ∷ 0x00 ∷ 0x40 ∷ 0x00 ∷ 0x80 ∷ 0x00 ∷ 0xC0 ∷ 0x01 ∷ 0x00 ∷ 0x01 ∷ 0x40 ∷ 0x01 ∷ 0x80 ∷ 0x01 ∷ 0xC0 ∷ 0x02 ∷ 0x00 ∷ 0x02 ∷ 0x40 ∷ 0x02 ∷ 0x80 ∷ 0x02 ∷ 0xC0 ∷ 0x03 ∷ 0x00 ∷ 0x03 ∷ 0x40 ∷ 0x03 ∷ 0x80 ∷ 0x03 ∷ 0xC0 ∷ 0x04 ∷ 0x04 ∷ 0x8D ∷ 0x0E ∷ 0x72 ∷ 0xC0 ∷ []

-- a round of session 2 with Q = 4
abbrev pub round : Round
round = record { session = 2; q = 4 }

-- Secured, with the handle 1234h, the cover number 5A5Ah and a half that waits, or none
abbrev pub waiting : Option Half → Session
waiting h = new_session (state.Secured (record { round = round; handle = 0x1234; cover = Some 0x5A5A; half = h }))

abbrev pub secured : Session
secured = waiting None

abbrev pub used_up : Session
used_up = new_session (state.Secured (plain_link round 0x1234))

-- a frame of n bits to that session, with a room of 12 bytes and power for s stores
abbrev pub sent : List ℕ → List ℕ → ℕ → ℕ → Result
sent m f n s = first_of (frame_of change_stores (input secured m f n 0x1234 (replicate 12 0xAA) s))

abbrev pub locked : List ℕ
locked = with_word worked 16 0x0003

pub record Powered : Type 0 where
  pub idle : first_of (power_up_of worked 1) ≡ gives 0 (new_session state.Ready) 0 1 worked []
  pub no_power : first_of (power_up_of worked 0) ≡ gives 11 off_session 0 0 worked []
  pub pending_cut : (first_of (power_up_of (pending_one 17 1) 2)).number ≡ 11
  pub pending_killed : (first_of (power_up_of (pending_one 17 1) 3)).session ≡ new_session state.Killed
  pub refused_first : first_of (power_up_of (with_word worked 17 2) 0) ≡ gives 3 off_session 0 0 (with_word worked 17 2) []

pub powered : Powered
unfolding power_up_of power_stores layout_of header_good blocks_in content_good rules_hold worked word_at with_word words_bits bits_of crc_of
powered = record { idle = refl; no_power = refl; pending_cut = refl; pending_killed = refl; refused_first = refl }

-- the handle, a write, a read, and what a cut and a small room do
pub record Sent : Type 0 where
  pub numbered : (first_of (frame_of change_stores (input (new_session (state.Acknowledged round 0xBEEF)) worked req_rn 40 0x1234 (replicate 12 0xAA) 0))).session ≡ used_up
  pub numbered_room : (first_of (frame_of change_stores (input (new_session (state.Acknowledged round 0xBEEF)) worked req_rn 40 0x1234 (replicate 12 0xAA) 0))).room ≡ 0x12 ∷ 0x34 ∷ 0xF1 ∷ 0x36 ∷ 0xAA ∷ 0xAA ∷ 0xAA ∷ 0xAA ∷ 0xAA ∷ 0xAA ∷ 0xAA ∷ 0xAA ∷ []
  pub written : (sent worked write3 66 5).number ≡ 0
  pub written_stores : (sent worked write3 66 5).stores ≡ 5
  pub written_session : (sent worked write3 66 5).session ≡ used_up
  pub written_room : (sent worked write3 66 5).room ≡ 0x09 ∷ 0x1A ∷ 0x6B ∷ 0x13 ∷ 0x80 ∷ 0xAA ∷ 0xAA ∷ 0xAA ∷ 0xAA ∷ 0xAA ∷ 0xAA ∷ 0xAA ∷ []
  pub written_word : word_at (sent worked write3 66 5).image 31 ≡ 0xABCD
  pub cut : (sent worked write3 66 2).number ≡ 11
  pub cut_stores : (sent worked write3 66 2).stores ≡ 2
  pub cut_session : (sent worked write3 66 2).session ≡ off_session
  pub cut_word : word_at (sent worked write3 66 1).image 31 ≡ 10
  pub no_room : (first_of (frame_of change_stores (input secured worked write3 66 0 (replicate 4 0xAA) 5))).number ≡ 4
  pub shows : (sent worked read_two 58 0).room ≡ 0x00 ∷ 0x03 ∷ 0x00 ∷ 0x05 ∷ 0x09 ∷ 0x1A ∷ 0x7D ∷ 0x2E ∷ 0x80 ∷ 0xAA ∷ 0xAA ∷ 0xAA ∷ []

pub sent-cases : Sent
unfolding frame_of layout_of header_good blocks_in content_good rules_hold worked word_at with_word words_bits bits_of crc_of field_at pointer_at heard_of checksum_right filled packed checked read_code write_code req_rn write3 read_two
sent-cases =
    record { numbered = refl; numbered_room = refl; written = refl; written_stores = refl; written_session = refl; written_room = refl; written_word = refl; cut = refl; cut_stores = refl; cut_session = refl; cut_word = refl; no_room = refl; shows = refl }

-- the limits
pub record Limits : Type 0 where
  pub user_15 : (sent worked write15 66 5).number ≡ 0
  pub user_16 : (sent worked write16 66 5).room ≡ 0x81 ∷ 0x89 ∷ 0x1A ∷ 0x25 ∷ 0x62 ∷ 0x00 ∷ 0xAA ∷ 0xAA ∷ 0xAA ∷ 0xAA ∷ 0xAA ∷ 0xAA ∷ []
  pub l_2 : (sent worked pc2 66 5).number ≡ 0
  pub l_3 : (sent worked pc3 66 5).room ≡ 0x81 ∷ 0x89 ∷ 0x1A ∷ 0x25 ∷ 0x62 ∷ 0x00 ∷ 0xAA ∷ 0xAA ∷ 0xAA ∷ 0xAA ∷ 0xAA ∷ 0xAA ∷ []
  pub words_16 : (sent worked block16 314 50).stores ≡ 50
  pub words_17 : (sent worked block17 330 50).room ≡ 0x81 ∷ 0x89 ∷ 0x1A ∷ 0x25 ∷ 0x62 ∷ 0x00 ∷ 0xAA ∷ 0xAA ∷ 0xAA ∷ 0xAA ∷ 0xAA ∷ 0xAA ∷ []

pub limits : Limits
unfolding frame_of layout_of header_good blocks_in content_good rules_hold worked word_at with_word words_bits bits_of crc_of field_at pointer_at heard_of checksum_right filled packed checked read_code write_code write15 write16 pc2 pc3 block16 block17
limits = record { user_15 = refl; user_16 = refl; l_2 = refl; l_3 = refl; words_16 = refl; words_17 = refl }

-- wrong answers that the promises rule out: a power-up that makes no store, a frame that is refused where it is done, and one whose
-- stores are invented
pub never-lazy : first_of (power_up_of worked 1) ≡ gives 0 (new_session state.Ready) 0 0 worked [] → ⊥
never-lazy e =
    let z : ◌≡◌ {A = ℕ} 1 0 = sym (ap (λ (r : Result). r.stores) powered.idle) ∙ ap (λ (r : Result). r.stores) e in
    omega arith

pub never-refused : (sent worked write3 66 5).number ≡ 9 → ⊥
never-refused e = let z : ◌≡◌ {A = ℕ} 0 9 = sym sent-cases.written ∙ e in omega arith

pub never-invented : (sent worked write3 66 5).stores ≡ 1 → ⊥
never-invented e = let z : ◌≡◌ {A = ℕ} 5 1 = sym sent-cases.written_stores ∙ e in omega arith

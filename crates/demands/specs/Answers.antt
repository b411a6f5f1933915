-- Every answer of every operation on the worked image and images beside it, computed (RULES 6.5). Assumes nothing.
use Rattle.std.specs.Prelude.{ℕ, ◌≡◌, refl, false, List, [], ◌∷◌, take, replicate, Some}
use Rattle.bits.specs.Words.{word_at, with_word}
use Rattle.bits.specs.Bits.{field_at, bits_of, words_bits}
use Rattle.crc.specs.Crc.{crc_of}
use Rattle.crc.specs.Crc5.{crc5_of}
use Rattle.ebv.specs.Ebv.{pointer_at}
use Rattle.image.specs.Layout.{layout_of, header_good, blocks_in}
use Rattle.image.specs.Content.{rules_hold, content_good}
use Rattle.image.specs.Worked.{worked, pending_one}
use Rattle.frames.specs.Frames.{heard_of, checksum_right, checksum5_right}
use Rattle.replies.specs.Pack.{filled, packed}
use Rattle.replies.specs.Replies.{checked}
use Rattle.rights.specs.Rights.{write_code, locked_to}
use Rattle.stores.specs.Stores.{power_stores}
use Rattle.states.specs.declared.Half.TheVariants as half
use Rattle.states.specs.declared.State.TheVariants as state
use Rattle.tag.specs.declared.Session.{Session}
use Rattle.tag.specs.Session.{off_session, new_session}
use Rattle.tag.specs.Power.{power_up_of}
use Rattle.tag.specs.Table.{frame_of}
use Rattle.tag.specs.Port.{ask_of, release_of, register_of, read_of, write_of}
use Rattle.demands.specs.Calls.{Call, power_up, frame, ask, release, register, read, write, answer_of}
use Rattle.demands.specs.Cases.{Case, p, Hold}
use Rattle.demands.specs.Worked.{query0, write3, write16, round, waiting, secured}
use Rattle.demands.specs.Ports.{holding, four_words}
use Rattle.demands.specs.Met.{kill1, kill2, access}

-- images that answers 1, 2 and 3 are for, and one with a word pending
abbrev short : List ℕ
short = take 31 worked

abbrev header : List ℕ
header = with_word worked 0 8

abbrev content : List ℕ
content = with_word worked 17 2

abbrev pends : List ℕ
pends = pending_one 31 0xABCD

-- sessions: Ready, holding the port, Arbitrate, Killed, and Secured with a half waiting
abbrev ready : Session
ready = new_session state.Ready

abbrev held : Session
held = holding state.Ready false false

abbrev arbitrate : Session
arbitrate = new_session (state.Arbitrate round 3)

abbrev killed : Session
killed = new_session state.Killed

-- a call's number, with a session and an image; the number alone where it has no image
abbrev number : Session → List ℕ → Call → List ℕ
number s m c = (answer_of (record { session = s; image = m }) c).number ∷ []

abbrev alone : Session → Call → List ℕ
alone s c = number s [] c

-- P7's Write with a room of so many bytes and power for so many stores; and further frames, answered by a session with power enough
abbrev writing : ℕ → ℕ → Call
writing room s = frame write3 66 0x1234 (replicate room 0xAA) s

abbrev sending : List ℕ → ℕ → Call
sending f bits = frame f bits 0x5678 (replicate 12 0xAA) 50

-- Write to USER 3 with another CRC-16, and with another handle
abbrev pub bad_sum : List ℕ
bad_sum = 0xC3 ∷ 0xC0 ∷ 0xFC ∷ 0x65 ∷ 0xC4 ∷ 0x8D ∷ 0x0C ∷ 0xDF ∷ 0x80 ∷ []

pub numbers : List Case
numbers =
    -- power-up
    p 0 (alone off_session (power_up 1)) (1 ∷ [])
    ∷ p 1 (number off_session short (power_up 1)) (1 ∷ [])
    ∷ p 2 (number off_session header (power_up 1)) (2 ∷ [])
    ∷ p 3 (number off_session content (power_up 1)) (3 ∷ [])
    ∷ p 4 (number off_session worked (power_up 0)) (11 ∷ [])
    ∷ p 5 (number off_session worked (power_up 1)) (0 ∷ [])
    -- a Query, the first frame that a new session hears
    ∷ p 6 (number off_session worked (sending query0 22)) (5 ∷ [])
    ∷ p 7 (number held worked (sending query0 22)) (6 ∷ [])
    ∷ p 8 (number killed worked (sending query0 22)) (9 ∷ [])
    ∷ p 9 (number ready worked (sending query0 22)) (0 ∷ [])
    -- frames, in the table's order
    ∷ p 10 (number secured short (writing 12 5)) (1 ∷ [])
    ∷ p 11 (number secured header (writing 12 5)) (2 ∷ [])
    ∷ p 12 (number secured content (writing 12 5)) (3 ∷ [])
    ∷ p 13 (number off_session worked (writing 12 5)) (5 ∷ [])
    ∷ p 14 (number secured pends (writing 12 5)) (5 ∷ [])
    ∷ p 15 (number held worked (writing 12 5)) (6 ∷ [])
    ∷ p 16 (number secured worked (sending (0xCA ∷ 0x12 ∷ 0x34 ∷ 0 ∷ 0 ∷ []) 40)) (7 ∷ [])
    ∷ p 17 (number secured worked (sending write3 65)) (7 ∷ [])
    ∷ p 18 (number secured worked (sending write3 73)) (7 ∷ [])
    ∷ p 19 (number secured worked (sending bad_sum 66)) (8 ∷ [])
    ∷ p 20 (number arbitrate worked (writing 12 5)) (9 ∷ [])
    ∷ p 21 (number killed worked (sending (0xC0 ∷ []) 8)) (9 ∷ [])
    ∷ p 22 (number (waiting (Some (half.Access 0x1111))) worked (sending access 56)) (12 ∷ [])
    ∷ p 23 (number (waiting (Some (half.Kill 0x4B48))) worked (sending kill2 59)) (12 ∷ [])
    ∷ p 24 (number (waiting (Some (half.Kill 0x4B49))) worked (sending kill1 59)) (12 ∷ [])
    ∷ p 25 (number (waiting (Some (half.Access 0))) worked (sending kill2 59)) (14 ∷ [])
    ∷ p 26 (number (waiting (Some (half.Kill 0x4B49))) worked (sending access 56)) (14 ∷ [])
    ∷ p 27 (number (waiting (Some (half.Kill 0x4B49))) worked (writing 12 5)) (14 ∷ [])
    ∷ p 28 (number secured worked (sending write16 66)) (10 ∷ [])
    ∷ p 29 (number secured worked (frame write16 66 0x5678 (replicate 5 0xAA) 5)) (4 ∷ [])
    ∷ p 30 (number secured worked (writing 4 5)) (4 ∷ [])
    ∷ p 31 (number secured worked (writing 12 4)) (11 ∷ [])
    ∷ p 32 (number secured worked (writing 12 5)) (0 ∷ [])
    ∷ p 33 (number (waiting (Some (half.Access 0))) worked (sending access 56)) (0 ∷ [])
    ∷ p 34 (number (waiting (Some (half.Kill 0x4B49))) worked (sending kill2 59)) (0 ∷ [])
    ∷ p 35 (number secured worked (sending (0xC0 ∷ []) 8)) (0 ∷ [])
    -- asking, releasing, the register
    ∷ p 36 (alone off_session ask) (5 ∷ [])
    ∷ p 37 (alone held ask) (6 ∷ [])
    ∷ p 38 (alone secured ask) (6 ∷ [])
    ∷ p 39 (alone ready ask) (0 ∷ [])
    ∷ p 40 (alone off_session release) (5 ∷ [])
    ∷ p 41 (alone ready release) (6 ∷ [])
    ∷ p 42 (alone held release) (0 ∷ [])
    ∷ p 43 (alone off_session register) (5 ∷ [])
    ∷ p 44 (alone ready register) (6 ∷ [])
    ∷ p 45 (alone held register) (0 ∷ [])
    -- an SPI read
    ∷ p 46 (number held short (read 2 2 (replicate 4 0))) (1 ∷ [])
    ∷ p 47 (number held header (read 2 2 (replicate 4 0))) (2 ∷ [])
    ∷ p 48 (number held content (read 2 2 (replicate 4 0))) (3 ∷ [])
    ∷ p 49 (number off_session worked (read 2 2 (replicate 4 0))) (5 ∷ [])
    ∷ p 50 (number held pends (read 2 2 (replicate 4 0))) (5 ∷ [])
    ∷ p 51 (number ready worked (read 2 2 (replicate 4 0))) (6 ∷ [])
    ∷ p 52 (number held worked (read 2 0 (replicate 4 0))) (13 ∷ [])
    ∷ p 53 (number held worked (read 15 2 (replicate 4 0))) (13 ∷ [])
    ∷ p 54 (number held worked (read 2 2 (replicate 3 0))) (4 ∷ [])
    ∷ p 55 (number held worked (read 2 2 (replicate 4 0))) (0 ∷ [])
    -- an SPI write
    ∷ p 56 (number held short (write 2 four_words 14)) (1 ∷ [])
    ∷ p 57 (number held header (write 2 four_words 14)) (2 ∷ [])
    ∷ p 58 (number held content (write 2 four_words 14)) (3 ∷ [])
    ∷ p 59 (number off_session worked (write 2 four_words 14)) (5 ∷ [])
    ∷ p 60 (number held pends (write 2 four_words 14)) (5 ∷ [])
    ∷ p 61 (number ready worked (write 2 four_words 14)) (6 ∷ [])
    ∷ p 62 (number held worked (write 2 (0 ∷ []) 14)) (13 ∷ [])
    ∷ p 63 (number held worked (write 13 four_words 14)) (13 ∷ [])
    ∷ p 64 (number held worked (write 0 (replicate 34 0) 99)) (13 ∷ [])
    ∷ p 65 (number held worked (write 2 four_words 13)) (11 ∷ [])
    ∷ p 66 (number held worked (write 2 four_words 14)) (0 ∷ [])
    ∷ []

pub all-numbers : Hold numbers
unfolding numbers frame_of ask_of release_of register_of read_of write_of power_up_of power_stores layout_of header_good blocks_in content_good rules_hold worked word_at with_word words_bits bits_of crc_of field_at pointer_at heard_of checksum_right checksum5_right crc5_of filled packed checked write_code query0 write3 write16 kill1 kill2 access
all-numbers = (refl, (refl, (refl, (refl, (refl, (refl, (refl, (refl, (refl, (refl, (refl, (refl, (refl, (refl, (refl, (refl, (refl, (refl, (refl, (refl, (refl, (refl, (refl, (refl, (refl, (refl, (refl, (refl, (refl, (refl, (refl, (refl, (refl, (refl, (refl, (refl, (refl, (refl, (refl, (refl, (refl, (refl, (refl, (refl, (refl, (refl, (refl, (refl, (refl, (refl, (refl, (refl, (refl, (refl, (refl, (refl, (refl, (refl, (refl, (refl, (refl, (refl, (refl, (refl, (refl, (refl, (refl, tt)))))))))))))))))))))))))))))))))))))))))))))))))))))))))))))))))))

-- a Lock sets and clears masked bits and leaves the others
pub masked : locked_to 0x2AA 0x0F0 0x0C3 ≡ 0x2CA
unfolding locked_to
masked = refl

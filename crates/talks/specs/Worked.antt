-- A talk computed on the worked image: frames that a depot makes, what the tag answers, and what the depot reads (RULES 12.6 and 12.7).
-- Assumes nothing.
use Rattle.std.specs.Prelude.{ℕ, ◌≡◌, refl, false, [], replicate, None, Some}
use Rattle.bits.specs.Words.{word_at, with_word}
use Rattle.bits.specs.Bits.{field_at, bits_of, words_bits}
use Rattle.crc.specs.Crc.{crc_of}
use Rattle.image.specs.Layout.{layout_of, header_good, blocks_in}
use Rattle.image.specs.Content.{rules_hold, content_good}
use Rattle.image.specs.Worked.{worked}
use Rattle.ebv.specs.Ebv.{pointer_at}
use Rattle.frames.specs.Frames.{heard_of, checksum_right}
use Rattle.replies.specs.Replies.{checked}
use Rattle.replies.specs.Pack.{filled, packed}
use Rattle.rights.specs.Rights.{read_code, write_code}
use Rattle.states.specs.declared.State.TheVariants as state
use Rattle.tag.specs.declared.Session.{Session}
use Rattle.tag.specs.Session.{on, new_flags, clear}
use Rattle.tag.specs.Result.{Result}
use Rattle.tag.specs.Table.{frame_of}
use Rattle.demands.specs.Calls.{tag_of, answer_of}
use Rattle.demands.specs.Calls as tag
use Rattle.demands.specs.Commands.{link}
use Rattle.depot.specs.declared.Place.{Place}
use Rattle.depot.specs.declared.Command.{Command}
use Rattle.depot.specs.declared.Command.TheVariants as command
use Rattle.depot.specs.Making.{Sent, frame_bits, make_of}
use Rattle.readings.specs.Reading.{Told, error, words, done, refused}
use Rattle.depot.specs.Reading.{read_of}

-- a tag in Secured with the handle BEEFh and the cover number 5A5Ah
abbrev session : Session
session =
    on new_flags (state.Secured (link (record { session = 0; q = 0 }) 0xBEEF (Some 0x5A5A) None)) false clear

abbrev user : ℕ → Place
user p = record { bank = 3; pointer = p }

-- a command with this number and the cover number 5A5Ah, sent to it; what it answers, and what is read
abbrev sent : Command → ℕ → Sent
sent o n = make_of o [] n 0x5A5A (replicate 9 0)

abbrev answer : Command → ℕ → Result
answer o n = answer_of (tag_of session worked) (tag.frame (sent o n).room (sent o n).bits 0x1234 (replicate 8 0xAA) 8)

abbrev read : Command → ℕ → Told
read o n = read_of o [] n (answer o n).reply (answer o n).room

pub record Talk : Type 0 where
  -- Write ABCDh to USER 3: stored uncovered
  pub writes : read (command.Write (user 3) 0xABCD) 0xBEEF ≡ done
  pub stored : word_at (answer (command.Write (user 3) 0xABCD) 0xBEEF).image 31 ≡ 0xABCD
  -- USER 6 is 1811h, and there is no USER 16
  pub reads : read (command.Read (user 6) 1) 0xBEEF ≡ words 1 1
  pub shows : field_at (answer (command.Read (user 6) 1) 0xBEEF).room 1 16 ≡ 0x1811
  pub past : read (command.Read (user 16) 1) 0xBEEF ≡ error 0x03
  -- a tag with another handle is silent
  pub other : read (command.Read (user 6) 1) 0xBEEE ≡ refused 8

pub talk : Talk
unfolding make_of frame_bits read_of heard_of checksum_right pointer_at field_at bits_of crc_of checked packed filled words_bits word_at with_word layout_of header_good blocks_in rules_hold content_good frame_of read_code write_code worked
talk = record { writes = refl; stored = refl; reads = refl; shows = refl; past = refl; other = refl }

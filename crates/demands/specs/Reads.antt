-- Reads of the EPC with WordCount 0 (RULES 3.20) and Reads beside them, computed; and what demand 2 asks where stale words follow. Assumes
-- nothing.
use Rattle.std.specs.Prelude.{ℕ, ◌+◌, ◌*◌, ◌≡◌, refl, ◌≢◌, true, List, [], ◌∷◌, ◌++◌, length, replicate, Some}
use Rattle.std.proofs.Common.{ap, ◌∙◌, inl, inr, arith, lit<, lit≤}
use Rattle.bits.specs.Words.{word_at, with_word}
use Rattle.bits.specs.Bits.{field_at, bits_of, words_bits}
use Rattle.bits.specs.Below.{below}
use Rattle.crc.specs.Crc.{crc_of}
use Rattle.ebv.specs.Ebv.{pointer_at}
use Rattle.image.specs.Layout.{layout_of, header_good, blocks_in}
use Rattle.image.specs.Content.{rules_hold, content_good}
use Rattle.image.specs.Check.{check_of}
use Rattle.image.specs.Worked.{bytes_of, worked}
use Rattle.frames.specs.declared.Order.TheVariants as order
use Rattle.frames.specs.Frames.{span, heard_of, checksum_right}
use Rattle.replies.specs.declared.Reply.TheVariants as reply
use Rattle.replies.specs.Pack.{filled, packed}
use Rattle.replies.specs.Replies.{checked, reply_bits}
use Rattle.rights.specs.Rights.{bank_of, read_code}
use Rattle.states.specs.declared.State.TheVariants as state
use Rattle.states.specs.Commands.{plain_link}
use Rattle.tag.specs.Result.{Result}
use Rattle.tag.specs.Table.{frame_of}
use Rattle.demands.specs.Calls.{Program, answer_of, Idle}
use Rattle.demands.specs.Facts.{Readable}
use Rattle.demands.specs.Commands.{Air, End, Says, Enough, Demand2, answers_to}
use Rattle.demands.specs.Terms.{sealed}
use Rattle.demands.specs.Cases.{Case, p, Hold}
use Rattle.demands.specs.Worked.{round, secured}
use Rattle.demands.specs.Empty.{fresh}

-- the worked image with an EPC bank of 8 words: L = 2, and at 4 to 7 what a longer code left
unfoldable pub stale : List ℕ
stale =
    bytes_of
    (7 ∷ 4 ∷ 16 ∷ 2 ∷ 18 ∷ 4 ∷ 22 ∷ 8 ∷ 30 ∷ 2 ∷ 32 ∷ 16 ∷ 48 ∷ 1 ∷ 49 ∷ 33
    ∷ 0 ∷ 0
    ∷ 0x4B49 ∷ 0x4C4C ∷ 0 ∷ 0
    ∷ 0x9297 ∷ 0x1000 ∷ 0x3034 ∷ 0x0257 ∷ 0x0A04 ∷ 0x0A05 ∷ 0x0A06 ∷ 0x0A07
    ∷ 0xE200 ∷ 0x6001
    ∷ 3 ∷ 3 ∷ 6 ∷ 10 ∷ 24 ∷ 57 ∷ 0x1811 ∷ 0 ∷ 0 ∷ 0 ∷ 0 ∷ 0 ∷ 0 ∷ 0 ∷ 0 ∷ 0
    ∷ 0
    ∷ replicate 33 0)

-- and with L = 0; the CRC-16 of a PC 0000h is E2F0h (P2)
abbrev bare : List ℕ
bare = with_word (with_word stale 22 0xE2F0) 23 0

-- Read of n words of bank b from word i on, with the handle 1234h; to an image, with a room of so many bytes
abbrev asks : ℕ → ℕ → ℕ → List ℕ
asks b i n = packed (sealed (bits_of 8 0xC2 ++ bits_of 2 b ++ bits_of 8 i ++ bits_of 8 n ++ bits_of 16 0x1234)) (replicate 8 0)

abbrev reading : ℕ → List ℕ → ℕ → ℕ → ℕ → Air
reading room m b i n = record { image = m; frame = asks b i n; bits = 58; fresh = 0; room = replicate room 0xAA; power = 0 }

-- the answer, the reply's bits and its first k words; of an error its first nine bits
abbrev shown : List ℕ → ℕ → ℕ → ℕ → ℕ → List ℕ
shown m b i n k = let r = answers_to answer_of (reading 24 m b i n) secured in r.number ∷ r.reply ∷ below (λ j. field_at r.room (1 + 16 * j) 16) k

abbrev failed : List ℕ → ℕ → List ℕ
failed m i = let r = answers_to answer_of (reading 24 m 1 i 0) secured in r.number ∷ r.reply ∷ field_at r.room 0 9 ∷ []

unfoldable pub table : List Case
table =
    -- L = 2 in a bank of 4 words
    p 1 (shown worked 1 0 0 4) (0 ∷ 97 ∷ 0x9297 ∷ 0x1000 ∷ 0x3034 ∷ 0x0257 ∷ [])
    ∷ p 2 (shown worked 1 1 0 3) (0 ∷ 81 ∷ 0x1000 ∷ 0x3034 ∷ 0x0257 ∷ [])
    ∷ p 3 (shown worked 1 2 0 2) (0 ∷ 65 ∷ 0x3034 ∷ 0x0257 ∷ [])
    ∷ p 4 (shown worked 1 3 0 1) (0 ∷ 49 ∷ 0x0257 ∷ [])
    ∷ p 5 (failed worked 4) (10 ∷ 41 ∷ 0x103 ∷ [])
    -- L = 2 in a bank of 8
    ∷ p 6 (shown stale 1 0 0 4) (0 ∷ 97 ∷ 0x9297 ∷ 0x1000 ∷ 0x3034 ∷ 0x0257 ∷ [])
    ∷ p 7 (shown stale 1 3 0 1) (0 ∷ 49 ∷ 0x0257 ∷ [])
    ∷ p 8 (shown stale 1 4 0 4) (0 ∷ 97 ∷ 0x0A04 ∷ 0x0A05 ∷ 0x0A06 ∷ 0x0A07 ∷ [])
    ∷ p 9 (shown stale 1 7 0 1) (0 ∷ 49 ∷ 0x0A07 ∷ [])
    ∷ p 10 (failed stale 8) (10 ∷ 41 ∷ 0x103 ∷ [])
    -- L = 0 in a bank of 8
    ∷ p 11 (shown bare 1 0 0 2) (0 ∷ 65 ∷ 0xE2F0 ∷ 0x0000 ∷ [])
    ∷ p 12 (shown bare 1 1 0 1) (0 ∷ 49 ∷ 0x0000 ∷ [])
    ∷ p 13 (shown bare 1 2 0 6) (0 ∷ 129 ∷ 0x3034 ∷ 0x0257 ∷ 0x0A04 ∷ 0x0A05 ∷ 0x0A06 ∷ 0x0A07 ∷ [])
    ∷ p 14 (failed bare 8) (10 ∷ 41 ∷ 0x103 ∷ [])
    -- a room for the words shown, and a byte less
    ∷ p 15 ((answers_to answer_of (reading 13 stale 1 0 0) secured).number ∷ []) (0 ∷ [])
    ∷ p 16 ((answers_to answer_of (reading 12 stale 1 0 0) secured).number ∷ []) (4 ∷ [])
    -- a count; the other banks
    ∷ p 17 (shown stale 1 2 3 3) (0 ∷ 81 ∷ 0x3034 ∷ 0x0257 ∷ 0x0A04 ∷ [])
    ∷ p 18 (shown bare 0 0 0 4) (0 ∷ 97 ∷ 0x4B49 ∷ 0x4C4C ∷ 0x0000 ∷ 0x0000 ∷ [])
    ∷ p 19 (shown bare 2 1 0 1) (0 ∷ 49 ∷ 0x6001 ∷ [])
    ∷ p 20 (shown stale 3 14 0 2) (0 ∷ 65 ∷ 0x0000 ∷ 0x0000 ∷ [])
    ∷ []

pub cases : Hold table
unfolding table frame_of layout_of header_good blocks_in content_good rules_hold worked stale word_at with_word words_bits bits_of crc_of field_at pointer_at heard_of checksum_right filled packed checked read_code
cases = (refl, (refl, (refl, (refl, (refl, (refl, (refl, (refl, (refl, (refl, (refl, (refl, (refl, (refl, (refl, (refl, (refl, (refl, (refl, (refl, tt))))))))))))))))))))

-- a Read of the EPC from word 0 on with WordCount 0, where stale words stand behind word L + 1
abbrev pub long_read : Air
long_read = reading 24 stale 1 0 0

-- what demand 2 asks of any program there: four words and no stale one
abbrev ends : End
ends = record { state = state.Secured (plain_link round 0x1234); reply = reply.Words ((bank_of (layout_of stale) 1).at + 0) 4 0x1234; words = [] }

-- EPC is not RESERVED
epc : ◌≢◌ {A = ℕ} 1 0
epc e = omega (arith, e)

record Met : Type 0 where
  idle : Idle (layout_of stale) stale
  says : Says long_read 0x1234 (order.Read (span 1 0 0))
  readable : Readable (layout_of stale) stale true 1 0 0 4
  enough : Enough (layout_of stale) long_read ends
  four : length (reply_bits stale ends.reply) ≡ 97

met : Met
unfolding check_of layout_of header_good blocks_in content_good rules_hold stale word_at with_word words_bits bits_of crc_of field_at pointer_at heard_of checksum_right filled packed checked
met =
    record {
      idle = record { sound = refl; nothing = refl };
      says = refl;
      readable = record { within = (lit< tt, lit≤ tt); shows = inr (refl, inl (refl, lit< tt, refl)); right = λ j l. inl epc };
      enough = (lit≤ tt, lit≤ tt);
      four = refl;
    }

pub must-stop : (A : Program) → Demand2 A → (answers_to A long_read secured).reply ≡ 97
must-stop A d =
    ap (λ (r : Result). r.reply)
    ((d.radio (layout_of stale) long_read fresh round met.idle).read true 0x1234 (Some 0x5A5A) 1 0 0 4 met.readable met.says met.enough)
    ∙ met.four

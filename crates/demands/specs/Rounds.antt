-- Inventory on the worked image, computed (RULES 11): Query, QueryRep, QueryAdjust, ACK and Select in every state that hears them, at their
-- edges, and two wrong answers of each that the promises rule out. Assumes nothing.
use Rattle.std.specs.Prelude.{ℕ, ◌≡◌, refl, Bool, true, false, List, [], ◌∷◌, replicate, None, Some}
use Rattle.std.proofs.Common.{sym, ap, ◌∙◌, arith}
use Rattle.bits.specs.Words.{word_at, with_word}
use Rattle.bits.specs.Bits.{field_at, bits_of, words_bits, alike}
use Rattle.crc.specs.Crc.{crc_of}
use Rattle.crc.specs.Crc5.{crc5_of}
use Rattle.ebv.specs.Ebv.{pointer_at}
use Rattle.image.specs.Layout.{layout_of, header_good, blocks_in}
use Rattle.image.specs.Content.{rules_hold, content_good}
use Rattle.image.specs.Worked.{worked}
use Rattle.frames.specs.declared.Round.{Round}
use Rattle.frames.specs.Frames.{heard_of, checksum_right, checksum5_right}
use Rattle.replies.specs.Pack.{filled, packed}
use Rattle.replies.specs.Replies.{checked}
use Rattle.stores.specs.Stores.{change_stores}
use Rattle.states.specs.declared.Flags.{Flags}
use Rattle.states.specs.declared.Half.TheVariants as half
use Rattle.states.specs.declared.Link.{Link}
use Rattle.states.specs.declared.State.{State}
use Rattle.states.specs.declared.State.TheVariants as state
use Rattle.states.specs.Commands.{plain_link, link_of, slot_of, state_number}
use Rattle.states.specs.Inventory.{flag_at, with_flag, selects}
use Rattle.tag.specs.declared.Session.{Session}
use Rattle.tag.specs.Session.{on, new_flags, clear}
use Rattle.tag.specs.Result.{Result, first_of, leaves}
use Rattle.tag.specs.Table.{live_of, frame_of}
use Rattle.tag.specs.Port.{bit_of}
use Rattle.tag.specs.Steps.{input, gives}
use Rattle.demands.specs.Cases.{Case, p, Hold}
use Rattle.demands.specs.Worked.{query0, round}

-- FRAMES. Query of session 2, target A, with Q = 2; with Q = 0 target B, and target A for tags whose SL is deasserted, or asserted; of session 1
unfoldable pub query2 : List ℕ
query2 = 0x80 ∷ 0x21 ∷ 0x34 ∷ []

unfoldable pub query_b : List ℕ
query_b = 0x80 ∷ 0x28 ∷ 0x08 ∷ []

unfoldable pub query_free : List ℕ
query_free = 0x80 ∷ 0xA0 ∷ 0x28 ∷ []

unfoldable pub query_selected : List ℕ
query_selected = 0x80 ∷ 0xE0 ∷ 0x50 ∷ []

unfoldable pub query_other : List ℕ
query_other = 0x80 ∷ 0x10 ∷ 0x0C ∷ []

-- Query with Q = 0: its CRC-5 wrong in the last bit; and one with DR, M and TRext set
unfoldable pub query_wrong : List ℕ
query_wrong = 0x80 ∷ 0x20 ∷ 0x78 ∷ []

unfoldable pub query_link : List ℕ
query_link = 0x8F ∷ 0x20 ∷ 0x38 ∷ []

-- QueryRep of sessions 2 and 1; QueryAdjust of session 2 by UpDn 110, 000, 011 and 001, and of session 1
unfoldable pub rep : List ℕ
rep = 0x20 ∷ []

unfoldable pub rep_other : List ℕ
rep_other = 0x10 ∷ []

unfoldable pub up : List ℕ
up = 0x9B ∷ 0x00 ∷ []

unfoldable pub same : List ℕ
same = 0x98 ∷ 0x00 ∷ []

unfoldable pub down : List ℕ
down = 0x99 ∷ 0x80 ∷ []

unfoldable pub nothing : List ℕ
nothing = 0x98 ∷ 0x80 ∷ []

unfoldable pub up_other : List ℕ
up_other = 0x97 ∷ 0x00 ∷ []

-- ACK with BEEFh, BEEEh and 1234h
unfoldable pub ack_beef : List ℕ
ack_beef = 0x6F ∷ 0xBB ∷ 0xC0 ∷ []

unfoldable pub ack_beee : List ℕ
ack_beee = 0x6F ∷ 0xBB ∷ 0x80 ∷ []

unfoldable pub ack1234 : List ℕ
ack1234 = 0x44 ∷ 0x8D ∷ 0x00 ∷ []

-- Select of SL, action 000: 30340257h from bit 32 of EPC on, and 30340256h
unfoldable pub select_epc : List ℕ
select_epc = 0xA8 ∷ 0x12 ∷ 0x02 ∷ 0x03 ∷ 0x03 ∷ 0x40 ∷ 0x25 ∷ 0x75 ∷ 0x45 ∷ 0x48 ∷ []

unfoldable pub select_epc_other : List ℕ
select_epc_other = 0xA8 ∷ 0x12 ∷ 0x02 ∷ 0x03 ∷ 0x03 ∷ 0x40 ∷ 0x25 ∷ 0x64 ∷ 0x47 ∷ 0x58 ∷ []

-- E200h from bit 0 of TID on, 0003h from bit 0 of USER on
unfoldable pub select_tid : List ℕ
select_tid = 0xA8 ∷ 0x20 ∷ 0x01 ∷ 0x0E ∷ 0x20 ∷ 0x02 ∷ 0x2E ∷ 0xC0 ∷ []

unfoldable pub select_user : List ℕ
select_user = 0xA8 ∷ 0x30 ∷ 0x01 ∷ 0x00 ∷ 0x00 ∷ 0x34 ∷ 0x61 ∷ 0xE8 ∷ []

-- 17 bits from bit 48 of EPC on, its last 16 and the first bit of TID behind it; no bits at bit 64, EPC's end, and at bit 63
unfoldable pub past_end : List ℕ
past_end = 0xA8 ∷ 0x13 ∷ 0x01 ∷ 0x10 ∷ 0x25 ∷ 0x7A ∷ 0xD4 ∷ 0x74 ∷ []

unfoldable pub at_end : List ℕ
at_end = 0xA8 ∷ 0x14 ∷ 0x00 ∷ 0x01 ∷ 0xEB ∷ 0xE8 ∷ []

unfoldable pub before_end : List ℕ
before_end = 0xA8 ∷ 0x13 ∷ 0xF0 ∷ 0x00 ∷ 0x6D ∷ 0x98 ∷ []

-- target 5; bank 0; a set truncate bit
unfoldable pub select_no_flag : List ℕ
select_no_flag = 0xAA ∷ 0x12 ∷ 0x02 ∷ 0x03 ∷ 0x03 ∷ 0x40 ∷ 0x25 ∷ 0x73 ∷ 0xAA ∷ 0x28 ∷ []

unfoldable pub select_no_bank : List ℕ
select_no_bank = 0xA8 ∷ 0x02 ∷ 0x00 ∷ 0x40 ∷ 0x3A ∷ 0x3E ∷ 0x00 ∷ []

unfoldable pub truncates : List ℕ
truncates = 0xA8 ∷ 0x12 ∷ 0x02 ∷ 0x03 ∷ 0x03 ∷ 0x40 ∷ 0x25 ∷ 0x7D ∷ 0xC4 ∷ 0x40 ∷ []

-- SESSIONS with these flags, the port free and the register clear; S2 at B; SL asserted
abbrev awake_in : Flags → State → Session
awake_in f st = on f st false clear

abbrev s2_b : Flags
s2_b = with_flag new_flags 2 true

abbrev asserted : Flags
asserted = with_flag new_flags 4 true

-- rounds of session 2, and of session 1 with Q = 0
abbrev in_s2 : ℕ → Round
in_s2 q = record { session = 2; q = q }

abbrev in_s1 : Round
in_s1 = record { session = 1; q = 0 }

-- every flag A and SL deasserted: Ready; Arbitrate, Reply and Acknowledged in a round of session 2 with Q = 4; Open, and Secured with a
-- cover number, both with the handle 1234h; Killed
abbrev ready : Session
ready = awake_in new_flags state.Ready

abbrev slotted : ℕ → Session
slotted k = awake_in new_flags (state.Arbitrate round k)

abbrev replied : Session
replied = awake_in new_flags (state.Reply round 0xBEEF)

abbrev acknowledged : Session
acknowledged = awake_in new_flags (state.Acknowledged round 0xBEEF)

abbrev covered : Link
covered = record { round = round; handle = 0x1234; cover = Some 0x5A5A; half = None }

abbrev halfway : Link
halfway = record { round = round; handle = 0x1234; cover = Some 0x5A5A; half = Some (half.Access 0) }

abbrev opened : Session
opened = awake_in new_flags (state.Open (plain_link round 0x1234))

abbrev secured : Link → Session
secured k = awake_in new_flags (state.Secured k)

abbrev killed : Session
killed = awake_in new_flags state.Killed

-- a frame of n bits with the fresh word, to the worked image and to another; the room is 9 bytes
abbrev blank : List ℕ
blank = replicate 9 0xAA

abbrev sent_to : List ℕ → Session → List ℕ → ℕ → ℕ → Result
sent_to m s f n fresh = first_of (frame_of change_stores (input s m f n fresh blank 0))

abbrev sent : Session → List ℕ → ℕ → ℕ → Result
sent s f n fresh = sent_to worked s f n fresh

-- an answer without a reply; the fresh word as reply, 16 bits, and so with BEEFh where Q is 0; PC, EPC and their CRC-16
abbrev silent : ℕ → Session → Result
silent n s = leaves n s worked blank

abbrev drawing : Session → ℕ → ℕ → Result
drawing s high low = gives 0 s 16 0 worked (high ∷ low ∷ replicate 7 0xAA)

abbrev replying : Flags → Result
replying f = drawing (awake_in f (state.Reply (in_s2 0) 0xBEEF)) 0xBE 0xEF

abbrev epc : List ℕ
epc = 0x10 ∷ 0x00 ∷ 0x30 ∷ 0x34 ∷ 0x02 ∷ 0x57 ∷ 0x92 ∷ 0x97 ∷ 0xAA ∷ []

abbrev showing : Session → Result
showing s = gives 0 s 64 0 worked epc

-- Query: the slot is the low Q bits of the fresh word; slot 0 replies; a tag that does not match is Ready
pub record Queries : Type 0 where
  pub waits : sent ready query2 22 0xBEEF ≡ silent 0 (awake_in new_flags (state.Arbitrate (in_s2 2) 3))
  pub replies : sent ready query0 22 0xBEEF ≡ replying new_flags
  pub low : sent ready query2 22 0xBEEC ≡ drawing (awake_in new_flags (state.Reply (in_s2 2) 0xBEEC)) 0xBE 0xEC
  pub link : sent ready query_link 22 0xBEEF ≡ replying new_flags
  pub passes : sent ready query_b 22 0xBEEF ≡ silent 0 ready
  pub leaves_slot : sent (slotted 3) query_b 22 0xBEEF ≡ silent 0 ready
  pub anew : sent replied query2 22 0xBEEF ≡ silent 0 (awake_in new_flags (state.Arbitrate (in_s2 2) 3))
  -- Sel 10 and 11, with SL deasserted and asserted
  pub free : sent ready query_free 22 0xBEEF ≡ replying new_flags
  pub free_not : sent (awake_in asserted state.Ready) query_free 22 0xBEEF ≡ silent 0 (awake_in asserted state.Ready)
  pub selected : sent (awake_in asserted state.Ready) query_selected 22 0xBEEF ≡ replying asserted
  pub selected_not : sent ready query_selected 22 0xBEEF ≡ silent 0 ready
  -- in Acknowledged, Open and Secured the flag of the round's session is inverted first, and then matched
  pub inverts : sent acknowledged query0 22 0xBEEF ≡ silent 0 (awake_in s2_b state.Ready)
  pub inverts_matching : sent acknowledged query_b 22 0xBEEF ≡ replying s2_b
  pub inverts_open : sent opened query_b 22 0xBEEF ≡ replying s2_b
  pub inverts_halfway : sent (secured halfway) query_b 22 0xBEEF ≡ replying s2_b
  pub back : sent (awake_in s2_b (state.Acknowledged round 0xBEEF)) query0 22 0xBEEF ≡ replying new_flags
  -- no flag moves in another session, or before an ACK
  pub other : sent acknowledged query_other 22 0xBEEF ≡ drawing (awake_in new_flags (state.Reply in_s1 0xBEEF)) 0xBE 0xEF
  pub before : sent replied query0 22 0x1234 ≡ drawing (awake_in new_flags (state.Reply (in_s2 0) 0x1234)) 0x12 0x34
  pub dead : sent killed query0 22 0xBEEF ≡ silent 9 killed

pub queries : Queries
unfolding frame_of layout_of header_good blocks_in content_good rules_hold worked word_at with_word words_bits bits_of crc_of crc5_of field_at pointer_at heard_of checksum_right checksum5_right filled packed checked alike selects query0 query2 query_b query_free query_selected query_other query_link
queries = record { waits = refl; replies = refl; low = refl; link = refl; passes = refl; leaves_slot = refl; anew = refl; free = refl; free_not = refl; selected = refl; selected_not = refl; inverts = refl; inverts_matching = refl; inverts_open = refl; inverts_halfway = refl; back = refl; other = refl; before = refl; dead = refl }

-- QueryRep: the slot counts down, 0 to 7FFFh; from Acknowledged on the flag is inverted, and the state Ready
pub record Repeats : Type 0 where
  pub three : sent (slotted 3) rep 4 0xBEEF ≡ silent 0 (slotted 2)
  pub two : sent (slotted 2) rep 4 0xBEEF ≡ silent 0 (slotted 1)
  pub one : sent (slotted 1) rep 4 0xBEEF ≡ drawing replied 0xBE 0xEF
  pub zero : sent (slotted 0) rep 4 0xBEEF ≡ silent 0 (slotted 0x7FFF)
  pub reply : sent replied rep 4 0x1234 ≡ silent 0 (slotted 0x7FFF)
  pub acknowledges : sent acknowledged rep 4 0x1234 ≡ silent 0 (awake_in s2_b state.Ready)
  pub back : sent (awake_in s2_b (state.Acknowledged round 0xBEEF)) rep 4 0x1234 ≡ silent 0 ready
  pub in_open : sent opened rep 4 0x1234 ≡ silent 0 (awake_in s2_b state.Ready)
  pub secures : sent (secured covered) rep 4 0x1234 ≡ silent 0 (awake_in s2_b state.Ready)
  pub between : sent (secured halfway) rep 4 0x1234 ≡ silent 0 (awake_in s2_b state.Ready)
  pub other : sent (slotted 3) rep_other 4 0xBEEF ≡ silent 9 (slotted 3)
  pub other_linked : sent (secured covered) rep_other 4 0xBEEF ≡ silent 9 (secured covered)
  pub early : sent ready rep 4 0xBEEF ≡ silent 9 ready
  pub dead : sent killed rep 4 0xBEEF ≡ silent 9 killed

pub repeats : Repeats
unfolding frame_of layout_of header_good blocks_in content_good rules_hold worked word_at with_word words_bits bits_of crc_of crc5_of field_at pointer_at heard_of checksum_right checksum5_right filled packed checked alike selects rep rep_other
repeats = record { three = refl; two = refl; one = refl; zero = refl; reply = refl; acknowledges = refl; back = refl; in_open = refl; secures = refl; between = refl; other = refl; other_linked = refl; early = refl; dead = refl }

-- QueryAdjust: Q one more, the same or one less, and the slot drawn anew
pub record Adjusts : Type 0 where
  pub more : sent (slotted 3) up 9 0xBEEF ≡ silent 0 (awake_in new_flags (state.Arbitrate (in_s2 5) 0x0F))
  pub as_it_is : sent (slotted 3) same 9 0xBEE5 ≡ silent 0 (slotted 5)
  pub less : sent (slotted 3) down 9 0xBEEF ≡ silent 0 (awake_in new_flags (state.Arbitrate (in_s2 3) 7))
  pub fifteen : sent (awake_in new_flags (state.Arbitrate (in_s2 15) 3)) up 9 0xBEEF ≡ silent 0 (awake_in new_flags (state.Arbitrate (in_s2 15) 0x3EEF))
  pub none : sent (awake_in new_flags (state.Arbitrate (in_s2 0) 0x7FFF)) down 9 0xBEEF ≡ replying new_flags
  pub replies : sent (slotted 3) same 9 0xBEE0 ≡ drawing (awake_in new_flags (state.Reply round 0xBEE0)) 0xBE 0xE0
  pub reply : sent replied up 9 0x1234 ≡ silent 0 (awake_in new_flags (state.Arbitrate (in_s2 5) 0x14))
  pub acknowledges : sent acknowledged up 9 0x1234 ≡ silent 0 (awake_in s2_b state.Ready)
  pub in_open : sent opened same 9 0x1234 ≡ silent 0 (awake_in s2_b state.Ready)
  pub secures : sent (secured covered) down 9 0x1234 ≡ silent 0 (awake_in s2_b state.Ready)
  pub other : sent (slotted 3) up_other 9 0xBEEF ≡ silent 9 (slotted 3)
  pub says_nothing : sent (slotted 3) nothing 9 0xBEEF ≡ silent 9 (slotted 3)
  pub nothing_linked : sent (secured covered) nothing 9 0xBEEF ≡ silent 9 (secured covered)
  pub early : sent ready up 9 0xBEEF ≡ silent 9 ready
  pub dead : sent killed up 9 0xBEEF ≡ silent 9 killed

pub adjusts : Adjusts
unfolding frame_of layout_of header_good blocks_in content_good rules_hold worked word_at with_word words_bits bits_of crc_of crc5_of field_at pointer_at heard_of checksum_right checksum5_right filled packed checked alike selects up same down nothing up_other
adjusts = record { more = refl; as_it_is = refl; less = refl; fifteen = refl; none = refl; replies = refl; reply = refl; acknowledges = refl; in_open = refl; secures = refl; other = refl; says_nothing = refl; nothing_linked = refl; early = refl; dead = refl }

-- the worked image with another word where the CRC-16 stands
abbrev stale : List ℕ
stale = with_word worked 22 0xFFFF

-- ACK: PC, EPC and their CRC-16; a wrong number leads to Arbitrate with slot 0
pub record Acks : Type 0 where
  pub first : sent replied ack_beef 18 0x5678 ≡ showing acknowledged
  pub again : sent acknowledged ack_beef 18 0x5678 ≡ showing acknowledged
  pub in_open : sent opened ack1234 18 0x5678 ≡ showing opened
  pub cover : sent (secured covered) ack1234 18 0x5678 ≡ showing (secured (plain_link round 0x1234))
  pub renewed : sent_to stale replied ack_beef 18 0x5678 ≡ gives 0 acknowledged 64 0 stale epc
  pub wrong : sent replied ack_beee 18 0x5678 ≡ silent 0 (slotted 0)
  pub wrong_again : sent acknowledged ack1234 18 0x5678 ≡ silent 0 (slotted 0)
  pub wrong_handle : sent (secured covered) ack_beef 18 0x5678 ≡ silent 0 (slotted 0)
  pub wrong_halfway : sent (secured halfway) ack_beef 18 0x5678 ≡ silent 0 (slotted 0)
  pub between : sent (secured halfway) ack1234 18 0x5678 ≡ silent 14 (slotted 0)
  pub early : sent ready ack_beef 18 0x5678 ≡ silent 9 ready
  pub waiting : sent (slotted 0) ack_beef 18 0x5678 ≡ silent 9 (slotted 0)
  pub dead : sent killed ack_beef 18 0x5678 ≡ silent 9 killed
  pub room : first_of (frame_of change_stores (input replied worked ack_beef 18 0x5678 (replicate 7 0xAA) 0)) ≡ leaves 4 replied worked (replicate 7 0xAA)

pub acks : Acks
unfolding frame_of layout_of header_good blocks_in content_good rules_hold worked word_at with_word words_bits bits_of crc_of crc5_of field_at pointer_at heard_of checksum_right checksum5_right filled packed checked alike selects ack_beef ack_beee ack1234
acks = record { first = refl; again = refl; in_open = refl; cover = refl; renewed = refl; wrong = refl; wrong_again = refl; wrong_handle = refl; wrong_halfway = refl; between = refl; early = refl; waiting = refl; dead = refl; room = refl }

-- Select: the mask and the bits of the bank, all within it; then Ready
pub record Selects : Type 0 where
  pub epc_bits : sent ready select_epc 77 0 ≡ silent 0 (awake_in asserted state.Ready)
  pub epc_other : sent (awake_in asserted state.Ready) select_epc_other 77 0 ≡ silent 0 ready
  pub tid_bits : sent ready select_tid 61 0 ≡ silent 0 (awake_in asserted state.Ready)
  pub user_bits : sent ready select_user 61 0 ≡ silent 0 (awake_in asserted state.Ready)
  pub past : sent (awake_in asserted state.Ready) past_end 62 0 ≡ silent 0 ready
  pub end : sent (awake_in asserted state.Ready) at_end 45 0 ≡ silent 0 ready
  pub before : sent ready before_end 45 0 ≡ silent 0 (awake_in asserted state.Ready)
  -- in every state but Killed
  pub slot : sent (slotted 3) select_epc 77 0 ≡ silent 0 (awake_in asserted state.Ready)
  pub reply : sent replied select_epc_other 77 0 ≡ silent 0 ready
  pub in_open : sent opened before_end 45 0 ≡ silent 0 (awake_in asserted state.Ready)
  pub acknowledges : sent acknowledged select_epc_other 77 0 ≡ silent 0 ready
  pub between : sent (secured halfway) before_end 45 0 ≡ silent 0 (awake_in asserted state.Ready)
  pub dead : sent killed select_epc 77 0 ≡ silent 9 killed
  -- 9: no such flag, no bank, a set truncate bit
  pub no_flag : sent (secured covered) select_no_flag 77 0 ≡ silent 9 (secured covered)
  pub no_bank : sent (slotted 3) select_no_bank 49 0 ≡ silent 9 (slotted 3)
  pub truncate : sent ready truncates 77 0 ≡ silent 9 ready

pub selects-cases : Selects
unfolding frame_of layout_of header_good blocks_in content_good rules_hold worked word_at with_word words_bits bits_of crc_of crc5_of field_at pointer_at heard_of checksum_right checksum5_right filled packed checked alike selects select_epc select_epc_other select_tid select_user past_end at_end before_end select_no_flag select_no_bank truncates
selects-cases = record { epc_bits = refl; epc_other = refl; tid_bits = refl; user_bits = refl; past = refl; end = refl; before = refl; slot = refl; reply = refl; in_open = refl; acknowledges = refl; between = refl; dead = refl; no_flag = refl; no_bank = refl; truncate = refl }

-- each action on SL and on S2, of a Select that matches (bit 34 of EPC is 1) and of one that does not (0): what becomes of the flag, where it
-- was deasserted or A (0) and where it was asserted or B (1)
abbrev flagged : ℕ → List ℕ → List ℕ
flagged t f = after false ∷ after true ∷ []
  where
    after : Bool → ℕ
    after b = bit_of (flag_at (live_of (sent (awake_in (with_flag new_flags t b) state.Ready) f 46 0).session.power).flags t)

pub sl-actions : List Case
sl-actions =
    -- SL, matching
    p 0 (flagged 4 (0xA8 ∷ 0x12 ∷ 0x20 ∷ 0x1A ∷ 0xBC ∷ 0x74 ∷ [])) (1 ∷ 1 ∷ [])
    ∷ p 1 (flagged 4 (0xA8 ∷ 0x52 ∷ 0x20 ∷ 0x1B ∷ 0xB1 ∷ 0xF8 ∷ [])) (1 ∷ 1 ∷ [])
    ∷ p 2 (flagged 4 (0xA8 ∷ 0x92 ∷ 0x20 ∷ 0x18 ∷ 0xA7 ∷ 0x6C ∷ [])) (0 ∷ 1 ∷ [])
    ∷ p 3 (flagged 4 (0xA8 ∷ 0xD2 ∷ 0x20 ∷ 0x19 ∷ 0xAA ∷ 0xE0 ∷ [])) (1 ∷ 0 ∷ [])
    ∷ p 4 (flagged 4 (0xA9 ∷ 0x12 ∷ 0x20 ∷ 0x1A ∷ 0xCA ∷ 0xC0 ∷ [])) (0 ∷ 0 ∷ [])
    ∷ p 5 (flagged 4 (0xA9 ∷ 0x52 ∷ 0x20 ∷ 0x1B ∷ 0xC7 ∷ 0x4C ∷ [])) (0 ∷ 0 ∷ [])
    ∷ p 6 (flagged 4 (0xA9 ∷ 0x92 ∷ 0x20 ∷ 0x18 ∷ 0xD1 ∷ 0xD8 ∷ [])) (0 ∷ 1 ∷ [])
    ∷ p 7 (flagged 4 (0xA9 ∷ 0xD2 ∷ 0x20 ∷ 0x19 ∷ 0xDC ∷ 0x54 ∷ [])) (0 ∷ 1 ∷ [])
    -- SL, not matching
    ∷ p 0 (flagged 4 (0xA8 ∷ 0x12 ∷ 0x20 ∷ 0x12 ∷ 0x3D ∷ 0x7C ∷ [])) (0 ∷ 0 ∷ [])
    ∷ p 1 (flagged 4 (0xA8 ∷ 0x52 ∷ 0x20 ∷ 0x13 ∷ 0x30 ∷ 0xF0 ∷ [])) (0 ∷ 1 ∷ [])
    ∷ p 2 (flagged 4 (0xA8 ∷ 0x92 ∷ 0x20 ∷ 0x10 ∷ 0x26 ∷ 0x64 ∷ [])) (0 ∷ 0 ∷ [])
    ∷ p 3 (flagged 4 (0xA8 ∷ 0xD2 ∷ 0x20 ∷ 0x11 ∷ 0x2B ∷ 0xE8 ∷ [])) (0 ∷ 1 ∷ [])
    ∷ p 4 (flagged 4 (0xA9 ∷ 0x12 ∷ 0x20 ∷ 0x12 ∷ 0x4B ∷ 0xC8 ∷ [])) (1 ∷ 1 ∷ [])
    ∷ p 5 (flagged 4 (0xA9 ∷ 0x52 ∷ 0x20 ∷ 0x13 ∷ 0x46 ∷ 0x44 ∷ [])) (0 ∷ 1 ∷ [])
    ∷ p 6 (flagged 4 (0xA9 ∷ 0x92 ∷ 0x20 ∷ 0x10 ∷ 0x50 ∷ 0xD0 ∷ [])) (1 ∷ 1 ∷ [])
    ∷ p 7 (flagged 4 (0xA9 ∷ 0xD2 ∷ 0x20 ∷ 0x11 ∷ 0x5D ∷ 0x5C ∷ [])) (1 ∷ 0 ∷ [])
    ∷ []

pub on-sl : Hold sl-actions
unfolding frame_of layout_of header_good blocks_in content_good rules_hold worked word_at with_word words_bits bits_of crc_of crc5_of field_at pointer_at heard_of checksum_right checksum5_right filled packed checked alike selects sl-actions
on-sl = (refl, (refl, (refl, (refl, (refl, (refl, (refl, (refl, (refl, (refl, (refl, (refl, (refl, (refl, (refl, (refl, tt))))))))))))))))

pub s2-actions : List Case
s2-actions =
    -- S2, matching
    p 0 (flagged 2 (0xA4 ∷ 0x12 ∷ 0x20 ∷ 0x18 ∷ 0xD3 ∷ 0x04 ∷ [])) (0 ∷ 0 ∷ [])
    ∷ p 1 (flagged 2 (0xA4 ∷ 0x52 ∷ 0x20 ∷ 0x19 ∷ 0xDE ∷ 0x88 ∷ [])) (0 ∷ 0 ∷ [])
    ∷ p 2 (flagged 2 (0xA4 ∷ 0x92 ∷ 0x20 ∷ 0x1A ∷ 0xC8 ∷ 0x1C ∷ [])) (0 ∷ 1 ∷ [])
    ∷ p 3 (flagged 2 (0xA4 ∷ 0xD2 ∷ 0x20 ∷ 0x1B ∷ 0xC5 ∷ 0x90 ∷ [])) (1 ∷ 0 ∷ [])
    ∷ p 4 (flagged 2 (0xA5 ∷ 0x12 ∷ 0x20 ∷ 0x18 ∷ 0xA5 ∷ 0xB0 ∷ [])) (1 ∷ 1 ∷ [])
    ∷ p 5 (flagged 2 (0xA5 ∷ 0x52 ∷ 0x20 ∷ 0x19 ∷ 0xA8 ∷ 0x3C ∷ [])) (1 ∷ 1 ∷ [])
    ∷ p 6 (flagged 2 (0xA5 ∷ 0x92 ∷ 0x20 ∷ 0x1A ∷ 0xBE ∷ 0xA8 ∷ [])) (0 ∷ 1 ∷ [])
    ∷ p 7 (flagged 2 (0xA5 ∷ 0xD2 ∷ 0x20 ∷ 0x1B ∷ 0xB3 ∷ 0x24 ∷ [])) (0 ∷ 1 ∷ [])
    -- S2, not matching
    ∷ p 0 (flagged 2 (0xA4 ∷ 0x12 ∷ 0x20 ∷ 0x10 ∷ 0x52 ∷ 0x0C ∷ [])) (1 ∷ 1 ∷ [])
    ∷ p 1 (flagged 2 (0xA4 ∷ 0x52 ∷ 0x20 ∷ 0x11 ∷ 0x5F ∷ 0x80 ∷ [])) (0 ∷ 1 ∷ [])
    ∷ p 2 (flagged 2 (0xA4 ∷ 0x92 ∷ 0x20 ∷ 0x12 ∷ 0x49 ∷ 0x14 ∷ [])) (1 ∷ 1 ∷ [])
    ∷ p 3 (flagged 2 (0xA4 ∷ 0xD2 ∷ 0x20 ∷ 0x13 ∷ 0x44 ∷ 0x98 ∷ [])) (0 ∷ 1 ∷ [])
    ∷ p 4 (flagged 2 (0xA5 ∷ 0x12 ∷ 0x20 ∷ 0x10 ∷ 0x24 ∷ 0xB8 ∷ [])) (0 ∷ 0 ∷ [])
    ∷ p 5 (flagged 2 (0xA5 ∷ 0x52 ∷ 0x20 ∷ 0x11 ∷ 0x29 ∷ 0x34 ∷ [])) (0 ∷ 1 ∷ [])
    ∷ p 6 (flagged 2 (0xA5 ∷ 0x92 ∷ 0x20 ∷ 0x12 ∷ 0x3F ∷ 0xA0 ∷ [])) (0 ∷ 0 ∷ [])
    ∷ p 7 (flagged 2 (0xA5 ∷ 0xD2 ∷ 0x20 ∷ 0x13 ∷ 0x32 ∷ 0x2C ∷ [])) (1 ∷ 0 ∷ [])
    ∷ []

pub on-s2 : Hold s2-actions
unfolding frame_of layout_of header_good blocks_in content_good rules_hold worked word_at with_word words_bits bits_of crc_of crc5_of field_at pointer_at heard_of checksum_right checksum5_right filled packed checked alike selects s2-actions
on-s2 = (refl, (refl, (refl, (refl, (refl, (refl, (refl, (refl, (refl, (refl, (refl, (refl, (refl, (refl, (refl, (refl, tt))))))))))))))))

-- a room of one byte
abbrev tight : Session → List ℕ → ℕ → Result
tight s f n = first_of (frame_of change_stores (input s worked f n 0xBEEF (0xAA ∷ []) 0))

-- frames of other lengths are 7, a wrong CRC-5 is 8, a reply that does not fit is 4: everything stays; and NAK
pub record Edges : Type 0 where
  pub query_21 : sent acknowledged query0 21 0xBEEF ≡ silent 7 acknowledged
  pub query_23 : sent acknowledged query0 23 0xBEEF ≡ silent 7 acknowledged
  pub bits_0 : sent (slotted 1) [] 0 0xBEEF ≡ silent 7 (slotted 1)
  pub bits_1 : sent (slotted 1) rep 1 0xBEEF ≡ silent 7 (slotted 1)
  pub bits_2 : sent (slotted 1) rep 2 0xBEEF ≡ silent 7 (slotted 1)
  pub bits_3 : sent (slotted 1) rep 3 0xBEEF ≡ silent 7 (slotted 1)
  pub bits_5 : sent (slotted 1) rep 5 0xBEEF ≡ silent 7 (slotted 1)
  pub crc_5 : sent acknowledged query_wrong 22 0xBEEF ≡ silent 8 acknowledged
  pub spare : sent (slotted 1) (0x2F ∷ []) 4 0xBEEF ≡ drawing replied 0xBE 0xEF
  pub query_room : tight acknowledged query_b 22 ≡ leaves 4 acknowledged worked (0xAA ∷ [])
  pub rep_room : tight (slotted 1) rep 4 ≡ leaves 4 (slotted 1) worked (0xAA ∷ [])
  pub adjust_room : tight (awake_in new_flags (state.Arbitrate (in_s2 1) 1)) down 9 ≡ leaves 4 (awake_in new_flags (state.Arbitrate (in_s2 1) 1)) worked (0xAA ∷ [])
  pub no_reply : tight (slotted 3) rep 4 ≡ leaves 0 (slotted 2) worked (0xAA ∷ [])
  pub nak_ready : sent ready (0xC0 ∷ []) 8 0 ≡ silent 9 ready
  pub nak_slot : sent (slotted 3) (0xC0 ∷ []) 8 0 ≡ silent 0 (slotted 3)
  pub nak_reply : sent replied (0xC0 ∷ []) 8 0 ≡ silent 0 (slotted 0)
  pub nak_secured : sent (awake_in s2_b (state.Secured halfway)) (0xC0 ∷ []) 8 0 ≡ silent 0 (awake_in s2_b (state.Arbitrate round 0))

pub edges : Edges
unfolding frame_of layout_of header_good blocks_in content_good rules_hold worked word_at with_word words_bits bits_of crc_of crc5_of field_at pointer_at heard_of checksum_right checksum5_right filled packed checked alike selects query0 query_b query_wrong rep down
edges = record { query_21 = refl; query_23 = refl; bits_0 = refl; bits_1 = refl; bits_2 = refl; bits_3 = refl; bits_5 = refl; crc_5 = refl; spare = refl; query_room = refl; rep_room = refl; adjust_room = refl; no_reply = refl; nak_ready = refl; nak_slot = refl; nak_reply = refl; nak_secured = refl }

-- a session's state, slot and Q, as numbers
abbrev state_in : Session → ℕ
state_in s = state_number (live_of s.power).state

abbrev slot_in : Session → ℕ
slot_in s = slot_of (live_of s.power).state

abbrev q_in : Session → ℕ
q_in s = (link_of (live_of s.power).state).round.q

-- a Query that inverts the flag after the match, and one whose reply has a CRC-16
pub inverted-late : (sent acknowledged query0 22 0xBEEF).session ≡ awake_in s2_b (state.Reply (in_s2 0) 0xBEEF) → ⊥
inverted-late e = let z : ◌≡◌ {A = ℕ} 1 3 = sym (ap (λ (r : Result). state_in r.session) queries.inverts) ∙ ap state_in e in omega arith

pub query-checked : (sent ready query0 22 0xBEEF).reply ≡ 32 → ⊥
query-checked e = let z : ◌≡◌ {A = ℕ} 16 32 = sym (ap (λ (r : Result). r.reply) queries.replies) ∙ e in omega arith

-- a slot that stops at 0, and a QueryRep that counts in another session
pub slot-stops : (sent (slotted 0) rep 4 0xBEEF).session ≡ slotted 0 → ⊥
slot-stops e = let z : ◌≡◌ {A = ℕ} 0x7FFF 0 = sym (ap (λ (r : Result). slot_in r.session) repeats.zero) ∙ ap slot_in e in omega arith

pub counts-elsewhere : (sent (slotted 3) rep_other 4 0xBEEF).session ≡ slotted 2 → ⊥
counts-elsewhere e = let z : ◌≡◌ {A = ℕ} 3 2 = sym (ap (λ (r : Result). slot_in r.session) repeats.other) ∙ ap slot_in e in omega arith

-- a Q of 16, and a QueryAdjust that keeps the slot
pub sixteen : (sent (awake_in new_flags (state.Arbitrate (in_s2 15) 3)) up 9 0xBEEF).session ≡ awake_in new_flags (state.Arbitrate (in_s2 16) 0xBEEF) → ⊥
sixteen e = let z : ◌≡◌ {A = ℕ} 15 16 = sym (ap (λ (r : Result). q_in r.session) adjusts.fifteen) ∙ ap q_in e in omega arith

pub slot_kept : (sent (slotted 3) same 9 0xBEE5).session ≡ slotted 3 → ⊥
slot_kept e = let z : ◌≡◌ {A = ℕ} 5 3 = sym (ap (λ (r : Result). slot_in r.session) adjusts.as_it_is) ∙ ap slot_in e in omega arith

-- an ACK that shows EPC word 0 where it is stale, and one that answers 9 to a wrong number
pub shows-stale : word_at (sent_to stale replied ack_beef 18 0x5678).room 3 ≡ 0xFFFF → ⊥
unfolding word_at
shows-stale e = let z : ◌≡◌ {A = ℕ} 0x9297 0xFFFF = sym (ap (λ (r : Result). word_at r.room 3) acks.renewed) ∙ e in omega arith

pub wrong-ignored : (sent replied ack_beee 18 0x5678).number ≡ 9 → ⊥
wrong-ignored e = let z : ◌≡◌ {A = ℕ} 0 9 = sym (ap (λ (r : Result). r.number) acks.wrong) ∙ e in omega arith

-- a Select that matches past the end of its bank, and one that leaves the state
abbrev sl_in : Session → ℕ
sl_in s = bit_of (live_of s.power).flags.sl

pub matches-past : (sent (awake_in asserted state.Ready) past_end 62 0).session ≡ awake_in asserted state.Ready → ⊥
matches-past e = let z : ◌≡◌ {A = ℕ} 0 1 = sym (ap (λ (r : Result). sl_in r.session) selects-cases.past) ∙ ap sl_in e in omega arith

pub state-kept : (sent (slotted 3) select_epc 77 0).session ≡ awake_in asserted (state.Arbitrate round 3) → ⊥
state-kept e = let z : ◌≡◌ {A = ℕ} 1 2 = sym (ap (λ (r : Result). state_in r.session) selects-cases.slot) ∙ ap state_in e in omega arith

-- Tags with one fault each, and the demand that catches it, computed (RULES 7.5). Assumes nothing.
--   takes any password            Refusals: dropped.access
--   lets commands pass between the halves    Refusals: dropped.between
--   answers 12 to broken halves   Refusals: dropped.between
--   answers 14 to a wrong password           Refusals: dropped.access
--   ignores the handle            Refusals: wrong.handle
--   ignores a frame's CRC-16      Refusals: unheard.checksum
--   hears frames while the port is held      Refusals: unready.held
--   answers 9 before 8            Refusals: unheard.checksum
--   uses up no cover number       Demand 2: radio.write
--   reads the EPC to the bank's end with WordCount 0                  Demand 2: radio.read
--   matches a Query by the flag as it was before it is inverted       Demand 2: radio.rounds.query_passes
use Rattle.std.specs.Prelude.{ℕ, suc, ◌-◌, ◌≡◌, refl, ◌≢◌, Bool, true, false, cond, ◌&&◌, eqb, List, ◌++◌, take, drop, None, Some}
use Rattle.std.proofs.Common.{sym, ap, ◌∙◌, inl, ⊎_elim, lit≤, arith}
use Rattle.std.proofs.lemmas.Bool.{false≢true}
use Rattle.bits.specs.Words.{word_at, with_word}
use Rattle.bits.specs.Bits.{field_at, bits_of, words_bits, bits_from}
use Rattle.bits.specs.First.{first}
use Rattle.crc.specs.Crc.{crc_of}
use Rattle.crc.specs.Crc5.{crc5_of}
use Rattle.ebv.specs.Ebv.{pointer_at}
use Rattle.image.specs.Layout.{layout_of, header_good, blocks_in}
use Rattle.image.specs.Content.{rules_hold, content_good}
use Rattle.image.specs.Worked.{worked, worked_layout}
use Rattle.frames.specs.declared.Order.TheVariants as order
use Rattle.frames.specs.Message.{Message}
use Rattle.frames.specs.Message as heard
use Rattle.frames.specs.Frames.{span, heard_of, checksum_right, checksum5_right}
use Rattle.replies.specs.Pack.{filled, packed}
use Rattle.replies.specs.Replies.{checked}
use Rattle.rights.specs.Rights.{read_code, write_code}
use Rattle.states.specs.declared.Half.TheVariants as half
use Rattle.states.specs.declared.State.TheVariants as state
use Rattle.states.specs.declared.Link.{Link}
use Rattle.tag.specs.declared.Session.{Session}
use Rattle.states.specs.Commands.{link_of, with_link, is_covered}
use Rattle.tag.specs.Result.{Result, first_of}
use Rattle.tag.specs.Table.{Input, everything, live, live_of, turned_to, moved_to, frame_of}
use Rattle.tag.specs.Port.{bit_of}
use Rattle.demands.specs.Calls.{awake, Program}
use Rattle.demands.specs.Commands.{Demand2, answers_to, link}
use Rattle.demands.specs.Facts.{Matches}
use Rattle.demands.specs.Refusals.{Other, Refusals}
use Rattle.demands.specs.Worked.{query0, write3, round, waiting, secured}
use Rattle.demands.specs.Answers.{bad_sum}
use Rattle.demands.specs.Former.{renumbered, formerly}
use Rattle.demands.specs.Met.{air, met, access, once, s2_b}
use Rattle.demands.specs.Reads.{stale, long_read, must-stop}
use Rattle.demands.specs.Empty.{framing, fresh, opened, must-write}
use Rattle.tag.specs.Steps.{input}
use Rattle.stores.specs.Stores.{change_stores}
use Rattle.demands.specs.Terms.{sealed}

-- frames answered by another list of rows: without row k
abbrev pub by_rows : (List (Result × Bool) → List (Result × Bool)) → Program
by_rows f = framing (λ i. let t = frame_of change_stores i in first (f t.rows) t.done)

abbrev pub without : ℕ → Program
without k = by_rows (λ rs. take k rs ++ drop (suc k) rs)

-- the rows 6, 12 and 14 are numbers 4, 8 and 9 of the table's list, from 0 on
abbrev pub takes_any_password : Program
takes_any_password = without 8

abbrev pub hears_between : Program
hears_between = without 9

-- the right answer, but for one number another; the first answers as it did before 14
abbrev pub calls_broken_wrong : Program
calls_broken_wrong = framing (λ i. formerly (first_of (frame_of change_stores i)))

abbrev pub calls_wrong_broken : Program
calls_wrong_broken = framing (λ i. renumbered 12 14 (first_of (frame_of change_stores i)))

abbrev pub hears_while_held : Program
hears_while_held = without 4

-- the same call, but for a frame of these bits with their right CRC-16
abbrev resent : List ℕ → Input → Input
resent bits i = input i.session i.image (packed (sealed bits) i.frame) i.bits i.fresh i.room i.power

-- the answer to the frame with the right CRC-16 in place of its own
abbrev mended : Input → Input
mended i = resent (bits_from i.frame 0 (i.bits - 16)) i

abbrev pub ignores_checksum : Program
ignores_checksum = framing (λ i. first_of (frame_of change_stores (mended i)))

-- what 9 would answer to that frame comes first
abbrev pub nine_before_eight : Program
nine_before_eight =
    framing (λ i. let r = first_of (frame_of change_stores (mended i)) in cond (eqb r.number 9) r (first_of (frame_of change_stores i)))

-- takes the frame's number for its handle
abbrev named : ℕ → Link → Link
named n k = record { round = k.round; handle = n; cover = k.cover; half = k.half }

abbrev number_or : ℕ → Message → ℕ
number_or n (heard.refused k) = n
number_or n (heard.said c) = c.number

abbrev renamed : Session → Message → Session
renamed s x = let l = live_of s.power in let k = link_of l.state in moved_to l (with_link l.state (named (number_or k.handle x) k))

abbrev pub ignores_handle : Program
ignores_handle =
    framing (λ i. first_of (frame_of change_stores (input (renamed i.session (heard_of i.frame i.bits)) i.image i.frame i.bits i.fresh i.room i.power)))

-- leaves the session as it was
abbrev pub keeps_cover : Program
keeps_cover =
    framing (λ i. let r = first_of (frame_of change_stores i) in record { number = r.number; session = i.session; reply = r.reply; stores = r.stores; value = 0; image = r.image; room = r.room })

-- takes a Read of the EPC with WordCount 0, its pointer of one byte, as one of all words to the bank's end
abbrev to_end : Input → Input
to_end i =
    let f = i.frame in
    let n = (layout_of i.image).epc.words - field_at f 10 8 in
    cond (eqb i.bits 58 && checksum_right f 58 && eqb (field_at f 0 8) 0xC2 && eqb (field_at f 8 2) 1 && eqb (field_at f 18 8) 0)
    (resent (bits_from f 0 18 ++ bits_of 8 n ++ bits_from f 26 16) i) i

abbrev pub reads_stale : Program
reads_stale = framing (λ i. first_of (frame_of change_stores (to_end i)))

-- what a tag in Ready, which inverts no flag, comes to by a Query; but with the flags of the right answer
abbrev early : Input → Result
early i = first_of (frame_of change_stores (input (moved_to (live i) state.Ready) i.image i.frame i.bits i.fresh i.room i.power))

abbrev mixed : Input → Result → Result → Result
mixed i r e =
    let l = live_of e.session.power in
    let s = turned_to l (live_of r.session.power).flags l.state in
    cond (eqb e.number 0)
    (record { number = 0; session = s; reply = e.reply; stores = e.stores; value = 0; image = e.image; room = e.room })
    (everything i e.number)

abbrev pub matches_early : Program
matches_early =
    framing (λ i. let r = first_of (frame_of change_stores i) in cond (eqb (field_at i.frame 0 4) 8 && eqb r.number 0) (mixed i r (early i)) r)

-- named inputs: a second half of Access in Secured, where 1111h waits as the upper half of the password 00000000h; P7's Write where the
-- right upper half waits, with another CRC-16, with another handle, and while the port is held; a Query of session 2, target A, in
-- Acknowledged of that session; a Read of the EPC from word 0 on, where stale words follow it
abbrev other : Session
other = awake (state.Open (link round 0x4321 (Some 0x5A5A) None)) false fresh

abbrev arbitrate : Session
arbitrate = awake (state.Arbitrate round 3) false fresh

abbrev acknowledged : Session
acknowledged = awake (state.Acknowledged round 0xBEEF) false fresh

record Numbers : Type 0 where
  password : (answers_to takes_any_password (air access 56) (waiting (Some (half.Access 0x1111)))).number ≡ 0
  between : (answers_to hears_between (air write3 66) (waiting (Some (half.Access 0)))).number ≡ 0
  broken : (answers_to calls_broken_wrong (air write3 66) (waiting (Some (half.Access 0)))).number ≡ 12
  mistyped : (answers_to calls_wrong_broken (air access 56) (waiting (Some (half.Access 0x1111)))).number ≡ 14
  handle : (answers_to ignores_handle (air write3 66) other).number ≡ 0
  checksum : (answers_to ignores_checksum (air bad_sum 66) opened).number ≡ 0
  held : (answers_to hears_while_held (air write3 66) (awake (state.Open (link round 0x1234 (Some 0x5A5A) None)) true fresh)).number ≡ 0
  first : (answers_to nine_before_eight (air bad_sum 66) arbitrate).number ≡ 9
  wrong : heard_of bad_sum 66 ≡ heard.refused 8
  flag : (answers_to matches_early (air query0 22) acknowledged).reply ≡ 16
  words : (answers_to reads_stale long_read secured).reply ≡ 161

numbers : Numbers
unfolding frame_of layout_of header_good blocks_in content_good rules_hold worked word_at with_word words_bits bits_of crc_of field_at pointer_at heard_of checksum_right checksum5_right crc5_of filled packed checked read_code write_code query0 write3 access stale
numbers = record { password = refl; between = refl; broken = refl; mistyped = refl; handle = refl; checksum = refl; held = refl; first = refl; wrong = refl; flag = refl; words = refl }

-- the handle is 1234h, not 4321h; the password's upper half is 0, not 1111h
other-handle : ◌≢◌ {A = ℕ} 0x1234 0x4321
other-handle e = omega (arith, e)

other_half : 0x1111 ≢ word_at worked 20
unfolding worked word_at
other_half e = omega (arith, e)

-- what Refusals asks of any program: 12 to that Access, 14 to that Write
must-refuse : (A : Program) → Refusals A → (answers_to A (air access 56) (waiting (Some (half.Access 0x1111)))).number ≡ 12
must-refuse A d =
    ap (λ (r : Result). r.number) ((d.dropped worked_layout (air access 56) fresh round met.idle).access true 0x1234 0x5A5A 0x1111 0x5A5A met.access_half.0 (inl other_half))

pub password-caught : Refusals takes_any_password → ⊥
password-caught d = let z : ◌≡◌ {A = ℕ} 0 12 = sym numbers.password ∙ must-refuse takes_any_password d in omega arith

-- a Write comes between the halves
write-other : Other (Some (half.Access 0)) (order.Write (span 3 3 1) 0xF197)
write-other = (tt, λ e. let z : ◌≡◌ {A = ℕ} 0 1 = cc in omega arith, λ h e. let z : ◌≡◌ {A = ℕ} 0 1 = cc in omega arith)

must-break : (A : Program) → Refusals A → (answers_to A (air write3 66) (waiting (Some (half.Access 0)))).number ≡ 14
must-break A d =
    ap (λ (r : Result). r.number)
    ((d.dropped worked_layout (air write3 66) fresh round met.idle).between true 0x1234 (Some 0x5A5A) (Some (half.Access 0)) (order.Write (span 3 3 1) 0xF197) met.write.0 tt write-other)

pub between-caught : Refusals hears_between → ⊥
between-caught d = let z : ◌≡◌ {A = ℕ} 0 14 = sym numbers.between ∙ must-break hears_between d in omega arith

pub broken-caught : Refusals calls_broken_wrong → ⊥
broken-caught d = let z : ◌≡◌ {A = ℕ} 12 14 = sym numbers.broken ∙ must-break calls_broken_wrong d in omega arith

pub mistyped-caught : Refusals calls_wrong_broken → ⊥
mistyped-caught d = let z : ◌≡◌ {A = ℕ} 14 12 = sym numbers.mistyped ∙ must-refuse calls_wrong_broken d in omega arith

pub handle-caught : Refusals ignores_handle → ⊥
handle-caught d =
    let z : ◌≡◌ {A = ℕ} 0 9 =
    sym numbers.handle
    ∙ ap (λ (r : Result). r.number)
    ((d.wrong worked_layout (air write3 66) fresh round met.idle).handle false 0x4321 (Some 0x5A5A) None 0x1234 (order.Write (span 3 3 1) 0xF197) met.write.0 tt (inl other-handle)) in
    omega arith

pub checksum-caught : Refusals ignores_checksum → ⊥
checksum-caught d =
    let z : ◌≡◌ {A = ℕ} 0 8 =
    sym numbers.checksum
    ∙ ap (λ (r : Result). r.number)
    ((d.unheard worked_layout (air bad_sum 66) (state.Open (link round 0x1234 (Some 0x5A5A) None)) fresh met.idle).checksum numbers.wrong) in
    omega arith

pub held-caught : Refusals hears_while_held → ⊥
held-caught d =
    let z : ◌≡◌ {A = ℕ} 0 6 =
    sym numbers.held
    ∙ ap (λ (r : Result). r.number) ((d.unready (air write3 66)).held worked_layout (state.Open (link round 0x1234 (Some 0x5A5A) None)) fresh met.idle) in
    omega arith

pub order-caught : Refusals nine_before_eight → ⊥
order-caught d =
    let z : ◌≡◌ {A = ℕ} 9 8 =
    sym numbers.first
    ∙ ap (λ (r : Result). r.number) ((d.unheard worked_layout (air bad_sum 66) (state.Arbitrate round 3) fresh met.idle).checksum numbers.wrong) in
    omega arith

-- S2 is B once it is inverted, and the target is A
not-A : Matches s2_b 0 0 2 → ⊥
not-A h = ⊎_elim (λ p. false≢true (sym p.1)) (λ p. omega (arith, p.0)) h.1

not-killed : state.Acknowledged round 0xBEEF ≢ state.Killed
not-killed e = let z : ◌≡◌ {A = ℕ} 0 1 = cc in omega arith

pub flag-caught : Demand2 matches_early → ⊥
flag-caught d =
    let z : ◌≡◌ {A = ℕ} 16 0 =
    sym numbers.flag
    ∙ ap (λ (r : Result). r.reply)
    ((d.radio worked_layout (air query0 22) fresh round met.idle).rounds.query_passes (state.Acknowledged round 0xBEEF) 0 0 once s2_b not-killed met.rounds.first_inverts not-A met.rounds.query_replies.0 (lit≤ tt, lit≤ tt)) in
    omega arith

pub stale-caught : Demand2 reads_stale → ⊥
stale-caught d = let z : ◌≡◌ {A = ℕ} 161 97 = sym numbers.words ∙ must-stop reads_stale d in omega arith

-- a session's cover number: there or not
abbrev cover_in : Session → ℕ
cover_in s = bit_of (is_covered (link_of (live_of s.power).state).cover)

pub cover-caught : Demand2 keeps_cover → ⊥
cover-caught d = let z : ◌≡◌ {A = ℕ} 1 0 = ap (λ (r : Result). cover_in r.session) (must-write keeps_cover d) in omega arith

-- Empty programs fall (RULES 7.3), each to the demand that rules it out, at a named input. Assumes nothing.
use Rattle.std.specs.Prelude.{ℕ, ◌≤◌, ◌≡◌, refl, false, List, [], ◌∷◌, ◌++◌, take, replicate, get_or, None, Some}
use Rattle.std.proofs.Common.{sym, ap, ◌∙◌, arith, lit<, lit≤}
use Rattle.bits.specs.Words.{word_at, with_word, after, store}
use Rattle.bits.specs.Bits.{field_at, bits_of, words_bits}
use Rattle.crc.specs.Crc.{crc_of}
use Rattle.ebv.specs.Ebv.{pointer_at}
use Rattle.image.specs.Layout.{layout_of, header_good, blocks_in}
use Rattle.image.specs.Content.{rules_hold, content_good}
use Rattle.image.specs.Worked.{worked, worked_layout}
use Rattle.frames.specs.Frames.{heard_of, checksum_right}
use Rattle.replies.specs.Pack.{filled, packed}
use Rattle.replies.specs.Replies.{checked}
use Rattle.rights.specs.Rights.{write_code}
use Rattle.states.specs.Commands.{plain_link}
use Rattle.stores.specs.Stores.{power_stores, change_stores}
use Rattle.stores.specs.Cuts.{Cut}
use Rattle.stores.specs.Worked.{worked-bytes}
use Rattle.states.specs.declared.Link.{Link}
use Rattle.states.specs.declared.State.TheVariants as state
use Rattle.replies.specs.declared.Reply.TheVariants as reply
use Rattle.tag.specs.declared.Session.{Session}
use Rattle.tag.specs.Session.{off_session, new_flags, clear}
use Rattle.tag.specs.Result.{Result, first_of}
use Rattle.tag.specs.Power.{power_up_of}
use Rattle.tag.specs.Table.{Input, everything, effect, stores_of, frame_of}
use Rattle.demands.specs.Calls.{power_up, frame, ask, release, register, read, write, Aside, awake, Program, answer_of, torn}
use Rattle.demands.specs.Demands.{Demand1, Demand3, Completes, lasting}
use Rattle.demands.specs.Commands.{Demand2, answers_to, link, obeyed}
use Rattle.demands.specs.Worked.{write3, read_two, round}
use Rattle.demands.specs.Torn.{tag, p7}
use Rattle.demands.specs.Met.{air, met}
use Rattle.tag.specs.Steps.{input}

-- a program that answers frames so, and every other call as the tag does
abbrev pub framing : (Input → Result) → Program
framing f t (power_up s) = answer_of t (power_up s)
framing f t (frame b bits fresh room s) = f (input t.session t.image b bits fresh room s)
framing f t ask = answer_of t ask
framing f t release = answer_of t release
framing f t register = answer_of t register
framing f t (read at count room) = answer_of t (read at count room)
framing f t (write at d s) = answer_of t (write at d s)

-- the right answer with another image, room or number of stores
abbrev pub with_image : List ℕ → Result → Result
with_image m r = record { number = r.number; session = r.session; reply = r.reply; stores = r.stores; value = r.value; image = m; room = r.room }

abbrev pub with_room : List ℕ → Result → Result
with_room room r = record { number = r.number; session = r.session; reply = r.reply; stores = r.stores; value = r.value; image = r.image; room = room }

abbrev pub with_stores : ℕ → Result → Result
with_stores n r = record { number = r.number; session = r.session; reply = r.reply; stores = n; value = r.value; image = r.image; room = r.room }

-- refuses all; is all right, but its reply is always the same bits; or stores nothing; or stores the words first and shams the staging
-- behind them; or invents the stores made
abbrev pub refusing : ℕ → Program
refusing n = framing (λ i. everything i n)

abbrev pub repeating : List ℕ → Program
repeating bits = framing (λ i. with_room (packed bits i.room) (first_of (frame_of change_stores i)))

abbrev pub idling : Program
idling = framing (λ i. with_image i.image (first_of (frame_of change_stores i)))

abbrev pub shamming : Program
shamming = framing (λ i. with_image (after i.image (take i.power ((effect i).words ++ stores_of change_stores i))) (first_of (frame_of change_stores i)))

abbrev pub inventing : ℕ → Program
inventing n = framing (λ i. with_stores n (first_of (frame_of change_stores i)))

-- new flags, and the register clear
abbrev pub fresh : Aside
fresh = record { flags = new_flags; register = clear }

-- what demand 2 says of P7's Write and of a Read of USER 2 and 3, both in Open, and what that is on the worked image
abbrev pub link_in : Link
link_in = link round 0x1234 (Some 0x5A5A) None

abbrev pub opened : Session
opened = awake (state.Open link_in) false fresh

abbrev pub writes : Result
writes =
    obeyed worked_layout (air write3 66) fresh
    (record { state = state.Open (plain_link round 0x1234); reply = reply.Success 0x1234; words = store 31 0xABCD ∷ [] })

abbrev pub reads : Result
reads =
    obeyed worked_layout (air read_two 58) fresh
    (record { state = state.Open (plain_link round 0x1234); reply = reply.Words 30 2 0x1234; words = [] })

pub must-write : (A : Program) → Demand2 A → answers_to A (air write3 66) opened ≡ writes
must-write A d = (d.radio worked_layout (air write3 66) fresh round met.idle).write false 0x1234 0x5A5A 3 3 0xF197 met.write_right met.write.0 met.write.1

pub must-read : (A : Program) → Demand2 A → answers_to A (air read_two 58) opened ≡ reads
must-read A d = (d.radio worked_layout (air read_two 58) fresh round met.idle).read false 0x1234 (Some 0x5A5A) 3 2 2 2 met.read_right met.read.0 met.read.1

record Computed : Type 0 where
  written : get_or writes.room 0 0 ≡ 0x09
  shown : get_or reads.room 0 0 ≡ 0x00
  word : word_at writes.image 31 ≡ 0xABCD
  before : word_at worked 31 ≡ 10
  stores : writes.stores ≡ 5

computed : Computed
unfolding worked word_at with_word words_bits bits_of crc_of filled packed checked
computed = record { written = refl; shown = refl; word = refl; before = refl; stores = refl }

-- demand 2
pub refusing-falls : (n : ℕ) → 1 ≤ n → Demand2 (refusing n) → ⊥
refusing-falls n l d = let e : n ≡ 0 = ap (λ (r : Result). r.number) (must-write (refusing n) d) in omega (arith, l, e)

pub repeating-falls : (bits : List ℕ) → Demand2 (repeating bits) → ⊥
repeating-falls bits d =
    let e : get_or (packed bits (replicate 12 0xAA)) 0 0 ≡ 0x09 = ap (λ (r : Result). get_or r.room 0 0) (must-write (repeating bits) d) ∙ computed.written in
    let f : get_or (packed bits (replicate 12 0xAA)) 0 0 ≡ 0x00 = ap (λ (r : Result). get_or r.room 0 0) (must-read (repeating bits) d) ∙ computed.shown in
    let z : ◌≡◌ {A = ℕ} 0x09 0x00 = sym e ∙ f in
    omega arith

pub idling-falls : Demand2 idling → ⊥
idling-falls d =
    let z : ◌≡◌ {A = ℕ} 10 0xABCD = sym computed.before ∙ ap (λ (r : Result). word_at r.image 31) (must-write idling d) ∙ computed.word in
    omega arith

-- demand 3, at a cut of 1: one store made is at most 2n, but the word is new after the next power-up; torn there, it is neither the old
-- one nor the new one
sham-stores : Completes shamming worked_layout tag p7 1 5
unfolding frame_of layout_of header_good blocks_in content_good rules_hold worked word_at with_word words_bits bits_of crc_of field_at pointer_at heard_of checksum_right filled packed checked write_code write3
sham-stores = record { bytes = worked-bytes; idle = met.idle; some = lit≤ tt; done = refl; words = refl }

pub record Sham : Type 0 where
  pub starts : (answer_of (record { session = off_session; image = torn shamming tag (lasting p7 1) 156 }) (power_up 257)).number ≡ 0
  pub mixes : word_at (answer_of (record { session = off_session; image = torn shamming tag (lasting p7 1) 156 }) (power_up 257)).image 31 ≡ 0xABCD
  pub tears : word_at (answer_of (record { session = off_session; image = torn shamming tag (lasting p7 0) 62 }) (power_up 257)).image 31 ≡ 0xAB0A
  pub whole : (first_of (power_up_of worked 257)).number ≡ 0
  pub old : word_at (first_of (power_up_of worked 257)).image 31 ≡ 10

pub sham : Sham
unfolding power_up_of power_stores layout_of header_good blocks_in content_good rules_hold worked word_at with_word words_bits bits_of crc_of field_at pointer_at heard_of checksum_right write3
sham = record { starts = refl; mixes = refl; tears = refl; whole = refl; old = refl }

pub shamming-falls : Demand3 shamming → ⊥
shamming-falls d =
    let f : Cut = record { whole = 1; byte = 156 } in
    let z : ◌≡◌ {A = ℕ} 0xABCD 10 =
    sym sham.mixes ∙ ((d worked_layout tag p7 1 5 sham-stores).cut f []).old (lit≤ tt) 257 257 sham.starts sham.whole 31 (lit< tt) ∙ sham.old in
    omega arith

-- 3n + 2 (demand 2) and s (demand 1): a whole Write makes 5 stores, one with power for 2 makes 2
pub inventing-falls : (n : ℕ) → Demand1 (inventing n) → Demand2 (inventing n) → ⊥
unfolding frame_of layout_of header_good blocks_in content_good rules_hold worked word_at with_word words_bits bits_of crc_of field_at pointer_at heard_of checksum_right filled packed checked write_code write3
inventing-falls n d e =
    let p : n ≡ 5 = ap (λ (r : Result). r.stores) (must-write (inventing n) e) ∙ computed.stores in
    let q : n ≡ 2 = ap (λ (r : Result). r.stores) ((d.table tag (lasting p7 2)).lost refl).1 in
    omega (arith, p, q)

-- Wrong answers that the promises of the small operations and of frames rule out, computed on the worked image (RULES 7.2). Assumes
-- nothing.
use Rattle.std.specs.Prelude.{ℕ, ◌≡◌, refl, true, false, List, [], ◌∷◌, replicate, None, Some}
use Rattle.std.proofs.Common.{sym, ap, ◌∙◌, arith}
use Rattle.bits.specs.Words.{word_at, with_word}
use Rattle.bits.specs.Bits.{field_at, bits_of, words_bits}
use Rattle.crc.specs.Crc.{crc_of}
use Rattle.crc.specs.Crc5.{crc5_of}
use Rattle.ebv.specs.Ebv.{pointer_at}
use Rattle.image.specs.Layout.{layout_of, header_good, blocks_in}
use Rattle.image.specs.Content.{rules_hold, content_good}
use Rattle.image.specs.Worked.{worked, pending_one}
use Rattle.frames.specs.Frames.{heard_of, checksum_right, checksum5_right}
use Rattle.replies.specs.Pack.{filled, packed}
use Rattle.replies.specs.Replies.{checked}
use Rattle.rights.specs.Rights.{write_code}
use Rattle.frames.specs.declared.Round.{Round}
use Rattle.states.specs.declared.Half.TheVariants as half
use Rattle.states.specs.declared.State.TheVariants as state
use Rattle.tag.specs.declared.Session.{Session}
use Rattle.tag.specs.Session.{off_session, new_session}
use Rattle.tag.specs.Result.{Result, first_of, leaves}
use Rattle.states.specs.Commands.{link_of}
use Rattle.tag.specs.Power.{power_up_of}
use Rattle.tag.specs.Table.{live_of, frame_of}
use Rattle.tag.specs.Port.{bit_of, ask_of, release_of, register_of, read_of}
use Rattle.demands.specs.Worked.{query0, write3, write16, round, waiting, used_up, sent, powered}
use Rattle.demands.specs.Ports.{holding, reads, registers}
use Rattle.demands.specs.Met.{block2, access}
use Rattle.demands.specs.Commands.{link}
use Rattle.tag.specs.Steps.{input, gives}
use Rattle.stores.specs.Stores.{change_stores}

-- a session's port and its register's bit 1, as numbers
abbrev port_in : Session → ℕ
port_in s = bit_of (live_of s.power).held

abbrev unwritten_in : Session → ℕ
unwritten_in s = bit_of (live_of s.power).register.unwritten

-- a power-up that says its power was lost where it lasted
pub power-lost : (first_of (power_up_of worked 1)).number ≡ 11 → ⊥
power-lost e = let z : ◌≡◌ {A = ℕ} 0 11 = sym (ap (λ (r : Result). r.number) powered.idle) ∙ e in omega arith

-- a Query of session 2 with Q = 0, in a room of 2 bytes, brings the number 1234h
abbrev asking : Session → Result
asking s = first_of (frame_of change_stores (input s worked query0 22 0x1234 (replicate 2 0xAA) 0))

abbrev in_s2 : Round
in_s2 = record { session = 2; q = 0 }

pub record Asks : Type 0 where
  pub taken : asking (new_session state.Ready) ≡ gives 0 (new_session (state.Reply in_s2 0x1234)) 16 0 worked (0x12 ∷ 0x34 ∷ [])
  pub killed : asking (new_session state.Killed) ≡ leaves 9 (new_session state.Killed) worked (0xAA ∷ 0xAA ∷ [])
  pub held : asking (holding state.Ready false false) ≡ leaves 6 (holding state.Ready false false) worked (0xAA ∷ 0xAA ∷ [])
  pub off : asking off_session ≡ leaves 5 off_session worked (0xAA ∷ 0xAA ∷ [])

pub asks : Asks
unfolding frame_of layout_of header_good blocks_in content_good rules_hold worked word_at with_word bits_of field_at heard_of checksum5_right crc5_of filled packed query0
asks = record { taken = refl; killed = refl; held = refl; off = refl }

-- a Query that is heard while the port is held, and one that is refused in Ready
pub query-held : (asking (holding state.Ready false false)).number ≡ 0 → ⊥
query-held e = let z : ◌≡◌ {A = ℕ} 6 0 = sym (ap (λ (r : Result). r.number) asks.held) ∙ e in omega arith

pub query-refused : (asking (new_session state.Ready)).number ≡ 9 → ⊥
query-refused e = let z : ◌≡◌ {A = ℕ} 0 9 = sym (ap (λ (r : Result). r.number) asks.taken) ∙ e in omega arith

-- a port granted twice, and one refused in Ready
pub ask-twice : (first_of (ask_of (holding state.Ready true false))).number ≡ 0 → ⊥
ask-twice e = let z : ◌≡◌ {A = ℕ} 6 0 = sym (ap (λ (r : Result). r.number) registers.held) ∙ e in omega arith

pub ask-refused : (first_of (ask_of (new_session state.Ready))).number ≡ 6 → ⊥
ask-refused e = let z : ◌≡◌ {A = ℕ} 0 6 = sym (ap (λ (r : Result). r.number) registers.granted) ∙ e in omega arith

-- a release that is refused to the holder, and one that keeps the port
pub release-refused : (first_of (release_of (holding state.Ready false false))).number ≡ 6 → ⊥
release-refused e = let z : ◌≡◌ {A = ℕ} 0 6 = sym (ap (λ (r : Result). r.number) registers.released) ∙ e in omega arith

pub release_kept : (first_of (release_of (holding state.Ready false false))).session ≡ holding state.Ready false false → ⊥
release_kept e = let z : ◌≡◌ {A = ℕ} 0 1 = sym (ap (λ (r : Result). port_in r.session) registers.released) ∙ ap port_in e in omega arith

-- a register that tells nothing, and one that stays set
pub register-silent : (first_of (register_of (holding state.Ready true false))).value ≡ 0 → ⊥
register-silent e = let z : ◌≡◌ {A = ℕ} 2 0 = sym (ap (λ (r : Result). r.value) registers.once) ∙ e in omega arith

pub register_kept : (first_of (register_of (holding state.Ready true false))).session ≡ holding state.Ready true false → ⊥
register_kept e = let z : ◌≡◌ {A = ℕ} 0 1 = sym (ap (λ (r : Result). unwritten_in r.session) registers.once) ∙ ap unwritten_in e in omega arith

-- a read that shows a word when Killed, and one that is done without its room
pub read_killed : (first_of (read_of (holding state.Killed false false) worked 2 2 (replicate 5 0xFF))).room ≡ 0 ∷ 6 ∷ 0 ∷ 10 ∷ 0xFF ∷ [] → ⊥
unfolding word_at
read_killed e = let z : ◌≡◌ {A = ℕ} 0 6 = sym (ap (λ (r : Result). word_at r.room 0) reads.killed) ∙ ap (λ (b : List ℕ). word_at b 0) e in omega arith

pub read_short : (first_of (read_of (holding state.Ready false false) worked 2 2 (replicate 3 0xFF))).number ≡ 0 → ⊥
read_short e = let z : ◌≡◌ {A = ℕ} 4 0 = sym (ap (λ (r : Result). r.number) reads.no_room) ∙ e in omega arith

-- Access's lower half, where an upper half waits that is not the password's
abbrev mistyped : Result
mistyped = first_of (frame_of change_stores (input (waiting (Some (half.Access 0x1111))) worked access 56 0 (replicate 12 0xAA) 5))

-- Write ABCDh to USER 3 while an upper half of Access waits; and to a tag whose port is held
abbrev between : Session → Result
between s = first_of (frame_of change_stores (input s worked write3 66 0 (replicate 12 0xAA) 5))

abbrev uncovered : Session
uncovered = new_session (state.Secured (link round 0x1234 None (Some (half.Access 0))))

abbrev while_held : List ℕ → Result
while_held m = first_of (frame_of change_stores (input (holding state.Ready false false) m write3 66 0 (replicate 12 0xAA) 5))

pub record Frames : Type 0 where
  -- without a cover number it is 9, with one 14
  pub bare : (between uncovered).number ≡ 9
  pub broken : (between (waiting (Some (half.Access 0)))).number ≡ 14
  -- a wrong password is 12
  pub wrong : mistyped.number ≡ 12
  -- with a word pending it is 5, else 6
  pub pending : (while_held (pending_one 17 1)).number ≡ 5
  pub held : (while_held worked).number ≡ 6
  -- an error leaves the state
  pub error : (sent worked write16 66 5).session ≡ used_up
  -- BlockWrite of USER 2 and 3
  pub whole : word_at (sent worked block2 90 8).image 31 ≡ 0x2222

pub frames : Frames
unfolding frame_of layout_of header_good blocks_in content_good rules_hold worked word_at with_word words_bits bits_of crc_of field_at pointer_at heard_of checksum_right filled packed checked write_code write3 write16 block2 access
frames = record { bare = refl; broken = refl; wrong = refl; pending = refl; held = refl; error = refl; whole = refl }

-- 12 for broken halves, and 14 for a wrong password
pub broken-as-wrong : (between (waiting (Some (half.Access 0)))).number ≡ 12 → ⊥
broken-as-wrong e = let z : ◌≡◌ {A = ℕ} 14 12 = sym frames.broken ∙ e in omega arith

pub wrong-as-broken : mistyped.number ≡ 14 → ⊥
wrong-as-broken e = let z : ◌≡◌ {A = ℕ} 12 14 = sym frames.wrong ∙ e in omega arith

-- 14 before 9, and 6 before 5
pub broken-first : (between uncovered).number ≡ 14 → ⊥
broken-first e = let z : ◌≡◌ {A = ℕ} 9 14 = sym frames.bare ∙ e in omega arith

pub held_first : (while_held (pending_one 17 1)).number ≡ 6 → ⊥
held_first e = let z : ◌≡◌ {A = ℕ} 5 6 = sym frames.pending ∙ e in omega arith

-- an error that leads to Arbitrate
abbrev handle_no : Session → ℕ
handle_no s = (link_of (live_of s.power).state).handle

pub error-moves : (sent worked write16 66 5).session ≡ new_session (state.Arbitrate round 0) → ⊥
error-moves e = let z : ◌≡◌ {A = ℕ} 0x1234 0 = sym (ap handle_no frames.error) ∙ ap handle_no e in omega arith

-- a BlockWrite that is done and leaves its second word as it was
pub half-a-block : word_at (sent worked block2 90 8).image 31 ≡ 10 → ⊥
half-a-block e = let z : ◌≡◌ {A = ℕ} 0x2222 10 = sym frames.whole ∙ e in omega arith

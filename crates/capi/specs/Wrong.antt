-- Records that are no session, and for each exported operation two wrong answers that its promise rules out, computed (RULES 10.3 and
-- 10.6). Assumes nothing.
use Rattle.std.specs.Prelude.{ℕ, ◌+◌, ◌*◌, ◌^◌, ◌≡◌, refl, true, false, [], ◌∷◌, replicate, None, Some}
use Rattle.std.proofs.Common.{sym, ap, ◌∙◌, arith}
use Rattle.bits.specs.Words.{word_at, with_word}
use Rattle.bits.specs.Bits.{field_at, bits_of, words_bits}
use Rattle.crc.specs.Crc.{crc_of}
use Rattle.image.specs.Layout.{layout_of, header_good, blocks_in}
use Rattle.image.specs.Content.{rules_hold, content_good}
use Rattle.image.specs.Check.{check_of}
use Rattle.image.specs.Worked.{worked}
use Rattle.frames.specs.Frames.{heard_of}
use Rattle.replies.specs.Pack.{filled, packed as bits_packed}
use Rattle.stores.specs.Stores.{power_stores, change_stores}
use Rattle.states.specs.declared.Half.TheVariants as half
use Rattle.states.specs.declared.State.TheVariants as state
use Rattle.states.specs.declared.Numbers.{Numbers}
use Rattle.states.specs.declared.Record.{Record}
use Rattle.states.specs.Numbers.{numbers_in}
use Rattle.states.specs.Steps.{four_of}
use Rattle.tag.specs.declared.Session.{Session}
use Rattle.tag.specs.Session.{off_session, new_session, on}
use Rattle.tag.specs.Power.{power_up_of}
use Rattle.tag.specs.Table.{frame_of}
use Rattle.tag.specs.Port.{ask_of, release_of, register_of, read_of, write_of}
use Rattle.tag.specs.Records.{numbers_of, loose_of, same, session_of, in_numbers}
use Rattle.tag.specs.Result.{Left, first_of}
use Rattle.tag.specs.Steps.{input}
use Rattle.capi.specs.declared.Sheet.{Sheet}
use Rattle.capi.specs.Told.{sheet_of}

-- a record by what its parts say: by state, port and number; by state, round, Q and slot; by its register and flags; and one with a link
abbrev packed : ℕ → ℕ → ℕ → ℕ → ℕ → ℕ → ℕ → ℕ → ℕ → ℕ → ℕ → ℕ → Record
packed st held reg covered kind round q flags n c u slot =
    record {
      low = four_of st held reg covered + 2 ^ 32 * four_of kind round q flags;
      high = n + 2 ^ 16 * c + 2 ^ 32 * u + 2 ^ 48 * slot;
    }

abbrev made : ℕ → ℕ → ℕ → ℕ → ℕ → ℕ → Record
made st held n round q slot = packed st held 0 0 0 round q 0 n 0 0 slot

abbrev of : ℕ → ℕ → ℕ → Record
of st held n = made st held n 0 0 0

abbrev rounds : ℕ → ℕ → ℕ → ℕ → Record
rounds st round q slot = made st 0 0 round q slot

abbrev flagged : ℕ → ℕ → Record
flagged reg flags = packed 1 0 reg 0 0 0 0 flags 0 0 0 0

abbrev linked : ℕ → ℕ → ℕ → ℕ → Record
linked covered kind c u = packed 6 0 3 covered kind 5 13 0x14 0x1234 c u 0

-- the session of a record
abbrev read : Record → Session
read r = session_of (numbers_in r)

-- what is a session, and what is not: an unknown state, a number, a round, a slot, a cover or a half where none belongs, a truth value that
-- is neither 0 nor 1, a register of more than two bits, flags of more than five
pub record Readings : Type 0 where
  pub whole : read (record { low = 0x140D050201030006; high = 0x9ABC56781234 })
      ≡ on (record { s0 = false; s1 = false; s2 = true; s3 = false; sl = true }) (state.Secured (record { round = record { session = 5; q = 13 }; handle = 0x1234; cover = Some 0x5678; half = Some (half.Kill 0x9ABC) })) false (record { unwritten = true; killed = true })
  pub by_parts : linked 1 2 0x5678 0x9ABC ≡ record { low = 0x140D050201030006; high = 0x9ABC56781234 }
  pub waiting : read (rounds 2 3 11 0x6789) ≡ new_session (state.Arbitrate (record { session = 3; q = 11 }) 0x6789)
  pub flags : read (flagged 1 9) ≡ on (record { s0 = true; s1 = false; s2 = false; s3 = true; sl = false }) state.Ready false (record { unwritten = false; killed = true })
  pub unknown : read (of 8 0 0) ≡ off_session
  pub stray_number : read (of 1 0 5) ≡ off_session
  pub number_waiting : read (of 2 0 5) ≡ off_session
  pub number_killed : read (of 7 0 5) ≡ off_session
  pub stray_round : read (rounds 1 1 0 0) ≡ off_session
  pub stray_q : read (rounds 7 0 1 0) ≡ off_session
  pub stray_slot : read (rounds 3 1 4 1) ≡ off_session
  pub stray_cover : read (linked 0 2 0x5678 0x9ABC) ≡ off_session
  pub stray_half : read (linked 1 0 0x5678 0x9ABC) ≡ off_session
  pub covered_early : read (packed 4 0 0 1 0 2 13 0 0x1234 0 0 0) ≡ off_session
  pub half_early : read (packed 3 0 0 0 1 2 13 0 0x1234 0 0 0) ≡ off_session
  pub off_held : read (of 0 1 0) ≡ off_session
  pub unknown_half : read (linked 1 3 0x5678 0x9ABC) ≡ off_session
  pub covered_twice : read (linked 2 2 0x5678 0x9ABC) ≡ off_session
  pub held_twice : read (of 1 2 0) ≡ off_session
  pub register_large : read (flagged 4 0) ≡ off_session
  pub flags_large : read (flagged 0 32) ≡ off_session

pub readings : Readings
unfolding session_of loose_of same
readings =
    record {
      whole = refl;
      by_parts = refl;
      waiting = refl;
      flags = refl;
      unknown = refl;
      stray_number = refl;
      number_waiting = refl;
      number_killed = refl;
      stray_round = refl;
      stray_q = refl;
      stray_slot = refl;
      stray_cover = refl;
      stray_half = refl;
      covered_early = refl;
      half_early = refl;
      off_held = refl;
      unknown_half = refl;
      covered_twice = refl;
      held_twice = refl;
      register_large = refl;
      flags_large = refl;
    }

-- what each call must leave
abbrev checked : Sheet
checked = sheet_of (check_of worked)

abbrev powered : Left Numbers
powered = in_numbers (first_of (power_up_of worked 1))

abbrev heard : Record → Left Numbers
heard r = in_numbers (first_of (frame_of change_stores (input (read r) worked (0xC0 ∷ []) 8 0 [] 0)))

abbrev asked : Record → Left Numbers
asked r = in_numbers (first_of (ask_of (read r)))

abbrev released : Record → Left Numbers
released r = in_numbers (first_of (release_of (read r)))

abbrev registered : Record → Left Numbers
registered r = in_numbers (first_of (register_of (read r)))

abbrev shown : Record → Left Numbers
shown r = in_numbers (first_of (read_of (read r) worked 2 1 (replicate 3 0xFF)))

abbrev written : Record → Left Numbers
written r = in_numbers (first_of (write_of change_stores (read r) worked 2 (0x11 ∷ 0x22 ∷ []) 5))

pub record Small : Type 0 where
  pub ask : (asked (of 1 0 0)).session.held ≡ 1
  pub ask_bad : (asked (of 1 0 5)).number ≡ 5
  pub release : (released (of 1 1 0)).session.held ≡ 0
  pub release_bad : (released (of 1 2 0)).number ≡ 5
  pub register : (registered (of 7 1 0)).number ≡ 0
  pub register_bad : (registered (of 7 1 5)).number ≡ 5

pub small : Small
unfolding session_of loose_of same ask_of release_of register_of
small =
    record {
      ask = refl;
      ask_bad = refl;
      release = refl;
      release_bad = refl;
      register = refl;
      register_bad = refl;
    }

pub record Large : Type 0 where
  pub check : checked.answer ≡ 0
  pub check_user : checked.user.at ≡ 28
  pub power : powered.session.state ≡ 1
  pub powered_stores : powered.stores ≡ 1
  pub frame : (heard (made 4 0 0x1234 2 13 0)).session ≡ numbers_in (rounds 2 2 13 0)
  pub frame_bad : (heard (of 9 0 0)).number ≡ 5
  pub read : word_at (shown (of 1 1 0)).room 0 ≡ 6
  pub read_bad : (shown (of 1 1 7)).number ≡ 5
  pub write : (written (of 1 1 0)).stores ≡ 5
  pub write_bad : (written (of 8 1 0)).number ≡ 5

pub large : Large
unfolding session_of loose_of same check_of power_up_of power_stores frame_of read_of write_of layout_of header_good blocks_in content_good rules_hold worked word_at with_word words_bits bits_of crc_of field_at heard_of filled bits_packed
large =
    record {
      check = refl;
      check_user = refl;
      power = refl;
      powered_stores = refl;
      frame = refl;
      frame_bad = refl;
      read = refl;
      read_bad = refl;
      write = refl;
      write_bad = refl;
    }

-- a number that is one thing is no other
pub other : (x a b : ℕ) → x ≡ a → (a ≡ b → ⊥) → x ≡ b → ⊥
other x a b e n f = n (sym e ∙ f)

-- a half of Access that is written as one of Kill
pub halves-swapped : (numbers_of (new_session (state.Secured (record { round = record { session = 0; q = 0 }; handle = 0x1234; cover = None; half = Some (half.Access 0x9ABC) }))).power).half ≡ 2 → ⊥
halves-swapped = other _ 1 2 refl (λ z. omega (arith, z))

-- a check that refuses the worked image, and one that hides its layout
pub check-refuses : checked.answer ≡ 2 → ⊥
check-refuses = other _ 0 2 large.check (λ z. omega (arith, z))

pub check-hides : checked.user.at ≡ 0 → ⊥
check-hides = other _ 28 0 large.check_user (λ z. omega (arith, z))

-- a power-up that leaves Off, and one that stores nothing
pub power-off : powered.session.state ≡ 0 → ⊥
power-off = other _ 1 0 large.power (λ z. omega (arith, z))

pub power-lazy : powered.stores ≡ 0 → ⊥
power-lazy = other _ 1 0 large.powered_stores (λ z. omega (arith, z))

-- a NAK that keeps the number, and one to an unknown state
pub frame-keeps : (heard (made 4 0 0x1234 2 13 0)).session.number ≡ 0x1234 → ⊥
frame-keeps = other _ 0 0x1234 (ap (λ (v : Numbers). v.number) large.frame) (λ z. omega (arith, z))

pub frame-unknown : (heard (of 9 0 0)).number ≡ 0 → ⊥
frame-unknown = other _ 5 0 large.frame_bad (λ z. omega (arith, z))

-- a port granted but not held, and one granted to a stray number
pub ask-free : (asked (of 1 0 0)).session.held ≡ 0 → ⊥
ask-free = other _ 1 0 small.ask (λ z. omega (arith, z))

pub ask-stray : (asked (of 1 0 5)).number ≡ 0 → ⊥
ask-stray = other _ 5 0 small.ask_bad (λ z. omega (arith, z))

-- a release that keeps the port, and one of a port held twice
pub release-keeps : (released (of 1 1 0)).session.held ≡ 1 → ⊥
release-keeps = other _ 0 1 small.release (λ z. omega (arith, z))

pub release-twice : (released (of 1 2 0)).number ≡ 0 → ⊥
release-twice = other _ 5 0 small.release_bad (λ z. omega (arith, z))

-- a register that is not told to its holder, and one told to a stray number
pub register-refuses : (registered (of 7 1 0)).number ≡ 5 → ⊥
register-refuses = other _ 0 5 small.register (λ z. omega (arith, z))

pub register-stray : (registered (of 7 1 5)).number ≡ 0 → ⊥
register-stray = other _ 5 0 small.register_bad (λ z. omega (arith, z))

-- a read that shows a zero, and one for a stray number
pub read-zero : word_at (shown (of 1 1 0)).room 0 ≡ 0 → ⊥
read-zero = other _ 6 0 large.read (λ z. omega (arith, z))

pub read-stray : (shown (of 1 1 7)).number ≡ 0 → ⊥
read-stray = other _ 5 0 large.read_bad (λ z. omega (arith, z))

-- a write that makes no store, and one in an unknown state
pub write-lazy : (written (of 1 1 0)).stores ≡ 0 → ⊥
write-lazy = other _ 5 0 large.write (λ z. omega (arith, z))

pub write-unknown : (written (of 8 1 0)).number ≡ 0 → ⊥
write-unknown = other _ 5 0 large.write_bad (λ z. omega (arith, z))

-- Wrong answers that the promises of the lent forms rule out, two for each: a record that keeps the old session, and one that is changed
-- where the call is refused or its power lost (RULES 7.2). Assumes nothing.
use Rattle.std.specs.Prelude.{ℕ, ◌+◌, ◌*◌, ◌≡◌, refl, Bool, true, false, List, [], ◌∷◌, eqb, replicate, Option, None, Some}
use Rattle.std.proofs.Common.{sym, ap, ◌∙◌}
use Rattle.std.proofs.lemmas.Bool.{eqb-false}
use Rattle.bits.specs.Words.{word_at, with_word}
use Rattle.bits.specs.Bits.{bits_of, words_bits, field_at}
use Rattle.crc.specs.Crc.{crc_of}
use Rattle.image.specs.Layout.{layout_of, header_good, blocks_in}
use Rattle.image.specs.Content.{rules_hold, content_good}
use Rattle.image.specs.Worked.{worked}
use Rattle.frames.specs.Frames.{heard_of}
use Rattle.stores.specs.Stores.{power_stores, change_stores}
use Rattle.states.specs.declared.State.{State}
use Rattle.states.specs.declared.State.TheVariants as state
use Rattle.states.specs.Commands.{no_round, state_number}
use Rattle.tag.specs.declared.Live.{Live}
use Rattle.tag.specs.declared.Session.{Session}
use Rattle.tag.specs.declared.Outcome.{Outcome}
use Rattle.tag.specs.Session.{off_session, new_flags, new_session, on, clear}
use Rattle.tag.specs.Result.{Result, first_of}
use Rattle.tag.specs.Power.{power_up_of}
use Rattle.tag.specs.Table.{frame_of}
use Rattle.tag.specs.Port.{bit_of, number_in, ask_of, release_of, register_of, read_of, write_of}
use Rattle.lent.specs.Lent.{Lent, finds}
use Rattle.tag.specs.Steps.{input}

-- a number for each of the sessions below
abbrev no : Option Live → ℕ
no None = 0
no (Some l) = state_number l.state + 10 * bit_of l.held + 100 * number_in l.register

-- after such a call the record can't hold the session w
abbrev pub Never : Result → Session → Type 0
Never x w = (o : Outcome) (image room : List ℕ) (found : Session) → Lent x o image room found → found ≡ w → ⊥

never : (x : Result) (w : Session) → eqb (no x.session.power) (no w.power) ≡ false → Never x w
never x w d o image room t l e =
    eqb-false (no x.session.power) (no w.power) d
    (ap (λ (s : Session). no s.power) (sym (finds x o image room t l) ∙ e))

-- sessions: one that holds the port, and one with bit 1 of its register set
abbrev holding : State → Session
holding st = on new_flags st true clear

abbrev marked : Bool → Session
marked held = on new_flags state.Ready held (record { unwritten = true; killed = false })

abbrev ready : Session
ready = new_session state.Ready

abbrev known : Session
known = new_session (state.Acknowledged no_round 0x1234)

abbrev fallen : Session
fallen = new_session (state.Arbitrate no_round 0)

pub record Wrong : Type 0 where
  pub power_up_kept : Never (first_of (power_up_of worked 1)) off_session
  pub power_up_changed : Never (first_of (power_up_of worked 0)) ready
  pub ask_kept : Never (first_of (ask_of ready)) ready
  pub ask_changed : Never (first_of (ask_of off_session)) (holding state.Ready)
  pub release_kept : Never (first_of (release_of (holding state.Ready))) (holding state.Ready)
  pub release_changed : Never (first_of (release_of ready)) off_session
  pub register_kept : Never (first_of (register_of (marked true))) (marked true)
  pub register_changed : Never (first_of (register_of (marked false))) ready
  pub read_kept : Never (first_of (read_of (holding state.Killed) worked 0 1 (replicate 2 0))) (holding state.Killed)
  pub read_changed : Never (first_of (read_of ready [] 0 1 [])) off_session
  pub write_kept : Never (first_of (write_of change_stores (holding state.Ready) worked 0 (1 ∷ 2 ∷ []) 0)) (holding state.Ready)
  pub write_changed : Never (first_of (write_of change_stores (holding state.Ready) worked 0 [] 0)) off_session
  pub frame_kept : Never (first_of (frame_of change_stores (input known worked (0xC0 ∷ []) 8 0 [] 0))) known
  pub frame_changed : Never (first_of (frame_of change_stores (input known [] (0xC0 ∷ []) 8 0 [] 0))) fallen

pub wrong : Wrong
unfolding power_up_of power_stores ask_of release_of register_of read_of write_of frame_of heard_of layout_of header_good blocks_in content_good rules_hold worked word_at with_word words_bits bits_of field_at crc_of
wrong =
    record {
      power_up_kept = never (first_of (power_up_of worked 1)) off_session refl;
      power_up_changed = never (first_of (power_up_of worked 0)) ready refl;
      ask_kept = never (first_of (ask_of ready)) ready refl;
      ask_changed = never (first_of (ask_of off_session)) (holding state.Ready) refl;
      release_kept = never (first_of (release_of (holding state.Ready))) (holding state.Ready) refl;
      release_changed = never (first_of (release_of ready)) off_session refl;
      register_kept = never (first_of (register_of (marked true))) (marked true) refl;
      register_changed = never (first_of (register_of (marked false))) ready refl;
      read_kept = never (first_of (read_of (holding state.Killed) worked 0 1 (replicate 2 0))) (holding state.Killed) refl;
      read_changed = never (first_of (read_of ready [] 0 1 [])) off_session refl;
      write_kept = never (first_of (write_of change_stores (holding state.Ready) worked 0 (1 ∷ 2 ∷ []) 0)) (holding state.Ready) refl;
      write_changed = never (first_of (write_of change_stores (holding state.Ready) worked 0 [] 0)) off_session refl;
      frame_kept = never (first_of (frame_of change_stores (input known worked (0xC0 ∷ []) 8 0 [] 0))) known refl;
      frame_changed = never (first_of (frame_of change_stores (input known [] (0xC0 ∷ []) 8 0 [] 0))) fallen refl;
    }

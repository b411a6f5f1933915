-- A frame to the session of a record: stopped by the front, or heard; and the same as an outcome. Assumes nothing.
use Rattle.std.specs.Prelude.{Some, Ok}
use Prim.Native.Nat.{ℕ}
use mathlib.Core.Path.{◌≡◌, refl, sym, ap, ◌∙◌, subst}
use mathlib.Core.Bool.{true≢false, Bool, true, false, cond}
use mathlib.Core.List.{List}
use native.Mathlib.Omega.{arith}
use lib.Dec.{eqb}
use borrow.Author.Tests.{eq-eqb, ne_eqb}
use Rattle.image.specs.Layout.{layout_of}
use Rattle.image.specs.Rules.{Good}
use Rattle.image.specs.Steps.{ready_row}
use Rattle.frames.specs.declared.Calling.{Calling}
use Rattle.frames.specs.declared.Command.{Command}
use Rattle.frames.specs.Message.{Message}
use Rattle.frames.specs.Message as heard
use Rattle.frames.specs.Frames.{heard_of}
use Rattle.frames.specs.Steps.{called}
use Rattle.frames.proofs.Ones.{ToOne}
use Rattle.stores.specs.Stores.{change_stores}
use Rattle.states.specs.declared.Numbers.{Numbers}
use Rattle.states.specs.declared.Record.{Record}
use Rattle.states.specs.Numbers.{numbers_in}
use Rattle.tag.specs.declared.Live.{Live}
use Rattle.tag.specs.declared.Session.{Session}
use Rattle.tag.specs.Result.{Left, Result, leaves, first_of}
use Rattle.tag.specs.Port.{bit_of}
use Rattle.tag.specs.Table.{live_of, frame_of}
use Rattle.tag.specs.Records.{blank, numbers_of, session_of, in_numbers}
use Rattle.tag.specs.RecordSteps.{fits_of}
use Rattle.tag.specs.Steps.{input, stays, on_session, radio_row, front_by, front_row, heard_by}
use Rattle.tag.specs.ByNumber.{live_at, Fit, heard_at, calling_at, command_at}
use Rattle.tag.proofs.Fronts.{Passed, passed-good}
use Rattle.tag.proofs.Tables.{frame-live, frame-stops, frame-passes}
use Rattle.tag.proofs.Records.{again, fit-live, unfit-off}
use Rattle.tag.proofs.ByNumber.{calling-by, command-by}

-- what was heard, of a session that the front lets pass
module _ (v : Numbers) (fit : Fit v) (m f : List ℕ) (n fresh : ℕ) (room : List ℕ) (s : ℕ) where
  said : Message → Left Numbers
  said h = in_numbers (heard_by (live_at v) (layout_of m) m f fresh room s h)

  pub heard-refused : (k : ℕ) → heard_of f n ≡ heard.refused k → stays k v m room ≡ heard_at v m f n fresh room s
  unfolding said
  heard-refused k e = ap (λ (w : Numbers). stays k w m room) (sym fit) ∙ ap said (sym e)

  pub heard-calling : (c : Calling) → called (Ok c) ≡ heard_of f n → calling_at (layout_of m) v m f fresh room c ≡ heard_at v m f n fresh room s
  unfolding said
  heard-calling c e =
      ap (λ (w : Numbers). calling_at (layout_of m) w m f fresh room c) (sym fit)
      ∙ calling-by (live_at v) (layout_of m) m f fresh room s c
      ∙ ap said e

  pub heard-command : (c : Command) → ToOne c.order → heard_of f n ≡ heard.said c → command_at (layout_of m) v m f fresh room s c ≡ heard_at v m f n fresh room s
  unfolding said
  heard-command c u e =
      ap (λ (w : Numbers). command_at (layout_of m) w m f fresh room s c) (sym fit)
      ∙ command-by (live_at v) (layout_of m) m f fresh room s c u
      ∙ ap said (sym e)

-- the front's number, by the image's
five-never : (x : ℕ) → front_by 5 x ≡ 0 → ⊥
five-never x = go (eqb x 0) refl
  where
    go : (b : Bool) → eqb x 0 ≡ b → cond b 5 x ≡ 0 → ⊥
    go true e h = omega arith
    go false e h = true≢false (sym (eq-eqb x 0 h) ∙ e)

image-first : (h x : ℕ) → (x ≡ 0 → ⊥) → x ≡ front_by h x
image-first h x z = sym (ap (λ (b : Bool). cond b h x) (ne_eqb x 0 z))

then-own : (h x : ℕ) → x ≡ 0 → h ≡ front_by h x
then-own h x z = sym (ap (λ (b : Bool). cond b h x) (eq-eqb x 0 z))

module _ (r : Record) (m f : List ℕ) (n fresh : ℕ) (room : List ℕ) (s : ℕ) where
  table : Session → Result
  table v = first_of (frame_of change_stores (input v m f n fresh room s))

  -- a record that is no session's is Off
  module _ (e : fits_of r ≡ false) {row : ℕ} (is : row ≡ front_by 5 (ready_row m)) where
    off-row : 5 ≡ radio_row (session_of (numbers_in r)).power
    off-row = ap (λ (v : Session). radio_row v.power) (sym (unfit-off r e))

    five-row : row ≡ front_row 5 m
    unfolding front_row
    five-row = is

    pub off-stops : stays row blank m room ≡ in_numbers (first_of (frame_of change_stores (input (session_of (numbers_in r)) m f n fresh room s)))
    off-stops =
        ap (λ (v : Session). stays row (numbers_of v.power) m room) (sym (unfit-off r e))
        ∙ ap in_numbers (frame-stops (session_of (numbers_in r)) m f n fresh room s off-row five-row (λ z. five-never (ready_row m) (sym is ∙ z)))

  -- any other is that of a session under power
  module _ (e : fits_of r ≡ true) {row : ℕ} (is : row ≡ ready_row m) where
    abbrev live : Live
    live = live_at (numbers_in r)

    on : session_of (numbers_in r) ≡ on_session live
    on = (fit-live r e).0

    pub fit : Fit (numbers_in r)
    fit = (fit-live r e).1

    written : (k : ℕ) → stays k (numbers_in r) m room ≡ in_numbers (leaves k (session_of (numbers_in r)) m room)
    written k =
        ap (λ (v : Numbers). stays k v m room) (sym fit)
        ∙ ap (λ (v : Session). in_numbers (leaves k v m room)) (sym on)

    own : radio_row (session_of (numbers_in r)).power ≡ radio_row (Some live)
    own = ap (λ (v : Session). radio_row v.power) on

    module _ (z : row ≡ 0 → ⊥) where
      image-row : row ≡ front_row (radio_row (session_of (numbers_in r)).power) m
      unfolding front_row
      image-row = is ∙ image-first (radio_row (session_of (numbers_in r)).power) (ready_row m) (λ q. z (is ∙ q))

      pub image-stops : stays row (numbers_in r) m room ≡ in_numbers (first_of (frame_of change_stores (input (session_of (numbers_in r)) m f n fresh room s)))
      image-stops = written row ∙ ap in_numbers (frame-stops (session_of (numbers_in r)) m f n fresh room s refl image-row z)

    module _ (z : row ≡ 0) where
      own_row : radio_row (Some live) ≡ front_row (radio_row (session_of (numbers_in r)).power) m
      unfolding front_row
      own_row = sym own ∙ then-own (radio_row (session_of (numbers_in r)).power) (ready_row m) (sym is ∙ z)

      held-is : (b : Bool) → live.held ≡ b → bit_of b ≡ (numbers_in r).held
      held-is b q = ap bit_of (sym q) ∙ ap (λ (v : Numbers). v.held) fit

      module _ (h : (numbers_in r).held ≡ 0 → ⊥) where
        held : live.held ≡ true
        held = go live.held refl
          where
            go : (b : Bool) → live.held ≡ b → live.held ≡ true
            go true q = q
            go false q = absurd (h (sym (held-is false q)))

        six : 6 ≡ front_row (radio_row (session_of (numbers_in r)).power) m
        six = ap (λ (b : Bool). cond b 6 0) (sym held) ∙ own_row

        pub port-stops : stays 6 (numbers_in r) m room ≡ in_numbers (first_of (frame_of change_stores (input (session_of (numbers_in r)) m f n fresh room s)))
        port-stops = written 6 ∙ ap in_numbers (frame-stops (session_of (numbers_in r)) m f n fresh room s refl six (λ q. omega arith))

      module _ (h : (numbers_in r).held ≡ 0) where
        free : live.held ≡ false
        free = go live.held refl
          where
            go : (b : Bool) → live.held ≡ b → live.held ≡ false
            go true q = absurd (let one : ◌≡◌ {A = ℕ} 1 0 = held-is true q ∙ h in omega arith)
            go false q = q

        none : 0 ≡ front_row (radio_row (session_of (numbers_in r)).power) m
        none = ap (λ (b : Bool). cond b 6 0) (sym free) ∙ own_row

        passed : Passed (Some live) m live.held
        passed =
            subst (λ (v : Session). Passed v.power m (live_of v.power).held) on
            (frame-passes (session_of (numbers_in r)) m f n fresh room s refl none refl)

        pub entry-good : Good (layout_of m) m
        entry-good = passed-good passed

        pub entry-heard : heard_at (numbers_in r) m f n fresh room s ≡ in_numbers (first_of (frame_of change_stores (input (session_of (numbers_in r)) m f n fresh room s)))
        unfolding table
        entry-heard = sym (ap (λ (v : Session). in_numbers (table v)) on ∙ ap in_numbers (frame-live live m f n fresh room s passed))

-- what is left, with its session read again
abbrev pub back : Left Numbers → Result
back x =
    record { number = x.number; session = session_of x.session; reply = x.reply; stores = x.stores; value = x.value; image = x.image; room = x.room }

pub back-again : (x : Result) → back (in_numbers x) ≡ x
back-again x =
    λ t.
    record { number = x.number; session = again x.session.power t; reply = x.reply; stores = x.stores; value = x.value; image = x.image; room = x.room }

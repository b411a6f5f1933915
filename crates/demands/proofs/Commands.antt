-- Demand 2: where no refusal applies, the table gives its last row; command by command. Assumes nothing.
use Rattle.std.specs.Prelude.{Option, None, Some}
use Prim.Native.Nat.{ℕ, ◌+◌, ◌*◌, ◌/◌, ◌%◌, ◌^◌, ◌≤◌}
use mathlib.Core.Path.{◌≡◌, refl, sym, ap, ap₂, ◌∙◌, subst}
use mathlib.Core.Logic.{◌≢◌, ◌⊎◌, inl, inr}
use mathlib.Core.Bool.{true≢false, Bool, true, false, cond, not, ◌&&◌}
use mathlib.Core.List.{List, [], ◌∷◌, ◌++◌}
use native.Mathlib.Omega.{arith}
use lib.Bits.{bit_xor}
use lib.Dec.{eqb, ltb}
use lib.ListN.{length}
use borrow.Author.Tests.{eq-eqb, ne_eqb, le-ltb}
use Rattle.bits.specs.Words.{word_at, Store, store, after}
use Rattle.image.specs.declared.Layout.{Layout}
use Rattle.image.specs.Layout.{layout_of, pairs_in}
use Rattle.image.specs.Content.{length_of, pc_word}
use Rattle.image.proofs.Answers.{check-good, check-0}
use Rattle.frames.specs.declared.Round.{Round}
use Rattle.frames.specs.declared.Choice.{Choice}
use Rattle.frames.specs.declared.Command.{Command}
use Rattle.frames.specs.declared.Order.{Order}
use Rattle.frames.specs.declared.Order.TheVariants as order
use Rattle.frames.specs.Message.{Message}
use Rattle.frames.specs.Message as heard
use Rattle.frames.specs.Frames.{span, heard_of}
use Rattle.replies.specs.declared.Reply.{Reply}
use Rattle.replies.specs.declared.Reply.TheVariants as reply
use Rattle.replies.specs.Replies.{reply_bits, reply_length}
use Rattle.replies.specs.Steps.{reply_bytes}
use Rattle.replies.specs.Pack.{packed}
use Rattle.replies.proofs.Laws.{length-reply}
use Rattle.rights.specs.Rights.{bank_of}
use Rattle.rights.specs.Rights.{Code}
use Rattle.std.specs.Prelude.{Ok, Err}
use Rattle.rights.specs.declared.Fault.TheVariants as fault
use Rattle.stores.specs.Stores.{change_stores}
use Rattle.states.specs.declared.Half.{Half}
use Rattle.states.specs.declared.Half.TheVariants as half
use Rattle.states.specs.declared.Link.{Link}
use Rattle.states.specs.declared.Part.TheVariants as part
use Rattle.states.specs.declared.Flags.{Flags}
use Rattle.states.proofs.Gates.{Named, halves-between}
use Rattle.states.specs.declared.State.{State}
use Rattle.states.specs.declared.State.TheVariants as state
use Rattle.tag.specs.declared.Session.{Session}
use Rattle.tag.specs.Result.{Result, leaves, lost, first_of}
use Rattle.tag.specs.Steps.{gives, input}
use Rattle.states.specs.Commands.{asks_of, link_of, is_covered, is_killed, halves_row, halves_of, access_word, is_linked, fallen}
use Rattle.states.specs.Inventory.{drawn, slot_from, inverted, queried, left_flags, adjusted, repeated, acknowledged, selects, selected_flags}
use Rattle.states.specs.Steps.{wrong_command}
use Rattle.states.specs.Commands as wide
use Rattle.states.specs.declared.Who.{Who}
use Rattle.states.specs.declared.Who.TheVariants as who
use Rattle.plans.specs.Effects.{Effect, turns, drawn_reply, effect_of}
use Rattle.tag.specs.Table.{Input, refused_by, command_in, halves, scene, effect, is_error, reply_or, reply_of, fits, frame_of}
use Rattle.demands.specs.Facts.{marked, Slotted, Singled, Numbered, FirstStep, Matches, Adjusts, CountsDown, Selected, Takeable}
use Rattle.demands.specs.Facts as facts
use Rattle.demands.proofs.Rights.{marked-words, marked-every}
use Rattle.demands.proofs.Terms.{terms-so}
use Rattle.tag.specs.Port.{bad_count, bad_data, refusals, with_killed, with_unwritten, some_unwritten, written_words, read_bits, port_words, ask_of, release_of, register_of, read_of, write_of}
use Rattle.demands.specs.Calls.{Aside, awake, answer_of, Idle}
use Rattle.demands.specs.Commands.{Air, answers_to, linked, link, registered, flagged, quiet, shows_epc, obeyed, Turns, Does, Rounds, Radio, NoImage, Transfers, Demand2}
use Rattle.demands.proofs.Rows.{Rows, None as NoRow, none_first}
use Rattle.demands.proofs.Cuts.{started-so}
use Rattle.demands.proofs.Rounds.{slotted-session, singled-session, first_step, matches-so, matches-not, adjusts-so, says-up-down, counts-so, selects-so, selects-not, taken-choice}
use Rattle.demands.proofs.Codes.{and-false, words-shown, read-clear, write-clear, lock-clear, perma-read-clear, perma-clear}

-- states by name
not-killed : (st : State) → st ≢ state.Killed → is_killed st ≡ false
not-killed state.Ready d = refl
not-killed (state.Arbitrate q n) d = refl
not-killed (state.Reply q n) d = refl
not-killed (state.Acknowledged q n) d = refl
not-killed (state.Open k) d = refl
not-killed (state.Secured k) d = refl
not-killed state.Killed d = absurd (d refl)

not-linked : (st : State) → ((q : Bool) (k : Link) → st ≢ linked q k) → is_linked st ≡ false
not-linked state.Ready d = refl
not-linked (state.Arbitrate q n) d = refl
not-linked (state.Reply q n) d = refl
not-linked (state.Acknowledged q n) d = refl
not-linked (state.Open k) d = absurd (d false k refl)
not-linked (state.Secured k) d = absurd (d true k refl)
not-linked state.Killed d = refl

-- the frame that was heard as x comes to the last row
module _ (a : Air) (st : State) (r : Aside) (idle : Idle (layout_of a.image) a.image) where
  handed : Input
  handed = input (awake st false r) a.image a.frame a.bits a.fresh a.room a.power

  -- answer 0 as the table has it
  given : Reply → Flags → State → List Store → Result
  given rp f st' ws =
      let ss = change_stores (layout_of a.image).work.at ws in
      record {
        number = 0;
        session = awake st' false (flagged r f);
        reply = reply_length rp;
        stores = length ss;
        value = 0;
        image = after a.image ss;
        room = packed (reply_bits a.image rp) a.room;
      }

  -- and by the reply's bits
  given-done : (rp : Reply) (f : Flags) (st' : State) (ws : List Store)
      → given rp f st' ws ≡ obeyed (layout_of a.image) a (flagged r f) (record { state = st'; reply = rp; words = ws })
  unfolding given
  given-done rp f st' ws =
      let ss = change_stores (layout_of a.image).work.at ws in
      ap (λ (k : ℕ). record { number = 0; session = awake st' false (flagged r f); reply = k; stores = length ss; value = 0; image = after a.image ss; room = packed (reply_bits a.image rp) a.room })
      (sym (length-reply a.image rp))

  in_bytes : (rp : Reply) → length (reply_bits a.image rp) ≤ 8 * length a.room → reply_bytes rp ≤ length a.room
  in_bytes rp l = let k = length-reply a.image rp in omega (arith, l, k)

  fitting : (rp : Reply) → reply_bytes rp ≤ length a.room → fits rp a.room ≡ true
  fitting rp l = ap not (le-ltb (length a.room) (reply_bytes rp) l)

  module _ (c : Command) (h : heard_of a.frame a.bits ≡ heard.said c) (w : wrong_command st c ≡ false)
      (b : halves_of (layout_of a.image) a.image st c.order ≡ 0)
      (e : (effect_of (scene handed) c.order).code ≡ (Ok tt)) (room : reply_bytes (effect_of (scene handed) c.order).reply ≤ length a.room)
      (power : length (change_stores (layout_of a.image).work.at (effect_of (scene handed) c.order).words) ≤ a.power) where
    comes : Effect
    comes = effect_of (scene handed) c.order

    effect_is : effect handed ≡ comes
    unfolding handed comes
    effect_is = ap (λ (x : Message). effect_of (scene handed) (command_in x).order) h

    reply-is : reply_of handed ≡ comes.reply
    unfolding handed comes
    reply-is =
        ap (λ (z : Effect). reply_or z.code (link_of st).handle z.reply) effect_is
        ∙ ap (λ (c : Code). reply_or c (link_of st).handle comes.reply) e

    code_is : (effect handed).code ≡ (Ok tt)
    unfolding comes
    code_is = ap (λ (z : Effect). z.code) effect_is ∙ e

    fits-is : fits (reply_of handed) a.room ≡ true
    unfolding comes
    fits-is = ap (λ (q : Reply). fits q a.room) reply-is ∙ fitting comes.reply room

    halves-is : halves handed ≡ 0
    unfolding handed
    halves-is = ap (λ (x : Message). halves_of (layout_of a.image) a.image st (command_in x).order) h ∙ b

    none : NoRow (frame_of change_stores handed).rows
    unfolding frame_of handed comes
    none =
        let i = check-0 a.image (layout_of a.image) (sym idle.sound) in (
          i.0,
          (
            i.1,
            (
              i.2,
              (
                ap not (eq-eqb _ _ idle.nothing),
                (
                  refl,
                  (
                    ap (refused_by 7) h,
                    (
                      ap (refused_by 8) h,
                      (
                        ap (λ (x : Message). wrong_command st (command_in x)) h ∙ w,
                        (
                          ap (λ (x : ℕ). eqb x 12) halves-is,
                          (
                            ap (λ (x : ℕ). eqb x 14) halves-is,
                            (
                              ap (λ (q : Code). is_error q && fits (reply_of handed) a.room) code_is,
                              (
                                ap not fits-is,
                                (le-ltb a.power _ (subst (λ (z : Effect). length (change_stores (layout_of a.image).work.at z.words) ≤ a.power) (sym effect_is) power), tt),
                              ),
                            ),
                          ),
                        ),
                      ),
                    ),
                  ),
                ),
              ),
            ),
          ),
        )

    last_row : answers_to answer_of a (awake st false r) ≡ given comes.reply comes.flags comes.state comes.words
    unfolding frame_of handed given
    last_row =
        none_first (frame_of change_stores handed).rows (frame_of change_stores handed).done none
        ∙ ap (λ (q : Reply). given q (effect handed).flags (effect handed).state (effect handed).words) reply-is
        ∙ ap (λ (z : Effect). given comes.reply z.flags z.state z.words) effect_is

-- an order in Secured and Open with the handle is heard, in Open where it does not need Secured; one to every tag apart
abbrev pub needs_secured : Who → Bool
needs_secured who.Everyone = false
needs_secured who.InRound = false
needs_secured (who.InSession k) = false
needs_secured who.Replied = false
needs_secured who.Acknowledged = false
needs_secured who.Linked = false
needs_secured who.Secured = true

heard-secured : (w : Who) (k : Link) → Named w → wide.hears w (state.Secured k) k.handle ≡ true
heard-secured who.Everyone k d = absurd d
heard-secured who.InRound k d = absurd d
heard-secured (who.InSession n) k d = absurd d
heard-secured who.Replied k d = absurd d
heard-secured who.Acknowledged k d = eq-eqb k.handle k.handle refl
heard-secured who.Linked k d = eq-eqb k.handle k.handle refl
heard-secured who.Secured k d = eq-eqb k.handle k.handle refl

heard-open : (w : Who) (k : Link) → Named w → needs_secured w ≡ false → wide.hears w (state.Open k) k.handle ≡ true
heard-open who.Everyone k d e = absurd d
heard-open who.InRound k d e = absurd d
heard-open (who.InSession n) k d e = absurd d
heard-open who.Replied k d e = absurd d
heard-open who.Acknowledged k d e = eq-eqb k.handle k.handle refl
heard-open who.Linked k d e = eq-eqb k.handle k.handle refl
heard-open who.Secured k d e = absurd (true≢false e)

-- an order that is heard, for the tag, whose halves are not broken and to which no code applies
module _ (a : Air) (r : Aside) (q : Round) (idle : Idle (layout_of a.image) a.image) where
  -- what an order comes to in a state
  at : State → Order → Effect
  at st o = effect_of (record { layout = layout_of a.image; image = a.image; flags = r.flags; state = st; frame = a.frame; fresh = a.fresh }) o

  -- it comes to its effect
  Comes : ℕ → Order → State → Type 0
  Comes n o st = Turns answer_of (layout_of a.image) a r q n o st (at st o).flags (record { state = (at st o).state; reply = (at st o).reply; words = (at st o).words })

  order-done : (st : State) (n : ℕ) (o : Order) → wrong_command st (record { number = n; order = o }) ≡ false
      → halves_of (layout_of a.image) a.image st o ≡ 0 → (at st o).code ≡ (Ok tt) → Comes n o st
  unfolding handed given comes at Comes
  order-done st n o w b e says enough =
      last_row a st r idle (record { number = n; order = o }) says w b e (in_bytes a st r idle (at st o).reply enough.0) enough.1
      ∙ given-done a st r idle (at st o).reply (at st o).flags (at st o).state (at st o).words

  secured-done : (k : Link) (o : Order) → Named (asks_of o).who → (asks_of o).cover && not (is_covered k.cover) ≡ false → (asks_of o).bad ≡ false
      → halves_of (layout_of a.image) a.image (state.Secured k) o ≡ 0 → (at (state.Secured k) o).code ≡ (Ok tt) → Comes k.handle o (state.Secured k)
  secured-done k o t c d b e = order-done (state.Secured k) k.handle o (rw (heard-secured (asks_of o).who k t, c, d)) b e

  open_done : (k : Link) (o : Order) → Named (asks_of o).who → needs_secured (asks_of o).who ≡ false → (asks_of o).cover && not (is_covered k.cover) ≡ false → (asks_of o).bad ≡ false
      → halves_of (layout_of a.image) a.image (state.Open k) o ≡ 0 → (at (state.Open k) o).code ≡ (Ok tt) → Comes k.handle o (state.Open k)
  open_done k o t s c d b e = order-done (state.Open k) k.handle o (rw (heard-open (asks_of o).who k t s, c, d)) b e

-- NAK, and the commands of inventory
module _ (a : Air) (r : Aside) (idle : Idle (layout_of a.image) a.image) where
  -- NAK in each state of a round
  nak-done : (st : State) (q : Round) (slot : ℕ) → Slotted st q slot → Does answer_of (layout_of a.image) a r q 0 order.Nak st (quiet (state.Arbitrate q slot))
  unfolding at Comes
  nak-done st q slot (facts.arbitrate p s) = order-done a r q idle (state.Arbitrate q slot) 0 order.Nak refl refl refl
  nak-done st q slot (facts.reply p n) = order-done a r q idle (state.Reply q n) 0 order.Nak refl refl refl

  nak-singled : (st : State) (q : Round) → Singled st q → Does answer_of (layout_of a.image) a r q 0 order.Nak st (quiet (state.Arbitrate q 0))
  unfolding at Comes
  nak-singled st q (facts.acknowledged p n) = order-done a r q idle (state.Acknowledged q n) 0 order.Nak refl refl refl
  nak-singled st q (facts.opened k) = order-done a r q idle (state.Open k) 0 order.Nak refl (halves-between (layout_of a.image) a.image k k.half) refl
  nak-singled st q (facts.secured k) = order-done a r q idle (state.Secured k) 0 order.Nak refl (halves-between (layout_of a.image) a.image k k.half) refl

module _ (a : Air) (r : Aside) (q : Round) (idle : Idle (layout_of a.image) a.image) where
  some : (n : ℕ) → 1 ≤ n → eqb n 0 ≡ false
  some n l = ne_eqb n 0 (λ e. omega arith)

  -- the state that Req_RN opens, by the access password
  numbered-so : Bool → Result
  numbered-so t =
      let k = link q a.fresh None None in
      obeyed (layout_of a.image) a r (record { state = cond t (state.Secured k) (state.Open k); reply = reply.Number a.fresh; words = [] })

  nonzero : (u v : ℕ) → (u ≢ 0) ⊎ (v ≢ 0) → eqb u 0 && eqb v 0 ≡ false
  nonzero u v (inl d) = ap (λ (t : Bool). t && eqb v 0) (ne_eqb u 0 d)
  nonzero u v (inr d) = ap (λ (t : Bool). eqb u 0 && t) (ne_eqb v 0 d) ∙ and-false (eqb u 0)

  -- a kill password, and a right one
  no_code : {b : Bool} → b ≡ false → cond {A = Code} b (Err fault.Other) (Ok tt) ≡ Ok tt
  no_code e = ap (λ (t : Bool). cond {A = Code} t (Err fault.Other) (Ok tt)) e

  right : (up low u v : ℕ) → up ≡ u → low ≡ v → ◌≡◌ {A = ℕ} (cond (eqb up u && eqb low v) 0 12) 0
  right up low u v i j = ap (λ (b : Bool). cond b 0 12) (ap₂ ◌&&◌ (eq-eqb up u i) (eq-eqb low v j))

  radio : Rounds answer_of (layout_of a.image) a r q → Radio answer_of (layout_of a.image) a r q
  unfolding at Comes numbered-so
  radio rounds =
      record {
        rounds = rounds;
        req_rn = λ n i j says enough.
            order-done a r q idle (state.Acknowledged q n) n order.ReqRn (rw (eq-eqb n n refl)) refl refl says enough
            ∙ ap numbered-so (ap₂ ◌&&◌ (eq-eqb (access_word (layout_of a.image) a.image 0) 0 i) (eq-eqb (access_word (layout_of a.image) a.image 1) 0 j));
        req-rn-open = λ n d says enough.
            order-done a r q idle (state.Acknowledged q n) n order.ReqRn (rw (eq-eqb n n refl)) refl refl says enough
            ∙ ap numbered-so (nonzero (access_word (layout_of a.image) a.image 0) (access_word (layout_of a.image) a.image 1) d);
        req_rn_cover = elim [
          | true ↦ λ h c p. secured-done a r q idle (link q h c p) order.ReqRn tt refl refl (halves-between (layout_of a.image) a.image (link q h c p) p) refl
          | false ↦ λ h c p. open_done a r q idle (link q h c p) order.ReqRn tt refl refl refl (halves-between (layout_of a.image) a.image (link q h c p) p) refl
        ];
        read = elim [
          | true ↦ λ h c b p n k e.
              subst (λ (z : ℕ). Does answer_of (layout_of a.image) a r q h (order.Read (span b p n)) (state.Secured (link q h c None)) (record { state = state.Secured (link q h None None); reply = reply.Words ((bank_of (layout_of a.image) b).at + p) z h; words = [] })) (words-shown (layout_of a.image) a.image b p n k e.shows)
              (secured-done a r q idle (link q h c None) (order.Read (span b p n)) tt refl refl refl (read-clear (layout_of a.image) a.image true b p n k e))
          | false ↦ λ h c b p n k e.
              subst (λ (z : ℕ). Does answer_of (layout_of a.image) a r q h (order.Read (span b p n)) (state.Open (link q h c None)) (record { state = state.Open (link q h None None); reply = reply.Words ((bank_of (layout_of a.image) b).at + p) z h; words = [] })) (words-shown (layout_of a.image) a.image b p n k e.shows)
              (open_done a r q idle (link q h c None) (order.Read (span b p n)) tt refl refl refl refl (read-clear (layout_of a.image) a.image false b p n k e))
        ];
        write = elim [
          | true ↦ λ h c b p w e. secured-done a r q idle (link q h (Some c) None) (order.Write (span b p 1) w) tt refl refl refl (write-clear (layout_of a.image) a.image true b p 1 (bit_xor w c) e)
          | false ↦ λ h c b p w e. open_done a r q idle (link q h (Some c) None) (order.Write (span b p 1) w) tt refl refl refl refl (write-clear (layout_of a.image) a.image false b p 1 (bit_xor w c) e)
        ];
        kill_first = elim [
          | true ↦ λ h c w e. secured-done a r q idle (link q h (Some c) None) (order.Kill w) tt refl refl refl (no_code (nonzero _ _ e))
          | false ↦ λ h c w e. open_done a r q idle (link q h (Some c) None) (order.Kill w) tt refl refl refl refl (no_code (nonzero _ _ e))
        ];
        kill_second = elim [
          | true ↦ λ h c w up i j. secured-done a r q idle (link q h (Some c) (Some (half.Kill up))) (order.Kill w) tt refl refl (right up (bit_xor w c) _ _ i j) refl
          | false ↦ λ h c w up i j. open_done a r q idle (link q h (Some c) (Some (half.Kill up))) (order.Kill w) tt refl refl refl (right up (bit_xor w c) _ _ i j) refl
        ];
        lock = λ h c mask action e. secured-done a r q idle (link q h c None) (order.Lock mask action) tt refl refl refl (lock-clear (layout_of a.image) a.image mask action e);
        access-first = elim [
          | true ↦ λ h c w. secured-done a r q idle (link q h (Some c) None) (order.Access w) tt refl refl refl refl
          | false ↦ λ h c w. open_done a r q idle (link q h (Some c) None) (order.Access w) tt refl refl refl refl refl
        ];
        access-second = elim [
          | true ↦ λ h c w up i j. secured-done a r q idle (link q h (Some c) (Some (half.Access up))) (order.Access w) tt refl refl (right up (bit_xor w c) _ _ i j) refl
          | false ↦ λ h c w up i j. open_done a r q idle (link q h (Some c) (Some (half.Access up))) (order.Access w) tt refl refl refl (right up (bit_xor w c) _ _ i j) refl
        ];
        block_write = elim [
          | true ↦ λ h c b p n at l e. secured-done a r q idle (link q h c None) (order.BlockWrite (span b p n) at) tt refl (some n l) refl (write-clear (layout_of a.image) a.image true b p n _ e)
          | false ↦ λ h c b p n at l e. open_done a r q idle (link q h c None) (order.BlockWrite (span b p n) at) tt refl refl (some n l) refl (write-clear (layout_of a.image) a.image false b p n _ e)
        ];
        block_erase = elim [
          | true ↦ λ h c b p n l e. secured-done a r q idle (link q h c None) (order.BlockErase (span b p n)) tt refl (some n l) refl (write-clear (layout_of a.image) a.image true b p n 0 e)
          | false ↦ λ h c b p n l e. open_done a r q idle (link q h c None) (order.BlockErase (span b p n)) tt refl refl (some n l) refl (write-clear (layout_of a.image) a.image false b p n 0 e)
        ];
        permalock_read = λ h c p n l e. secured-done a r q idle (link q h c None) (order.ReadPermalock 0 (span 3 p n)) tt refl (some n l) refl (perma-read-clear (layout_of a.image) p n e);
        permalock = λ h c p n at l e. secured-done a r q idle (link q h c None) (order.Permalock 0 (span 3 p n) at) tt refl (some n l) refl (perma-clear (layout_of a.image) a.image p n a.frame at e);
        nak = λ st slot x. nak-done a r idle st q slot x;
        nak-singled = λ st x. nak-singled a r idle st q x;
      }

-- the commands of inventory
module _ (a : Air) (r : Aside) (idle : Idle (layout_of a.image) a.image) where
  -- an order that comes to e
  comes-to : (st : State) (q : Round) (n : ℕ) (o : Order) (e : Effect) → wrong_command st (record { number = n; order = o }) ≡ false
      → halves_of (layout_of a.image) a.image st o ≡ 0 → at a r q idle st o ≡ e → e.code ≡ (Ok tt)
      → Turns answer_of (layout_of a.image) a r q n o st e.flags (record { state = e.state; reply = e.reply; words = e.words })
  unfolding Comes
  comes-to st q n o e w b h c =
      subst (λ (x : Effect). Turns answer_of (layout_of a.image) a r q n o st x.flags (record { state = x.state; reply = x.reply; words = x.words })) h
      (order-done a r q idle st n o w b (ap (λ (x : Effect). x.code) h ∙ c))

  between : (st : State) → halves_row (layout_of a.image) a.image (link_of st) (link_of st).half part.Between ≡ 0
  between st = halves-between (layout_of a.image) a.image (link_of st) (link_of st).half

  -- a slot that is drawn or counted down
  waits-so : (q : Round) (slot : ℕ) → slot ≢ 0 → drawn q slot a.fresh ≡ state.Arbitrate q slot
  waits-so q slot d = ap (λ (b : Bool). cond b (state.Reply q a.fresh) (state.Arbitrate q slot)) (ne_eqb slot 0 d)

  replies-so : (q : Round) (slot : ℕ) → slot ≡ 0 → drawn q slot a.fresh ≡ state.Reply q a.fresh
  replies-so q slot e = ap (λ (b : Bool). cond b (state.Reply q a.fresh) (state.Arbitrate q slot)) (eq-eqb slot 0 e)

  -- Query
  query-to : (st : State) (q : Round) (sel t : ℕ) (p : Round) (g : Flags) (to : State) → st ≢ state.Killed → FirstStep st p.session r.flags g
      → queried g sel t p a.fresh ≡ to
      → Turns answer_of (layout_of a.image) a r q 0 (order.Query sel t p) st g (record { state = to; reply = drawn_reply to; words = [] })
  unfolding at
  query-to st q sel t p g to k h e =
      comes-to st q 0 (order.Query sel t p) (turns g to) (rw (not-killed st k)) (between st)
      (ap (λ (f : Flags). turns f (queried f sel t p a.fresh)) (first_step st p.session r.flags g h) ∙ ap (turns g) e) refl

  joins-so : (sel t : ℕ) (p : Round) (g : Flags) (to : State) → Matches g sel t p.session → drawn p (slot_from p a.fresh) a.fresh ≡ to → queried g sel t p a.fresh ≡ to
  joins-so sel t p g to m e = ap (λ (b : Bool). cond b (drawn p (slot_from p a.fresh) a.fresh) state.Ready) (matches-so g sel t p.session m) ∙ e

  -- QueryAdjust and QueryRep in Arbitrate and Reply
  session-right : (st : State) (q : Round) (n : ℕ) (o : Order) → wide.hears (asks_of o).who st n ≡ eqb q.session q.session → (asks_of o).cover ≡ false → (asks_of o).bad ≡ false
      → wrong_command st (record { number = n; order = o }) ≡ false
  session-right st q n o h c b = rw (h ∙ eq-eqb q.session q.session refl, c, b)

  adjust-to : (st : State) (q : Round) (slot u new : ℕ) (to : State) → Slotted st q slot → Adjusts u q.q new
      → drawn (record { session = q.session; q = new }) (a.fresh % 2 ^ new) a.fresh ≡ to
      → Does answer_of (layout_of a.image) a r q 0 (order.QueryAdjust q.session u) st (record { state = to; reply = drawn_reply to; words = [] })
  unfolding at
  adjust-to st q slot u new to x h e =
      comes-to st q 0 (order.QueryAdjust q.session u) (turns r.flags to)
      (session-right st q 0 (order.QueryAdjust q.session u) (slotted-session st q slot q.session 0 x) refl (says-up-down u q.q new h)) (between st) (go st q slot x h e) refl
    where
      go : (st : State) (q : Round) (slot : ℕ) → Slotted st q slot → Adjusts u q.q new → drawn (record { session = q.session; q = new }) (a.fresh % 2 ^ new) a.fresh ≡ to
          → turns (left_flags r.flags st) (adjusted st u a.fresh) ≡ turns r.flags to
      go st q slot (facts.arbitrate p s) h e = ap (λ (k : ℕ). turns r.flags (drawn (record { session = q.session; q = k }) (a.fresh % 2 ^ k) a.fresh)) (adjusts-so u q.q new h) ∙ ap (turns r.flags) e
      go st q slot (facts.reply p s) h e = ap (λ (k : ℕ). turns r.flags (drawn (record { session = q.session; q = k }) (a.fresh % 2 ^ k) a.fresh)) (adjusts-so u q.q new h) ∙ ap (turns r.flags) e

  rep-to : (st : State) (q : Round) (slot next : ℕ) (to : State) → Slotted st q slot → CountsDown slot next → drawn q next a.fresh ≡ to
      → Does answer_of (layout_of a.image) a r q 0 (order.QueryRep q.session) st (record { state = to; reply = drawn_reply to; words = [] })
  unfolding at
  rep-to st q slot next to x h e =
      comes-to st q 0 (order.QueryRep q.session) (turns r.flags to)
      (session-right st q 0 (order.QueryRep q.session) (slotted-session st q slot q.session 0 x) refl refl) (between st) (go st q slot x h e) refl
    where
      go : (st : State) (q : Round) (slot : ℕ) → Slotted st q slot → CountsDown slot next → drawn q next a.fresh ≡ to
          → turns (left_flags r.flags st) (repeated st a.fresh) ≡ turns r.flags to
      go st q slot (facts.arbitrate p s) h e = ap (λ (k : ℕ). turns r.flags (drawn q k a.fresh)) (counts-so slot next h) ∙ ap (turns r.flags) e
      go st q slot (facts.reply p s) h e = ap (λ (k : ℕ). turns r.flags (drawn q k a.fresh)) (counts-so slot next h) ∙ ap (turns r.flags) e

  -- in Acknowledged, Open and Secured
  adjust-left : (st : State) (q : Round) (u new : ℕ) → Singled st q → Adjusts u q.q new
      → Turns answer_of (layout_of a.image) a r q 0 (order.QueryAdjust q.session u) st (inverted r.flags q.session) (quiet state.Ready)
  unfolding at
  adjust-left st q u new x h =
      comes-to st q 0 (order.QueryAdjust q.session u) (turns (inverted r.flags q.session) state.Ready)
      (session-right st q 0 (order.QueryAdjust q.session u) (singled-session st q q.session 0 x) refl (says-up-down u q.q new h)) (between st) (go st q x) refl
    where
      go : (st : State) (q : Round) → Singled st q → turns (left_flags r.flags st) (adjusted st u a.fresh) ≡ turns (inverted r.flags q.session) state.Ready
      go st q (facts.acknowledged p n) = refl
      go st q (facts.opened k) = refl
      go st q (facts.secured k) = refl

  rep-left : (st : State) (q : Round) → Singled st q → Turns answer_of (layout_of a.image) a r q 0 (order.QueryRep q.session) st (inverted r.flags q.session) (quiet state.Ready)
  unfolding at
  rep-left st q x =
      comes-to st q 0 (order.QueryRep q.session) (turns (inverted r.flags q.session) state.Ready)
      (session-right st q 0 (order.QueryRep q.session) (singled-session st q q.session 0 x) refl refl) (between st) (go st q x) refl
    where
      go : (st : State) (q : Round) → Singled st q → turns (left_flags r.flags st) (repeated st a.fresh) ≡ turns (inverted r.flags q.session) state.Ready
      go st q (facts.acknowledged p n) = refl
      go st q (facts.opened k) = refl
      go st q (facts.secured k) = refl

  -- ACK with the right number, and with another one
  shown : State → Effect
  shown st =
      record {
        code = (Ok tt);
        flags = r.flags;
        state = acknowledged st;
        reply = reply.Epc ((layout_of a.image).epc.at + 1) (length_of (pc_word (layout_of a.image) a.image) + 1);
        words = [];
      }

  ack-to : (st : State) (q : Round) (n : ℕ) → (link_of st).handle ≡ n → wrong_command st (record { number = 0; order = order.Ack n }) ≡ false
      → halves_of (layout_of a.image) a.image st (order.Ack n) ≡ 0
      → Does answer_of (layout_of a.image) a r q 0 (order.Ack n) st (shows_epc (layout_of a.image) a (acknowledged st))
  unfolding at shown
  ack-to st q n e w b =
      comes-to st q 0 (order.Ack n) (shown st) w b (ap (λ (t : Bool). cond t (shown st) (turns r.flags (fallen st))) (eq-eqb (link_of st).handle n e)) refl

  not-to : (k : Link) (p : Option Half) (n : ℕ) → k.handle ≢ n → halves_row (layout_of a.image) a.image k p (part.To n) ≡ 0
  not-to k None n d = refl
  not-to k (Some (half.Access up)) n d = ap (λ (b : Bool). cond b 14 0) (ne_eqb k.handle n d)
  not-to k (Some (half.Kill up)) n d = ap (λ (b : Bool). cond b 14 0) (ne_eqb k.handle n d)

  ack-off : (st : State) (q : Round) (n k : ℕ) → Numbered st q n → k ≢ n → Does answer_of (layout_of a.image) a r q 0 (order.Ack k) st (quiet (state.Arbitrate q 0))
  unfolding at shown
  ack-off st q n k (facts.reply p m) d = comes-to (state.Reply q n) q 0 (order.Ack k) (turns r.flags (state.Arbitrate q 0)) refl refl (ap (λ (t : Bool). cond t (shown (state.Reply q n)) (turns r.flags (state.Arbitrate q 0))) (ne_eqb n k (λ e. d (sym e)))) refl
  ack-off st q n k (facts.acknowledged p m) d = comes-to (state.Acknowledged q n) q 0 (order.Ack k) (turns r.flags (state.Arbitrate q 0)) refl refl (ap (λ (t : Bool). cond t (shown (state.Acknowledged q n)) (turns r.flags (state.Arbitrate q 0))) (ne_eqb n k (λ e. d (sym e)))) refl
  ack-off st q n k (facts.opened l) d =
      comes-to (state.Open l) q 0 (order.Ack k) (turns r.flags (state.Arbitrate q 0)) refl (not-to l l.half k (λ e. d (sym e))) (ap (λ (t : Bool). cond t (shown (state.Open l)) (turns r.flags (state.Arbitrate q 0))) (ne_eqb n k (λ e. d (sym e)))) refl
  ack-off st q n k (facts.secured l) d =
      comes-to (state.Secured l) q 0 (order.Ack k) (turns r.flags (state.Arbitrate q 0)) refl (not-to l l.half k (λ e. d (sym e))) (ap (λ (t : Bool). cond t (shown (state.Secured l)) (turns r.flags (state.Arbitrate q 0))) (ne_eqb n k (λ e. d (sym e)))) refl

  -- Select
  select-to : (st : State) (q : Round) (c : Choice) (p : ℕ) (b : Bool) → st ≢ state.Killed → Takeable c
      → selects (layout_of a.image) a.image a.frame c.bits p ≡ b
      → Turns answer_of (layout_of a.image) a r q 0 (order.Select c p) st (selected_flags r.flags c b) (quiet state.Ready)
  unfolding at
  select-to st q c p b k h e =
      comes-to st q 0 (order.Select c p) (turns (selected_flags r.flags c b) state.Ready) (rw (not-killed st k, taken-choice c h)) (between st)
      (ap (λ (t : Bool). turns (selected_flags r.flags c t) state.Ready) e) refl

  rounds : (q : Round) → Rounds answer_of (layout_of a.image) a r q
  rounds q =
      record {
        query_waits = λ st sel t p g k h m d. query-to st q sel t p g _ k h (joins-so sel t p g _ m (waits-so p _ d));
        query_replies = λ st sel t p g k h m e. query-to st q sel t p g _ k h (joins-so sel t p g _ m (replies-so p _ e));
        query_passes = λ st sel t p g k h m.
            query-to st q sel t p g state.Ready k h
            (ap (λ (b : Bool). cond b (drawn p (slot_from p a.fresh) a.fresh) state.Ready) (matches-not g sel t p.session m));
        adjust_waits = λ st slot u new x h d. adjust-to st q slot u new _ x h (waits-so _ _ d);
        adjust_replies = λ st slot u new x h e. adjust-to st q slot u new _ x h (replies-so _ _ e);
        rep_waits = λ st slot next x h d. rep-to st q slot next _ x h (waits-so q next d);
        rep_replies = λ st slot x h. rep-to st q slot 0 _ x h (replies-so q 0 refl);
        adjust_ends = λ st u new x h. adjust-left st q u new x h;
        rep-ends = λ st x. rep-left st q x;
        ack = λ n. ack-to (state.Reply q n) q n refl refl refl;
        ack-again = λ n. ack-to (state.Acknowledged q n) q n refl refl refl;
        ack-handle = elim [
          | true ↦ λ h c. ack-to (state.Secured (link q h c None)) q h refl refl refl
          | false ↦ λ h c. ack-to (state.Open (link q h c None)) q h refl refl refl
        ];
        ack_wrong = λ st n k x d. ack-off st q n k x d;
        select_matching = λ st c p k h s. select-to st q c p true k h (selects-so _ _ _ c.bits p s);
        select_other = λ st c p k h s. select-to st q c p false k h (selects-not _ _ _ c.bits p s);
      }

-- the port
module _ (m : List ℕ) (st : State) (r : Aside) (idle : Idle (layout_of m) m) where
  holder : Session
  holder = awake st true r

  past : (room : List ℕ) (bad : Bool) (rest : Rows) → bad ≡ false → NoRow rest → NoRow (refusals holder m room bad ++ rest)
  unfolding holder
  past room bad rest e h =
      let c = check-0 m (layout_of m) (sym idle.sound) in
      (c.0, (c.1, (c.2, (ap not (eq-eqb _ _ idle.nothing), (refl, (e, h))))))

  count-good : (at n : ℕ) → 1 ≤ n → n ≤ 255 → at + n ≤ (layout_of m).user.words → bad_count (layout_of m) at n ≡ false
  count-good at n a b c = rw (ne_eqb n 0 (λ e. omega arith), le-ltb 255 n b, le-ltb (layout_of m).user.words (at + n) c)

  -- a read past its refusals, of a tag that is killed or is not
  engine-read : (k : Bool) (at n : ℕ) (room : List ℕ) → is_killed st ≡ k → 1 ≤ n → n ≤ 255 → at + n ≤ (layout_of m).user.words → 2 * n ≤ length room
      → first_of (read_of (awake st true r) m at n room) ≡ gives 0 (awake st true (registered r (cond k (with_killed r.register) r.register))) (16 * n) 0 m (packed (read_bits (layout_of m) m k at n) room)
  unfolding read_of holder
  engine-read k at n room e a b c d =
      let row : Rows = (leaves 4 (awake st true r) m room, ltb (length room) (2 * n)) ∷ [] in
      none_first (refusals holder m room (bad_count (layout_of m) at n) ++ row) _
      (past room (bad_count (layout_of m) at n) row (count-good at n a b c) (le-ltb (length room) (2 * n) d, tt))
      ∙ ap (λ (t : Bool). gives 0 (awake st true (registered r (cond t (with_killed r.register) r.register))) (16 * n) 0 m (packed (read_bits (layout_of m) m t at n) room)) e

  -- a write past its refusals
  module _ (at : ℕ) (d : List ℕ) (n s : ℕ) (size : length d ≡ 2 * n) (a : 1 ≤ n) (b : n ≤ 255) (c : at + n ≤ (layout_of m).user.words) (few : n ≤ pairs_in (layout_of m)) where
    written : Bool → List Store → Result
    written k ws =
        let ss = change_stores (layout_of m).work.at ws in
        gives 0 (awake st true (registered r (cond k (with_killed r.register) (with_unwritten (some_unwritten (layout_of m) m at n) r.register)))) 0 (length ss) (after m ss) []

    engine-write : (k : Bool) (ws : List Store) → is_killed st ≡ k → port_words (layout_of m) m k at d ≡ ws → length (change_stores (layout_of m).work.at ws) ≤ s
        → first_of (write_of change_stores (awake st true r) m at d s) ≡ written k ws
    unfolding write_of holder written
    engine-write k ws e f l =
        let y = layout_of m in
        let half : length d / 2 ≡ n = omega (arith, size) in
        let even : length d % 2 ≡ 0 = omega (arith, size) in
        let words : port_words y m (is_killed st) at d ≡ ws = ap (λ (t : Bool). port_words y m t at d) e ∙ f in
        let stores = change_stores y.work.at (port_words y m (is_killed st) at d) in
        let row : Rows = (lost m stores s [], ltb s (length stores)) ∷ [] in
        let bad : bad_data y at d ≡ false = rw (eq-eqb (length d % 2) 0 even, half, count-good at n a b c, le-ltb (pairs_in y) n few) in
        none_first (refusals holder m [] (bad_data y at d) ++ row) _
        (past [] (bad_data y at d) row bad (le-ltb s (length stores) (subst (λ (x : List Store). length (change_stores y.work.at x) ≤ s) (sym words) l), tt))
        ∙ ap₂ (λ (t : Bool) (x : List Store). gives 0 (awake st true (registered r (cond t (with_killed r.register) (with_unwritten (some_unwritten y m at (length d / 2)) r.register)))) 0 (length (change_stores y.work.at x)) (after m (change_stores y.work.at x)) []) e words
        ∙ ap (λ (x : ℕ). gives 0 (awake st true (registered r (cond k (with_killed r.register) (with_unwritten (some_unwritten y m at x) r.register)))) 0 (length (change_stores y.work.at ws)) (after m (change_stores y.work.at ws)) []) half

  engine : Transfers answer_of (layout_of m) m st r
  unfolding written
  engine =
      record {
        read = λ at n room k. engine-read false at n room (not-killed st k);
        write = λ at d n s k size a b c few marks h l.
            let y = layout_of m in
            let words = marked marks (λ j. store (y.user.at + at + j) (word_at d j)) n in
            let ss = change_stores y.work.at words in
            engine-write at d n s size a b c few false words (not-killed st k)
            (let half : length d / 2 ≡ n = omega (arith, size) in ap (written_words y m at d) half ∙ sym (marked-words y m marks at d n h)) l
            ∙ ap (λ (t : Bool). gives 0 (awake st true (registered r (with_unwritten (not t) r.register))) 0 (length ss) (after m ss) []) (sym (marked-every y m marks at n h));
        read_killed = λ at n room k. engine-read true at n room (ap is_killed k);
        write_killed = λ at d n s k size a b c few. engine-write at d n s size a b c few true [] (ap is_killed k) refl (omega arith);
      }

calls-so : (m : List ℕ) (st : State) (r : Aside) → NoImage answer_of m st r
unfolding ask_of release_of register_of
calls-so m st r = record { ask = λ d. rw (not-linked st d); release = refl; register = refl }

pub demand-2 : Demand2 answer_of
demand-2 = record { terms = terms-so; start = started-so; radio = radio-at; calls = calls-so; engine = engine-at }
  where
    layout : (y : Layout) (m : List ℕ) → Idle y m → y ≡ layout_of m
    layout y m i = (check-good m y i.sound).layout

    radio-at : (y : Layout) (a : Air) (r : Aside) (q : Round) → Idle y a.image → Radio answer_of y a r q
    radio-at y a r q i =
        let e = layout y a.image i in
        let idle = subst (λ (z : Layout). Idle z a.image) e i in
        subst (λ (z : Layout). Radio answer_of z a r q) (sym e) (radio a r q idle (rounds a r idle q))

    engine-at : (y : Layout) (m : List ℕ) (st : State) (r : Aside) → Idle y m → Transfers answer_of y m st r
    engine-at y m st r i = let e = layout y m i in subst (λ (z : Layout). Transfers answer_of z m st r) (sym e) (engine m st r (subst (λ (z : Layout). Idle z m) e i))

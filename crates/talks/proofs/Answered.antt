-- What a tag answers to a frame that a depot made is read as what the tag meant. Assumes nothing.
use Rattle.std.specs.Prelude.{Option, None, Some}
use Prim.Native.Nat.{ℕ, ◌+◌, ◌-◌, ◌*◌, ◌/◌, ◌≤◌, ◌<◌}
use mathlib.Core.Path.{◌≡◌, refl, sym, ap, ◌∙◌}
use mathlib.Core.Logic.{◌⊎◌, inl, inr}
use mathlib.Core.Bool.{Bool, true, false, cond, not, ◌&&◌, ◌||◌}
use mathlib.Core.List.{List, []}
use native.Mathlib.Omega.{arith}
use lib.Bits.{bit_xor}
use lib.Dec.{eqb, ltb}
use lib.ListN.{length, take}
use borrow.Author.Tests.{eqb-true, eqb-false, ltb-false, ltb-true, not-false}
use Rattle.bits.specs.First.{first}
use Rattle.bits.proofs.Below.{and_right}
use Rattle.image.specs.declared.Layout.{Layout}
use Rattle.image.specs.Layout.{layout_of}
use Rattle.image.specs.Content.{length_of, pc_word}
use Rattle.image.specs.Check.{check_of}
use Rattle.image.specs.Rules.{Good}
use Rattle.image.proofs.Answers.{check-good}
use Rattle.frames.specs.declared.Round.{Round}
use Rattle.frames.specs.declared.Span.{Span}
use Rattle.frames.specs.declared.Order.{Order}
use Rattle.frames.specs.Message as heard
use Rattle.frames.specs.Frames.{span, heard_of}
use Rattle.replies.specs.declared.Reply.{Reply}
use Rattle.replies.specs.declared.Reply.TheVariants as reply
use Rattle.replies.specs.Replies.{reply_bits, reply_length}
use Rattle.replies.specs.Pack.{packed}
use Rattle.replies.proofs.Laws.{packed_none, length-reply}
use Rattle.rights.specs.Rights.{Code}
use Rattle.std.specs.Prelude.{Ok, Err}
use Rattle.rights.specs.declared.Fault.{Fault}
use Rattle.rights.specs.declared.Fault.TheVariants as fault
use Rattle.rights.specs.Rights.{bank_of, read_end, span_words, read_code, perma_read_code, beyond}
use Rattle.stores.specs.Stores.{change_stores}
use Rattle.states.specs.declared.Half.{Half}
use Rattle.states.specs.declared.Half.TheVariants as half
use Rattle.states.specs.declared.State.{State}
use Rattle.states.specs.declared.State.TheVariants as state
use Rattle.states.specs.Commands.{asks_of, link_of, slot_of, wrong_by, was_acknowledged, is_linked, is_secured, is_covered, zero_kill, used, fallen}
use Rattle.states.specs.Inventory.{slot_from, queried_flags, matches, adjusted_q, counted_down, acknowledged}
use Rattle.plans.specs.Effects.{effect_of, does, turns, drawn_reply, place_of, half_kill, half_access}
use Rattle.tag.specs.Result.{Result, lost, first_of}
use Rattle.tag.specs.Table.{Input, live, state_of, scene, effect, is_error, reply_or, reply_of, fits, turned_to, moved_to, everything, replied, stores_of, frame_of}
use Rattle.tag.proofs.Plans.{none_or, within-bank}
use Rattle.rights.proofs.Banks.{read-ends}
use Rattle.demands.proofs.Rows.{Rows, None as NoRow, Each, none_first, first-or}
use Rattle.depot.specs.declared.Place.{Place}
use Rattle.depot.specs.declared.Command.{Command}
use Rattle.depot.specs.declared.Command.TheVariants as command
use Rattle.readings.specs.declared.Awaited.{Awaited}
use Rattle.readings.specs.declared.Awaited.TheVariants as await
use Rattle.depot.specs.Heard.{Call, made, carried, order_of}
use Rattle.depot.specs.Reading.{awaited_by}
use Rattle.depot.specs.Meant.{Replies, Read}
use Rattle.depot.specs.Meant as answers
use Rattle.depot.proofs.Bounds.{Within, within-so}
use Rattle.depot.proofs.Heard.{heard-so, made_so}
use Rattle.depot.proofs.Readings.{reads_so}
use Rattle.talks.specs.Talks.{Hearing, input_of, given, Answered}

-- by its error code: an error with the handle, or the reply
coded : (m : List ℕ) (n : ℕ) (a : Option Awaited) (k : Code) (handle : ℕ) (r : Reply) → handle ≡ n → ((e : ℕ) → e < 256 → Replies m n a (reply.Error e n))
    → (k ≡ (Ok tt) → Replies m n a r) → Replies m n a (reply_or k handle r)
coded m n a (Ok u) handle r e f g = g refl
coded m n a (Err fault.Other) handle r e f g = rw e (f 0 (omega arith))
coded m n a (Err fault.PastEnd) handle r e f g = rw e (f 3 (omega arith))
coded m n a (Err fault.NoRight) handle r e f g = rw e (f 4 (omega arith))

-- a tag that comes to Reply draws the fresh word; else it is silent
draws : (m : List ℕ) (n fresh : ℕ) → fresh < 65536 → (ready again : Bool) (q : Round) (slot : ℕ)
    → Replies m n (Some await.Drawn) (drawn_reply (cond ready state.Ready (cond again (state.Reply q fresh) (state.Arbitrate q slot))))
draws m n fresh w true again q slot = answers.silence (Some await.Drawn)
draws m n fresh w false true q slot = answers.drawn fresh w
draws m n fresh w false false q slot = answers.silence (Some await.Drawn)

queries : (m : List ℕ) (n fresh : ℕ) → fresh < 65536 → (match again : Bool) (q : Round) (slot : ℕ)
    → Replies m n (Some await.Drawn) (drawn_reply (cond match (cond again (state.Reply q fresh) (state.Arbitrate q slot)) state.Ready))
queries m n fresh w true true q slot = answers.drawn fresh w
queries m n fresh w true false q slot = answers.silence (Some await.Drawn)
queries m n fresh w false again q slot = answers.silence (Some await.Drawn)

-- the number that a command carries is the tag's own
own : (a b c d : Bool) → not (a && b) || c || d ≡ false → b ≡ true
own a b c d e = and_right a b (not-false (a && b) (none_or (not (a && b)) c (none_or (not (a && b) || c) d e).0).0)

-- the banks have at most 4,096 words
most : (y : Layout) (m : List ℕ) (b : ℕ) → Good y m → (bank_of y b).words ≤ 4096
most y m b g = go (eqb b 0) (eqb b 1) (eqb b 2)
  where
    go : (t u v : Bool) → (cond t y.reserved (cond u y.epc (cond v y.tid y.user))).words ≤ 4096
    go true u v = omega (arith, g.header.reserved.most)
    go false true v = omega (arith, g.header.epc.most)
    go false false true = omega (arith, g.header.tid.most)
    go false false false = g.header.user.most

-- no code, so not the first
first-row : (b : Bool) (f : Fault) (rest : Code) → cond b (Err f) rest ≡ (Ok tt) → b ≡ false
first-row true f rest e = ap is_error e
first-row false f rest e = refl

-- a Read shows as many words as it asks for, or from 1 to 4,096
module _ (y : Layout) (m : List ℕ) (q : Bool) (p : Place) (k : ℕ) (g : Good y m) (few : k < 256) where
  abbrev s : Span
  s = span p.bank p.pointer k

  inside : read_code y m q s ≡ (Ok tt) → (p.pointer < (bank_of y p.bank).words) × (p.pointer + k ≤ (bank_of y p.bank).words)
  unfolding read_code
  inside e = within-bank y m g.header s (first-row (beyond (bank_of y p.bank) s) fault.PastEnd _ e)

  pc-fits : length_of (pc_word y m) + 2 ≤ y.epc.words
  pc-fits = (g.content 0).pc

  ends-after : p.pointer < (bank_of y p.bank).words → p.pointer < read_end y m p.bank p.pointer
  ends-after l = go (eqb p.bank 1) (ltb p.pointer (length_of (pc_word y m) + 2)) refl
    where
      go : (a b : Bool) → ltb p.pointer (length_of (pc_word y m) + 2) ≡ b → p.pointer < cond (a && b) (length_of (pc_word y m) + 2) (bank_of y p.bank).words
      go true true e = ltb-true p.pointer (length_of (pc_word y m) + 2) e
      go true false e = l
      go false b e = l

  shown-words : (n o : ℕ) → read_code y m q s ≡ (Ok tt) → Replies m n (Some (await.Words k)) (reply.Words o (span_words y m s) n)
  shown-words n o e = go (eqb k 0) refl
    where
      go : (b : Bool) → eqb k 0 ≡ b → Replies m n (Some (await.Words k)) (reply.Words o (cond b (read_end y m p.bank p.pointer - p.pointer) k) n)
      go true z =
          answers.words k o (read_end y m p.bank p.pointer - p.pointer) (inl (eqb-true k 0 z)) (omega (arith, ends-after (inside e).0))
          (omega (arith, read-ends y m p.bank p.pointer pc-fits, most y m p.bank g))
      go false z = answers.words k o k (inr refl) (omega (arith, eqb-false k 0 z)) (omega arith)

-- words are shown with the handle
abbrev Handled : ℕ → Reply → Type 0
Handled n reply.Silence = Unit {0}
Handled n (reply.Number w) = Unit {0}
Handled n (reply.Success h) = Unit {0}
Handled n (reply.Words i k h) = h ≡ n
Handled n (reply.Error e h) = Unit {0}
Handled n (reply.Drawn w) = Unit {0}
Handled n (reply.Epc i k) = Unit {0}

handle-of : (m : List ℕ) (n : ℕ) (a : Option Awaited) (r : Reply) → Replies m n a r → Handled n r
handle-of m n a r (answers.silence b) = tt
handle-of m n a r (answers.drawn w b) = tt
handle-of m n a r (answers.epc i b) = tt
handle-of m n a r (answers.renewed w b) = tt
handle-of m n a r answers.handle = tt
handle-of m n a r answers.first-half = tt
handle-of m n a r answers.second-half = tt
handle-of m n a r (answers.half-error e b) = tt
handle-of m n a r answers.success = tt
handle-of m n a r (answers.error e b) = tt
handle-of m n a r (answers.words c i k d x y) = refl
handle-of m n a r (answers.words-error c e b) = tt

-- a frame that was made, at any tag
module _ (c : Call) (into : List ℕ) (h : Hearing) (e : (made c into).number ≡ 0) where
  abbrev i : Input
  i = input_of c into h

  abbrev m : List ℕ
  m = h.image

  abbrev y : Layout
  y = layout_of m

  abbrev st : State
  st = state_of i

  abbrev kind : Option Awaited
  kind = awaited_by c.command

  limits : Within c.command (length c.payload)
  limits = within-so c.command (length c.payload) (made_so c.command c.payload c.number c.cover into e).0

  -- what an order is replied with
  abbrev reply_to : Order → Reply
  reply_to o = reply_or (effect_of (scene i) o).code (link_of st).handle (effect_of (scene i) o).reply

  module _ (g : Good (layout_of h.image) h.image) where
    half-kill : (w : ℕ) (x : Option Half) → (link_of st).handle ≡ c.number
        → Replies m c.number (Some await.Half) (reply_or (half_kill (scene i) w x).code (link_of st).handle (half_kill (scene i) w x).reply)
    half-kill w None z =
        coded m c.number (Some await.Half) (cond (zero_kill y m) (Err fault.Other) (Ok tt)) (link_of st).handle (reply.Number (link_of st).handle) z answers.half-error (λ k. rw z answers.first-half)
    half-kill w (Some (half.Kill up)) z = rw z answers.second-half
    half-kill w (Some (half.Access up)) z = rw z answers.first-half

    half-access : (w : ℕ) (x : Option Half) → (link_of st).handle ≡ c.number
        → Replies m c.number (Some await.Handle) (reply_or (half_access (scene i) w x).code (link_of st).handle (half_access (scene i) w x).reply)
    half-access w None z = rw z answers.handle
    half-access w (Some (half.Kill up)) z = rw z answers.handle
    half-access w (Some (half.Access up)) z = rw z answers.handle

    -- what stops a command does not stop this one: a command to one tag carries its number
    abbrev Passes : Command → Type 0
    Passes o = wrong_by st (carried o c.number) (asks_of (order_of o (length c.payload) c.number c.cover)) ≡ false

    done : (k : Code) → (link_of st).handle ≡ c.number → Replies m c.number (Some await.Done) (reply_or k (link_of st).handle (reply.Success (link_of st).handle))
    done k z = coded m c.number (Some await.Done) k (link_of st).handle (reply.Success (link_of st).handle) z answers.error (λ x. rw z answers.success)

    acked : (b : Bool) → Replies m c.number (Some await.Epc)
        (reply_or (cond b (does (scene i) (acknowledged st) (reply.Epc (y.epc.at + 1) (length_of (pc_word y m) + 1)) []) (turns (live i).flags (fallen st))).code (link_of st).handle
        (cond b (does (scene i) (acknowledged st) (reply.Epc (y.epc.at + 1) (length_of (pc_word y m) + 1)) []) (turns (live i).flags (fallen st))).reply)
    acked true = answers.epc (y.epc.at + 1) (omega (arith, (g.content 0).pc, g.header.epc.most))
    acked false = answers.silence (Some await.Epc)

    abbrev told : Command → Order
    told o = order_of o (length c.payload) c.number c.cover

    linked-own : (covers bad : Bool) → not (is_linked st && eqb (link_of st).handle c.number) || (covers && not (is_covered (link_of st).cover)) || bad ≡ false → (link_of st).handle ≡ c.number
    linked-own covers bad w = eqb-true (link_of st).handle c.number (own (is_linked st) (eqb (link_of st).handle c.number) (covers && not (is_covered (link_of st).cover)) bad w)

    secured-own : (bad : Bool) → not (is_secured st && eqb (link_of st).handle c.number) || (false && not (is_covered (link_of st).cover)) || bad ≡ false → (link_of st).handle ≡ c.number
    secured-own bad w = eqb-true (link_of st).handle c.number (own (is_secured st) (eqb (link_of st).handle c.number) false bad w)

    stored : (o : Command) → (link_of st).handle ≡ c.number → Replies m c.number (Some await.Done) (reply_or (effect_of (scene i) (told o)).code (link_of st).handle (reply.Success (link_of st).handle))
    stored o z = done (effect_of (scene i) (told o)).code z

    replies-to : (o : Command) → Within o (length c.payload) → Passes o → Replies m c.number (awaited_by o) (reply_to (told o))
    replies-to (command.QueryRep k) l w = draws m c.number h.fresh h.word (was_acknowledged st) (eqb (counted_down (slot_of st)) 0) (link_of st).round (counted_down (slot_of st))
    replies-to command.Ack l w = acked (eqb (link_of st).handle c.number)
    replies-to (command.Query r) l w =
        let q : Round = record { session = r.session; q = r.q } in
        queries m c.number h.fresh h.word (matches (queried_flags (live i).flags st r.session) r.sel r.target r.session) (eqb (slot_from q h.fresh) 0) q (slot_from q h.fresh)
    replies-to (command.QueryAdjust k u) l w =
        let q : Round = record { session = (link_of st).round.session; q = adjusted_q u (link_of st).round.q } in
        draws m c.number h.fresh h.word (was_acknowledged st) (eqb (slot_from q h.fresh) 0) q (slot_from q h.fresh)
    replies-to (command.Select t a p x) l w = answers.silence _
    replies-to command.Nak l w = answers.silence _
    replies-to command.ReqRn l w = answers.renewed h.fresh h.word
    replies-to (command.Read p k) l w =
        let z = linked-own false false w in
        coded m c.number (Some (await.Words k)) (read_code y m (is_secured st) (span p.bank p.pointer k)) (link_of st).handle
        (reply.Words (place_of y (span p.bank p.pointer k)) (span_words y m (span p.bank p.pointer k)) (link_of st).handle) z (answers.words-error k)
        (λ x. rw z (shown-words y m (is_secured st) p k g l.1 c.number (place_of y (span p.bank p.pointer k)) x))
    replies-to (command.Write p x) l w = stored (command.Write p x) (linked-own true false w)
    replies-to (command.Kill x) l w = half-kill (bit_xor x c.cover) (link_of st).half (linked-own true false w)
    replies-to (command.Lock x z) l w = stored (command.Lock x z) (secured-own false w)
    replies-to (command.Access x) l w = half-access (bit_xor x c.cover) (link_of st).half (linked-own true false w)
    replies-to (command.BlockWrite p) l w = stored (command.BlockWrite p) (linked-own false (eqb (length c.payload / 2) 0) w)
    replies-to (command.BlockErase p k) l w = stored (command.BlockErase p k) (linked-own false (eqb k 0) w)
    replies-to (command.ReadPermalock p k) l w =
        let z = secured-own (not (eqb 0 0) || eqb k 0) w in
        coded m c.number (Some (await.Words k)) (perma_read_code y (span p.bank p.pointer k)) (link_of st).handle (reply.Words (y.perma.at + p.pointer) k (link_of st).handle) z (answers.words-error k)
        (λ x. rw z (answers.words k (y.perma.at + p.pointer) k (inr refl) l.1.0 (omega (arith, l.1.1))))
    replies-to (command.Permalock p) l w = stored (command.Permalock p) (secured-own (not (eqb 0 0) || eqb (length c.payload / 2) 0) w)

  said : heard_of i.frame i.bits ≡ heard.said (record { number = carried c.command c.number; order = order_of c.command (length c.payload) c.number c.cover })
  said = heard-so.said c into e

  -- a reply r in the room, as the table leaves it
  pub record Left (x : Result) (r : Reply) : Type 0 where
    pub size : x.reply ≡ length (reply_bits m r)
    pub room-so : x.room ≡ packed (reply_bits m r) h.room
    pub there : length (reply_bits m r) ≤ 8 * length h.room
    pub answers-so : Replies m c.number kind r

  abbrev gave : Result → Reply
  gave x = cond (eqb x.number 0 || eqb x.number 10) (reply_of i) reply.Silence

  abbrev Leaves : Result → Type 0
  Leaves x = Left x (gave x)

  -- nothing said
  silent : (x : Result) → gave x ≡ reply.Silence → x.reply ≡ 0 → x.room ≡ h.room → Leaves x
  silent x s n p =
      rw s record { size = n; room-so = p ∙ sym (packed_none h.room); there = omega arith; answers-so = answers.silence kind }

  abbrev rows : Rows
  rows = (frame_of change_stores i).rows

  front : Rows
  front = take 10 rows

  ends : Result
  ends =
      cond (is_error (effect i).code && fits (reply_of i) i.room) (replied i 10 (moved_to (live i) (used (state_of i))) [])
      (cond (not (fits (reply_of i) i.room)) (everything i 4)
      (cond (ltb i.power (length (stores_of change_stores i))) (lost i.image (stores_of change_stores i) i.power i.room)
      (replied i 0 (turned_to (live i) (effect i).flags (effect i).state) (stores_of change_stores i))))

  split : first_of (frame_of change_stores i) ≡ first front ends
  unfolding frame_of front ends
  split = refl

  front-silent : Each Leaves front
  unfolding frame_of front
  front-silent =
      (λ e. silent _ refl refl refl, (λ e. silent _ refl refl refl, (λ e. silent _ refl refl refl, (λ e. silent _ refl refl refl, (λ e. silent _ refl refl refl, (λ e. silent _ refl refl refl, (λ e. silent _ refl refl refl, (λ e. silent _ refl refl refl, (λ e. silent _ refl refl refl, (λ e. silent _ refl refl refl, tt))))))))))

  -- where no refusal holds, the image is good and the command is for this tag
  good-image : NoRow front → Good (layout_of m) m
  unfolding frame_of front check_of
  good-image n = check-good m (layout_of m) (simp (n.0, n.1.0, n.1.1.0))

  passes : NoRow front → wrong_by st (carried c.command c.number) (asks_of (order_of c.command (length c.payload) c.number c.cover)) ≡ false
  unfolding frame_of front
  passes n = rw said at n.1.1.1.1.1.1.1.0

  replies-so : NoRow front → Replies m c.number kind (reply_of i)
  replies-so n = rw said (replies-to (good-image n) c.command limits (passes n))

  -- room enough
  fits-so : (r : Reply) → fits r h.room ≡ true → length (reply_bits m r) ≤ 8 * length h.room
  fits-so r f = omega (arith, length-reply m r, ltb-false (length h.room) ((reply_length r + 7) / 8) (not-true-false (ltb (length h.room) ((reply_length r + 7) / 8)) f))
    where
      not-true-false : (b : Bool) → not b ≡ true → b ≡ false
      not-true-false true e = sym e
      not-true-false false e = refl

  ends_so : NoRow front → Leaves ends
  unfolding ends
  ends_so n = go (is_error (effect i).code) (fits (reply_of i) i.room) (ltb i.power (length (stores_of change_stores i))) refl
    where
      go : (a b d : Bool) → fits (reply_of i) i.room ≡ b
          → Leaves (cond (a && b) (replied i 10 (moved_to (live i) (used (state_of i))) [])
          (cond (not b) (everything i 4)
          (cond d (lost i.image (stores_of change_stores i) i.power i.room)
          (replied i 0 (turned_to (live i) (effect i).flags (effect i).state) (stores_of change_stores i)))))
      go true true d f = record { size = sym (length-reply m (reply_of i)); room-so = refl; there = fits-so (reply_of i) f; answers-so = replies-so n }
      go true false d f = silent _ refl refl refl
      go false true true f = silent _ refl refl refl
      go false true false f = record { size = sym (length-reply m (reply_of i)); room-so = refl; there = fits-so (reply_of i) f; answers-so = replies-so n }
      go false false d f = silent _ refl refl refl

  leaves : Leaves (first_of (frame_of change_stores i))
  leaves = rw split (go (first-or Leaves front ends front-silent))
    where
      go : Leaves (first front ends) ⊎ NoRow front → Leaves (first front ends)
      go (inl x) = x
      go (inr n) = rw (none_first front ends n) (ends_so n)

  reading : Read c.command c.payload c.number
  reading = reads_so.read_so c.command c.payload c.number (made_so c.command c.payload c.number c.cover into e).0 c.small.0

  -- the reply that was given, read
  pub answered : Answered c into h
  answered =
      record {
        meant-so = rw (leaves.size, leaves.room-so) (reading.as_meant m h.room (given c into h) leaves.answers-so leaves.there);
        words-so = λ a k n z. (rw z at (handle-of m c.number kind (given c into h) leaves.answers-so), rw (leaves.room-so, z) (reads_so.its_words m h.room a k n (rw z at leaves.there)));
        epc-so = λ a k z. rw (leaves.room-so, z) (reads_so.its_epc m h.room a k (rw z at leaves.there));
      }

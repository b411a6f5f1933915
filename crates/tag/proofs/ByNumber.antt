-- What the code makes of a session's numbers is what the table makes of the session. Assumes nothing.
use Rattle.std.specs.Prelude.{Option, None, Some, Ok, Err}
use Prim.Native.Nat.{ℕ, ◌+◌, ◌-◌, ◌*◌}
use mathlib.Core.Path.{◌≡◌, refl, sym, ap, ◌∙◌}
use mathlib.Core.Bool.{Bool, true, false, cond, not, ◌&&◌, ◌||◌}
use mathlib.Core.List.{List, [], ◌∷◌}
use mathlib.Core.Logic.{inl, inr}
use native.Mathlib.Omega.{arith}
use lib.Dec.{eqb, ltb}
use lib.ListN.{length, take}
use Rattle.bits.specs.Words.{Store, store, after}
use Rattle.bits.specs.Bits.{field_at}
use Rattle.bits.proofs.Below.{and_left}
use Rattle.image.specs.declared.Layout.{Layout}
use Rattle.image.specs.Content.{length_of, pc_word}
use Rattle.frames.specs.declared.Calling.{Calling}
use Rattle.frames.specs.declared.Calling.TheVariants as call
use Rattle.frames.specs.declared.Choice.{Choice}
use Rattle.frames.specs.declared.Round.{Round}
use Rattle.frames.specs.declared.Order.{Order}
use Rattle.frames.specs.declared.Order.TheVariants as order
use Rattle.frames.specs.declared.Command.{Command}
use Rattle.frames.specs.Frames.{heard_of, to_all}
use Rattle.frames.specs.Steps.{called}
use Rattle.frames.proofs.Laws.{said-select}
use Rattle.frames.proofs.Ones.{ToOne}
use Rattle.replies.specs.declared.Reply.{Reply}
use Rattle.replies.specs.declared.Reply.TheVariants as reply
use Rattle.replies.specs.Replies.{reply_bits, reply_length}
use Rattle.replies.specs.Pack.{packed}
use Rattle.rights.specs.Rights.{Code}
use Rattle.rights.specs.declared.Fault.TheVariants as fault
use Rattle.rights.specs.Rights.{fault_number, read_code, write_code, lock_code, perma_read_code, perma_code}
use Rattle.stores.specs.Stores.{change_stores}
use Rattle.states.specs.declared.Half.{Half}
use Rattle.states.specs.declared.Half.TheVariants as half
use Rattle.states.specs.declared.Flags.{Flags}
use Rattle.states.specs.declared.Link.{Link}
use Rattle.states.specs.declared.Numbers.{Numbers}
use Rattle.states.specs.declared.Part.TheVariants as part
use Rattle.states.specs.declared.State.{State}
use Rattle.states.specs.declared.State.TheVariants as state
use Rattle.states.specs.Commands.{asks_of, bad_choice, bad_up_dn, link_of, slot_of, in_round, has_replied, was_acknowledged, is_secured, is_linked, is_killed, is_covered, uncovered, wrong_by, zero_kill, halves_row, halves_of, with_link, used, halved, fallen, numbered}
use Rattle.states.specs.Inventory.{inverted, drawn, slot_from, queried_flags, matches, adjusted_q, counted_down, acknowledged, selects, selected_flags}
use Rattle.states.specs.Numbers.{half_in, upper_in, flags_in}
use Rattle.states.specs.Steps.{gate_by, wrong_command}
use Rattle.states.specs.ByNumber.{bare_to, bare_of, used_in, halved_in, fallen_in, acknowledged_in, idle_in, left_in, matches_in, slot_out, selected_in}
use Rattle.states.proofs.Gates.{Named, passes-heard, passes-handle, halves-between, Three, halves-three}
use Rattle.states.proofs.ByNumber.{gate-in, bare-in, used-in, halved-in, secured-in, numbered-in, acknowledged-in, left-in, selected-in, queried-in, matches-in}
use Rattle.plans.specs.declared.Plan.{Plan}
use Rattle.plans.specs.declared.Plan.TheVariants as plan
use Rattle.plans.specs.Effects.{Effect, drawn_reply, turns, does, half_kill, half_access}
use Rattle.plans.specs.Steps.{Decided, or_error, write_plan, plan_of}
use Rattle.tag.specs.declared.Live.{Live}
use Rattle.tag.specs.declared.Session.{Session}
use Rattle.tag.specs.Session.{off_session}
use Rattle.tag.specs.Result.{Left, Result}
use Rattle.tag.specs.Port.{bit_of, number_in}
use Rattle.tag.specs.Table.{fits, turned_to, moved_to}
use Rattle.tag.specs.Records.{blank, numbers_on, numbers_of, in_numbers}
use Rattle.tag.specs.Steps.{stays, tells, error_by, done_by, on_session, kept, error_end, done_end, end_by, scene_of, halves_by, order_of, command_of, heard_by}
use Rattle.tag.specs.ByNumber.{done_at, dropped_at, error_at, tell_at, store_at, drawn_at, rep_at, adjust_at, query_at, ack_at, select_at, calling_at, CallPlaced, decided_at, gated_at, command_at}
use Rattle.tag.proofs.Plans.{tell-any, silent-end}

-- an end over sessions is the same end over their numbers
module _ (m room : List ℕ) (old new : Session) where
  ends-in : (w s : ℕ) (r : Reply) (ss : List Store)
      → in_numbers (done_by off_session old w m room s r new ss) ≡ done_by blank (numbers_of old.power) w m room s r (numbers_of new.power) ss
  unfolding done_by
  ends-in w s r ss = go (fits r room) (ltb s (length (change_stores w ss)))
    where
      go : (a b : Bool)
          → in_numbers
          (cond (not a) (stays 4 old m room)
          (cond b (tells 11 off_session 0 s (after m (take s (change_stores w ss))) room)
          (tells 0 new (reply_length r) (length (change_stores w ss)) (after m (change_stores w ss)) (packed (reply_bits m r) room))))
          ≡ cond (not a) (stays 4 (numbers_of old.power) m room)
          (cond b (tells 11 blank 0 s (after m (take s (change_stores w ss))) room)
          (tells 0 (numbers_of new.power) (reply_length r) (length (change_stores w ss)) (after m (change_stores w ss)) (packed (reply_bits m r) room)))
      go true true = refl
      go true false = refl
      go false b = refl

  errors-in : (h e : ℕ) → in_numbers (error_by old new h m room e) ≡ error_by (numbers_of old.power) (numbers_of new.power) h m room e
  unfolding error_by
  errors-in h e = go (fits (reply.Error e h) room)
    where
      go : (a : Bool)
          → in_numbers (cond a (tells 10 new (reply_length (reply.Error e h)) 0 m (packed (reply_bits m (reply.Error e h)) room)) (stays 4 old m room))
          ≡ cond a (tells 10 (numbers_of new.power) (reply_length (reply.Error e h)) 0 m (packed (reply_bits m (reply.Error e h)) room))
          (stays 4 (numbers_of old.power) m room)
      go true = refl
      go false = refl

-- other flags and another state, and the number of one that comes to Reply
abbrev turn_end : Live → ℕ → List ℕ → List ℕ → ℕ → Flags → State → Result
turn_end l w m room s f st = done_end l w m room s (drawn_reply st) (turned_to l f st) []

module _ (l : Live) (m room : List ℕ) (w s : ℕ) where
  silent : (new : Session) → done_at (numbers_of new.power) 0 0 m room ≡ in_numbers (done_end l w m room s reply.Silence new [])
  silent new =
      silent-end blank (numbers_on l) m room (numbers_of new.power)
      ∙ tell-any blank (numbers_on l) w m room s reply.Silence (numbers_of new.power)
      ∙ sym (ends-in m room (on_session l) new w s reply.Silence [])

  told : (r : Reply) (new : Session) → tell_at (numbers_on l) m room r (numbers_of new.power) ≡ in_numbers (done_end l w m room s r new [])
  told r new = tell-any blank (numbers_on l) w m room s r (numbers_of new.power) ∙ sym (ends-in m room (on_session l) new w s r [])

  fall-turn : done_at (fallen_in (numbers_on l)) 0 0 m room ≡ in_numbers (turn_end l w m room s l.flags (fallen l.state))
  fall-turn = silent (moved_to l (fallen l.state))

  idle-turn : (f : Flags) → done_at (idle_in (numbers_on l) (flags_in f)) 0 0 m room ≡ in_numbers (turn_end l w m room s f state.Ready)
  idle-turn f = silent (turned_to l f state.Ready)

  drawn-turn : (f : Flags) (q : Round) (slot fresh : ℕ)
      → drawn_at (numbers_on l) (flags_in f) q.session q.q slot fresh m room ≡ in_numbers (turn_end l w m room s f (drawn q slot fresh))
  unfolding drawn_at
  drawn-turn f q slot fresh = go (eqb slot 0)
    where
      go : (b : Bool)
          → cond b (tell_at (numbers_on l) m room (reply.Drawn fresh) (bare_to (numbers_on l) 3 (flags_in f) q.session q.q fresh 0))
          (done_at (bare_to (numbers_on l) 2 (flags_in f) q.session q.q 0 slot) 0 0 m room)
          ≡ in_numbers (turn_end l w m room s f (cond b (state.Reply q fresh) (state.Arbitrate q slot)))
      go true = told (reply.Drawn fresh) (turned_to l f (state.Reply q fresh))
      go false = silent (turned_to l f (state.Arbitrate q slot))

-- orders of inventory
module _ (l : Live) (y : Layout) (m f : List ℕ) (fresh : ℕ) (room : List ℕ) (s : ℕ) where
  -- a command, by what its halves say
  by-halves : (c : Command) (t : ℕ) → halves_of y m l.state c.order ≡ t
      → in_numbers (command_of l y m f fresh room s c)
      ≡ in_numbers (cond (wrong_command l.state c) (kept 9 l m room) (halves_by t l m room (order_of l y m f fresh room s c.order)))
  unfolding command_of
  by-halves c t e =
      ap (λ (n : ℕ). in_numbers (cond (wrong_command l.state c) (kept 9 l m room) (halves_by n l m room (order_of l y m f fresh room s c.order)))) e

  -- what wrong_by says of an order that needs no cover, by whether the tag hears it and what it brings is bad
  abbrev wrong_if : Bool → Bool → Bool
  wrong_if hears bad = not hears || (false && not (is_covered (link_of l.state).cover)) || bad

  abbrev turning : Flags → State → Result
  turning g st = turn_end l y.work.at m room s g st

  left-turn : done_at (left_in (numbers_on l)) 0 0 m room ≡ in_numbers (turning (inverted l.flags (link_of l.state).round.session) state.Ready)
  left-turn =
      ap (λ (v : Numbers). done_at v 0 0 m room) (left-in (bit_of l.held) (number_in l.register) l.flags l.state)
      ∙ silent l m room y.work.at s (turned_to l (inverted l.flags (link_of l.state).round.session) state.Ready)

  rep-by : (k : ℕ) → rep_at (numbers_on l) k fresh m room ≡ in_numbers (command_of l y m f fresh room s (to_all (order.QueryRep k)))
  unfolding rep_at
  rep-by k =
      go (in_round l.state && eqb (link_of l.state).round.session k) (was_acknowledged l.state)
      ∙ sym (by-halves (to_all (order.QueryRep k)) 0 (halves-between y m (link_of l.state) (link_of l.state).half))
    where
      go : (b c : Bool)
          → cond (not b) (stays 9 (numbers_on l) m room)
          (cond c (done_at (left_in (numbers_on l)) 0 0 m room)
          (drawn_at (numbers_on l) (flags_in l.flags) (link_of l.state).round.session (link_of l.state).round.q (counted_down (slot_of l.state)) fresh m room))
          ≡ in_numbers
          (cond (wrong_if b false) (kept 9 l m room)
          (turning (cond c (inverted l.flags (link_of l.state).round.session) l.flags)
          (cond c state.Ready (drawn (link_of l.state).round (counted_down (slot_of l.state)) fresh))))
      go false c = refl
      go true true = left-turn
      go true false = drawn-turn l m room y.work.at s l.flags (link_of l.state).round (counted_down (slot_of l.state)) fresh

  adjust-by : (k u : ℕ) → adjust_at (numbers_on l) k u fresh m room ≡ in_numbers (command_of l y m f fresh room s (to_all (order.QueryAdjust k u)))
  unfolding adjust_at
  adjust-by k u =
      go (in_round l.state && eqb (link_of l.state).round.session k) (bad_up_dn u) (was_acknowledged l.state)
      ∙ sym (by-halves (to_all (order.QueryAdjust k u)) 0 (halves-between y m (link_of l.state) (link_of l.state).half))
    where
      q : Round
      q = record { session = (link_of l.state).round.session; q = adjusted_q u (link_of l.state).round.q }

      go : (b d c : Bool)
          → cond (not b) (stays 9 (numbers_on l) m room)
          (cond d (stays 9 (numbers_on l) m room)
          (cond c (done_at (left_in (numbers_on l)) 0 0 m room)
          (drawn_at (numbers_on l) (flags_in l.flags) q.session q.q (slot_out q.q fresh) fresh m room)))
          ≡ in_numbers
          (cond (wrong_if b d) (kept 9 l m room)
          (turning (cond c (inverted l.flags (link_of l.state).round.session) l.flags) (cond c state.Ready (drawn q (slot_from q fresh) fresh))))
      go false d c = refl
      go true true c = refl
      go true false true = left-turn
      go true false false = drawn-turn l m room y.work.at s l.flags q (slot_from q fresh) fresh

  query-by : (sel t : ℕ) (q : Round) → query_at (numbers_on l) sel t q.session q.q fresh m room ≡ in_numbers (command_of l y m f fresh room s (to_all (order.Query sel t q)))
  unfolding query_at
  query-by sel t q =
      ap (λ (x : ℕ). by x (matches_in x sel t q.session)) (queried-in (bit_of l.held) (number_in l.register) l.flags l.state q.session)
      ∙ ap (by (flags_in after_first)) (matches-in after_first sel t q.session)
      ∙ go (is_killed l.state) (matches after_first sel t q.session)
      ∙ sym (by-halves (to_all (order.Query sel t q)) 0 (halves-between y m (link_of l.state) (link_of l.state).half))
    where
      after_first : Flags
      after_first = queried_flags l.flags l.state q.session

      by : ℕ → Bool → Left Numbers
      by x b =
          cond (is_killed l.state) (stays 9 (numbers_on l) m room)
          (cond (not b) (done_at (idle_in (numbers_on l) x) 0 0 m room) (drawn_at (numbers_on l) x q.session q.q (slot_out q.q fresh) fresh m room))

      go : (a b : Bool)
          → cond a (stays 9 (numbers_on l) m room)
          (cond (not b) (done_at (idle_in (numbers_on l) (flags_in after_first)) 0 0 m room)
          (drawn_at (numbers_on l) (flags_in after_first) q.session q.q (slot_out q.q fresh) fresh m room))
          ≡ in_numbers (cond (wrong_if (not a) false) (kept 9 l m room) (turning after_first (cond b (drawn q (slot_from q fresh) fresh) state.Ready)))
      go true b = refl
      go false true = drawn-turn l m room y.work.at s after_first q (slot_from q fresh) fresh
      go false false = idle-turn l m room y.work.at s after_first

  select-by : (c : Choice) (p : ℕ) → select_at y (numbers_on l) c p m f room ≡ in_numbers (command_of l y m f fresh room s (to_all (order.Select c p)))
  unfolding select_at
  select-by c p = go (is_killed l.state) (bad_choice c) ∙ sym (by-halves (to_all (order.Select c p)) 0 (halves-between y m (link_of l.state) (link_of l.state).half))
    where
      match : Bool
      match = selects y m f c.bits p

      go : (a b : Bool)
          → cond a (stays 9 (numbers_on l) m room) (cond b (stays 9 (numbers_on l) m room) (done_at (selected_in (numbers_on l) c match) 0 0 m room))
          ≡ in_numbers (cond (wrong_if (not a) b) (kept 9 l m room) (turning (selected_flags l.flags c match) state.Ready))
      go true b = refl
      go false true = refl
      go false false =
          ap (λ (v : Numbers). done_at v 0 0 m room) (selected-in (bit_of l.held) (number_in l.register) l.flags l.state c match)
          ∙ silent l m room y.work.at s (turned_to l (selected_flags l.flags c match) state.Ready)

  halves-to : (n : ℕ) (k : Link) (a : Option Half) → halves_row y m k a (part.To n) ≡ cond (not (eqb (half_in a) 0) && eqb k.handle n) 14 0
  halves-to n k None = refl
  halves-to n k (Some (half.Access up)) = refl
  halves-to n k (Some (half.Kill up)) = refl

  ack-by : (n : ℕ) → ack_at y (numbers_on l) n m room ≡ in_numbers (command_of l y m f fresh room s (to_all (order.Ack n)))
  unfolding ack_at
  ack-by n =
      go (has_replied l.state) (eqb (link_of l.state).handle n) (eqb (half_in (link_of l.state).half) 0)
      ∙ sym (by-halves (to_all (order.Ack n)) _ (halves-to n (link_of l.state) (link_of l.state).half))
    where
      epc : Reply
      epc = reply.Epc (y.epc.at + 1) (length_of (pc_word y m) + 1)

      effect : Bool → Effect
      effect e = cond e (does (scene_of l y m f fresh) (acknowledged l.state) epc []) (turns l.flags (fallen l.state))

      go : (b e z : Bool)
          → cond (not b) (stays 9 (numbers_on l) m room)
          (cond e (cond z (tell_at (numbers_on l) m room epc (acknowledged_in (numbers_on l))) (dropped_at 14 (numbers_on l) m room))
          (done_at (fallen_in (numbers_on l)) 0 0 m room))
          ≡ in_numbers
          (cond (wrong_if b false) (kept 9 l m room)
          (halves_by (cond (not z && e) 14 0) l m room (end_by (effect e).code l y.work.at m room s (effect e))))
      go false e z = refl
      go true true true =
          ap (tell_at (numbers_on l) m room epc) (acknowledged-in (bit_of l.held) (number_in l.register) l.flags l.state)
          ∙ told l m room y.work.at s epc (moved_to l (acknowledged l.state))
      go true true false = refl
      go true false true = fall-turn l m room y.work.at s
      go true false false = fall-turn l m room y.work.at s

  pub calling-by : (c : Calling) → calling_at y (numbers_on l) m f fresh room c ≡ in_numbers (heard_by l y m f fresh room s (called (Ok c)))
  calling-by (call.QueryRep k) = rep-by k
  calling-by (call.Ack n) = ack-by n
  calling-by (call.Query sel t k q) = query-by sel t (record { session = k; q = q })
  calling-by (call.QueryAdjust k u) = adjust-by k u
  calling-by (call.Select c p) = select-by c p

-- where a Select's mask begins
pub call-placed : (f : List ℕ) (n : ℕ) (c : Calling) → called (Ok c) ≡ heard_of f n → CallPlaced c
call-placed f n (call.QueryRep k) e = tt
call-placed f n (call.Ack k) e = tt
call-placed f n (call.Query sel t k q) e = tt
call-placed f n (call.QueryAdjust k u) e = tt
call-placed f n (call.Select c p) e = said-select f n (to_all (order.Select c p)) (sym e) c p refl

-- the other orders, with the handle
module _ (l : Live) (y : Layout) (m f : List ℕ) (fresh : ℕ) (room : List ℕ) (s : ℕ) where
  abbrev handle : ℕ
  handle = (link_of l.state).handle

  abbrev performs : Decided → Left Numbers
  performs p = decided_at (numbers_on l) handle y m f fresh room s p

  abbrev used_now : Session
  used_now = moved_to l (used l.state)

  used-is : used_in (numbers_on l) ≡ numbers_of used_now.power
  used-is = used-in (bit_of l.held) (number_in l.register) l.flags l.state

  error-by : (e : ℕ) → error_at (numbers_on l) handle m room e ≡ in_numbers (error_end l handle m room e)
  error-by e = ap (λ (u : Numbers). error_by (numbers_on l) u handle m room e) used-is ∙ sym (errors-in m room (on_session l) used_now handle e)

  tell-by : (r : Reply) → tell_at (numbers_on l) m room r (used_in (numbers_on l)) ≡ in_numbers (done_end l y.work.at m room s r used_now [])
  tell-by r = ap (tell_at (numbers_on l) m room r) used-is ∙ told l m room y.work.at s r used_now

  store_by : (ss : List Store) → store_at (numbers_on l) handle (used_in (numbers_on l)) y.work.at m room s ss ≡ in_numbers (done_end l y.work.at m room s (reply.Success handle) used_now ss)
  store_by ss =
      ap (λ (u : Numbers). store_at (numbers_on l) handle u y.work.at m room s ss) used-is
      ∙ sym (ends-in m room (on_session l) used_now y.work.at s (reply.Success handle) ss)

  -- an order by its error code
  code-by : (c : Code) (p : Plan) (x : Effect) → performs (Ok p) ≡ in_numbers (done_end l y.work.at m room s x.reply (turned_to l x.flags x.state) x.words)
      → performs (or_error c p) ≡ in_numbers (end_by c l y.work.at m room s x)
  code-by (Ok u) p x h = h
  code-by (Err e) p x h = error-by (fault_number e)

  abbrev ends : Effect → Left Numbers
  ends x = in_numbers (end_by x.code l y.work.at m room s x)

  half-by : (a : Option Half) → is_linked l.state ≡ true
      → tell_at (numbers_on l) m room (reply.Number handle) (halved_in (numbers_on l) (half_in a) (upper_in a))
      ≡ in_numbers (done_end l y.work.at m room s (reply.Number handle) (moved_to l (with_link l.state (halved (link_of l.state) a))) [])
  half-by a e =
      ap (tell_at (numbers_on l) m room (reply.Number handle)) (halved-in (bit_of l.held) (number_in l.register) l.flags l.state a e)
      ∙ told l m room y.work.at s (reply.Number handle) (moved_to l (with_link l.state (halved (link_of l.state) a)))

  -- a half of Kill and of Access, by the half that waits
  kill-by : (h : ℕ) (a : Option Half) → is_linked l.state ≡ true → halves_row y m (link_of l.state) a (part.Kill h) ≡ 0
      → performs (cond (eqb (half_in a) 0) (cond (zero_kill y m) (Err fault.Other) (Ok (plan.Half 2 (bare_of (numbers_on l) h)))) (Ok (plan.Kill 1 (y.status.at + 1))))
      ≡ ends (half_kill (scene_of l y m f fresh) h a)
  kill-by h None e b = go (zero_kill y m)
    where
      go : (z : Bool) → performs (cond z (Err fault.Other) (Ok (plan.Half 2 (bare_of (numbers_on l) h))))
          ≡ in_numbers (end_by (cond z (Err fault.Other) (Ok tt)) l y.work.at m room s (half_kill (scene_of l y m f fresh) h None))
      go true = error-by (fault_number fault.Other)
      go false =
          ap (λ (u : ℕ). tell_at (numbers_on l) m room (reply.Number handle) (halved_in (numbers_on l) 2 u)) (bare-in (link_of l.state).cover h)
          ∙ half-by (Some (half.Kill (uncovered (link_of l.state).cover h))) e
  kill-by h (Some (half.Access up)) e b = absurd (omega (arith, b))
  kill-by h (Some (half.Kill up)) e b =
      sym (ends-in m room (on_session l) (moved_to l state.Killed) y.work.at s (reply.Success handle) (store (y.status.at + 1) 1 ∷ []))

  access-by : (h : ℕ) (a : Option Half) → is_linked l.state ≡ true → halves_row y m (link_of l.state) a (part.Access h) ≡ 0
      → performs (Ok (cond (eqb (half_in a) 0) (plan.Half 1 (bare_of (numbers_on l) h)) plan.Secure)) ≡ ends (half_access (scene_of l y m f fresh) h a)
  access-by h None e b =
      ap (λ (u : ℕ). tell_at (numbers_on l) m room (reply.Number handle) (halved_in (numbers_on l) 1 u)) (bare-in (link_of l.state).cover h)
      ∙ half-by (Some (half.Access (uncovered (link_of l.state).cover h))) e
  access-by h (Some (half.Access up)) e b =
      ap (tell_at (numbers_on l) m room (reply.Number handle)) (secured-in (bit_of l.held) (number_in l.register) l.flags l.state e)
      ∙ told l m room y.work.at s (reply.Number handle) (moved_to l (state.Secured (halved (link_of l.state) None)))
  access-by h (Some (half.Kill up)) e b = absurd (omega (arith, b))

  order-by : (o : Order) → ToOne o → wrong_by l.state handle (asks_of o) ≡ false → halves_of y m l.state o ≡ 0
      → performs (plan_of y m f (numbers_on l) o) ≡ in_numbers (order_of l y m f fresh room s o)
  order-by (order.QueryRep k) u w b = absurd u
  order-by (order.Ack n) u w b = absurd u
  order-by (order.Query sel t q) u w b = absurd u
  order-by (order.QueryAdjust k x) u w b = absurd u
  order-by (order.Select c p) u w b = absurd u
  order-by order.Nak u w b = fall-turn l m room y.work.at s
  order-by order.ReqRn u w b =
      ap (tell_at (numbers_on l) m room (reply.Number fresh))
      (numbered-in (bit_of l.held) (number_in l.register) l.flags y m fresh l.state (and_left _ _ (passes-heard l.state (asks_of order.ReqRn) handle w)))
      ∙ told l m room y.work.at s (reply.Number fresh) (moved_to l (numbered y m fresh l.state))
  order-by (order.Read p) u w b = code-by (read_code y m (is_secured l.state) p) _ _ (tell-by _)
  order-by (order.Write p x) u w b =
      ap (λ (v : ℕ). performs (write_plan y m (is_secured l.state) p v)) (bare-in (link_of l.state).cover x)
      ∙ code-by (write_code y m (is_secured l.state) p (uncovered (link_of l.state).cover x)) _ _ (store_by _)
  order-by (order.Kill h) u w b = kill-by h (link_of l.state).half (and_left _ _ (passes-heard l.state (asks_of (order.Kill h)) handle w)) b
  order-by (order.Lock mask action) u w b = code-by (lock_code y m mask action) _ _ (store_by _)
  order-by (order.Access h) u w b = access-by h (link_of l.state).half (and_left _ _ (passes-heard l.state (asks_of (order.Access h)) handle w)) b
  order-by (order.BlockWrite p x) u w b = code-by (write_code y m (is_secured l.state) p (field_at f (x + 16 * (1 - p.pointer)) 16)) _ _ (store_by _)
  order-by (order.BlockErase p) u w b = code-by (write_code y m (is_secured l.state) p 0) _ _ (store_by _)
  order-by (order.ReadPermalock r p) u w b = code-by (perma_read_code y p) _ _ (tell-by _)
  order-by (order.Permalock r p x) u w b = code-by (perma_code y m p f x) _ _ (store_by _)

  -- a number that passes is the handle
  by-handle : (n : ℕ) (o : Order) → ToOne o → wrong_by l.state n (asks_of o) ≡ false → halves_of y m l.state o ≡ 0 → Named (asks_of o).who
      → decided_at (numbers_on l) n y m f fresh room s (plan_of y m f (numbers_on l) o) ≡ in_numbers (order_of l y m f fresh room s o)
  by-handle n o u w b named =
      let e = passes-handle l.state (asks_of o) n w named in
      ap (λ (k : ℕ). decided_at (numbers_on l) k y m f fresh room s (plan_of y m f (numbers_on l) o)) e
      ∙ order-by o u (ap (λ (k : ℕ). wrong_by l.state k (asks_of o)) (sym e) ∙ w) b

  passed-by : (n : ℕ) (o : Order) → ToOne o → wrong_by l.state n (asks_of o) ≡ false → halves_of y m l.state o ≡ 0
      → decided_at (numbers_on l) n y m f fresh room s (plan_of y m f (numbers_on l) o) ≡ in_numbers (order_of l y m f fresh room s o)
  passed-by n (order.QueryRep k) u w b = absurd u
  passed-by n (order.Ack k) u w b = absurd u
  passed-by n (order.Query sel t q) u w b = absurd u
  passed-by n (order.QueryAdjust k x) u w b = absurd u
  passed-by n (order.Select c p) u w b = absurd u
  passed-by n order.Nak u w b = fall-turn l m room y.work.at s
  passed-by n order.ReqRn u w b = by-handle n order.ReqRn u w b tt
  passed-by n (order.Read p) u w b = by-handle n (order.Read p) u w b tt
  passed-by n (order.Write p x) u w b = by-handle n (order.Write p x) u w b tt
  passed-by n (order.Kill h) u w b = by-handle n (order.Kill h) u w b tt
  passed-by n (order.Lock mask action) u w b = by-handle n (order.Lock mask action) u w b tt
  passed-by n (order.Access h) u w b = by-handle n (order.Access h) u w b tt
  passed-by n (order.BlockWrite p x) u w b = by-handle n (order.BlockWrite p x) u w b tt
  passed-by n (order.BlockErase p) u w b = by-handle n (order.BlockErase p) u w b tt
  passed-by n (order.ReadPermalock r p) u w b = by-handle n (order.ReadPermalock r p) u w b tt
  passed-by n (order.Permalock r p x) u w b = by-handle n (order.Permalock r p x) u w b tt

  pub command-by : (c : Command) → ToOne c.order → command_at y (numbers_on l) m f fresh room s c ≡ in_numbers (command_of l y m f fresh room s c)
  unfolding command_at command_of
  command-by c u =
      ap by (gate-in y m (bit_of l.held) (number_in l.register) l.flags l.state c.number c.order)
      ∙ go (wrong_by l.state c.number (asks_of c.order)) refl
    where
      by : ℕ → Left Numbers
      by g = cond (eqb g 0) (decided_at (numbers_on l) c.number y m f fresh room s (plan_of y m f (numbers_on l) c.order)) (gated_at g (numbers_on l) m room)

      says : ℕ
      says = halves_of y m l.state c.order

      leaves : ℕ → Left Numbers
      leaves n = in_numbers (halves_by n l m room (order_of l y m f fresh room s c.order))

      passed : wrong_by l.state c.number (asks_of c.order) ≡ false → Three says → by says ≡ leaves says
      passed w (inl h) = ap by h ∙ passed-by c.number c.order u w h ∙ sym (ap leaves h)
      passed w (inr (inl h)) = ap by h ∙ sym (ap leaves h)
      passed w (inr (inr h)) = ap by h ∙ sym (ap leaves h)

      go : (a : Bool) → wrong_by l.state c.number (asks_of c.order) ≡ a
          → by (gate_by a says) ≡ in_numbers (cond a (kept 9 l m room) (halves_by says l m room (order_of l y m f fresh room s c.order)))
      go true p = refl
      go false p = passed p (halves-three y m (link_of l.state) (link_of l.state).half (asks_of c.order).part)

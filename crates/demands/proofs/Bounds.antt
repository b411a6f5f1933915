-- No call leaves the bounds of a round's numbers and of a slot. Assumes nothing.
use Rattle.std.specs.Prelude.{Option, None, Some}
use Prim.Native.Nat.{ℕ, ◌+◌, ◌-◌, ◌^◌, ◌≤◌, ◌<◌}
use mathlib.Core.Path.{◌≡◌, refl}
use mathlib.Core.Bool.{Bool, true, false, cond}
use mathlib.Core.List.{List}
use native.Mathlib.Omega.{arith}
use native.Mathlib.Nat.{mod-lt, pow-le-pow_right}
use lib.Dec.{eqb, ltb}
use lib.Pow.{pow_pos}
use borrow.Author.Tests.{ltb-true}
use Rattle.image.specs.Layout.{layout_of}
use Rattle.image.specs.Content.{killed_word}
use Rattle.bits.specs.Words.{after}
use Rattle.frames.specs.declared.Round.{Round}
use Rattle.frames.specs.declared.Order.{Order}
use Rattle.frames.specs.declared.Order.TheVariants as order
use Rattle.frames.specs.Message.{Message}
use Rattle.frames.specs.Message as heard
use Rattle.frames.specs.Frames.{heard_of}
use Rattle.frames.proofs.Orders.{Small, said-small}
use Rattle.stores.specs.Stores.{change_stores, power_stores}
use Rattle.states.specs.declared.Half.{Half}
use Rattle.states.specs.declared.Half.TheVariants as half
use Rattle.states.specs.declared.Link.{Link}
use Rattle.states.specs.declared.State.{State}
use Rattle.states.specs.declared.State.TheVariants as state
use Rattle.states.specs.Commands.{link_of, slot_of, state_number, is_reply, was_acknowledged, zero_access, with_link, used, fallen, plain_link}
use Rattle.states.specs.Inventory.{drawn, slot_from, matches, queried_flags, adjusted_q, counted_down}
use Rattle.plans.specs.Effects.{Scene, Effect, half_kill, half_access, effect_of}
use Rattle.tag.specs.declared.Live.{Live}
use Rattle.tag.specs.Result.{Result, first_of}
use Rattle.tag.specs.Power.{power_up_of}
use Rattle.tag.specs.Table.{live_of, command_in, scene, frame_of}
use Rattle.tag.specs.Port.{ask_of, release_of, register_of, read_of, write_of}
use Rattle.tag.specs.Steps.{input}
use Rattle.demands.specs.Calls.{Call, power_up, frame, ask, release, register, read, write, Tag, answer_of, session_in}
use Rattle.demands.specs.Demands.{Bounded, Reachable, Reached}
use Rattle.demands.proofs.Rows.{first-each}

-- round and slot of a state
round-in : (st : State) → Reachable st → Bounded (link_of st).round
round-in state.Ready h = (omega arith, omega arith)
round-in (state.Arbitrate q slot) h = h.0
round-in (state.Reply q n) h = h
round-in (state.Acknowledged q n) h = h
round-in (state.Open k) h = h
round-in (state.Secured k) h = h
round-in state.Killed h = (omega arith, omega arith)

slot-in : (st : State) → Reachable st → slot_of st < 2 ^ 15
slot-in state.Ready h = omega arith
slot-in (state.Arbitrate q slot) h = h.1
slot-in (state.Reply q n) h = omega arith
slot-in (state.Acknowledged q n) h = omega arith
slot-in (state.Open k) h = omega arith
slot-in (state.Secured k) h = omega arith
slot-in state.Killed h = omega arith

link-in : (st : State) (k : Link) → Reachable st → Bounded k.round → Reachable (with_link st k)
link-in state.Ready k h b = tt
link-in (state.Arbitrate q slot) k h b = h
link-in (state.Reply q n) k h b = h
link-in (state.Acknowledged q n) k h b = h
link-in (state.Open l) k h b = b
link-in (state.Secured l) k h b = b
link-in state.Killed k h b = tt

used-in : (st : State) → Reachable st → Reachable (used st)
used-in st h = link-in st _ h (round-in st h)

fallen-in : (st : State) → Reachable st → Reachable (fallen st)
fallen-in st h = (round-in st h, slot-in st h)

choose : (b : Bool) (x y : State) → Reachable x → Reachable y → Reachable (cond b x y)
choose true x y p q = p
choose false x y p q = q

-- a slot that is drawn or counted down
drawn-in : (q : Round) (slot fresh : ℕ) → Bounded q → slot < 2 ^ 15 → Reachable (drawn q slot fresh)
drawn-in q slot fresh b l = choose (eqb slot 0) (state.Reply q fresh) (state.Arbitrate q slot) b (b, l)

from_in : (q : Round) (fresh : ℕ) → Bounded q → slot_from q fresh < 2 ^ 15
from_in q fresh b =
    let most : 2 ^ q.q ≤ 2 ^ 15 = pow-le-pow_right {n = 2} (omega arith) {i = q.q} {j = 15} (omega (arith, b.1)) in
    omega (arith, mod-lt fresh (pow_pos q.q), most)

count-in : (slot : ℕ) → slot < 2 ^ 15 → counted_down slot < 2 ^ 15
count-in slot l = go (eqb slot 0)
  where
    go : (b : Bool) → cond b 0x7FFF (slot - 1) < 2 ^ 15
    go true = omega arith
    go false = omega (arith, l)

adjust-in : (u q : ℕ) → q < 16 → adjusted_q u q < 16
adjust-in u q l = go (eqb u 6) (eqb u 3) (ltb q 15) refl
  where
    go : (a b c : Bool) → ltb q 15 ≡ c → cond a (cond c (q + 1) 15) (cond b (q - 1) q) < 16
    go true b true e = omega (arith, ltb-true q 15 e)
    go true b false e = omega arith
    go false true c e = omega (arith, l)
    go false false c e = l

-- what each order comes to
kill-in : (c : Scene) (w : ℕ) (p : Option Half) → Reachable c.state → Reachable (half_kill c w p).state
kill-in c w None h = link-in c.state _ h (round-in c.state h)
kill-in c w (Some (half.Access up)) h = h
kill-in c w (Some (half.Kill up)) h = tt

access-in : (c : Scene) (w : ℕ) (p : Option Half) → Reachable c.state → Reachable (half_access c w p).state
access-in c w None h = link-in c.state _ h (round-in c.state h)
access-in c w (Some (half.Access up)) h = round-in c.state h
access-in c w (Some (half.Kill up)) h = h

chosen : (b : Bool) (x y : Effect) → Reachable x.state → Reachable y.state → Reachable (cond b x y).state
chosen true x y p q = p
chosen false x y p q = q

order-in : (c : Scene) (o : Order) → Small o → Reachable c.state → Reachable (effect_of c o).state
order-in c (order.QueryRep k) s h =
    choose (was_acknowledged c.state) state.Ready _ tt
    (drawn-in (link_of c.state).round (counted_down (slot_of c.state)) c.fresh (round-in c.state h) (count-in (slot_of c.state) (slot-in c.state h)))
order-in c (order.Ack n) s h =
    chosen (eqb (link_of c.state).handle n) _ _
    (choose (is_reply c.state) (state.Acknowledged (link_of c.state).round (link_of c.state).handle) (used c.state) (round-in c.state h) (used-in c.state h))
    (fallen-in c.state h)
order-in c (order.Query sel t q) s h =
    let b : Bounded q = (s.2, s.3) in
    choose (matches (queried_flags c.flags c.state q.session) sel t q.session) (drawn q (slot_from q c.fresh) c.fresh) state.Ready (drawn-in q (slot_from q c.fresh) c.fresh b (from_in q c.fresh b)) tt
order-in c (order.QueryAdjust k u) s h =
    let r = (link_of c.state).round in
    let b = round-in c.state h in
    let q : Round = record { session = r.session; q = adjusted_q u r.q } in
    let d : Bounded q = (b.0, adjust-in u r.q b.1) in
    choose (was_acknowledged c.state) state.Ready _ tt (drawn-in q (slot_from q c.fresh) c.fresh d (from_in q c.fresh d))
order-in c (order.Select x p) s h = tt
order-in c order.Nak s h = fallen-in c.state h
order-in c order.ReqRn s h =
    let k = plain_link (link_of c.state).round c.fresh in
    choose (eqb (state_number c.state) 4) _ _ (choose (zero_access c.layout c.image) (state.Secured k) (state.Open k) (round-in c.state h) (round-in c.state h))
    (link-in c.state _ h (round-in c.state h))
order-in c (order.Read x) s h = used-in c.state h
order-in c (order.Write x w) s h = used-in c.state h
order-in c (order.Kill w) s h = kill-in c w (link_of c.state).half h
order-in c (order.Lock mask action) s h = used-in c.state h
order-in c (order.Access w) s h = access-in c w (link_of c.state).half h
order-in c (order.BlockWrite x p) s h = used-in c.state h
order-in c (order.BlockErase x) s h = used-in c.state h
order-in c (order.ReadPermalock rfu x) s h = used-in c.state h
order-in c (order.Permalock rfu x p) s h = used-in c.state h

-- a session's state, Off or not
live_in : (p : Option Live) → Reached p → Reachable (live_of p).state
live_in None h = tt
live_in (Some l) h = h

abbrev Comes : Result → Type 0
Comes r = Reached r.session.power

frame-in : (t : Tag) (f : List ℕ) (bits fresh : ℕ) (room : List ℕ) (s : ℕ) → Reached t.session.power → Comes (first_of (frame_of change_stores (input t.session t.image f bits fresh room s)))
unfolding frame_of
frame-in t f bits fresh room s h =
    let i = input t.session t.image f bits fresh room s in
    let l = live_in t.session.power h in
    first-each Comes (frame_of change_stores i).rows (frame_of change_stores i).done
    (λ e. h, (λ e. h, (λ e. h, (λ e. h, (λ e. h, (λ e. h, (λ e. h, (λ e. h, (λ e. fallen-in (live_of t.session.power).state l, (λ e. fallen-in (live_of t.session.power).state l, (λ e. used-in (live_of t.session.power).state l, (λ e. h, (λ e. tt, tt))))))))))))) (go (heard_of f bits) refl l)
  where
    go : (x : Message) → heard_of f bits ≡ x → Reachable (live_of t.session.power).state
        → Reachable (effect_of (scene (input t.session t.image f bits fresh room s)) (command_in x).order).state
    go (heard.refused k) q l = fallen-in (live_of t.session.power).state l
    go (heard.said c) q l = order-in (scene (input t.session t.image f bits fresh room s)) c.order (said-small f bits c q) l

pub bounds-so : (t : Tag) (c : Call) → Reached (session_in t c).power → Comes (answer_of t c)
unfolding power_up_of ask_of release_of register_of read_of write_of
bounds-so t (power_up s) h =
    first-each Comes (power_up_of t.image s).rows (power_up_of t.image s).done (λ e. tt, (λ e. tt, (λ e. tt, (λ e. tt, tt))))
    (choose (eqb (killed_word (layout_of t.image) (after t.image (power_stores (layout_of t.image) t.image))) 0) state.Ready state.Killed tt tt)
bounds-so t (frame f bits fresh room s) h = frame-in t f bits fresh room s h
bounds-so t ask h = first-each Comes (ask_of t.session).rows (ask_of t.session).done (λ e. h, (λ e. h, tt)) (live_in t.session.power h)
bounds-so t release h = first-each Comes (release_of t.session).rows (release_of t.session).done (λ e. h, (λ e. h, tt)) (live_in t.session.power h)
bounds-so t register h = first-each Comes (register_of t.session).rows (register_of t.session).done (λ e. h, (λ e. h, tt)) (live_in t.session.power h)
bounds-so t (read at count room) h =
    first-each Comes (read_of t.session t.image at count room).rows (read_of t.session t.image at count room).done
    (λ e. h, (λ e. h, (λ e. h, (λ e. h, (λ e. h, (λ e. h, (λ e. h, tt))))))) (live_in t.session.power h)
bounds-so t (write at d s) h =
    first-each Comes (write_of change_stores t.session t.image at d s).rows (write_of change_stores t.session t.image at d s).done
    (λ e. h, (λ e. h, (λ e. h, (λ e. h, (λ e. h, (λ e. h, (λ e. tt, tt))))))) (live_in t.session.power h)

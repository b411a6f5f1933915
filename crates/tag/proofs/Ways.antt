-- The ways through a command's steps, by what its tests say. Assumes nothing.
use Prim.Native.Nat.{ℕ, ◌+◌}
use mathlib.Core.Path.{◌≡◌, sym, ap, ◌∙◌}
use mathlib.Core.Bool.{Bool, cond, not, ◌&&◌}
use mathlib.Core.List.{List}
use lib.Dec.{eqb}
use Rattle.image.specs.declared.Layout.{Layout}
use Rattle.image.specs.Content.{length_of, pc_word}
use Rattle.frames.specs.declared.Choice.{Choice}
use Rattle.frames.specs.declared.Command.{Command}
use Rattle.replies.specs.declared.Reply.TheVariants as reply
use Rattle.plans.specs.Steps.{plan_of}
use Rattle.states.specs.declared.Numbers.{Numbers}
use Rattle.states.specs.declared.stopping.Stop.{Stop}
use Rattle.states.specs.declared.stopping.Stop.TheVariants as stop
use Rattle.states.specs.Commands.{bad_choice, bad_up_dn}
use Rattle.states.specs.Inventory.{adjusted_q, counted_down, selects}
use Rattle.states.specs.Steps.{stop_number}
use Rattle.states.specs.ByNumber.{past, fallen_in, acknowledged_in, idle_in, left_in, queried_in, matches_in, slot_out, selected_in, gate_in}
use Rattle.tag.specs.Result.{Left}
use Rattle.tag.specs.Steps.{stays}
use Rattle.tag.specs.ByNumber.{done_at, dropped_at, tell_at, drawn_at, rep_at, adjust_at, query_at, ack_at, select_at, decided_at, gated_at, command_at}

module _ (v : Numbers) (fresh : ℕ) (m room : List ℕ) where
  pub rep-way : (k : ℕ) (a b : Bool) → (past v 1 && eqb v.round k) ≡ a → past v 3 ≡ b
      → cond (not a) (stays 9 v m room)
      (cond b (done_at (left_in v) 0 0 m room) (drawn_at v v.flags v.round v.q (counted_down v.slot) fresh m room))
      ≡ rep_at v k fresh m room
  unfolding rep_at
  rep-way k a b e g = sym (ap (λ (x : Bool). by x (past v 3)) e ∙ ap (by a) g)
    where
      by : Bool → Bool → Left Numbers
      by x y =
          cond (not x) (stays 9 v m room)
          (cond y (done_at (left_in v) 0 0 m room) (drawn_at v v.flags v.round v.q (counted_down v.slot) fresh m room))

  pub adjust-way : (k u : ℕ) (a d b : Bool) → (past v 1 && eqb v.round k) ≡ a → bad_up_dn u ≡ d → past v 3 ≡ b
      → cond (not a) (stays 9 v m room)
      (cond d (stays 9 v m room)
      (cond b (done_at (left_in v) 0 0 m room)
      (drawn_at v v.flags v.round (adjusted_q u v.q) (slot_out (adjusted_q u v.q) fresh) fresh m room)))
      ≡ adjust_at v k u fresh m room
  unfolding adjust_at
  adjust-way k u a d b e h g = sym (ap (λ (x : Bool). by x (bad_up_dn u) (past v 3)) e ∙ ap (λ (x : Bool). by a x (past v 3)) h ∙ ap (by a d) g)
    where
      by : Bool → Bool → Bool → Left Numbers
      by x z y =
          cond (not x) (stays 9 v m room)
          (cond z (stays 9 v m room)
          (cond y (done_at (left_in v) 0 0 m room)
          (drawn_at v v.flags v.round (adjusted_q u v.q) (slot_out (adjusted_q u v.q) fresh) fresh m room)))

  pub query-way : (sel t k q : ℕ) (a b : Bool) → eqb v.state 7 ≡ a → matches_in (queried_in v k) sel t k ≡ b
      → cond a (stays 9 v m room)
      (cond (not b) (done_at (idle_in v (queried_in v k)) 0 0 m room) (drawn_at v (queried_in v k) k q (slot_out q fresh) fresh m room))
      ≡ query_at v sel t k q fresh m room
  unfolding query_at
  query-way sel t k q a b e g = sym (ap (λ (x : Bool). by x (matches_in (queried_in v k) sel t k)) e ∙ ap (by a) g)
    where
      by : Bool → Bool → Left Numbers
      by x y =
          cond x (stays 9 v m room)
          (cond (not y) (done_at (idle_in v (queried_in v k)) 0 0 m room) (drawn_at v (queried_in v k) k q (slot_out q fresh) fresh m room))

module _ (y : Layout) (v : Numbers) (m room : List ℕ) where
  pub ack-way : (n : ℕ) (a b c : Bool) → past v 2 ≡ a → eqb v.number n ≡ b → eqb v.half 0 ≡ c
      → cond (not a) (stays 9 v m room)
      (cond b
      (cond c (tell_at v m room (reply.Epc (y.epc.at + 1) (length_of (pc_word y m) + 1)) (acknowledged_in v)) (dropped_at 14 v m room))
      (done_at (fallen_in v) 0 0 m room))
      ≡ ack_at y v n m room
  unfolding ack_at
  ack-way n a b c e g h = sym (ap (λ (x : Bool). by x (eqb v.number n) (eqb v.half 0)) e ∙ ap (λ (x : Bool). by a x (eqb v.half 0)) g ∙ ap (by a b) h)
    where
      by : Bool → Bool → Bool → Left Numbers
      by x z w =
          cond (not x) (stays 9 v m room)
          (cond z
          (cond w (tell_at v m room (reply.Epc (y.epc.at + 1) (length_of (pc_word y m) + 1)) (acknowledged_in v)) (dropped_at 14 v m room))
          (done_at (fallen_in v) 0 0 m room))

  pub select-way : (x : Choice) (p : ℕ) (f : List ℕ) (a b : Bool) → eqb v.state 7 ≡ a → bad_choice x ≡ b
      → cond a (stays 9 v m room) (cond b (stays 9 v m room) (done_at (selected_in v x (selects y m f x.bits p)) 0 0 m room))
      ≡ select_at y v x p m f room
  unfolding select_at
  select-way x p f a b e g = sym (ap (λ (z : Bool). by z (bad_choice x)) e ∙ ap (by a) g)
    where
      by : Bool → Bool → Left Numbers
      by z w = cond z (stays 9 v m room) (cond w (stays 9 v m room) (done_at (selected_in v x (selects y m f x.bits p)) 0 0 m room))

  pub command-way : (f : List ℕ) (fresh s : ℕ) (c : Command) {g : ℕ} → g ≡ gate_in y m v c.number c.order
      → cond (eqb g 0) (decided_at v c.number y m f fresh room s (plan_of y m f v c.order)) (gated_at g v m room)
      ≡ command_at y v m f fresh room s c
  unfolding command_at
  command-way f fresh s c e =
      ap
      (λ (g : ℕ). cond (eqb g 0) (decided_at v c.number y m f fresh room s (plan_of y m f v c.order)) (gated_at g v m room))
      e

  -- stopped by the gate
  pub stopped-way : (f : List ℕ) (fresh s : ℕ) (c : Command) (t : Stop) → stop_number t ≡ gate_in y m v c.number c.order
      → gated_at (stop_number t) v m room ≡ command_at y v m f fresh room s c
  stopped-way f fresh s c stop.Wrong e = command-way f fresh s c e
  stopped-way f fresh s c stop.Password e = command-way f fresh s c e
  stopped-way f fresh s c stop.Halves e = command-way f fresh s c e

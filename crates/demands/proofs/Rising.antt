-- The words of every call go in rising address order. Assumes nothing.
use Rattle.std.specs.Prelude.{Option, None, Some}
use Prim.Native.Nat.{ℕ, zero, suc, ◌+◌, ◌/◌, ◌<◌}
use mathlib.Core.Path.{sym, subst}
use mathlib.Core.Bool.{Bool, true, false, cond}
use mathlib.Core.List.{List, [], ◌∷◌, ◌++◌, append-nil}
use native.Mathlib.Omega.{arith}
use lib.ListN.{length}
use Rattle.bits.specs.Words.{word_at, Store, store, All}
use Rattle.bits.specs.Below.{below}
use Rattle.bits.proofs.Stores.{all-below, all_append, all-imp}
use Rattle.image.specs.declared.Layout.{Layout}
use Rattle.image.specs.Layout.{layout_of}
use Rattle.frames.specs.declared.Order.{Order}
use Rattle.frames.specs.declared.Order.TheVariants as order
use Rattle.states.specs.declared.Half.{Half}
use Rattle.states.specs.declared.Half.TheVariants as half
use lib.Dec.{eqb}
use Rattle.image.specs.Content.{length_of, pc_word}
use Rattle.replies.specs.declared.Reply.TheVariants as reply
use Rattle.states.specs.Commands.{link_of, is_killed, fallen}
use Rattle.states.specs.Inventory.{acknowledged}
use Rattle.plans.specs.Effects.{Scene, does, turns, handle_in, half_kill, half_access, effect_of}
use Rattle.tag.specs.Table.{scene, command, live_of}
use Rattle.tag.specs.Steps.{input}
use Rattle.tag.specs.Port.{port_writes, written_words, port_words}
use Rattle.demands.specs.Calls.{Call, power_up, frame, ask, release, register, read, write, Tag, words_in}
use Rattle.demands.specs.Demands.{Rising}

-- one more word behind all others
rising-last : (ss : List Store) (s : Store) → Rising ss → All (λ u. u.at < s.at) ss → Rising (ss ++ (s ∷ []))
rising-last [] s r a = tt
rising-last (u ∷ []) s r a = (a.0, tt)
rising-last (u ∷ v ∷ ss) s r a = (r.0, rising-last (v ∷ ss) s r.1 a.1)

rising-row : (o : ℕ) (f : ℕ → ℕ) (n : ℕ) → Rising (below (λ j. store (o + j) (f j)) n)
rising-row o f zero = tt
rising-row o f (suc n) =
    rising-last (below (λ j. store (o + j) (f j)) n) (store (o + n) (f n)) (rising-row o f n)
    (all-below (λ u. u.at < o + n) (λ j. store (o + j) (f j)) n (λ j l. omega arith))

rising-order : (c : Scene) (o : Order) → Rising (effect_of c o).words
rising-order c (order.QueryRep k) = tt
rising-order c (order.Ack n) = go (eqb (handle_in c) n)
  where
    go : (b : Bool)
        → Rising (cond b (does c (acknowledged c.state) (reply.Epc (c.layout.epc.at + 1) (length_of (pc_word c.layout c.image) + 1)) []) (turns c.flags (fallen c.state))).words
    go true = tt
    go false = tt
rising-order c (order.Query sel t q) = tt
rising-order c (order.QueryAdjust k u) = tt
rising-order c (order.Select x p) = tt
rising-order c order.Nak = tt
rising-order c order.ReqRn = tt
rising-order c (order.Read s) = tt
rising-order c (order.Write s w) = tt
rising-order c (order.Kill w) = go (link_of c.state).half
  where
    go : (p : Option Half) → Rising (half_kill c w p).words
    go None = tt
    go (Some (half.Access up)) = tt
    go (Some (half.Kill up)) = tt
rising-order c (order.Lock mask action) = tt
rising-order c (order.Access w) = go (link_of c.state).half
  where
    go : (p : Option Half) → Rising (half_access c w p).words
    go None = tt
    go (Some (half.Access up)) = tt
    go (Some (half.Kill up)) = tt
rising-order c (order.BlockWrite s at) = rising-row _ _ s.count
rising-order c (order.BlockErase s) = rising-row _ (λ j. 0) s.count
rising-order c (order.ReadPermalock rfu s) = tt
rising-order c (order.Permalock rfu s at) = rising-row _ _ s.count

module _ (y : Layout) (m : List ℕ) (at : ℕ) (d : List ℕ) where
  written_below : (n : ℕ) → All (λ u. u.at < y.user.at + at + n) (written_words y m at d n)
  written_below zero = tt
  written_below (suc n) =
      all_append (λ u. u.at < y.user.at + at + suc n) (written_words y m at d n) _
      (all-imp (λ u. u.at < y.user.at + at + n) (λ u. u.at < y.user.at + at + suc n) (λ u l. omega arith) (written_words y m at d n) (written_below n)) (go (port_writes y m (at + n)))
    where
      go : (b : Bool) → All (λ u. u.at < y.user.at + at + suc n) (cond b (store (y.user.at + at + n) (word_at d n) ∷ []) [])
      go true = (omega arith, tt)
      go false = tt

  rising-written : (n : ℕ) → Rising (written_words y m at d n)
  rising-written zero = tt
  rising-written (suc n) = go (port_writes y m (at + n)) (rising-written n)
    where
      go : (b : Bool) → Rising (written_words y m at d n) → Rising (written_words y m at d n ++ cond b (store (y.user.at + at + n) (word_at d n) ∷ []) [])
      go true r = rising-last (written_words y m at d n) (store (y.user.at + at + n) (word_at d n)) r (written_below n)
      go false r = subst Rising (sym (append-nil (written_words y m at d n))) r

  rising-port : (k : Bool) → Rising (port_words y m k at d)
  rising-port true = tt
  rising-port false = rising-written (length d / 2)

pub rising : (t : Tag) (c : Call) → Rising (words_in t c)
rising t (power_up s) = tt
rising t (frame f bits fresh room s) = let i = input t.session t.image f bits fresh room s in rising-order (scene i) (command i).order
rising t ask = tt
rising t release = tt
rising t register = tt
rising t (read at count room) = tt
rising t (write at d s) = rising-port (layout_of t.image) t.image at d (is_killed (live_of t.session.power).state)

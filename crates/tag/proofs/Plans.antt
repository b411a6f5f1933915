-- Where no error code applies, an order's words lie in the image and can be stored; and the ways of stores to their end. Assumes nothing.
use Prim.Native.Nat.{ℕ, ◌+◌, ◌-◌, ◌*◌, ◌≤◌, ◌<◌}
use mathlib.Core.Path.{◌≡◌, refl}
use mathlib.Core.Bool.{Bool, true, false, cond, not, ◌||◌}
use mathlib.Core.List.{List, []}
use native.Mathlib.Omega.{arith}
use lib.Dec.{eqb, leb, ltb}
use lib.ListN.{length, take}
use lib.Seq.{take_all}
use borrow.Author.Tests.{ltb-true, ltb-false, leb-false, lt-ltb, le-ltb, not-false}
use Rattle.image.specs.declared.Layout.{Layout}
use Rattle.image.specs.Layout.{end, blocks_in, pairs_in}
use Rattle.image.specs.Content.{lock_word, length_of, pc_word}
use Rattle.image.specs.Rules.{Header, Good}
use Rattle.frames.specs.declared.Span.{Span}
use Rattle.frames.specs.declared.Order.{Order}
use Rattle.frames.specs.declared.Order.TheVariants as order
use Rattle.replies.specs.declared.Reply.{Reply}
use Rattle.replies.specs.declared.Reply.TheVariants as reply
use Rattle.replies.proofs.Laws.{packed_none}
use Rattle.stores.specs.Stores.{change_stores}
use Rattle.stores.specs.Steps.{Made}
use Rattle.bits.specs.Words.{Store}
use Rattle.rights.proofs.Banks.{bank-end as Banks·bank-end, read-ends}
use Rattle.rights.specs.Rights.{Code}
use Rattle.std.specs.Prelude.{Ok, Err}
use Rattle.rights.specs.declared.Fault.{Fault}
use Rattle.rights.specs.declared.Fault.TheVariants as fault
use Rattle.bits.specs.Bits.{bit_at, field_at}
use Rattle.bits.specs.Below.{every}
use Rattle.rights.specs.Rights.{bank_of, beyond, may_write, bad_pc, read_end, span_words, read_code, write_code, locked_to, pair_breaks, lock_code, not_perma, perma_read_code, perma_code}
use Rattle.changes.specs.Changes.{Holds}
use Rattle.plans.specs.declared.Plan.{Plan}
use Rattle.plans.specs.declared.Plan.TheVariants as plan
use Rattle.plans.specs.Effects.{place_of}
use Rattle.plans.specs.Steps.{Placed, or_error, plan_of}
use Rattle.states.specs.Commands.{zero_kill}
use Rattle.states.specs.declared.Numbers.{Numbers}
use Rattle.states.specs.ByNumber.{bare_of}
use Rattle.tag.specs.Steps.{stays, tells, done_by}
use Rattle.tag.specs.ByNumber.{store_at, finish_at, Sound, SoundWhere}

-- a row that does not hold, and those after it
none_row : (b : Bool) (e : Fault) (rest : Code) → cond b (Err e) rest ≡ Ok tt → (b ≡ false) × (rest ≡ Ok tt)
none_row true e rest h = absurd (never h)
  where
    never : ◌≡◌ {A = Code} (Err e) (Ok tt) → ⊥
    never h = let z : ◌≡◌ {A = ℕ} 0 1 = cc in omega arith
none_row false e rest h = (refl, h)

pub none_or : (a b : Bool) → a || b ≡ false → (a ≡ false) × (b ≡ false)
none_or true b h = (h, go b h)
  where
    go : (b : Bool) → true ≡ false → b ≡ false
    go true h = h
    go false h = refl
none_or false b h = (refl, h)

module _ (y : Layout) (h : List ℕ) (g : Header y h) where
  -- every bank ends before WORK
  bank-end : (b : ℕ) → end (bank_of y b) ≤ y.work.at
  bank-end b = omega (arith, Banks·bank-end y h b g, g.work.at)

  pub within-bank : (s : Span) → beyond (bank_of y s.bank) s ≡ false → (s.pointer < (bank_of y s.bank).words) × (s.pointer + s.count ≤ (bank_of y s.bank).words)
  within-bank s e =
      let b = none_or (leb (bank_of y s.bank).words s.pointer) (ltb (bank_of y s.bank).words (s.pointer + s.count)) e in
      (leb-false _ _ b.0, ltb-false _ _ b.1)

  work-small : y.work.at < 65536
  work-small = omega arith

  pub perma-small : y.perma.words ≤ 16
  perma-small = omega (arith, g.blocks, g.perma.most)

  held : (o n : ℕ) → o + n ≤ y.work.at → n ≤ pairs_in y → Holds y.work.at o n (length h)
  held o n u few =
      record { few = omega (arith, g.pairs_most); under = u; small = work-small; pairs = omega (arith, g.whole, g.work.least, few) }

  held-span : (s : Span) (n : ℕ) → n ≤ pairs_in y → s.pointer + n ≤ (bank_of y s.bank).words → Holds y.work.at (place_of y s) n (length h)
  held-span s n few fit = let b = bank-end s.bank in held (place_of y s) n (omega (arith, b, fit)) few

  held_low : (o : ℕ) → o < 18 → Holds y.work.at o 1 (length h)
  held_low o l = held o 1 (omega arith) (omega (arith, g.pairs_least))

  -- what each code's rows say where none holds
  read-rows : (m : List ℕ) (q : Bool) (s : Span) → read_code y m q s ≡ (Ok tt) → beyond (bank_of y s.bank) s ≡ false
  unfolding read_code
  read-rows m q s e = (none_row _ _ _ e).0

  pub write-rows : (m : List ℕ) (q : Bool) (s : Span) (pc : ℕ) → write_code y m q s pc ≡ (Ok tt)
      → (beyond (bank_of y s.bank) s ≡ false) × (s.count ≤ pairs_in y) × (every (λ j. may_write y m q s.bank (s.pointer + j)) s.count ≡ true) × (bad_pc y s pc ≡ false)
  unfolding write_code
  write-rows m q s pc e =
      let a = none_row (beyond (bank_of y s.bank) s) fault.PastEnd _ e in
      let b = none_row (not (every (λ j. may_write y m q s.bank (s.pointer + j)) s.count)) fault.NoRight _ a.1 in
      let c = none_row (bad_pc y s pc) fault.PastEnd _ b.1 in
      (a.0, ltb-false _ _ (none_row (ltb (pairs_in y) s.count) fault.Other (Ok tt) c.1).0, not-false _ b.0, c.0)

  perma-fit : (s : Span) → not_perma y s ≡ false → s.pointer + s.count ≤ y.perma.words
  perma-fit s e = ltb-false _ _ (none_or (not (eqb s.bank 3)) (ltb y.perma.words (s.pointer + s.count)) e).1

  read-perma-rows : (s : Span) → perma_read_code y s ≡ (Ok tt) → s.pointer + s.count ≤ y.perma.words
  unfolding perma_read_code
  read-perma-rows s e = perma-fit s (none_row _ _ _ e).0

  pub perma-rows : (m : List ℕ) (s : Span) (f : List ℕ) (p : ℕ) → perma_code y m s f p ≡ (Ok tt)
      → (s.pointer + s.count ≤ y.perma.words) × (every (λ k. eqb (bit_at f (p + k)) 0 || ltb (16 * s.pointer + k) (blocks_in y)) (16 * s.count) ≡ true)
  unfolding perma_code
  perma-rows m s f p e =
      let a = none_row (not_perma y s) fault.PastEnd _ e in
      let b = none_row (not (every (λ k. eqb (bit_at f (p + k)) 0 || ltb (16 * s.pointer + k) (blocks_in y)) (16 * s.count))) fault.PastEnd _ a.1 in
      (perma-fit s a.0, not-false _ b.0)

  pub lock-rows : (m : List ℕ) (mask action : ℕ) → lock_code y m mask action ≡ (Ok tt)
      → every (λ k. not (pair_breaks (lock_word y m) (locked_to (lock_word y m) mask action) k)) 5 ≡ true
  unfolding lock_code
  lock-rows m mask action e = not-false _ (none_row (not (every (λ k. not (pair_breaks (lock_word y m) (locked_to (lock_word y m) mask action) k)) 5)) fault.NoRight _ e).0

  span-end : (m : List ℕ) (s : Span) → length_of (pc_word y m) + 2 ≤ y.epc.words → beyond (bank_of y s.bank) s ≡ false
      → s.pointer + span_words y m s ≤ (bank_of y s.bank).words
  span-end m s l e = go (eqb s.count 0)
    where
      go : (b : Bool) → s.pointer + cond b (read_end y m s.bank s.pointer - s.pointer) s.count ≤ (bank_of y s.bank).words
      go true = omega (arith, within-bank s e, read-ends y m s.bank s.pointer l)
      go false = omega (arith, within-bank s e)

  module _ (m : List ℕ) (q : Bool) where
    -- the words of a Read, and of a BlockPermalock that reads
    pub read_fits : (s : Span) → length_of (pc_word y m) + 2 ≤ y.epc.words → read_code y m q s ≡ (Ok tt)
        → (2 * (place_of y s + span_words y m s) ≤ length h) × (span_words y m s < 65536)
    read_fits s l e =
        let r = span-end m s l (read-rows m q s e) in
        (omega (arith, r, bank-end s.bank, g.whole), omega (arith, r, bank-end s.bank, work-small))

    pub read-perma-fits : (s : Span) → perma_read_code y s ≡ (Ok tt) → (2 * (y.perma.at + s.pointer + s.count) ≤ length h) × (s.count < 65536)
    read-perma-fits s e =
        let w = read-perma-rows s e in
        (omega (arith, w, g.work.at, g.whole), omega (arith, w, perma-small))

    -- the words that are stored
    pub word_held : (s : Span) (pc : ℕ) → write_code y m q s pc ≡ (Ok tt) → Holds y.work.at (place_of y s) 1 (length h)
    word_held s pc e =
        let r = write-rows m q s pc e in
        held-span s 1 (omega (arith, g.pairs_least)) (omega (arith, within-bank s r.0))

    pub words-held : (s : Span) (pc : ℕ) → write_code y m q s pc ≡ (Ok tt) → Holds y.work.at (place_of y s) s.count (length h)
    words-held s pc e = let r = write-rows m q s pc e in held-span s s.count r.1 (within-bank s r.0).1

    pub mask-held : (s : Span) (f : List ℕ) (p : ℕ) → perma_code y m s f p ≡ (Ok tt)
        → Holds y.work.at (y.perma.at + s.pointer) s.count (length h) × (s.count ≤ 16)
    mask-held s f p e =
        let w = perma-rows m s f p e in
        (held (y.perma.at + s.pointer) s.count (omega (arith, w.0, g.work.at)) (omega (arith, w.0, perma-small, g.pairs_least)), omega (arith, w.0, perma-small))

  pub lock-held : Holds y.work.at y.status.at 1 (length h)
  lock-held = held_low y.status.at (omega (arith, g.status.at))

  pub killed-held : Holds y.work.at (y.status.at + 1) 1 (length h)
  killed-held = held_low (y.status.at + 1) (omega (arith, g.status.at))

-- a good image has a header
pub good-long : (y : Layout) (m : List ℕ) → Good y m → 32 ≤ length m
good-long y m g = let h = g.header in omega arith

-- without a store neither WORK nor the power counts
pub tell-any : {S : Type 0} (off old : S) (w : ℕ) (m room : List ℕ) (s : ℕ) (r : Reply) (v : S) → done_by off old 0 m room 0 r v [] ≡ done_by off old w m room s r v []
unfolding done_by
tell-any off old w m room s r v = let e : ltb s 0 ≡ false = le-ltb s 0 (omega arith) in rw e

-- silence always has room
pub silent-end : {S : Type 0} (off old : S) (m room : List ℕ) (v : S) → tells 0 v 0 0 m room ≡ done_by off old 0 m room 0 reply.Silence v []
unfolding done_by
silent-end off old m room v = let a : ltb (length room) 0 ≡ false = le-ltb (length room) 0 (omega arith) in rw (a, packed_none)

-- a change's stores, and what they leave to say
module _ (v u : Numbers) (h w : ℕ) (m room : List ℕ) (s : ℕ) (ss : List Store) where
  pub store-small : length room < 5 → stays 4 v m room ≡ store_at v h u w m room s ss
  unfolding done_by
  store-small q = simp (lt-ltb _ _ q)

  module _ {n : List ℕ} {k need : ℕ} (b : 5 ≤ length room) (e : need ≡ length (change_stores w ss)) (p : Made (change_stores w ss) s m n k) where
    store-cut : ltb s (length (change_stores w ss)) ≡ true → finish_at h u n room k need s ≡ store_at v h u w m room s ss
    unfolding finish_at done_by
    store-cut q =
        let c : k ≡ s = omega (arith, p.made, ltb-true s (length (change_stores w ss)) q) in
        let small : ltb (length room) 5 ≡ false = le-ltb (length room) 5 b in
        rw (e, c, p.image) (simp (small, q))

    store-whole : ltb s (length (change_stores w ss)) ≡ false → finish_at h u n room k need s ≡ store_at v h u w m room s ss
    unfolding finish_at done_by
    store-whole q =
        let c : k ≡ length (change_stores w ss) = omega (arith, p.made, ltb-false s (length (change_stores w ss)) q) in
        let d : take s (change_stores w ss) ≡ change_stores w ss = take_all s (change_stores w ss) (ltb-false s (length (change_stores w ss)) q) in
        let small : ltb (length room) 5 ≡ false = le-ltb (length room) 5 b in
        rw (e, c, p.image, d) (simp (small, q))

    pub store-end : finish_at h u n room k need s ≡ store_at v h u w m room s ss
    store-end = go (ltb s (length (change_stores w ss))) refl
      where
        go : (t : Bool) → ltb s (length (change_stores w ss)) ≡ t → finish_at h u n room k need s ≡ store_at v h u w m room s ss
        go true q = store-cut q
        go false q = store-whole q

-- a plan that an order comes to can be performed
module _ (w n : ℕ) where
  code-sound : (c : Code) (p : Plan) → (c ≡ (Ok tt) → Sound w n p) → SoundWhere w n (or_error c p)
  code-sound (Ok u) p h = h refl
  code-sound (Err e) p h = tt

module _ (y : Layout) (m f : List ℕ) (good : Good y m) where
  g : Header y m
  g = good.header

  -- PC and EPC lie in their bank
  pub epc-fits : (2 * (y.epc.at + 1 + (length_of (pc_word y m) + 1)) ≤ length m) × (length_of (pc_word y m) + 1 < 65536)
  epc-fits =
      let p = (good.content 0).pc in
      (omega (arith, p, bank-end y m g 1, g.whole), omega (arith, p, bank-end y m g 1, work-small y m g))

  kill-sound : (a b : Bool) (up : ℕ) → SoundWhere y.work.at (length m) (cond a (cond b (Err fault.Other) (Ok (plan.Half 2 up))) (Ok (plan.Kill 1 (y.status.at + 1))))
  kill-sound true true up = tt
  kill-sound true false up = tt
  kill-sound false b up = killed-held y m g

  access-sound : (a : Bool) (up : ℕ) → Sound y.work.at (length m) (cond a (plan.Half 1 up) plan.Secure)
  access-sound true up = tt
  access-sound false up = tt

  pub plan-sound : (v : Numbers) (o : Order) → Placed o → SoundWhere y.work.at (length m) (plan_of y m f v o)
  plan-sound v (order.QueryRep k) q = tt
  plan-sound v (order.Ack n) q = tt
  plan-sound v (order.Query sel t r) q = tt
  plan-sound v (order.QueryAdjust k u) q = tt
  plan-sound v (order.Select c p) q = tt
  plan-sound v order.Nak q = tt
  plan-sound v order.ReqRn q = tt
  plan-sound v (order.Read s) q = code-sound _ _ (read_code y m (eqb v.state 6) s) _ (read_fits y m g m (eqb v.state 6) s (good.content 0).pc)
  plan-sound v (order.Write s w) q = code-sound _ _ (write_code y m (eqb v.state 6) s (bare_of v w)) _ (word_held y m g m (eqb v.state 6) s _)
  plan-sound v (order.Kill h) q = kill-sound (eqb v.half 0) (zero_kill y m) (bare_of v h)
  plan-sound v (order.Lock mask action) q = code-sound _ _ (lock_code y m mask action) _ (λ e. lock-held y m g)
  plan-sound v (order.Access h) q = access-sound (eqb v.half 0) (bare_of v h)
  plan-sound v (order.BlockWrite s p) q =
      code-sound _ _ (write_code y m (eqb v.state 6) s (field_at f (p + 16 * (1 - s.pointer)) 16)) _ (λ e. (words-held y m g m (eqb v.state 6) s _ e, q))
  plan-sound v (order.BlockErase s) q = code-sound _ _ (write_code y m (eqb v.state 6) s 0) _ (words-held y m g m (eqb v.state 6) s 0)
  plan-sound v (order.ReadPermalock r s) q = code-sound _ _ (perma_read_code y s) _ (read-perma-fits y m g m true s)
  plan-sound v (order.Permalock r s p) q = code-sound _ _ (perma_code y m s f p) _ (λ e. let h = mask-held y m g m true s f p e in (h.0, q, h.1))

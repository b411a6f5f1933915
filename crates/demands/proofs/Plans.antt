-- The words of every command and of every SPI write are a change that the laws of cuts speak of, and keep what is to be kept. Assumes nothing.
use Rattle.std.specs.Prelude.{Option, None, Some}
use Prim.Native.Nat.{ℕ, zero, suc, ◌+◌, ◌-◌, ◌*◌, ◌/◌, ◌%◌, ◌^◌, ◌≤◌, ◌<◌}
use mathlib.Core.Path.{◌≡◌, refl, sym, ap, ◌∙◌, subst}
use mathlib.Core.Logic.{◌⊎◌, inl, inr, ⊎_elim}
use mathlib.Core.Bool.{true≢false, false≢true, Bool, true, false, cond, not, ◌&&◌, ◌||◌}
use mathlib.Core.List.{List, [], ◌∷◌}
use native.Mathlib.Nat.{add-zero}
use native.Mathlib.Omega.{arith}
use lib.Dec.{eqb, ltb}
use lib.Bits.{bit_or}
use lib.ListN.{length, take, length-append}
use borrow.Author.Tests.{eqb-true, ltb-false, le-leb, lt-ltb, le-ltb, eq-eqb, not-true}
use Rattle.bits.specs.Words.{word_at, Store, store, after, All}
use Rattle.bits.specs.Bits.{bit_at, field_at}
use Rattle.bits.specs.Below.{below, every}
use Rattle.bits.proofs.Below.{and_right, or_cases, every-at, length-below}
use Rattle.bits.proofs.Fields.{field-bit, locked-lt}
use Rattle.bits.proofs.Stores.{Fits, all_append, all-below, all-imp, all_take, after-fine}
use Rattle.image.specs.declared.Layout.{Layout}
use Rattle.image.specs.Layout.{blocks_in, pairs_in}
use Rattle.image.specs.Content.{lock_word, length_of, pc_word, count_in, may_go}
use Rattle.image.specs.Rules.{Header, Good}
use Rattle.image.proofs.Fits.{Ok, content-fine, fine-content, same_count}
use Rattle.frames.specs.declared.Span.{Span}
use Rattle.frames.specs.declared.Order.{Order}
use Rattle.frames.specs.declared.Order.TheVariants as order
use Rattle.frames.proofs.Orders.{Small}
use Rattle.std.specs.Prelude.{Ok as Fine}
use Rattle.rights.proofs.Banks.{bank-end}
use Rattle.rights.specs.Rights.{bank_of, pwd_bit, perma_bit, may_write, beyond, bad_pc, block_open, locked_to, pair_breaks}
use Rattle.stores.specs.Cuts.{Change}
use Rattle.stores.proofs.Sane.{goes-under}
use Rattle.states.specs.declared.Half.{Half}
use Rattle.states.specs.declared.Half.TheVariants as half
use Rattle.states.specs.declared.Flags.{Flags}
use Rattle.states.specs.declared.State.{State}
use Rattle.replies.specs.declared.Reply.TheVariants as reply
use Rattle.states.specs.Commands.{link_of, is_secured, uncovered, fallen}
use Rattle.states.specs.Inventory.{acknowledged}
use Rattle.plans.specs.Effects.{Scene, does, turns, half_kill, half_access, place_of, effect_of}
use Rattle.tag.specs.Port.{port_open, port_writes, written_words}
use Rattle.tag.proofs.Plans.{within-bank, perma-small, write-rows, perma-rows, lock-rows}
use Rattle.demands.proofs.Sound.{PairKept, Sound, bank-sound, user-sound, lock-sound, killed-sound, perma-sound}

-- the words ss, as a change of m
pub record Plan (y : Layout) (m : List ℕ) (ss : List Store) : Type 0 where
  pub sound : All (Sound y m) ss
  pub few : length ss ≤ pairs_in y
  pub value : ℕ → ℕ
  pub single : All (λ s. s.value ≡ value s.at) ss
  pub apart : All (λ s. s.at < y.perma.at) ss ⊎ All (λ s. y.perma.at ≤ s.at) ss

pub no-plan : (y : Layout) (m : List ℕ) → Plan y m []
no-plan y m = record { sound = tt; few = omega arith; value = λ a. 0; single = tt; apart = inl tt }

one-plan : (y : Layout) (m : List ℕ) (s : Store) → Header y m → s.at < y.perma.at → Sound y m s → Plan y m (s ∷ [])
one-plan y m s g l h =
    record { sound = (h, tt); few = omega (arith, g.pairs_least); value = λ a. s.value; single = (refl, tt); apart = inl (l, tt) }

-- a plan of n words from word o on, word j of the value f j
row-plan : (y : Layout) (m : List ℕ) (o : ℕ) (f : ℕ → ℕ) (n : ℕ) → n ≤ pairs_in y → o + n ≤ y.perma.at → ((j : ℕ) → j < n → Sound y m (store (o + j) (f j)))
    → Plan y m (below (λ j. store (o + j) (f j)) n)
row-plan y m o f n few l h =
    record {
      sound = all-below (Sound y m) (λ j. store (o + j) (f j)) n h;
      few = rw (length-below (λ j. store (o + j) (f j)) n) few;
      value = λ a. f (a - o);
      single = all-below (λ s. s.value ≡ f (s.at - o)) (λ j. store (o + j) (f j)) n (λ j b. (let e : j ≡ o + j - o = omega arith in ap f e));
      apart = inl (all-below (λ s. s.at < y.perma.at) (λ j. store (o + j) (f j)) n (λ j b. omega arith));
    }

-- a pair that does not break keeps its bits where it is permalocked
pair-kept : (old new k : ℕ) → not (pair_breaks old new k) ≡ true → PairKept old new k
pair-kept old new k e p =
    go (eqb (perma_bit new k) 1) (eqb (pwd_bit new k) (pwd_bit old k)) refl refl (rw (eq-eqb (perma_bit old k) 1 p) at (not-true (pair_breaks old new k) e))
  where
    go : (t u : Bool) → eqb (perma_bit new k) 1 ≡ t → eqb (pwd_bit new k) (pwd_bit old k) ≡ u → not (t && u) ≡ false
        → (perma_bit new k ≡ 1) × (pwd_bit new k ≡ pwd_bit old k)
    go true true q r e = (eqb-true _ _ q, eqb-true _ _ r)
    go true false q r e = absurd (true≢false e)
    go false u q r e = absurd (true≢false e)

module _ (y : Layout) (m : List ℕ) (g : Good y m) where
  hd : Header y m
  hd = g.header

  bank-under : (b i : ℕ) → i ≤ (bank_of y b).words → (bank_of y b).at + i ≤ y.perma.at
  bank-under b i l = omega (arith, bank-end y m b hd)

  -- a PC that the span takes fits
  pc-fits : (s : Span) (pc j : ℕ) → bad_pc y s pc ≡ false → s.bank ≡ 1 → s.pointer + j ≡ 1 → j < s.count → length_of pc + 2 ≤ y.epc.words
  pc-fits s pc j e b p l =
      let a : s.pointer ≤ 1 = omega arith in
      let c : 1 < s.pointer + s.count = omega arith in
      ltb-false _ _ (rw (eq-eqb s.bank 1 b, le-leb s.pointer 1 a, lt-ltb 1 (s.pointer + s.count) c) at e)

  -- the words of a span, each with the value f j, where no code applies
  span-plan : (q : Bool) (s : Span) (pc : ℕ) (f : ℕ → ℕ) → s.bank < 4 → beyond (bank_of y s.bank) s ≡ false
      → (s.count ≤ pairs_in y) × (every (λ j. may_write y m q s.bank (s.pointer + j)) s.count ≡ true) × (bad_pc y s pc ≡ false)
      → ((j : ℕ) → s.pointer + j ≡ 1 → f j ≡ pc) → Plan y m (below (λ j. store (place_of y s + j) (f j)) s.count)
  span-plan q s pc f b w r v =
      let w = within-bank y m hd s w in
      row-plan y m (place_of y s) f s.count r.0 (let u = bank-under s.bank (s.pointer + s.count) w.1 in omega arith)
      (λ j l. subst (λ (a : ℕ). Sound y m (store a (f j))) (let z : (bank_of y s.bank).at + (s.pointer + j) ≡ place_of y s + j = omega arith in z)
      (bank-sound y m hd q s.bank (s.pointer + j) (f j) b (omega (arith, w)) (every-at (λ j. may_write y m q s.bank (s.pointer + j)) s.count r.1 j l)
      (λ o p. rw (v j p) (pc-fits s pc j r.2 o p l))))

  -- what a command finds
  at : Flags → State → List ℕ → ℕ → Scene
  at g st f fresh = record { layout = y; image = m; flags = g; state = st; frame = f; fresh = fresh }

  kill-plan : (g : Flags) (st : State) (f : List ℕ) (fresh w : ℕ) (a : Option Half) → Plan y m (half_kill (at g st f fresh) w a).words
  unfolding at
  kill-plan g st f fresh w None = no-plan y m
  kill-plan g st f fresh w (Some (half.Access up)) = no-plan y m
  kill-plan g st f fresh w (Some (half.Kill up)) = one-plan y m (store (y.status.at + 1) 1) hd (omega (arith, hd)) (killed-sound y m hd)

  access-plan : (c : Scene) (w : ℕ) (a : Option Half) → Plan y m (half_access c w a).words
  access-plan c w None = no-plan y m
  access-plan c w (Some (half.Access up)) = no-plan y m
  access-plan c w (Some (half.Kill up)) = no-plan y m

  mask-plan : (s : Span) (f : List ℕ) (p : ℕ)
      → (s.pointer + s.count ≤ y.perma.words) × (every (λ k. eqb (bit_at f (p + k)) 0 || ltb (16 * s.pointer + k) (blocks_in y)) (16 * s.count) ≡ true)
      → Plan y m (below (λ j. store (y.perma.at + s.pointer + j) (bit_or (word_at m (y.perma.at + s.pointer + j)) (field_at f (p + 16 * j) 16))) s.count)
  mask-plan s f p r =
      record {
        sound = all-below (Sound y m) word s.count word_sound;
        few = rw (length-below word s.count) (omega (arith, r.0, perma-small y m hd, hd.pairs_least));
        value = λ a. bit_or (word_at m a) (field_at f (p + 16 * (a - o)) 16);
        single = all-below (λ x. x.value ≡ bit_or (word_at m x.at) (field_at f (p + 16 * (x.at - o)) 16)) word s.count
            (λ j l. (let e : j ≡ o + j - o = omega arith in ap (λ (x : ℕ). bit_or (word_at m (o + j)) (field_at f (p + 16 * x) 16)) e));
        apart = inr (all-below (λ x. y.perma.at ≤ x.at) word s.count (λ j l. omega arith));
      }
    where
      o : ℕ
      o = y.perma.at + s.pointer

      word : ℕ → Store
      word j = store (o + j) (bit_or (word_at m (o + j)) (field_at f (p + 16 * j) 16))

      clear : (j t : ℕ) → j < s.count → t < 16 → blocks_in y ≤ 16 * (s.pointer + j) + (15 - t) → field_at f (p + 16 * j) 16 / 2 ^ t % 2 ≡ 0
      clear j t l h b =
          let k : 16 * j + (15 - t) < 16 * s.count = omega arith in
          let z : p + 16 * j + (16 - 1 - t) ≡ p + (16 * j + (15 - t)) = omega arith in
          let late : blocks_in y ≤ 16 * s.pointer + (16 * j + (15 - t)) = omega arith in
          let e = every-at (λ k. eqb (bit_at f (p + k)) 0 || ltb (16 * s.pointer + k) (blocks_in y)) (16 * s.count) r.1 (16 * j + (15 - t)) k in
          field-bit f (p + 16 * j) 16 t h
          ∙ ap (bit_at f) z
          ∙ ⊎_elim (λ a. eqb-true _ _ a) (λ a. absurd (false≢true (sym (le-ltb _ _ late) ∙ a))) (or_cases _ _ e)

      word_sound : (j : ℕ) → j < s.count → Sound y m (word j)
      word_sound j l =
          let z : y.perma.at + (s.pointer + j) ≡ o + j = omega arith in
          subst (λ (a : ℕ). Sound y m (store a (bit_or (word_at m a) (field_at f (p + 16 * j) 16)))) z
          (perma-sound y m hd (s.pointer + j) (field_at f (p + 16 * j) 16) (omega (arith, r.0)) (g.content 0) (λ t h b. clear j t l h b))

  -- the words of every order that gets no error code
  pub order-plan : (g : Flags) (st : State) (f : List ℕ) (fresh : ℕ) (o : Order) → Small o
      → (effect_of (record { layout = y; image = m; flags = g; state = st; frame = f; fresh = fresh }) o).code ≡ Fine tt
      → Plan y m (effect_of (record { layout = y; image = m; flags = g; state = st; frame = f; fresh = fresh }) o).words
  unfolding locked_to at
  order-plan fl st f fresh (order.QueryRep k) h e = no-plan y m
  order-plan fl st f fresh (order.Ack n) h e = go (eqb (link_of st).handle n)
    where
      go : (b : Bool) → Plan y m (cond b (does (at fl st f fresh) (acknowledged st) (reply.Epc (y.epc.at + 1) (length_of (pc_word y m) + 1)) []) (turns fl (fallen st))).words
      go true = no-plan y m
      go false = no-plan y m
  order-plan fl st f fresh (order.Query sel t q) h e = no-plan y m
  order-plan fl st f fresh (order.QueryAdjust k u) h e = no-plan y m
  order-plan fl st f fresh (order.Select c p) h e = no-plan y m
  order-plan fl st f fresh order.Nak h e = no-plan y m
  order-plan fl st f fresh order.ReqRn h e = no-plan y m
  order-plan fl st f fresh (order.Read s) h e = no-plan y m
  order-plan fl st f fresh (order.Write s w) h e =
      let r = write-rows y m hd m (is_secured st) s _ e in
      let p = within-bank y m hd s r.0 in
      one-plan y m (store (place_of y s) (uncovered (link_of st).cover w)) hd (let u = bank-under s.bank (s.pointer + 1) (omega (arith, p)) in omega arith)
      (bank-sound y m hd (is_secured st) s.bank s.pointer (uncovered (link_of st).cover w) h.0 p.0
      (subst (λ (i : ℕ). may_write y m (is_secured st) s.bank i ≡ true) (add-zero s.pointer) (every-at (λ j. may_write y m (is_secured st) s.bank (s.pointer + j)) s.count r.2 0 (omega (arith, h.1))))
      (λ b i. pc-fits s (uncovered (link_of st).cover w) 0 r.3 b (omega arith) (omega (arith, h.1))))
  order-plan fl st f fresh (order.Kill w) h e = kill-plan fl st f fresh w (link_of st).half
  order-plan fl st f fresh (order.Lock mask action) h e =
      let r = lock-rows y m hd m mask action e in
      one-plan y m (store y.status.at (locked_to (lock_word y m) mask action)) hd (omega (arith, hd))
      (lock-sound y m hd (locked_to (lock_word y m) mask action) (locked-lt (lock_word y m) mask action (g.content 0).lock h.1)
      (λ j l p. pair-kept (lock_word y m) (locked_to (lock_word y m) mask action) j (every-at (λ k. not (pair_breaks (lock_word y m) (locked_to (lock_word y m) mask action) k)) 5 r j l) p))
  order-plan fl st f fresh (order.Access w) h e = access-plan (at fl st f fresh) w (link_of st).half
  order-plan fl st f fresh (order.BlockWrite s p) h e =
      let r = write-rows y m hd m (is_secured st) s _ e in
      span-plan (is_secured st) s (field_at f (p + 16 * (1 - s.pointer)) 16) (λ j. field_at f (p + 16 * j) 16) h r.0 (r.1, r.2, r.3)
      (λ j l. (let z : j ≡ 1 - s.pointer = omega arith in ap (λ (x : ℕ). field_at f (p + 16 * x) 16) z))
  order-plan fl st f fresh (order.BlockErase s) h e = let r = write-rows y m hd m (is_secured st) s 0 e in span-plan (is_secured st) s 0 (λ j. 0) h r.0 (r.1, r.2, r.3) (λ j l. refl)
  order-plan fl st f fresh (order.ReadPermalock t s) h e = no-plan y m
  order-plan fl st f fresh (order.Permalock t s p) h e = mask-plan s f p (perma-rows y m hd m s f p e)

  -- those words of an SPI write that may be written
  module _ (at : ℕ) (d : List ℕ) where
    written-sound : (n : ℕ) → at + n ≤ y.user.words → All (Sound y m) (written_words y m at d n)
    written-sound zero l = tt
    written-sound (suc n) l =
        all_append (Sound y m) (written_words y m at d n) _ (written-sound n (omega arith)) (go (port_writes y m (at + n)) refl)
      where
        go : (b : Bool) → port_writes y m (at + n) ≡ b → All (Sound y m) (cond b (store (y.user.at + at + n) (word_at d n) ∷ []) [])
        go true e =
            let z : y.user.at + (at + n) ≡ y.user.at + at + n = omega arith in
            (subst (λ (a : ℕ). Sound y m (store a (word_at d n))) z (user-sound y m hd (at + n) (word_at d n) (omega arith) (and_right (port_open y m) (block_open y m (at + n)) e)), tt)
        go false e = tt

    written_all : (P : Store → Type 0) → ((j : ℕ) → P (store (y.user.at + at + j) (word_at d j))) → (n : ℕ) → All P (written_words y m at d n)
    written_all P h zero = tt
    written_all P h (suc n) = all_append P (written_words y m at d n) _ (written_all P h n) (go (port_writes y m (at + n)))
      where
        go : (b : Bool) → All P (cond b (store (y.user.at + at + n) (word_at d n) ∷ []) [])
        go true = (h n, tt)
        go false = tt

    written-under : (n : ℕ) → at + n ≤ y.user.words → All (λ s. s.at < y.perma.at) (written_words y m at d n)
    written-under zero l = tt
    written-under (suc n) l =
        all_append (λ s. s.at < y.perma.at) (written_words y m at d n) _ (written-under n (omega arith)) (go (port_writes y m (at + n)))
      where
        go : (b : Bool) → All (λ s. s.at < y.perma.at) (cond b (store (y.user.at + at + n) (word_at d n) ∷ []) [])
        go true = (omega (arith, hd), tt)
        go false = tt

    written-few : (n : ℕ) → length (written_words y m at d n) ≤ n
    written-few zero = omega arith
    written-few (suc n) = rw (length-append (written_words y m at d n) _) (go (port_writes y m (at + n)) (written-few n))
      where
        go : (b : Bool) → length (written_words y m at d n) ≤ n → length (written_words y m at d n) + length (cond b (store (y.user.at + at + n) (word_at d n) ∷ []) []) ≤ suc n
        go true l = omega arith
        go false l = omega arith

    pub port-plan : (n : ℕ) → at + n ≤ y.user.words → n ≤ pairs_in y → Plan y m (written_words y m at d n)
    port-plan n l few =
        record {
          sound = written-sound n l;
          few = omega (arith, written-few n);
          value = λ a. word_at d (a - (y.user.at + at));
          single = written_all (λ s. s.value ≡ word_at d (s.at - (y.user.at + at))) (λ j. (let z : j ≡ y.user.at + at + j - (y.user.at + at) = omega arith in ap (word_at d) z)) n;
          apart = inl (written-under n l);
        }

  -- a plan of some words is a change
  pub plan-change : (ss : List Store) → count_in y m ≡ 0 → Plan y m ss → 0 < length ss → Change y m ss
  plan-change ss z p some =
      let goes : All (λ s. may_go y s.at ≡ true) ss = all-imp (Sound y m) (λ s. may_go y s.at ≡ true) (λ s h. h.goes) ss p.sound in
      let under = goes-under y m hd ss goes in
      let fits : Fits (Ok y) ss = all-imp (Sound y m) (λ s. Ok y s.at s.value) (λ s h. h.ok) ss p.sound in
      record {
        some = some;
        few = p.few;
        places = goes;
        rules = λ k.
            let e : count_in y (after m (take k ss)) ≡ 0 = same_count y m hd (take k ss) (all_take (λ s. s.at < y.work.at) k ss under) ∙ z in
            fine-content y m hd (after m (take k ss))
            (after-fine (Ok y) y.work.at m (take k ss) (omega (arith, hd.whole)) (all_take (λ s. Ok y s.at s.value) k ss fits) (content-fine y m hd m (g.content 0)))
            (omega (arith, e)) (λ j l. absurd (omega (arith, e, l)));
      }

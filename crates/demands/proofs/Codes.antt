-- The error codes as facts: which one applies, in the rules' order. Assumes nothing.
use Prim.Native.Nat.{ℕ, ◌+◌, ◌-◌, ◌*◌, ◌%◌, ◌≤◌, ◌<◌}
use mathlib.Core.Path.{◌≡◌, refl, sym, ap, ap₂, ◌∙◌}
use mathlib.Core.Logic.{◌≢◌, ◌⊎◌, inl, inr}
use mathlib.Core.Bool.{Bool, true, false, cond, not, ◌&&◌, ◌||◌}
use mathlib.Core.List.{List}
use native.Mathlib.Omega.{arith}
use lib.Dec.{eqb, leb, ltb}
use borrow.Author.Tests.{eqb-true, eqb-false, ltb-true, leb-true, eq-eqb, ne_eqb, le-ltb, lt-ltb, le-leb, lt-leb}
use Rattle.bits.specs.Bits.{bit_at}
use Rattle.bits.specs.Below.{every}
use Rattle.bits.proofs.Below.{every-not, every-all}
use Rattle.image.specs.declared.Section.{Section}
use Rattle.image.specs.declared.Layout.{Layout}
use Rattle.image.specs.Layout.{blocks_in, pairs_in}
use Rattle.image.specs.Content.{lock_word, length_of, pc_word, permalock}
use Rattle.frames.specs.Frames.{span}
use Rattle.std.specs.Prelude.{Ok, Err}
use Rattle.rights.specs.declared.Fault.TheVariants as fault
use Rattle.rights.specs.Rights.{Code, bank_of, pwd_bit, perma_bit, may_read, may_write, beyond, bad_pc, read_end, span_words, read_code, write_code, locked_to, lock_code, pair_breaks, some_permalock, user_open_for_good, not_perma, perma_read_code, perma_code}
use Rattle.demands.proofs.Rights.{reads-if, reads-not, writes-if, writes-not}
use Rattle.demands.specs.Facts.{MayRead, MayWrite, Within, Past, Ends, Shows, TakesPc, AllRight, Readable, Writable, Lockable, PermaLockable}

pub or_right : (a b : Bool) → b ≡ true → a || b ≡ true
or_right true b e = refl
or_right false b e = e

pub and-false : (a : Bool) → a && false ≡ false
and-false true = refl
and-false false = refl

past-beyond : (s : Section) (b p n : ℕ) → Past s.words p n → beyond s (span b p n) ≡ true
past-beyond s b p n (inl l) = ap (λ (t : Bool). t || ltb s.words (p + n)) (le-leb s.words p l)
past-beyond s b p n (inr l) = or_right (leb s.words p) (ltb s.words (p + n)) (lt-ltb s.words (p + n) l)

within-beyond : (s : Section) (b p n : ℕ) → Within s.words p n → beyond s (span b p n) ≡ false
within-beyond s b p n w = ap₂ (λ (t u : Bool). t || u) (lt-leb s.words p w.0) (le-ltb s.words (p + n) w.1)

-- the words that a Read shows; its end by the two tests of `read_end`
module _ (y : Layout) (m : List ℕ) (b p : ℕ) where
  abbrev by_end : Bool → Bool → ℕ
  by_end epc low = cond (epc && low) (length_of (pc_word y m) + 2) (bank_of y b).words

  ends_so : (e : ℕ) → Ends y m b p e → read_end y m b p ≡ e
  ends_so e (inl d) = ap₂ by_end (eq-eqb b 1 d.0) (lt-ltb p (length_of (pc_word y m) + 2) d.1) ∙ sym d.2
  ends_so e (inr (inl d)) = ap₂ by_end (eq-eqb b 1 d.0) (le-ltb p (length_of (pc_word y m) + 2) d.1) ∙ sym d.2
  ends_so e (inr (inr d)) = ap (λ (t : Bool). by_end t (ltb p (length_of (pc_word y m) + 2))) (ne_eqb b 1 d.0) ∙ sym d.1

  pub words-shown : (n k : ℕ) → Shows y m b p n k → span_words y m (span b p n) ≡ k
  words-shown n k (inl d) = ap (λ (t : Bool). cond t (read_end y m b p - p) n) (ne_eqb n 0 (omega (arith, d.0))) ∙ sym d.1
  words-shown n k (inr d) = ap (λ (t : Bool). cond t (read_end y m b p - p) n) (eq-eqb n 0 d.0) ∙ omega (arith, ends_so (p + k) d.1)

module _ (y : Layout) (m : List ℕ) (q : Bool) (b p n : ℕ) where
  pub read_past : Past (bank_of y b).words p n → read_code y m q (span b p n) ≡ Err fault.PastEnd
  unfolding read_code
  read_past f = rw (past-beyond (bank_of y b) b p n f)

  pub read_right : (k j : ℕ) → Within (bank_of y b).words p n → Shows y m b p n k → j < k → (MayRead y m q b (p + j) → ⊥)
      → read_code y m q (span b p n) ≡ Err fault.NoRight
  unfolding read_code
  read_right k j w d l e =
      rw (within-beyond (bank_of y b) b p n w, every-not (λ i. may_read y m q b (p + i)) (span_words y m (span b p n)) j (rw (words-shown y m b p n k d) l) (reads-not y m q b (p + j) e))

  module _ (pc : ℕ) where
    pub write-past : Past (bank_of y b).words p n → write_code y m q (span b p n) pc ≡ Err fault.PastEnd
    unfolding write_code
    write-past f = rw (past-beyond (bank_of y b) b p n f)

    pub write_right : (j : ℕ) → Within (bank_of y b).words p n → j < n → b < 4 → (MayWrite y m q b (p + j) → ⊥) → write_code y m q (span b p n) pc ≡ Err fault.NoRight
    unfolding write_code
    write_right j w l s e = rw (within-beyond (bank_of y b) b p n w, every-not (λ i. may_write y m q b (p + i)) n j l (writes-not y m q b (p + j) s e))

    all_right : AllRight y m q b p n → every (λ i. may_write y m q b (p + i)) n ≡ true
    all_right f = every-all (λ i. may_write y m q b (p + i)) n (λ j l. writes-if y m q b (p + j) (f j l))

    pub write-pc : Within (bank_of y b).words p n → AllRight y m q b p n → TakesPc b p n → y.epc.words < length_of pc + 2
        → write_code y m q (span b p n) pc ≡ Err fault.PastEnd
    unfolding write_code
    write-pc w f t l =
        rw (within-beyond (bank_of y b) b p n w, all_right f, eq-eqb b 1 t.0, le-leb p 1 t.1, lt-ltb 1 (p + n) t.2, lt-ltb y.epc.words (length_of pc + 2) l)

    good-pc : (TakesPc b p n → length_of pc + 2 ≤ y.epc.words) → bad_pc y (span b p n) pc ≡ false
    good-pc f = go (eqb b 1) (leb p 1) (ltb 1 (p + n)) refl refl refl
      where
        go : (t u v : Bool) → eqb b 1 ≡ t → leb p 1 ≡ u → ltb 1 (p + n) ≡ v → t && u && v && ltb y.epc.words (length_of pc + 2) ≡ false
        go true true true d e g = le-ltb y.epc.words (length_of pc + 2) (f (eqb-true b 1 d, leb-true p 1 e, ltb-true 1 (p + n) g))
        go true true false d e g = refl
        go true false v d e g = refl
        go false u v d e g = refl

    pub write-many : Within (bank_of y b).words p n → AllRight y m q b p n → (TakesPc b p n → length_of pc + 2 ≤ y.epc.words) → pairs_in y < n
        → write_code y m q (span b p n) pc ≡ Err fault.Other
    unfolding write_code
    write-many w f g l = rw (within-beyond (bank_of y b) b p n w, all_right f, good-pc g, lt-ltb (pairs_in y) n l)

-- Lock
module _ (y : Layout) (m : List ℕ) (mask action : ℕ) where
  pub lock_pair : (k : ℕ) → k < 5
      → let old = lock_word y m in let new = locked_to old mask action in
      perma_bit old k ≡ 1 → (perma_bit new k ≢ 1) ⊎ (pwd_bit new k ≢ pwd_bit old k) → lock_code y m mask action ≡ Err fault.NoRight
  unfolding lock_code
  lock_pair k l e d =
      rw (every-not (λ k. not (pair_breaks (lock_word y m) (locked_to (lock_word y m) mask action) k)) 5 k l (ap not (breaks-so d)))
    where
      new : ℕ
      new = locked_to (lock_word y m) mask action

      breaks-so : (perma_bit new k ≢ 1) ⊎ (pwd_bit new k ≢ pwd_bit (lock_word y m) k) → pair_breaks (lock_word y m) new k ≡ true
      breaks-so (inl d) =
          ap₂ (λ (t u : Bool). t && not (u && eqb (pwd_bit new k) (pwd_bit (lock_word y m) k))) (eq-eqb (perma_bit (lock_word y m) k) 1 e) (ne_eqb (perma_bit new k) 1 d)
      breaks-so (inr d) =
          ap₂ (λ (t u : Bool). t && not (eqb (perma_bit new k) 1 && u)) (eq-eqb (perma_bit (lock_word y m) k) 1 e) (ne_eqb (pwd_bit new k) (pwd_bit (lock_word y m) k) d)
          ∙ ap not (and-false (eqb (perma_bit new k) 1))

  pub lock_user : (b : ℕ) → mask % 4 ≢ 0
      → let new = locked_to (lock_word y m) mask action in
      pwd_bit new 4 ≡ 0 → perma_bit new 4 ≡ 1 → b < blocks_in y → permalock y m b ≢ 0 → lock_code y m mask action ≡ Err fault.NoRight
  unfolding lock_code
  lock_user b f e d l g = ap (λ (t : Bool). cond first (Err fault.NoRight) (cond t (Err fault.NoRight) (Ok tt))) second ∙ either first
    where
      new : ℕ
      new = locked_to (lock_word y m) mask action

      first : Bool
      first = not (every (λ k. not (pair_breaks (lock_word y m) new k)) 5)

      second : not (eqb (mask % 4) 0) && user_open_for_good new && some_permalock y m ≡ true
      second =
          ap₂ (λ (t u : Bool). not t && (u && eqb (perma_bit new 4) 1) && some_permalock y m) (ne_eqb (mask % 4) 0 f) (eq-eqb (pwd_bit new 4) 0 e)
          ∙ ap₂ (λ (t u : Bool). t && not u) (eq-eqb (perma_bit new 4) 1 d) (every-not (λ i. eqb (permalock y m i) 0) (blocks_in y) b l (ne_eqb (permalock y m b) 0 g))

      refused : Code
      refused = Err fault.NoRight

      either : (t : Bool) → cond t refused refused ≡ refused
      either true = refl
      either false = refl

-- BlockPermalock
not-perma : (y : Layout) (b p n : ℕ) → (b ≢ 3) ⊎ (y.perma.words < p + n) → not_perma y (span b p n) ≡ true
not-perma y b p n (inl d) = ap (λ (t : Bool). not t || ltb y.perma.words (p + n)) (ne_eqb b 3 d)
not-perma y b p n (inr l) = or_right (not (eqb b 3)) (ltb y.perma.words (p + n)) (lt-ltb y.perma.words (p + n) l)

pub perma_read : (y : Layout) (b p n : ℕ) → (b ≢ 3) ⊎ (y.perma.words < p + n) → perma_read_code y (span b p n) ≡ Err fault.PastEnd
unfolding perma_read_code
perma_read y b p n d = rw (not-perma y b p n d)

module _ (y : Layout) (m : List ℕ) (f : List ℕ) (p n at : ℕ) where
  pub perma_past : (b : ℕ) → (b ≢ 3) ⊎ (y.perma.words < p + n) → perma_code y m (span b p n) f at ≡ Err fault.PastEnd
  unfolding perma_code
  perma_past b d = rw (not-perma y b p n d)

  in-perma : p + n ≤ y.perma.words → not_perma y (span 3 p n) ≡ false
  in-perma l = le-ltb y.perma.words (p + n) l

  pub perma_mask : (k : ℕ) → p + n ≤ y.perma.words → k < 16 * n → bit_at f (at + k) ≢ 0 → blocks_in y ≤ 16 * p + k → perma_code y m (span 3 p n) f at ≡ Err fault.PastEnd
  unfolding perma_code
  perma_mask k l i d e =
      rw (
        in-perma l,
        every-not (λ k. eqb (bit_at f (at + k)) 0 || ltb (16 * p + k) (blocks_in y)) (16 * n) k i
            (ap₂ (λ (t u : Bool). t || u) (ne_eqb (bit_at f (at + k)) 0 d) (le-ltb (16 * p + k) (blocks_in y) e)),
      )

  pub perma_user : p + n ≤ y.perma.words → ((k : ℕ) → k < 16 * n → bit_at f (at + k) ≢ 0 → 16 * p + k < blocks_in y)
      → pwd_bit (lock_word y m) 4 ≡ 0 → perma_bit (lock_word y m) 4 ≡ 1 → perma_code y m (span 3 p n) f at ≡ Err fault.NoRight
  unfolding perma_code
  perma_user l g e d =
      rw (in-perma l, every-all (λ k. eqb (bit_at f (at + k)) 0 || ltb (16 * p + k) (blocks_in y)) (16 * n) each, eq-eqb (pwd_bit (lock_word y m) 4) 0 e, eq-eqb (perma_bit (lock_word y m) 4) 1 d)
    where
      each : (k : ℕ) → k < 16 * n → eqb (bit_at f (at + k)) 0 || ltb (16 * p + k) (blocks_in y) ≡ true
      each k i = go (eqb (bit_at f (at + k)) 0) refl
        where
          go : (t : Bool) → eqb (bit_at f (at + k)) 0 ≡ t → t || ltb (16 * p + k) (blocks_in y) ≡ true
          go true z = refl
          go false z = lt-ltb (16 * p + k) (blocks_in y) (g k i (eqb-false (bit_at f (at + k)) 0 z))

-- and no code where none is due
pub read-clear : (y : Layout) (m : List ℕ) (q : Bool) (b p n k : ℕ) → Readable y m q b p n k → read_code y m q (span b p n) ≡ (Ok tt)
unfolding read_code
read-clear y m q b p n k r =
    rw (within-beyond (bank_of y b) b p n r.within, every-all (λ i. may_read y m q b (p + i)) (span_words y m (span b p n)) (λ j l. reads-if y m q b (p + j) (r.right j (rw (words-shown y m b p n k r.shows) at l))))

pub write-clear : (y : Layout) (m : List ℕ) (q : Bool) (b p n pc : ℕ) → Writable y m q b p n pc → write_code y m q (span b p n) pc ≡ (Ok tt)
unfolding write_code
write-clear y m q b p n pc w =
    rw (within-beyond (bank_of y b) b p n w.within, all_right y m q b p n pc w.right, good-pc y m q b p n pc w.length, le-ltb (pairs_in y) n w.few)

pub lock-clear : (y : Layout) (m : List ℕ) (mask action : ℕ) → Lockable y m mask action → lock_code y m mask action ≡ (Ok tt)
unfolding lock_code
lock-clear y m mask action l =
    ap₂ (λ (t u : Bool). cond (not t) (Err fault.NoRight) (cond u (Err fault.NoRight) (Ok tt)))
    (every-all (λ k. not (pair_breaks (lock_word y m) new k)) 5 (λ k i. kept k (eqb (perma_bit (lock_word y m) k) 1) refl i))
    (user (eqb (mask % 4) 0) (eqb (pwd_bit new 4) 0) (eqb (perma_bit new 4) 1) refl refl refl)
  where
    new : ℕ
    new = locked_to (lock_word y m) mask action

    kept : (k : ℕ) (t : Bool) → eqb (perma_bit (lock_word y m) k) 1 ≡ t → k < 5 → not (pair_breaks (lock_word y m) new k) ≡ true
    kept k true e i =
        let p = l.pairs k i (eqb-true _ _ e) in
        ap₂ (λ (t u : Bool). not (t && not (u && eqb (pwd_bit new k) (pwd_bit (lock_word y m) k)))) e (eq-eqb (perma_bit new k) 1 p.0)
        ∙ ap (λ (u : Bool). not (not u)) (eq-eqb (pwd_bit new k) (pwd_bit (lock_word y m) k) p.1)
    kept k false e i = ap (λ (t : Bool). not (t && not (eqb (perma_bit new k) 1 && eqb (pwd_bit new k) (pwd_bit (lock_word y m) k)))) e

    user : (t u v : Bool) → eqb (mask % 4) 0 ≡ t → eqb (pwd_bit new 4) 0 ≡ u → eqb (perma_bit new 4) 1 ≡ v
        → not (eqb (mask % 4) 0) && user_open_for_good new && some_permalock y m ≡ false
    user t u v a b c = ap₂ (λ (x z : Bool). not x && (z && eqb (perma_bit new 4) 1) && some_permalock y m) a b ∙ ap (λ (x : Bool). not t && (u && x) && some_permalock y m) c ∙ go t u v a b c
      where
        go : (t u v : Bool) → eqb (mask % 4) 0 ≡ t → eqb (pwd_bit new 4) 0 ≡ u → eqb (perma_bit new 4) 1 ≡ v → not t && (u && v) && some_permalock y m ≡ false
        go true u v a b c = refl
        go false true true a b c =
            ap not (every-all (λ i. eqb (permalock y m i) 0) (blocks_in y)
            (λ i k. eq-eqb (permalock y m i) 0 (l.user (eqb-false (mask % 4) 0 a) (eqb-true (pwd_bit new 4) 0 b) (eqb-true (perma_bit new 4) 1 c) i k)))
        go false true false a b c = refl
        go false false v a b c = refl

pub perma-read-clear : (y : Layout) (p n : ℕ) → p + n ≤ y.perma.words → perma_read_code y (span 3 p n) ≡ (Ok tt)
unfolding perma_read_code
perma-read-clear y p n l = rw (le-ltb y.perma.words (p + n) l)

pub perma-clear : (y : Layout) (m : List ℕ) (p n : ℕ) (f : List ℕ) (at : ℕ) → PermaLockable y m p n f at → perma_code y m (span 3 p n) f at ≡ (Ok tt)
unfolding perma_code
perma-clear y m p n f at l =
    rw (le-ltb y.perma.words (p + n) l.within, every-all (λ k. eqb (bit_at f (at + k)) 0 || ltb (16 * p + k) (blocks_in y)) (16 * n) each, not-01 (eqb (pwd_bit (lock_word y m) 4) 0) (eqb (perma_bit (lock_word y m) 4) 1) refl refl)
  where
    each : (k : ℕ) → k < 16 * n → eqb (bit_at f (at + k)) 0 || ltb (16 * p + k) (blocks_in y) ≡ true
    each k i = go (eqb (bit_at f (at + k)) 0) refl
      where
        go : (t : Bool) → eqb (bit_at f (at + k)) 0 ≡ t → t || ltb (16 * p + k) (blocks_in y) ≡ true
        go true z = refl
        go false z = lt-ltb (16 * p + k) (blocks_in y) (l.blocks k i (eqb-false (bit_at f (at + k)) 0 z))

    not-01 : (u v : Bool) → eqb (pwd_bit (lock_word y m) 4) 0 ≡ u → eqb (perma_bit (lock_word y m) 4) 1 ≡ v → user_open_for_good (lock_word y m) ≡ false
    not-01 true true a b = absurd (l.user (eqb-true _ _ a) (eqb-true _ _ b))
    not-01 true false a b = ap₂ (λ (x z : Bool). x && z) a b
    not-01 false v a b = ap (λ (x : Bool). x && eqb (perma_bit (lock_word y m) 4) 1) a

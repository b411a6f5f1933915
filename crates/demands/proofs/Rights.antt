-- Word rights: the tests of `rights` and the facts of the rules say the same. Assumes nothing.
use Prim.Native.Nat.{ℕ, zero, suc, ◌+◌, ◌/◌, ◌%◌, ◌^◌, ◌≤◌, ◌<◌}
use mathlib.Core.Path.{◌≡◌, refl, sym, ap, ap₂, ◌∙◌}
use mathlib.Core.Logic.{◌⊎◌, inl, inr, ⊎_elim}
use mathlib.Core.Bool.{false≢true, Bool, true, false, cond, not, ◌&&◌, ◌||◌}
use mathlib.Core.List.{List, [], ◌∷◌, ◌++◌}
use native.Mathlib.Omega.{arith}
use native.Mathlib.Nat.{mod-lt}
use lib.Bits.{bit_and, bit_or, bit_xor, and_shr, and_mod, or_shr, or_mod, xor_shr, xor_mod}
use lib.Dec.{eqb, ltb}
use borrow.Author.Tests.{eqb-true, eqb-false, ltb-true, ltb-false, eq-eqb, ne_eqb, lt-ltb, le-ltb, not-true}
use Rattle.bits.specs.Words.{word_at, Store, store}
use Rattle.bits.specs.Below.{every}
use Rattle.bits.proofs.Fields.{locked-lt}
use Rattle.bits.proofs.Below.{every-at, and_left, and_right, and_both, or_cases}
use Rattle.image.specs.declared.Layout.{Layout}
use Rattle.image.specs.Content.{lock_word, permalock}
use Rattle.rights.specs.Rights.{pwd_bit, perma_bit, opens, pair_of, may_read, block_open, may_write, locked_to}
use Rattle.states.specs.Commands.{access_word, zero_access}
use Rattle.tag.specs.Port.{port_open, port_writes, written_words}
use Rattle.demands.specs.Facts.{Opens, MayRead, MayWrite, bit_in, LockedBy, PortWrites, Tells, marked}

opens-if : (q : Bool) (lock k : ℕ) → Opens q lock k → opens q lock k ≡ true
opens-if q lock k (inl e) = ap (λ (t : Bool). t || (q && eqb (perma_bit lock k) 0)) (eq-eqb (pwd_bit lock k) 0 e)
opens-if q lock k (inr e) =
    ap₂ (λ (t u : Bool). eqb (pwd_bit lock k) 0 || (t && u)) e.0 (eq-eqb (perma_bit lock k) 0 e.1) ∙ go (eqb (pwd_bit lock k) 0)
  where
    go : (t : Bool) → t || true ≡ true
    go true = refl
    go false = refl

if-opens : (q : Bool) (lock k : ℕ) → opens q lock k ≡ true → Opens q lock k
if-opens q lock k e = ⊎_elim (λ d. inl (eqb-true _ _ d)) (λ d. inr (and_left q (eqb (perma_bit lock k) 0) d, eqb-true _ _ (and_right q (eqb (perma_bit lock k) 0) d))) (or_cases (eqb (pwd_bit lock k) 0) (q && eqb (perma_bit lock k) 0) e)

module _ (y : Layout) (m : List ℕ) (q : Bool) where
  reserved-pair : (i : ℕ) → ((i < 2) × Opens q (lock_word y m) 0) ⊎ ((2 ≤ i) × Opens q (lock_word y m) 1) → opens q (lock_word y m) (cond (ltb i 2) 0 1) ≡ true
  reserved-pair i (inl p) = ap (λ (t : Bool). opens q (lock_word y m) (cond t 0 1)) (lt-ltb i 2 p.0) ∙ opens-if q (lock_word y m) 0 p.1
  reserved-pair i (inr p) = ap (λ (t : Bool). opens q (lock_word y m) (cond t 0 1)) (le-ltb i 2 p.0) ∙ opens-if q (lock_word y m) 1 p.1

  pair-reserved : (i : ℕ) → opens q (lock_word y m) (cond (ltb i 2) 0 1) ≡ true → ((i < 2) × Opens q (lock_word y m) 0) ⊎ ((2 ≤ i) × Opens q (lock_word y m) 1)
  pair-reserved i e = go (ltb i 2) refl e
    where
      go : (t : Bool) → ltb i 2 ≡ t → opens q (lock_word y m) (cond t 0 1) ≡ true → ((i < 2) × Opens q (lock_word y m) 0) ⊎ ((2 ≤ i) × Opens q (lock_word y m) 1)
      go true d e = inl (ltb-true i 2 d, if-opens q (lock_word y m) 0 e)
      go false d e = inr (ltb-false i 2 d, if-opens q (lock_word y m) 1 e)

  -- reading
  pub reads-if : (b i : ℕ) → MayRead y m q b i → may_read y m q b i ≡ true
  reads-if zero i (inl n) = absurd (n refl)
  reads-if zero i (inr p) = reserved-pair i p
  reads-if (suc b) i p = ap (λ (t : Bool). not t || opens q (lock_word y m) (pair_of (suc b) i)) (ne_eqb (suc b) 0 (omega arith))

  pub reads-not : (b i : ℕ) → (MayRead y m q b i → ⊥) → may_read y m q b i ≡ false
  reads-not zero i f = go (opens q (lock_word y m) (cond (ltb i 2) 0 1)) refl
    where
      go : (t : Bool) → opens q (lock_word y m) (cond (ltb i 2) 0 1) ≡ t → t ≡ false
      go true e = absurd (f (inr (pair-reserved i e)))
      go false e = refl
  reads-not (suc b) i f = absurd (f (inl (omega arith)))

  -- writing
  pub writes-if : (b i : ℕ) → MayWrite y m q b i → may_write y m q b i ≡ true
  writes-if b i (inl p) = rw p.0 (ap (λ (t : Bool). t && true && true && true) (reserved-pair i (inl (p.1, p.2))))
  writes-if b i (inr (inl p)) = rw p.0 (ap (λ (t : Bool). t && true && true && true) (reserved-pair i (inr (p.1, p.2))))
  writes-if b i (inr (inr (inl p))) =
      rw p.0 (ap₂ (λ (t u : Bool). t && true && not u && true) (opens-if q (lock_word y m) 2 p.2) (ne_eqb i 0 (omega (arith, p.1))))
  writes-if b i (inr (inr (inr p))) =
      rw p.0 (ap₂ (λ (t u : Bool). t && true && true && u) (opens-if q (lock_word y m) 4 p.1) (eq-eqb (permalock y m (i / y.block)) 0 p.2))

  pub writes-not : (b i : ℕ) → b < 4 → (MayWrite y m q b i → ⊥) → may_write y m q b i ≡ false
  writes-not b i s f = go (may_write y m q b i) refl
    where
      own : (b : ℕ) → b < 4 → may_write y m q b i ≡ true → MayWrite y m q b i
      own zero s e = ⊎_elim (λ p. inl (refl, p.0, p.1)) (λ p. inr (inl (refl, p.0, p.1))) (pair-reserved i (and_left _ true (and_left _ true (and_left _ true e))))
      own (suc zero) s e =
          let r = and_left _ true e in
          inr (inr (inl (refl, some (and_right (opens q (lock_word y m) 2 && true) (not (eqb i 0)) r), if-opens q (lock_word y m) 2 (and_left _ true (and_left (opens q (lock_word y m) 2 && true) (not (eqb i 0)) r)))))
        where
          some : not (eqb i 0) ≡ true → 1 ≤ i
          some d = let n = eqb-false i 0 (not-true (eqb i 0) d) in omega arith
      own (suc (suc zero)) s e = absurd (false≢true (and_right (opens q (lock_word y m) 3) false (and_left (opens q (lock_word y m) 3 && false) true (and_left (opens q (lock_word y m) 3 && false && true) true e))))
      own (suc (suc (suc zero))) s e =
          inr (inr (inr (refl, if-opens q (lock_word y m) 4 (and_left _ true (and_left _ true (and_left (opens q (lock_word y m) 4 && true && true) (block_open y m i) e))), eqb-true _ _ (and_right (opens q (lock_word y m) 4 && true && true) (block_open y m i) e))))
      own (suc (suc (suc (suc b)))) s e = absurd (omega arith)

      go : (t : Bool) → may_write y m q b i ≡ t → t ≡ false
      go true e = absurd (f (own b s e))
      go false e = refl

-- the port's words
module _ (y : Layout) (m : List ℕ) where
  port-if : (i : ℕ) → PortWrites y m i → port_writes y m i ≡ true
  port-if i p =
      and_both (port_open y m) (block_open y m i)
      (and_both (zero_access y m) (eqb (pwd_bit (lock_word y m) 4) 0)
      (and_both (eqb (access_word y m 0) 0) (eqb (access_word y m 1) 0) (eq-eqb _ _ p.0) (eq-eqb _ _ p.1)) (eq-eqb _ _ p.2))
      (eq-eqb _ _ p.3)

  if-port : (i : ℕ) → port_writes y m i ≡ true → PortWrites y m i
  if-port i e =
      let a = and_left (port_open y m) (block_open y m i) e in
      let z = and_left (zero_access y m) (eqb (pwd_bit (lock_word y m) 4) 0) a in (
        eqb-true _ _ (and_left (eqb (access_word y m 0) 0) (eqb (access_word y m 1) 0) z),
        eqb-true _ _ (and_right (eqb (access_word y m 0) 0) (eqb (access_word y m 1) 0) z),
        eqb-true _ _ (and_right (zero_access y m) (eqb (pwd_bit (lock_word y m) 4) 0) a),
        eqb-true _ _ (and_right (port_open y m) (block_open y m i) e),
      )

  module _ (marks : ℕ → Bool) (at : ℕ) where
    mark-is : (j : ℕ) → Tells (marks j) (PortWrites y m (at + j)) → marks j ≡ port_writes y m (at + j)
    mark-is j = go (marks j)
      where
        go : (b : Bool) → Tells b (PortWrites y m (at + j)) → b ≡ port_writes y m (at + j)
        go true p = sym (port-if (at + j) p)
        go false f = or-not (port_writes y m (at + j)) refl
          where
            or-not : (b : Bool) → port_writes y m (at + j) ≡ b → false ≡ b
            or-not true e = absurd (f (if-port (at + j) e))
            or-not false e = refl

    pub marked-words : (d : List ℕ) (n : ℕ) → ((j : ℕ) → j < n → Tells (marks j) (PortWrites y m (at + j)))
        → marked marks (λ j. store (y.user.at + at + j) (word_at d j)) n ≡ written_words y m at d n
    marked-words d zero h = refl
    marked-words d (suc n) h =
        ap₂ (λ (ws : List Store) (b : Bool). ws ++ cond b (store (y.user.at + at + n) (word_at d n) ∷ []) []) (marked-words d n (λ j l. h j (omega arith)))
        (mark-is n (h n (omega arith)))

    pub marked-every : (n : ℕ) → ((j : ℕ) → j < n → Tells (marks j) (PortWrites y m (at + j))) → every marks n ≡ every (λ j. port_writes y m (at + j)) n
    marked-every zero h = refl
    marked-every (suc n) h = ap₂ ◌&&◌ (marked-every n (λ j l. h j (omega arith))) (mark-is n (h n (omega arith)))

-- the bits of a lock word
op-bit : (f : ℕ → ℕ → ℕ) → ((a b k : ℕ) → f a b / 2 ^ k ≡ f (a / 2 ^ k) (b / 2 ^ k)) → ((a b k : ℕ) → f a b % 2 ^ k ≡ f (a % 2 ^ k) (b % 2 ^ k))
    → (a b t : ℕ) → bit_in (f a b) t ≡ f (bit_in a t) (bit_in b t)
op-bit f shifts takes a b t = ap (λ (x : ℕ). x % 2) (shifts a b t) ∙ takes (a / 2 ^ t) (b / 2 ^ t) 1

one_bit : (o a : ℕ) → o < 2 → a < 2 → (bit_or (bit_and o (bit_xor 1 1)) (bit_and a 1) ≡ a) × (bit_or (bit_and o (bit_xor 0 1)) (bit_and a 0) ≡ o)
one_bit zero zero p q = (refl, refl)
one_bit zero (suc zero) p q = (refl, refl)
one_bit (suc zero) zero p q = (refl, refl)
one_bit (suc zero) (suc zero) p q = (refl, refl)
one_bit zero (suc (suc a)) p q = absurd (omega arith)
one_bit (suc zero) (suc (suc a)) p q = absurd (omega arith)
one_bit (suc (suc o)) a p q = absurd (omega arith)

module _ (old mask action : ℕ) where
  locked-bit : (t : ℕ) → t < 10 → bit_in (locked_to old mask action) t ≡ bit_or (bit_and (bit_in old t) (bit_xor (bit_in mask t) 1)) (bit_and (bit_in action t) (bit_in mask t))
  unfolding locked_to
  locked-bit t l =
      op-bit bit_or or_shr or_mod (bit_and old (bit_xor mask 1023)) (bit_and action mask) t
      ∙ ap₂ bit_or
      (op-bit bit_and and_shr and_mod old (bit_xor mask 1023) t
      ∙ ap (bit_and (bit_in old t)) (op-bit bit_xor xor_shr xor_mod mask 1023 t ∙ ap (bit_xor (bit_in mask t)) (eqb-true _ _ (every-at (λ t. eqb (bit_in 1023 t) 1) 10 refl t l))))
      (op-bit bit_and and_shr and_mod action mask t)

  small : (w t : ℕ) → bit_in w t < 2
  small w t = mod-lt (w / 2 ^ t) (omega arith)

  pub lock-masked : LockedBy old mask action (locked_to old mask action)
  unfolding locked_to
  lock-masked =
      record {
        masked = λ t l e.
            locked-bit t l
            ∙ ap (λ (x : ℕ). bit_or (bit_and (bit_in old t) (bit_xor x 1)) (bit_and (bit_in action t) x)) e
            ∙ (one_bit (bit_in old t) (bit_in action t) (small old t) (small action t)).0;
        kept = λ t l e.
            locked-bit t l
            ∙ ap (λ (x : ℕ). bit_or (bit_and (bit_in old t) (bit_xor x 1)) (bit_and (bit_in action t) x)) e
            ∙ (one_bit (bit_in old t) (bit_in action t) (small old t) (small action t)).1;
        small = locked-lt old mask action;
      }

-- What a caller learns from a frame that says a command. Assumes nothing.
use Prim.Native.Nat.{ℕ, ◌+◌, ◌-◌, ◌*◌, ◌≤◌, ◌<◌}
use mathlib.Core.Path.{◌≡◌, refl}
use mathlib.Core.Bool.{Bool, true, false, cond, not, ◌||◌}
use mathlib.Core.List.{List}
use native.Mathlib.Omega.{arith}
use lib.Dec.{eqb, ltb}
use lib.ListN.{length}
use borrow.Author.Tests.{eqb-true}
use Rattle.bits.specs.Bits.{field_at}
use Rattle.ebv.specs.Ebv.{Read, pointer_at}
use Rattle.ebv.specs.Ebv as pointer
use Rattle.frames.specs.declared.Span.{Span}
use Rattle.frames.specs.declared.Choice.{Choice}
use Rattle.frames.specs.declared.Order.{Order}
use Rattle.frames.specs.declared.Order.TheVariants as order
use Rattle.frames.specs.declared.Command.{Command}
use Rattle.frames.specs.Message.{Message}
use Rattle.frames.specs.Message as heard
use Rattle.frames.specs.Frames.{checksum_right, checksum5_right, to_all, plainly, taken, exactly, pointed, heard_of}
use Rattle.bits.proofs.Fields.{field_lt}
use Rattle.frames.proofs.Pointers.{Fits, fits}

-- the words that a frame of n bits brings are followed by the number and the CRC-16
abbrev Brings : ℕ → Order → Type 0
Brings n (order.QueryRep k) = Unit {0}
Brings n (order.Ack k) = Unit {0}
Brings n (order.Query sel t q) = Unit {0}
Brings n (order.QueryAdjust k u) = Unit {0}
Brings n (order.Select c p) = (p ≤ 51) × (c.bits.count < 256)
Brings n order.Nak = Unit {0}
Brings n order.ReqRn = Unit {0}
Brings n (order.Read s) = Unit {0}
Brings n (order.Write s w) = Unit {0}
Brings n (order.Kill h) = Unit {0}
Brings n (order.Lock m a) = Unit {0}
Brings n (order.Access h) = Unit {0}
Brings n (order.BlockWrite s p) = (p + 16 * s.count + 32 ≡ n) × (p ≤ 51)
Brings n (order.BlockErase s) = Unit {0}
Brings n (order.ReadPermalock r s) = Unit {0}
Brings n (order.Permalock r s p) = (p + 16 * s.count + 32 ≡ n) × (p ≤ 51)

abbrev Sized : ℕ → Message → Type 0
Sized n (heard.refused k) = Unit {0}
Sized n (heard.said c) = Brings n c.order

taken-sized : (n k : ℕ) (u : Bool) (c : Command) → Brings k c.order → Sized n (taken n k u c)
taken-sized n k u c b = go (eqb n k) u refl
  where
    go : (t u : Bool) → eqb n k ≡ t → Sized n (cond (not t) (heard.refused 7) (cond (not u) (heard.refused 8) (heard.said c)))
    go true true e = rw (eqb-true n k e) b
    go true false e = tt
    go false u e = tt

exact-sized : (m : List ℕ) (n k : ℕ) (o : Order) → Brings k o → Sized n (exactly m n k o)
exact-sized m n k o b = taken-sized n k (checksum_right m n) (record { number = field_at m (n - 32) 16; order = o }) b

plain-sized : (n k : ℕ) (o : Order) → Brings k o → Sized n (plainly n k o)
plain-sized n k o b = go (eqb n k) refl
  where
    go : (t : Bool) → eqb n k ≡ t → Sized n (cond t (heard.said (to_all o)) (heard.refused 7))
    go true e = rw (eqb-true n k e) b
    go false e = tt

pointed-sized : (m : List ℕ) (n i : ℕ) (f : ℕ → ℕ → Message) → ((v e : ℕ) → e ≤ 3 → Sized n (f v e)) → Sized n (pointed (pointer_at m n i) f)
pointed-sized m n i f h = go (pointer_at m n i) (fits m n i)
  where
    go : (p : Read) → Fits 3 p → Sized n (pointed p f)
    go (pointer.refused k) e = tt
    go (pointer.whole v b) e = h v b e

cond-sized : (n : ℕ) (t : Bool) (a b : Message) → Sized n a → Sized n b → Sized n (cond t a b)
cond-sized n true a b p q = p
cond-sized n false a b p q = q

heard-sized : (m : List ℕ) (n : ℕ) → Sized n (heard_of m n)
unfolding heard_of
heard-sized m n =
    let code = field_at m 0 8 in
    cond-sized n (ltb (8 * length m) n || ltb n 4) _ _ tt
    (cond-sized n (eqb (field_at m 0 2) 0) _ _ (plain-sized n 4 (order.QueryRep (field_at m 2 2)) tt)
    (cond-sized n (eqb (field_at m 0 2) 1) _ _ (plain-sized n 18 (order.Ack (field_at m 2 16)) tt)
    (cond-sized n (eqb (field_at m 0 4) 8) _ _ (taken-sized n 22 (checksum5_right m) _ tt)
    (cond-sized n (eqb (field_at m 0 4) 9) _ _ (plain-sized n 9 (order.QueryAdjust (field_at m 4 2) (field_at m 6 3)) tt)
    (cond-sized n (eqb (field_at m 0 4) 10) _ _ (pointed-sized m n 12 _ (λ v e l. taken-sized n _ (checksum_right m n) _ (omega arith, field_lt m (12 + 8 * e) 8)))
    (cond-sized n (eqb code 0xC0) _ _ (plain-sized n 8 order.Nak tt)
    (cond-sized n (eqb code 0xC1) _ _ (exact-sized m n _ _ tt)
    (cond-sized n (eqb code 0xC2) _ _ (pointed-sized m n 10 _ (λ v e l. exact-sized m n _ _ tt))
    (cond-sized n (eqb code 0xC3) _ _ (pointed-sized m n 10 _ (λ v e l. exact-sized m n _ _ tt))
    (cond-sized n (eqb code 0xC4) _ _ (exact-sized m n _ _ tt)
    (cond-sized n (eqb code 0xC5) _ _ (exact-sized m n _ _ tt)
    (cond-sized n (eqb code 0xC6) _ _ (exact-sized m n _ _ tt)
    (cond-sized n (eqb code 0xC7) _ _ (pointed-sized m n 10 _ (λ v e l. exact-sized m n _ _ (omega arith, omega arith)))
    (cond-sized n (eqb code 0xC8) _ _ (pointed-sized m n 10 _ (λ v e l. exact-sized m n _ _ tt))
    (cond-sized n (eqb code 0xC9) _ _ (pointed-sized m n 19 _ (λ v e l. cond-sized n (eqb (field_at m 16 1) 0) _ _ (exact-sized m n _ _ tt) (exact-sized m n _ _ (omega arith, omega arith)))) tt)))))))))))))))

module _ (m : List ℕ) (n : ℕ) (c : Command) (said : heard_of m n ≡ heard.said c) where
  brings : Brings n c.order
  brings = rw said at (heard-sized m n)

  pub said-block-write : (s : Span) (p : ℕ) → c.order ≡ order.BlockWrite s p → (p + 16 * s.count + 32 ≡ n) × (p ≤ 51)
  said-block-write s p e = rw e at brings

  pub said-permalock : (r : ℕ) (s : Span) (p : ℕ) → c.order ≡ order.Permalock r s p → (p + 16 * s.count + 32 ≡ n) × (p ≤ 51)
  said-permalock r s p e = rw e at brings

  pub said-select : (x : Choice) (p : ℕ) → c.order ≡ order.Select x p → (p ≤ 51) × (x.bits.count < 256)
  said-select x p e = rw e at brings

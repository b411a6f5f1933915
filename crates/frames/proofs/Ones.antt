-- A frame with a code from C0h on says NAK, or a command that names its tag. Assumes nothing.
use Prim.Native.Nat.{ℕ, ◌+◌, ◌-◌, ◌*◌, ◌≤◌}
use mathlib.Core.Path.{◌≡◌, refl}
use mathlib.Core.Bool.{Bool, true, false, cond, not, ◌||◌}
use mathlib.Core.List.{List}
use native.Mathlib.Omega.{arith}
use lib.Dec.{eqb, ltb}
use lib.ListN.{length}
use borrow.Author.Tests.{eqb-true}
use Rattle.bits.specs.Bits.{field_at}
use Rattle.ebv.specs.Ebv.{Read, pointer_at}
use Rattle.ebv.specs.Ebv as pointer
use Rattle.frames.specs.declared.Order.{Order}
use Rattle.frames.specs.declared.Order.TheVariants as order
use Rattle.frames.specs.declared.Command.{Command}
use Rattle.frames.specs.Message.{Message}
use Rattle.frames.specs.Message as heard
use Rattle.frames.specs.Frames.{checksum_right, taken, exactly, pointed, heard_of}
use Rattle.frames.proofs.Codes.{two-above, four-above}

abbrev pub ToOne : Order → Type 0
ToOne (order.QueryRep k) = ⊥
ToOne (order.Ack k) = ⊥
ToOne (order.Query sel t q) = ⊥
ToOne (order.QueryAdjust k u) = ⊥
ToOne (order.Select c p) = ⊥
ToOne order.Nak = Unit {0}
ToOne order.ReqRn = Unit {0}
ToOne (order.Read s) = Unit {0}
ToOne (order.Write s w) = Unit {0}
ToOne (order.Kill h) = Unit {0}
ToOne (order.Lock m a) = Unit {0}
ToOne (order.Access h) = Unit {0}
ToOne (order.BlockWrite s p) = Unit {0}
ToOne (order.BlockErase s) = Unit {0}
ToOne (order.ReadPermalock r s) = Unit {0}
ToOne (order.Permalock r s p) = Unit {0}

abbrev One : Message → Type 0
One (heard.refused k) = Unit {0}
One (heard.said c) = ToOne c.order

cond-one : (t : Bool) (a b : Message) → (t ≡ true → One a) → One b → One (cond t a b)
cond-one true a b p q = p refl
cond-one false a b p q = q

taken-one : (n k : ℕ) (u : Bool) (c : Command) → ToOne c.order → One (taken n k u c)
taken-one n k u c h = cond-one (not (eqb n k)) _ _ (λ e. tt) (cond-one (not u) _ _ (λ e. tt) h)

exact_one : (m : List ℕ) (n k : ℕ) (o : Order) → ToOne o → One (exactly m n k o)
exact_one m n k o h = taken-one n k (checksum_right m n) (record { number = field_at m (n - 32) 16; order = o }) h

pointed-one : (p : Read) (f : ℕ → ℕ → Message) → ((v e : ℕ) → One (f v e)) → One (pointed p f)
pointed-one (pointer.refused k) f h = tt
pointed-one (pointer.whole v e) f h = h v e

heard-one : (m : List ℕ) (n : ℕ) → 192 ≤ field_at m 0 8 → One (heard_of m n)
unfolding heard_of
heard-one m n h =
    let code = field_at m 0 8 in
    let two : (k : ℕ) → k * 64 + 64 ≤ 192 → eqb (field_at m 0 2) k ≡ true → ⊥ = λ k l e. two-above m k (omega arith) (eqb-true _ _ e) in
    let four : (k : ℕ) → k * 16 + 16 ≤ 192 → eqb (field_at m 0 4) k ≡ true → ⊥ = λ k l e. four-above m k (omega arith) (eqb-true _ _ e) in
    cond-one (ltb (8 * length m) n || ltb n 4) _ _ (λ e. tt)
    (cond-one (eqb (field_at m 0 2) 0) _ _ (λ e. absurd (two 0 (omega arith) e))
    (cond-one (eqb (field_at m 0 2) 1) _ _ (λ e. absurd (two 1 (omega arith) e))
    (cond-one (eqb (field_at m 0 4) 8) _ _ (λ e. absurd (four 8 (omega arith) e))
    (cond-one (eqb (field_at m 0 4) 9) _ _ (λ e. absurd (four 9 (omega arith) e))
    (cond-one (eqb (field_at m 0 4) 10) _ _ (λ e. absurd (four 10 (omega arith) e))
    (cond-one (eqb code 0xC0) _ _ (λ e. cond-one (eqb n 8) _ _ (λ e. tt) tt)
    (cond-one (eqb code 0xC1) _ _ (λ e. exact_one m n _ _ tt)
    (cond-one (eqb code 0xC2) _ _ (λ e. pointed-one (pointer_at m n 10) _ (λ v e. exact_one m n _ _ tt))
    (cond-one (eqb code 0xC3) _ _ (λ e. pointed-one (pointer_at m n 10) _ (λ v e. exact_one m n _ _ tt))
    (cond-one (eqb code 0xC4) _ _ (λ e. exact_one m n _ _ tt)
    (cond-one (eqb code 0xC5) _ _ (λ e. exact_one m n _ _ tt)
    (cond-one (eqb code 0xC6) _ _ (λ e. exact_one m n _ _ tt)
    (cond-one (eqb code 0xC7) _ _ (λ e. pointed-one (pointer_at m n 10) _ (λ v e. exact_one m n _ _ tt))
    (cond-one (eqb code 0xC8) _ _ (λ e. pointed-one (pointer_at m n 10) _ (λ v e. exact_one m n _ _ tt))
    (cond-one (eqb code 0xC9) _ _
    (λ e. pointed-one (pointer_at m n 19) _ (λ v e. cond-one (eqb (field_at m 16 1) 0) _ _ (λ e. exact_one m n _ _ tt) (exact_one m n _ _ tt)))
    tt)))))))))))))))

pub said-one : (m : List ℕ) (n : ℕ) (c : Command) → 192 ≤ field_at m 0 8 → heard_of m n ≡ heard.said c → ToOne c.order
said-one m n c h e = rw e at (heard-one m n h)

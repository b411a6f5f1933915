-- What the numbers of what was heard can be: a refusal is 7 or 8, banks are below 4, a Write has one word, lock masks and actions are below 1,024. Assumes nothing.
use Prim.Native.Nat.{ℕ, ◌-◌, ◌*◌, ◌<◌}
use mathlib.Core.Path.{◌≡◌, refl}
use mathlib.Core.Bool.{Bool, true, false, cond, not, ◌||◌}
use mathlib.Core.List.{List}
use mathlib.Core.Logic.{◌⊎◌, inl, inr}
use lib.Dec.{eqb, ltb}
use lib.ListN.{length}
use Rattle.bits.specs.Bits.{field_at}
use Rattle.ebv.specs.Ebv.{Read, pointer_at}
use Rattle.ebv.specs.Ebv as pointer
use Rattle.frames.specs.declared.Order.{Order}
use Rattle.frames.specs.declared.Order.TheVariants as order
use Rattle.frames.specs.declared.Command.{Command}
use Rattle.frames.specs.Message.{Message}
use Rattle.frames.specs.Message as heard
use Rattle.frames.specs.Frames.{checksum_right, checksum5_right, to_all, plainly, taken, exactly, pointed, heard_of}
use Rattle.bits.proofs.Fields.{field_lt}
use Rattle.frames.proofs.Pointers.{Fits, fits}

-- the numbers that rules ask about
abbrev pub Small : Order → Type 0
Small (order.QueryRep k) = k < 4
Small (order.Ack k) = Unit {0}
Small (order.Query sel t q) = (sel < 4) × (t < 2) × (q.session < 4) × (q.q < 16)
Small (order.QueryAdjust k u) = (k < 4) × (u < 8)
Small (order.Select c p) = (c.target < 8) × (c.action < 8) × (c.bits.bank < 4)
Small order.Nak = Unit {0}
Small order.ReqRn = Unit {0}
Small (order.Read s) = s.bank < 4
Small (order.Write s w) = (s.bank < 4) × (s.count ≡ 1)
Small (order.Kill h) = Unit {0}
Small (order.Lock m a) = (m < 1024) × (a < 1024)
Small (order.Access h) = Unit {0}
Small (order.BlockWrite s p) = s.bank < 4
Small (order.BlockErase s) = s.bank < 4
Small (order.ReadPermalock r s) = s.bank < 4
Small (order.Permalock r s p) = s.bank < 4

abbrev Smalls : Message → Type 0
Smalls (heard.refused k) = (k ≡ 7) ⊎ (k ≡ 8)
Smalls (heard.said c) = Small c.order

cond_small : (t : Bool) (a b : Message) → Smalls a → Smalls b → Smalls (cond t a b)
cond_small true a b p q = p
cond_small false a b p q = q

taken-small : (n k : ℕ) (u : Bool) (c : Command) → Small c.order → Smalls (taken n k u c)
taken-small n k u c h = go (eqb n k) u
  where
    go : (t u : Bool) → Smalls (cond (not t) (heard.refused 7) (cond (not u) (heard.refused 8) (heard.said c)))
    go true true = h
    go true false = inr refl
    go false u = inl refl

exact-small : (m : List ℕ) (n k : ℕ) (o : Order) → Small o → Smalls (exactly m n k o)
exact-small m n k o h = taken-small n k (checksum_right m n) (record { number = field_at m (n - 32) 16; order = o }) h

plain-small : (n k : ℕ) (o : Order) → Small o → Smalls (plainly n k o)
plain-small n k o h = cond_small (eqb n k) (heard.said (to_all o)) (heard.refused 7) h (inl refl)

pointed-small : (p : Read) → Fits 3 p → (f : ℕ → ℕ → Message) → ((v e : ℕ) → Smalls (f v e)) → Smalls (pointed p f)
pointed-small (pointer.refused k) q f h = inl q
pointed-small (pointer.whole v e) q f h = h v e

heard-small : (m : List ℕ) (n : ℕ) → Smalls (heard_of m n)
unfolding heard_of
heard-small m n =
    let code = field_at m 0 8 in
    cond_small (ltb (8 * length m) n || ltb n 4) _ _ (inl refl)
    (cond_small (eqb (field_at m 0 2) 0) _ _ (plain-small n 4 (order.QueryRep (field_at m 2 2)) (field_lt m 2 2))
    (cond_small (eqb (field_at m 0 2) 1) _ _ (plain-small n 18 (order.Ack (field_at m 2 16)) tt)
    (cond_small (eqb (field_at m 0 4) 8) _ _ (taken-small n 22 (checksum5_right m) _ (field_lt m 8 2, field_lt m 12 1, field_lt m 10 2, field_lt m 13 4))
    (cond_small (eqb (field_at m 0 4) 9) _ _ (plain-small n 9 (order.QueryAdjust (field_at m 4 2) (field_at m 6 3)) (field_lt m 4 2, field_lt m 6 3))
    (cond_small (eqb (field_at m 0 4) 10) _ _ (pointed-small (pointer_at m n 12) (fits m n 12) _ (λ v e. taken-small n _ (checksum_right m n) _ (field_lt m 4 3, field_lt m 7 3, field_lt m 10 2)))
    (cond_small (eqb code 0xC0) _ _ (plain-small n 8 order.Nak tt)
    (cond_small (eqb code 0xC1) _ _ (exact-small m n _ _ tt)
    (cond_small (eqb code 0xC2) _ _ (pointed-small (pointer_at m n 10) (fits m n 10) _ (λ v e. exact-small m n _ _ (field_lt m 8 2)))
    (cond_small (eqb code 0xC3) _ _ (pointed-small (pointer_at m n 10) (fits m n 10) _ (λ v e. exact-small m n _ _ (field_lt m 8 2, refl)))
    (cond_small (eqb code 0xC4) _ _ (exact-small m n _ _ tt)
    (cond_small (eqb code 0xC5) _ _ (exact-small m n _ _ (field_lt m 8 10, field_lt m 18 10))
    (cond_small (eqb code 0xC6) _ _ (exact-small m n _ _ tt)
    (cond_small (eqb code 0xC7) _ _ (pointed-small (pointer_at m n 10) (fits m n 10) _ (λ v e. exact-small m n _ _ (field_lt m 8 2)))
    (cond_small (eqb code 0xC8) _ _ (pointed-small (pointer_at m n 10) (fits m n 10) _ (λ v e. exact-small m n _ _ (field_lt m 8 2)))
    (cond_small (eqb code 0xC9) _ _
    (pointed-small (pointer_at m n 19) (fits m n 19) _ (λ v e. cond_small (eqb (field_at m 16 1) 0) _ _ (exact-small m n _ _ (field_lt m 17 2)) (exact-small m n _ _ (field_lt m 17 2))))
    (inl refl))))))))))))))))

pub said-small : (m : List ℕ) (n : ℕ) (c : Command) → heard_of m n ≡ heard.said c → Small c.order
said-small m n c e = rw e at (heard-small m n)

pub refused-small : (m : List ℕ) (n k : ℕ) → heard_of m n ≡ heard.refused k → (k ≡ 7) ⊎ (k ≡ 8)
refused-small m n k e = rw e at (heard-small m n)

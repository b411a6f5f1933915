-- `crc::tail` meets its contract. Invariant: the number is the field of the bytes so far. Assumes nothing.
use Prim.Native.Nat.{ℕ, ◌+◌, ◌-◌, ◌*◌, ◌/◌, ◌%◌, ◌^◌, ◌<◌}
use mathlib.Core.Path.{◌≡◌, refl, sym, ap, ◌∙◌}
use mathlib.Core.List.{List}
use native.Mathlib.Omega.{arith}
use lib.ListN.{get_or}
use lib.Pow.{shl_exact}
use Rattle.bits.specs.Bits.{field_at}
use Rattle.bits.proofs.Fields.{field_lt, field-small, field-append, field-first, byte-first, byte_more}
use Rattle.crc.proofs.tail.Goals as goal

-- whole bytes, and the first bits of the next one
last : (m : List ℕ) → ((i : ℕ) → get_or m i 0 < 256) → (at k i : ℕ) {v b : ℕ} → k < 64 → i ≡ k / 8 → v ≡ field_at m (8 * at) (8 * i) → b ≡ get_or m (at + k / 8) 0 / 2 ^ (8 - k % 8)
    → v * 2 ^ (k % 8) % 2 ^ 64 + b ≡ field_at m (8 * at) k
last m known at k i h e p q =
    let y : 8 * i + k % 8 ≡ k = omega arith in
    let z : 8 * (at + i) ≡ 8 * at + 8 * i = omega arith in
    let w : at + k / 8 ≡ at + i = omega arith in
    rw (p, q, w, shl_exact (8 * i) (k % 8) 64 (field_lt m (8 * at) (8 * i)) (omega arith), ← byte-first m known (at + i) (k % 8) (omega arith), z)
    (sym (field-append m (8 * at) (8 * i) (k % 8)) ∙ ap (field_at m (8 * at)) y)

pub returns-then-at-bytes : goal.returns-then-at-bytes
returns-then-at-bytes c =
    let a = c.args in
    let e : a.k + (64 - a.k) ≡ 64 = omega arith in
    ap (λ (x : ℕ). x / 2 ^ (64 - a.k)) (c.eight_bytes.ensures ∙ ap (field_at a.bytes.now (8 * a.at)) (sym e)) ∙ field-first a.bytes.now (8 * a.at) a.k (64 - a.k)

pub loop-i-init : goal.loop-i-init
unfolding field_at
loop-i-init c = refl

pub overflow_mul-v : goal.overflow_mul-v
overflow_mul-v c =
    let a = c.args in
    let l = c.loop-i in
    omega (arith, field-small a.bytes.now (8 * a.at) (8 * l.i) 48 (omega arith))

pub overflow_add-v : goal.overflow_add-v
overflow_add-v c =
    let a = c.args in
    let l = c.loop-i in
    omega (arith, field-small a.bytes.now (8 * a.at) (8 * l.i) 48 (omega arith))

pub loop-i-preserved : goal.loop-i-preserved
loop-i-preserved c =
    let a = c.args in
    let l = c.loop-i in
    let known : (i : ℕ) → get_or a.bytes.now i 0 < 256 = λ i. omega (arith, c.type_inv.bytes i) in
    rw (l.invariant, c.from.ensures) (sym (byte_more a.bytes.now known a.at l.i))

pub returns : goal.returns
returns c =
    let a = c.args in
    let l = c.loop-i in
    let known : (i : ℕ) → get_or a.bytes.now i 0 < 256 = λ i. omega (arith, c.type_inv.bytes i) in
    last a.bytes.now known a.at a.k l.i (omega arith) (omega arith) l.invariant c.from-2.ensures

pub overflow_add-result : goal.overflow_add-result
overflow_add-result c =
    let a = c.args in
    rw (returns c) record { fits = field-small a.bytes.now (8 * a.at) a.k 64 (omega arith) }

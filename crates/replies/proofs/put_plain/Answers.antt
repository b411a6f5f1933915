-- `replies::put_plain` meets its contract. Invariant: the first k bytes are packed. Assumes nothing.
use Prim.Native.Nat.{ℕ, ◌+◌, ◌*◌}
use mathlib.Core.Path.{◌≡◌, sym, ap, ◌∙◌}
use mathlib.Core.List.{List}
use native.Mathlib.Omega.{arith}
use Rattle.bits.specs.Bits.{bits_from}
use Rattle.bits.proofs.Bits.{words-bits}
use Rattle.replies.specs.Pack.{packed}
use Rattle.replies.proofs.Laws.{packed_none}
use Rattle.replies.proofs.Packing.{byte-copied}
use Rattle.replies.proofs.put_plain.Goals as goal

pub loop-k-init : goal.loop-k-init
loop-k-init c = sym (packed_none c.args.room.now)

pub loop-k-preserved : goal.loop-k-preserved
loop-k-preserved c = let a = c.args in let k = c.loop-k.k in byte-copied a.image.now a.from k a.room.now (omega (arith, c.type_inv.image (2 * a.from + k))) c.loop-k.invariant

pub returns : goal.returns
returns c =
    let a = c.args in
    let e : 8 * c.loop-k.k ≡ 16 * a.count = omega arith in
    c.loop-k.invariant
    ∙ ap (λ (bs : List ℕ). packed bs a.room.now) (ap (bits_from a.image.now (16 * a.from)) e ∙ words-bits a.image.now a.from a.count (λ i. omega (arith, c.type_inv.image i)))

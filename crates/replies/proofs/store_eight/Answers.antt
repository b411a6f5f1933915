-- `replies::store_eight` meets its contract. Invariant: the first k bytes are stored. Assumes nothing.
use Prim.Native.Nat.{ℕ, ◌+◌}
use mathlib.Core.Path.{◌≡◌, ap, ◌∙◌}
use mathlib.Core.List.{List}
use native.Mathlib.Omega.{arith}
use lib.ListN.{length, get_or, set}
use lib.Seq.{paste}
use Rattle.std.proofs.lemmas.List.Edits.{paste_none, paste_more}
use Rattle.replies.proofs.Bytes.{pasted}
use Rattle.replies.proofs.store_eight.Goals as goal

pub loop-k-init : goal.loop-k-init
loop-k-init c = paste_none c.args.room.now c.args.i c.to_be_bytes-bytes.result

pub loop-k-preserved : goal.loop-k-preserved
loop-k-preserved c =
    let a = c.args in
    let k = c.loop-k.k in
    let bytes = c.to_be_bytes-bytes.result in
    ap (λ (l : List ℕ). set l (a.i + k) (get_or bytes k 0)) c.loop-k.invariant
    ∙ paste_more a.room.now a.i bytes k 0 (omega arith) (omega (arith, ap length c.to_be_bytes-bytes.ensures))

pub returns : goal.returns
returns c =
    let a = c.args in
    let e : c.loop-k.k ≡ 8 = omega arith in
    c.loop-k.invariant ∙ ap (paste a.room.now a.i c.to_be_bytes-bytes.result) e ∙ pasted 8 a.i a.v a.room.now c.to_be_bytes-bytes.ensures (omega arith)

-- `replies::put_zeros` meets its contract: as many bytes of 0. Assumes nothing.
use Prim.Native.Nat.{ℕ, ◌*◌}
use mathlib.Core.Path.{ap, ◌∙◌}
use native.Mathlib.Omega.{arith}
use lib.ListN.{replicate}
use Rattle.std.proofs.lemmas.List.{length-take-le}
use Rattle.replies.proofs.Bytes.{zeroed}
use Rattle.replies.proofs.put_zeros.Goals as goal

pub returns : goal.returns
returns c =
    let a = c.args in
    zeroed a.room.now a.count (omega arith) (c.fill.ensures.after (λ y e. e) ∙ ap (λ (n : ℕ). replicate n 0) (length-take-le (2 * a.count) a.room.now (omega arith)))

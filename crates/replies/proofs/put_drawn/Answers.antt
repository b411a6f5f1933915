-- `replies::put_drawn` meets its contract: the number's two bytes. Assumes nothing.
use mathlib.Core.Path.{refl, ◌∙◌}
use native.Mathlib.Omega.{arith}
use Rattle.replies.proofs.Bytes.{stored}
use Rattle.replies.proofs.Pen.{alone}
use Rattle.replies.proofs.put_drawn.Goals as goal

pub returns : goal.returns
returns c =
    let a = c.args in
    stored 2 0 a.number a.room.now (c.copy_from_slice.ensures.after ∙ c.to_be_bytes.ensures) refl (omega arith) ∙ alone a.number a.room.now

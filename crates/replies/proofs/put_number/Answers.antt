-- `replies::put_number` meets its contract: the number and its CRC-16 as one number. Assumes nothing.
use mathlib.Core.Path.{refl, ◌∙◌}
use native.Mathlib.Omega.{arith}
use Rattle.replies.proofs.Bytes.{stored}
use Rattle.replies.proofs.Pen.{numbered}
use Rattle.replies.proofs.put_number.Goals as goal

pub returns : goal.returns
returns c =
    let a = c.args in
    stored 4 0 _ a.room.now (c.copy_from_slice.ensures.after ∙ c.to_be_bytes.ensures) refl (omega arith)
    ∙ rw (c.from.ensures, c.from-2.ensures, c.step16-sum.ensures) (numbered a.number a.room.now (omega arith))

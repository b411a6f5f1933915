-- `replies::put_end` meets its contract: handle and CRC-16 as one number, one bit late. Assumes nothing.
use Prim.Native.Nat.{◌+◌, ◌-◌}
use mathlib.Core.Path.{◌≡◌, ◌∙◌}
use native.Mathlib.Omega.{arith}
use Rattle.replies.specs.Steps.{ended}
use Rattle.replies.proofs.Bytes.{stored}
use Rattle.replies.proofs.put_end.Goals as goal

pub returns : goal.returns
unfolding ended
returns c =
    let a = c.args in
    let i = a.i in
    let four : i + 4 - i ≡ 4 = omega arith in
    rw (stored 4 i _ a.room.now (c.copy_from_slice.ensures.after ∙ c.to_be_bytes.ensures) four (omega arith), c.from.ensures, c.from-2.ensures, c.step16-sum.ensures)

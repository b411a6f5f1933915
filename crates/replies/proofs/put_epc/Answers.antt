-- `replies::put_epc` meets its contract: the words, and the CRC-16 of what then stands in the room. Assumes nothing.
use Prim.Native.Nat.{◌+◌, ◌-◌, ◌*◌}
use mathlib.Core.Path.{◌≡◌, ◌∙◌}
use native.Mathlib.Omega.{arith}
use Rattle.replies.proofs.Bytes.{stored}
use Rattle.replies.proofs.Pen.{summed}
use Rattle.replies.proofs.put_epc.Goals as goal

pub returns : goal.returns
returns c =
    let a = c.args in
    let two : 2 * a.count + 2 - 2 * a.count ≡ 2 = omega arith in
    rw (stored 2 (2 * a.count) _ c.put_few.new.room (c.copy_from_slice.ensures.after ∙ c.to_be_bytes.ensures) two (omega (arith, c.put_few.auto.room)), c.crc16_words-sum.ensures)
    (summed a.image.now a.from a.count a.room.now (omega arith) c.put_few.ensures)

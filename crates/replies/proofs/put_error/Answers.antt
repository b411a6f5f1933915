-- `replies::put_error` meets its contract: a 1 and the code, then the end. Assumes nothing.
use Prim.Native.Nat.{ℕ}
use mathlib.Core.Path.{ap, ◌∙◌}
use native.Mathlib.Omega.{arith}
use Rattle.bits.specs.Bits.{bits_of}
use Rattle.crc.specs.Crc.{run}
use Rattle.replies.proofs.Pen.{flagged, all_told}
use Rattle.replies.proofs.put_error.Goals as goal

pub returns : goal.returns
returns c =
    let a = c.args in
    let seen = c.step8-register.ensures ∙ ap (λ (x : ℕ). run x (bits_of 8 a.code)) c.step.ensures in
    rw (c.put_end.ensures, c.from.ensures) (all_told (flagged a.code a.room.now (omega arith) seen) (omega arith))

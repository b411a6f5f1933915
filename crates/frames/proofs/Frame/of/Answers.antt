-- `frames::Frame::of` meets its contract: too few bits, or more than the bytes have. Assumes nothing.
use native.Mathlib.Omega.{arith}
use Rattle.frames.proofs.Codes.{beyond, no_code}
use Rattle.frames.proofs.Frame.of.Goals as goal
use Rattle.frames.proofs.Frame.of.Goals.{then-n-lt4-via-then-n-lt4, then-n-lt4-via-else-n-lt4+then-bytes-n}

pub returns-then-n-lt4-clause-says : goal.returns-then-n-lt4-clause-says
returns-then-n-lt4-clause-says c =
    elim c.then-n-lt4.branch [
      | then-n-lt4-via-then-n-lt4 w ↦ no_code _ _ w.if-n-lt4.true
      | then-n-lt4-via-else-n-lt4+then-bytes-n w ↦ beyond _ _ (omega (arith, w.if-n-lt4.false, w.if-bytes-n.true))
    ]

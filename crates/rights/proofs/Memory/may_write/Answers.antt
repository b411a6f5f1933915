-- `rights::Memory::may_write` meets its contract: RESERVED by its parts, another bank by its pair and the rest. Assumes nothing.
use Rattle.std.proofs.Common.{rules, ◌<◌}
use borrow.Author.Tests.{tests}
use native.Mathlib.Omega.{arith}
use mathlib.Core.Path.{sym}
use Rattle.bits.proofs.Below.{every-not}
use Rattle.rights.proofs.Memory.may_write.Goals as goal

pub returns-then-not-opens : goal.returns-then-not-opens
returns-then-not-opens c =
    let h : 0 < c.args.n = omega arith in
    sym (every-not _ _ 0 h (search (rules, tests)))

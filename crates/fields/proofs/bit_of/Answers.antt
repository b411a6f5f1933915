-- `fields::bit_of` meets its contract. Assumes nothing.
use Rattle.fields.proofs.Behind.{last_bit}
use Prim.Native.Nat.{◌-◌, ◌/◌, ◌^◌}
use native.Mathlib.Omega.{arith}
use Rattle.fields.proofs.bit_of.Goals as goal

pub returns : goal.returns
returns c = let x = c.args.v / 2 ^ (c.args.n - 1 - c.args.k) in (last_bit x, omega arith)

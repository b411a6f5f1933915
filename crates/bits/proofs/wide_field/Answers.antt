-- `bits::wide_field` meets its contract: the bits lie in eight bytes. Assumes nothing.
use Prim.Native.Nat.{ℕ, ◌-◌, ◌*◌, ◌/◌, ◌%◌, ◌^◌}
use mathlib.Core.Path.{ap, ◌∙◌}
use native.Mathlib.Omega.{arith}
use Rattle.bits.proofs.Equal.{in-eight}
use Rattle.bits.proofs.wide_field.Goals as goal

pub returns : goal.returns
returns c =
    let a = c.args in
    ap (λ (x : ℕ). x * 2 ^ (a.at % 8) % 2 ^ 64 / 2 ^ (64 - a.n)) c.eight_bytes.ensures ∙ in-eight a.bytes.now a.at a.n (omega arith)

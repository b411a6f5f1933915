-- `crc::step8` meets its contract: it is linear, and right at each single bit. Assumes nothing.
use Prim.Native.Nat.{ℕ, ◌*◌, ◌/◌, ◌%◌, ◌^◌}
use mathlib.Core.Path.{◌≡◌, refl, sym, ap, ◌∙◌}
use native.Mathlib.Omega.{arith}
use mathlib.Core.Bool.{true}
use lib.Bits.{bit_xor}
use Rattle.bits.specs.Bits.{bits_of}
use Rattle.bits.specs.Below.{every}
use Rattle.crc.proofs.Linear.{of16}
use Rattle.crc.proofs.Steps.{Linear, both, then, same, right, left, cut, shifts, test, steps}
use Rattle.crc.proofs.step8.Goals as goal

tail : ℕ → ℕ
tail x = bit_xor x (x / 2 ^ 4)

code : ℕ → ℕ → ℕ
code r b = let t = tail (bit_xor (r / 2 ^ 8) b) in bit_xor (bit_xor (bit_xor (r * 2 ^ 8 % 65536) (t * 2 ^ 12 % 65536)) (t * 2 ^ 5 % 65536)) t

linear : Linear (λ u. code (u / 2 ^ 8) (u % 2 ^ 8))
unfolding code tail
linear =
    let t = then (both (then (right 8) (right 8)) (cut 8)) (both same (right 4)) in
    both (both (both (then (right 8) (left 16 8)) (then t (left 16 12))) (then t (left 16 5))) t

tested : every (test of16 8 code) 24 ≡ true
unfolding code tail shifts test bits_of
tested = refl

pub returns : goal.returns
unfolding code tail
returns c =
    ap (code c.args.r) c.from.ensures ∙ sym (steps of16 8 code linear tested c.args.r c.args.b (omega arith) (omega arith))

-- `crc::step16` meets its contract: it is linear, and right at each single bit. Assumes nothing.
use Prim.Native.Nat.{ℕ, ◌*◌, ◌/◌, ◌%◌, ◌^◌}
use mathlib.Core.Path.{◌≡◌, refl, sym}
use native.Mathlib.Omega.{arith}
use mathlib.Core.Bool.{true}
use lib.Bits.{bit_xor}
use Rattle.bits.specs.Bits.{bits_of}
use Rattle.bits.specs.Below.{every}
use Rattle.crc.proofs.Linear.{of16}
use Rattle.crc.proofs.Steps.{Linear, both, then, same, right, left, cut, shifts, test, steps}
use Rattle.crc.proofs.step16.Goals as goal

-- the code, of the register and the word's sum
quotient : ℕ → ℕ
quotient x = bit_xor (bit_xor (bit_xor x (x / 2 ^ 4)) (bit_xor x (x / 2 ^ 4) / 2 ^ 8)) (x / 2 ^ 11)

code : ℕ → ℕ → ℕ
code r w = let q = quotient (bit_xor r w) in bit_xor (bit_xor (q * 2 ^ 12 % 65536) (q * 2 ^ 5 % 65536)) q

linear : Linear (λ u. code (u / 2 ^ 16) (u % 2 ^ 16))
unfolding code quotient
linear =
    let t = both same (right 4) in
    then (then (both (right 16) (cut 16)) (both (both t (then t (right 8))) (right 11))) (both (both (left 16 12) (left 16 5)) same)

tested : every (test of16 16 code) 32 ≡ true
unfolding code quotient shifts test bits_of
tested = refl

pub returns : goal.returns
unfolding code quotient
returns c = sym (steps of16 16 code linear tested c.args.r c.args.w (omega arith) (omega arith))

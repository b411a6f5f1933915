-- `crc::rest` meets its contract: it is linear, and right at each single bit. Assumes nothing.
use Prim.Native.Nat.{ℕ, ◌*◌, ◌/◌, ◌%◌, ◌^◌}
use mathlib.Core.Path.{◌≡◌, refl, sym}
use native.Mathlib.Omega.{arith}
use mathlib.Core.Bool.{true}
use lib.Bits.{bit_xor}
use Rattle.bits.specs.Bits.{bits_of}
use Rattle.bits.specs.Below.{every}
use Rattle.crc.proofs.Linear.{of16}
use Rattle.crc.proofs.Steps.{Linear, both, then, same, right, left, cut, alone, from_zero}
use Rattle.crc.proofs.rest.Goals as goal

-- x, and x shifted right by each of some numbers
thrice : ℕ → ℕ → ℕ → ℕ → ℕ
thrice i j k x = bit_xor (bit_xor (bit_xor x (x / 2 ^ i)) (x / 2 ^ j)) (x / 2 ^ k)

quotient : ℕ → ℕ
quotient x =
    let a = bit_xor x (x / 2 ^ 32) in
    thrice 4 11 16 (thrice 8 22 32 (bit_xor (bit_xor a (a / 2 ^ 16)) (a / 2 ^ 44)))

code : ℕ → ℕ
code x = let q = quotient x in bit_xor (bit_xor (q * 2 ^ 12 % 2 ^ 64) (q * 2 ^ 5 % 2 ^ 64)) q % 65536

thrice-linear : (i j k : ℕ) → Linear (thrice i j k)
unfolding thrice
thrice-linear i j k = both (both (both same (right i)) (right j)) (right k)

quotient-linear : Linear quotient
unfolding quotient
quotient-linear =
    then (then (then (both same (right 32)) (both (both same (right 16)) (right 44))) (thrice-linear 8 22 32)) (thrice-linear 4 11 16)

linear : Linear code
unfolding code
linear = then quotient-linear (then (both (both (left 64 12) (left 64 5)) same) (cut 16))

tested : every (alone of16 64 code) 64 ≡ true
unfolding code quotient thrice alone bits_of
tested = refl

pub returns : goal.returns
unfolding code quotient thrice
returns c = sym (from_zero of16 64 code linear tested c.args.x (omega arith))

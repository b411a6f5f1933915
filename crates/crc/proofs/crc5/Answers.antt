-- `crc::crc5` meets its contract: it is linear, and right at each single bit. Assumes nothing.
use Prim.Native.Nat.{ℕ, ◌*◌, ◌/◌, ◌%◌, ◌^◌, ◌<◌}
use mathlib.Core.Path.{◌≡◌, refl, sym, ap, ◌∙◌}
use mathlib.Core.Bool.{true}
use native.Mathlib.Omega.{arith}
use lib.Bits.{bit_xor}
use lib.ListN.{get_or}
use Rattle.bits.specs.Bits.{bits_of, field_at}
use Rattle.bits.specs.Below.{every}
use Rattle.bits.proofs.Fields.{field_lt, field-bits}
use Rattle.bits.proofs.Windows.{through-window}
use Rattle.crc.specs.Crc5.{run5, crc5_of}
use Rattle.crc.proofs.Linear.{of5}
use Rattle.crc.proofs.Steps.{Linear, both, then, same, right, up, left, cut, shifts, test, steps}
use Rattle.crc.proofs.crc5.Goals as goal

-- x, and x shifted right by each of two numbers
twice : ℕ → ℕ → ℕ → ℕ
twice i j x = bit_xor (bit_xor x (x / 2 ^ i)) (x / 2 ^ j)

quotient : ℕ → ℕ
quotient x = let b = twice 4 10 (twice 2 5 x) in let c = bit_xor b (b / 2 ^ 8) in bit_xor c (c / 2 ^ 16)

code : ℕ → ℕ → ℕ
code r w = let q = quotient (bit_xor w (r * 2 ^ 12)) in bit_xor (q * 2 ^ 3 % 2 ^ 64) q % 2 ^ 5

twice-linear : (i j : ℕ) → Linear (twice i j)
unfolding twice
twice-linear i j = both (both same (right i)) (right j)

linear : Linear (λ u. code (u / 2 ^ 17) (u % 2 ^ 17))
unfolding code quotient
linear =
    let q = then (then (then (twice-linear 2 5) (twice-linear 4 10)) (both same (right 8))) (both same (right 16)) in
    then (both (cut 17) (then (right 17) (up 12))) (then q (then (both (left 64 3) same) (cut 5)))

tested : every (test of5 17 code) 22 ≡ true
unfolding code quotient twice shifts test bits_of
tested = refl

pub returns : goal.returns
unfolding code quotient twice crc5_of
returns c =
    let m = c.args.bytes.now in
    let bytes : (j : ℕ) → get_or m j 0 < 256 = λ j. omega (arith, c.type_inv.bytes j) in
    let u : c.from-u.result ≡ field_at m 0 17 =
    c.from-u.ensures ∙ ap (λ (x : ℕ). x / 2 ^ 7 % 2 ^ 17) c.window.ensures ∙ sym (through-window m 0 0 17 7 bytes refl (omega arith)) in
    ap (code 9) u
    ∙ sym (steps of5 17 code linear tested 9 (field_at m 0 17) (omega arith) (field_lt m 0 17))
    ∙ ap (run5 9) (field-bits m 0 17)

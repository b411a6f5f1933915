-- Shifts of a register are shifts of the register 0, by the bits of register and word together. Assumes nothing.
use Prim.Native.Nat.{ℕ, zero, suc, ◌+◌, ◌-◌, ◌*◌, ◌/◌, ◌%◌, ◌^◌, ◌<◌, ◌≤◌}
use mathlib.Core.Path.{◌≡◌, refl, sym, ap, ap₂, ◌∙◌}
use mathlib.Core.Bool.{true}
use mathlib.Core.List.{List}
use native.Mathlib.Nat.{mod-lt, zero-div, div-eq_of_lt, add-zero}
use native.Mathlib.Omega.{arith}
use lib.Pow.{pow_pos, shr_lt, shl_lt, shl_exact, split}
use lib.Bits.{bit_xor, xor_block, xor_lt}
use Rattle.bits.specs.Below.{every}
use Rattle.bits.specs.Bits.{bits_from, bits_of, field_at}
use Rattle.bits.proofs.Bits.{bits-split}
use Rattle.bits.proofs.Digits.{bits-join}
use Rattle.bits.proofs.Fields.{field_lt, field-bits}
use Rattle.crc.specs.Crc.{run}
use Rattle.crc.proofs.Runs.{run-append, go_on}
use Rattle.crc.proofs.Linear.{of16}
use Rattle.crc.proofs.Steps.{Linear, both, then, right, cut, zero-linear, shifts, test, steps}

-- sixteen of them
code : ℕ → ℕ → ℕ
code r w = run 0 (bits_of 16 (bit_xor r w))

linear : Linear (λ u. code (u / 2 ^ 16) (u % 2 ^ 16))
unfolding code
linear = then (both (right 16) (cut 16)) (zero-linear of16 16)

tested : every (test of16 16 code) 32 ≡ true
unfolding code shifts test bits_of
tested = refl

sixteen : (r w : ℕ) → r < 65536 → w < 65536 → run r (bits_of 16 w) ≡ run 0 (bits_of 16 (bit_xor r w))
unfolding code
sixteen = steps of16 16 code linear tested

-- j more, by the bits of l
more : (j r w l : ℕ) → r < 65536 → w < 65536 → l < 2 ^ j → run r (bits_of (16 + j) (w * 2 ^ j + l)) ≡ run 0 (bits_of (16 + j) (bit_xor r w * 2 ^ j + l))
more j r w l hr hw hl =
    ap (run r) (bits-join 16 j w l hl)
    ∙ run-append r (bits_of 16 w) (bits_of j l)
    ∙ ap (λ (x : ℕ). run x (bits_of j l)) (sixteen r w hr hw)
    ∙ sym (ap (run 0) (bits-join 16 j (bit_xor r w) l hl) ∙ run-append 0 (bits_of 16 (bit_xor r w)) (bits_of j l))

together : (j r w : ℕ) → bit_xor (r * 2 ^ j) w ≡ bit_xor r (w / 2 ^ j) * 2 ^ j + w % 2 ^ j
together j r w =
    ap₂ bit_xor (sym (add-zero (r * 2 ^ j))) (sym (split w j)) ∙ xor_block j r (w / 2 ^ j) 0 (w % 2 ^ j) (pow_pos j) (mod-lt w (pow_pos j))

-- zeros before them leave the register 0
zeros : (n : ℕ) → run 0 (bits_of n 0) ≡ 0
unfolding bits_of
zeros zero = refl
zeros (suc n) = let e : 0 / 2 ^ n ≡ 0 = zero-div (2 ^ n) in rw e (zeros n)

longer : (n k x : ℕ) → x < 2 ^ k → run 0 (bits_of (n + k) x) ≡ run 0 (bits_of k x)
longer n k x h =
    ap (run 0) (bits-split n k x)
    ∙ run-append 0 (bits_of n (x / 2 ^ k)) (bits_of k x)
    ∙ ap (λ (y : ℕ). run y (bits_of k x)) (ap (λ (y : ℕ). run 0 (bits_of n y)) (div-eq_of_lt h) ∙ zeros n)

-- k shifts, 16 to 64, as 64 of the register 0
pub at_once : (k r w : ℕ) → 16 ≤ k → k ≤ 64 → r < 65536 → w < 2 ^ k → run r (bits_of k w) ≡ run 0 (bits_of 64 (bit_xor (r * 2 ^ (k - 16) % 2 ^ 64) w))
at_once k r w a b hr hw =
    let j = k - 16 in
    let e : k ≡ 16 + j = omega arith in
    let f : 64 - k + k ≡ 64 = omega arith in
    let hj : w < 2 ^ (16 + j) = rw e at hw in
    let small : bit_xor (r * 2 ^ j) w < 2 ^ (16 + j) = xor_lt (16 + j) (r * 2 ^ j) w (shl_lt 16 j hr) hj in
    ap (λ (x : ℕ). run r (bits_of x w)) e
    ∙ ap (λ (x : ℕ). run r (bits_of (16 + j) x)) (sym (split w j))
    ∙ more j r (w / 2 ^ j) (w % 2 ^ j) hr (shr_lt 16 j hj) (mod-lt w (pow_pos j))
    ∙ ap (λ (x : ℕ). run 0 (bits_of (16 + j) x)) (sym (together j r w))
    ∙ sym (longer (64 - k) (16 + j) (bit_xor (r * 2 ^ j) w) small)
    ∙ ap (λ (x : ℕ). run 0 (bits_of (64 - k + x) (bit_xor (r * 2 ^ j) w))) (sym e)
    ∙ ap (λ (x : ℕ). run 0 (bits_of x (bit_xor (r * 2 ^ j) w))) f
    ∙ ap (λ (x : ℕ). run 0 (bits_of 64 (bit_xor x w))) (sym (shl_exact 16 j 64 hr (omega arith)))

-- the last k bits, 16 to 64, behind those before byte `at`
pub tail-turn : (m : List ℕ) (n at k f r : ℕ) {x v s : ℕ} → 8 * at + k ≡ n → 16 ≤ k → k ≤ 64 → r < 65536 → x ≡ r → v ≡ field_at m (8 * at) k
    → s ≡ run 0 (bits_of 64 (bit_xor (x * 2 ^ (k - 16) % 2 ^ 64) v)) → r ≡ run f (bits_from m 0 (8 * at)) → s ≡ run f (bits_from m 0 n)
tail-turn m n at k f r z a b hr p q h e =
    h
    ∙ ap₂ (λ (b c : ℕ). run 0 (bits_of 64 (bit_xor (b * 2 ^ (k - 16) % 2 ^ 64) c))) p q
    ∙ sym (at_once k r (field_at m (8 * at) k) a b hr (field_lt m (8 * at) k))
    ∙ ap (run r) (field-bits m (8 * at) k)
    ∙ go_on m f (8 * at) k e
    ∙ ap (λ (y : ℕ). run f (bits_from m 0 y)) z

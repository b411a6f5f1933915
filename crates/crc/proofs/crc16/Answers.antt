-- `crc::crc16` meets its contract. Invariant: the register, run over the bits that are left, gives what the preset gives over all bits. Assumes nothing.
use Prim.Native.Nat.{ℕ, ◌+◌, ◌-◌, ◌/◌, ◌*◌, ◌%◌}
use mathlib.Core.Path.{◌≡◌, ap, ◌∙◌}
use native.Mathlib.Omega.{arith}
use Rattle.bits.specs.Bits.{bits_from}
use Rattle.crc.specs.Crc.{run, crc_of}
use Rattle.crc.proofs.Runs.{word_byte, go_on, turn, done}
use Rattle.crc.proofs.Tails.{tail-turn}
use Rattle.crc.proofs.crc16.Goals as goal

pub returns-then-n-eq24 : goal.returns-then-n-eq24
unfolding crc_of
returns-then-n-eq24 c =
    let a = c.args in
    ap (λ (x : ℕ). 65535 - x)
    (word_byte a.bytes.now a.n 0xFFFF c.if-n-eq24.true (omega (arith, c.type_inv.bytes 1)) c.word_in.ensures c.step16.ensures c.step8.ensures)

pub returns-then-k-ge16 : goal.returns-then-k-ge16
unfolding crc_of
returns-then-k-ge16 c =
    let a = c.args in
    let e : 64 * (a.n / 64) ≡ 8 * (a.n / 64 * 8) = omega arith in
    ap (λ (x : ℕ). 65535 - x)
    (tail-turn a.bytes.now a.n (a.n / 64 * 8) (a.n % 64) 0xFFFF _ (omega arith) (omega arith) (omega arith) (omega arith) c.from.ensures c.tail.ensures c.rest.ensures
    (c.eights-r.ensures ∙ ap (λ (x : ℕ). run 0xFFFF (bits_from a.bytes.now 0 x)) e))

pub loop-i-init : goal.loop-i-init
loop-i-init c =
    let m = c.args.bytes.now in
    let n = c.args.n in
    let e : 64 * (n / 64) ≡ n / 64 * 64 = omega arith in
    let z : n / 64 * 64 + (n - n / 64 * 64) ≡ n = omega arith in
    go_on m 0xFFFF (n / 64 * 64) (n - n / 64 * 64) (rw e at c.eights-r.ensures) ∙ ap (λ (x : ℕ). run 0xFFFF (bits_from m 0 x)) z

pub loop-i-preserved : goal.loop-i-preserved
loop-i-preserved c =
    turn _ _ _ _ c.loop-i-test.true c.step-r.ensures c.bit.ensures.0 c.loop-i.invariant

pub returns : goal.returns
unfolding crc_of
returns c = ap (λ (x : ℕ). 65535 - x) (done _ _ _ _ c.loop-i-test.false c.loop-i.invariant)

-- `crc::crc16_words` meets its contract: four words at a time, then the rest at once. Assumes nothing.
use Prim.Native.Nat.{ℕ, ◌-◌, ◌/◌, ◌*◌, ◌%◌}
use mathlib.Core.Path.{◌≡◌, ap, ◌∙◌}
use native.Mathlib.Omega.{arith}
use Rattle.bits.specs.Bits.{bits_from}
use Rattle.crc.specs.Crc.{run, crc_of}
use Rattle.crc.proofs.Tails.{tail-turn}
use Rattle.crc.proofs.crc16_words.Goals as goal

pub returns-then-k-eq0 : goal.returns-then-k-eq0
unfolding crc_of
returns-then-k-eq0 c =
    let a = c.args in
    let e : 64 * (a.n / 4) ≡ 16 * a.n = omega arith in
    ap (λ (x : ℕ). 65535 - x) (c.eights-r.ensures ∙ ap (λ (x : ℕ). run 0xFFFF (bits_from a.bytes.now 0 x)) e)

pub returns : goal.returns
unfolding crc_of
returns c =
    let a = c.args in
    let e : 64 * (a.n / 4) ≡ 8 * (a.n / 4 * 8) = omega arith in
    ap (λ (x : ℕ). 65535 - x)
    (tail-turn a.bytes.now (16 * a.n) (a.n / 4 * 8) (a.n % 4 * 16) 0xFFFF _ (omega arith) (omega arith) (omega arith) (omega arith) c.from.ensures c.tail.ensures c.rest.ensures
    (c.eights-r.ensures ∙ ap (λ (x : ℕ). run 0xFFFF (bits_from a.bytes.now 0 x)) e))

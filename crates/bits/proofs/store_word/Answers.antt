-- `bits::store_word` meets its contract: two bytes, the higher first. Assumes nothing.
use Prim.Native.Nat.{◌/◌, ◌%◌}
use mathlib.Core.Path.{◌≡◌}
use native.Mathlib.Omega.{arith}
use Rattle.bits.specs.Words.{with_word}
use Rattle.bits.proofs.store_word.Goals as goal

pub returns : goal.returns
unfolding with_word
returns c =
    let v = c.args.v in
    let e : v / 256 % 256 ≡ v / 256 = omega arith in
    rw (c.store_byte-2.ensures, c.store_byte.ensures, c.to_be_bytes.ensures, e)

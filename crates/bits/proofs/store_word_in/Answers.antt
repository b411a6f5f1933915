-- `bits::store_word_in` meets its contract: two bytes, the higher first. Assumes nothing.
use Prim.Native.Nat.{◌/◌, ◌%◌}
use mathlib.Core.Path.{◌≡◌}
use native.Mathlib.Omega.{arith}
use Rattle.bits.specs.Words.{with_word}
use Rattle.bits.proofs.store_word_in.Goals as goal

pub returns : goal.returns
unfolding with_word
returns c =
    let v = c.args.v in
    let e : v / 256 % 256 ≡ v / 256 = omega arith in
    rw (c.to_be_bytes.ensures, e)

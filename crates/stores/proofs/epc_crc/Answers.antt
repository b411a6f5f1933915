-- `stores::epc_crc` meets its contract: the words lie in a part of the image. Assumes nothing.
use Rattle.image.specs.Content.{length_of}
use Rattle.bits.specs.Words.{word_at}
use Prim.Native.Nat.{◌+◌}
use mathlib.Core.Path.{◌∙◌}
use Rattle.stores.proofs.Changes.{part-crc}
use native.Mathlib.Omega.{arith}
use Rattle.stores.proofs.epc_crc.Goals as goal

pub returns : goal.returns
returns c = let a = c.args in
    let known = c.type_inv.image in
    let p = a.y.epc.at + 1 in
    rw c.word.ensures at c.crc16.ensures ∙ part-crc a.image.now p (length_of (word_at a.image.now p) + 1) (λ j. omega (arith, known j))

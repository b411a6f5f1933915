-- `replies::put_few` meets its contract. Invariant: the first words are packed, four at a time and then one by one. Assumes nothing.
use Prim.Native.Nat.{ℕ, ◌+◌, ◌*◌, ◌/◌, ◌<◌}
use mathlib.Core.Path.{◌≡◌, sym}
use native.Mathlib.Omega.{arith}
use lib.ListN.{get_or}
use Rattle.bits.specs.Bits.{words_bits}
use Rattle.replies.proofs.Laws.{packed_none}
use Rattle.replies.proofs.Bytes.{word-bytes}
use Rattle.replies.proofs.Pen.{word-behind, four-behind}
use Rattle.replies.proofs.put_few.Goals as goal

pub loop-j-init : goal.loop-j-init
unfolding words_bits
loop-j-init c = sym (packed_none c.args.room.now)

pub loop-j-preserved : goal.loop-j-preserved
loop-j-preserved c =
    let l = c.loop-j in
    let a = c.args in
    let m = a.image.now in
    let known : (i : ℕ) → get_or m i 0 < 256 = λ i. omega (arith, c.type_inv.image i) in
    let place : 8 * l.j ≡ 2 * (4 * l.j) = omega arith in
    let more : 4 * (l.j + 1) ≡ 4 * l.j + 4 = omega arith in
    rw (c.store_eight.ensures, place, more) (four-behind m a.from (4 * l.j) a.room.now l.invariant known c.four_words.ensures)

pub loop-j-2-preserved : goal.loop-j-2-preserved
loop-j-2-preserved c =
    let l = c.loop-j-2 in
    let a = c.args in
    λ first p.
    rw (c.store_word_in.ensures, word-bytes l.room l.j c.word_in.result (omega arith)) (word-behind a.image.now a.from l.j first (l.invariant first p) c.word_in.ensures)

pub returns : goal.returns
returns c =
    let l = c.loop-j-2 in
    let a = c.args in
    let e : l.j ≡ a.count = omega arith in
    let z : 4 * c.loop-j.j ≡ a.count / 4 * 4 = omega arith in
    rw e at (l.invariant a.room.now (rw z at c.loop-j.invariant))

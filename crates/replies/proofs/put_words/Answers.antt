-- `replies::put_words` meets its contract. Invariant: the first words are sent, four at a time and then one by one. Assumes nothing.
use Prim.Native.Nat.{ℕ, ◌+◌, ◌-◌, ◌*◌, ◌/◌, ◌<◌}
use mathlib.Core.Path.{◌≡◌, ◌∙◌}
use native.Mathlib.Omega.{arith}
use lib.ListN.{get_or}
use Rattle.bits.specs.Bits.{words_bits}
use Rattle.replies.proofs.Bytes.{stored}
use Rattle.replies.proofs.Pen.{begun, one_more, four-more, all_told}
use Rattle.replies.proofs.put_words.Goals as goal

pub loop-j-init : goal.loop-j-init
unfolding words_bits
loop-j-init c = begun 0 c.args.room.now c.step-register.ensures

pub loop-j-preserved : goal.loop-j-preserved
loop-j-preserved c =
    let l = c.loop-j in
    let a = c.args in
    let m = a.image.now in
    let known : (i : ℕ) → get_or m i 0 < 256 = λ i. omega (arith, c.type_inv.image i) in
    let place : 8 * l.j ≡ 2 * (4 * l.j) = omega arith in
    let more : 4 * (l.j + 1) ≡ 4 * l.j + 4 = omega arith in
    rw (c.store_eight.ensures, place, more)
    (four-more m known a.from (4 * l.j) l.invariant c.four_words-w.ensures c.step64-register.ensures)

pub loop-j-2-preserved : goal.loop-j-2-preserved
loop-j-2-preserved c =
    let l = c.loop-j-2 in
    let a = c.args in
    let two : 2 * l.j + 2 - 2 * l.j ≡ 2 = omega arith in
    λ first p.
    rw (stored 2 (2 * l.j) _ l.room (c.copy_from_slice.ensures.after ∙ c.to_be_bytes.ensures) two (omega (arith, l.auto.room, c.loop-j.auto.room)), c.from-before.ensures)
    (one_more a.image.now a.from l.j (l.invariant first p) c.word-w.ensures (omega arith) c.step16-register.ensures)

pub returns : goal.returns
returns c =
    let l = c.loop-j-2 in
    let a = c.args in
    let e : l.j ≡ a.count = omega arith in
    let z : 4 * c.loop-j.j ≡ a.count / 4 * 4 = omega arith in
    c.put_end.ensures ∙ all_told (rw e at (l.invariant a.room.now (rw z at c.loop-j.invariant))) (omega arith)

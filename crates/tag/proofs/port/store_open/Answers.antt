-- `tag::port::store_open` meets its contract: the words that the mask leaves are those that may be written. Assumes nothing.
use Rattle.tag.proofs.Ports.{fits_count, fits-data, made-written, written-needs, unwritten-by, write-cut, write_done}
use Rattle.tag.specs.Port.{written_words, some_unwritten}
use Rattle.stores.specs.Stores.{change_stores}
use Rattle.bits.specs.Words.{after}
use lib.Seq.{take_all}
use lib.ListN.{length, get_or-replicate}
use lib.Dec.{eqb}
use native.Mathlib.Omega.{arith}
use mathlib.Core.Bool.{not}
use mathlib.Core.Path.{◌≡◌, refl, sym, ap, ◌∙◌}
use Prim.Native.Nat.{◌/◌, ◌≤◌, ◌<◌}
use Rattle.tag.proofs.port.store_open.Goals as goal

pub mark-writable-requires : goal.mark-writable-requires
mark-writable-requires c = let a = c.args in
    let h = fits_count a.y a.at (length a.words.now / 2) (fits-data a.y a.at a.words.now c.requires.words_value).0 in
    record {
      n_in_bounds = (h.1, omega (arith, h.1), omega (arith, h.2, c.requires.good.header.user.most), c.requires.good.header.block_least);
      by_index = λ j l. get_or-replicate 255 j 0 0 (omega (arith, h.1, l));
    }

pub returns-then-s-need : goal.returns-then-s-need
returns-then-s-need c = let a = c.args in
    let y = a.y in
    let m = a.image.now in
    let d = a.words.now in
    let k = c.mark-writable.ensures.0 in
    let bytes = c.type_inv.words in
    let ss = written_words y m a.at d (length d / 2) in
    let p = made-written y m a.at c.requires.image_value d k (λ j. omega (arith, bytes j)) c.change-made.ensures in
    let n : length (change_stores y.work.at ss) ≡ c.needed-need.result = written-needs y m a.at c.requires.image_value d k ∙ sym c.needed-need.ensures.0 in
    let l : a.s < length (change_stores y.work.at ss) = omega (arith, n, c.if-s-need.true) in
    let e : c.change-made.result ≡ a.s = omega (arith, p.made, l) in
    rw (c.stopped.ensures, e, p.image) (write-cut a.l y m a.at d a.s ss (some_unwritten y m a.at (length d / 2)) c.requires.state_value refl refl l)

pub returns : goal.returns
returns c = let a = c.args in
    let y = a.y in
    let m = a.image.now in
    let d = a.words.now in
    let k = c.mark-writable.ensures.0 in
    let bytes = c.type_inv.words in
    let ss = written_words y m a.at d (length d / 2) in
    let p = made-written y m a.at c.requires.image_value d k (λ j. omega (arith, bytes j)) c.change-made.ensures in
    let n : length (change_stores y.work.at ss) ≡ c.needed-need.result = written-needs y m a.at c.requires.image_value d k ∙ sym c.needed-need.ensures.0 in
    let l : length (change_stores y.work.at ss) ≤ a.s = omega (arith, n, c.if-s-need.false) in
    let e : c.change-made.result ≡ length (change_stores y.work.at ss) = omega (arith, p.made, l) in
    let i : c.change-made.new.image ≡ after m (change_stores y.work.at ss) = p.image ∙ ap (after m) (take_all _ _ l) in
    rw (c.done.ensures, c.with_unwritten.ensures, e, i) (write_done a.l y m a.at d a.s ss (not (eqb c.mark-writable.result (length d / 2))) c.requires.state_value refl (unwritten-by y m a.at c.requires.image_value d k) l)

-- `stores::Budget::apply` meets its contract. Invariant: the words of the pairs passed are stored, and WORK is as it was. Assumes nothing.
use Rattle.stores.specs.Steps.{pair_in}
use Rattle.bits.specs.Words.{word_at}
use mathlib.Core.Path.{◌≡◌, ◌∙◌}
use Prim.Native.Nat.{◌+◌, ◌*◌, ◌<◌}
use native.Mathlib.Omega.{arith}
use Rattle.stores.proofs.Runs.{ran-below, ran-length, ran-other}
use Rattle.stores.proofs.Budget.apply.Goals as goal

pub loop-j-preserved : goal.loop-j-preserved
loop-j-preserved c =
    let a = c.args in
    let m = a.bytes.now in
    let l = c.loop-j in
    let v = l.invariant in
    let p = a.work + 1 + 2 * l.j in
    let e : c.word_in-o.result ≡ word_at m p = c.word_in-o.ensures ∙ v.kept p (omega arith) in
    let f : c.word_in-v.result ≡ word_at m (p + 1) = c.word_in-v.ensures ∙ v.kept (p + 1) (omega arith) in
    let b : word_at m p < a.work = c.requires.by_index l.j (omega arith) in
    record {
      ran = ran-below (pair_in a.work m) l.j v.ran (rw (← e, ← f) c.store.ensures);
      kept = λ i h. ran-other _ _ i c.store.ensures (omega arith) ∙ v.kept i h;
      long = ran-length c.store.ensures ∙ v.long;
    }

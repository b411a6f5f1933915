-- `stores::Budget::stage_words` meets its contract. Invariant: the pairs of the words passed are staged. Assumes nothing.
use mathlib.Core.Path.{◌∙◌}
use native.Mathlib.Omega.{arith}
use Rattle.stores.proofs.Runs.{ran-length, chose-more, chosen-few}
use Rattle.stores.proofs.Budget.stage_words.Goals as goal

pub loop-j-preserved : goal.loop-j-preserved
loop-j-preserved c =
    let x = c.args.words in
    let l = c.loop-j in
    let s = c.stage_word-k.ensures in
    record {
      few = omega (arith, s.pairs, l.invariant.few, chosen-few x.at x.bytes.now x.from x.skip.now l.j);
      staged = chose-more x.at x.bytes.now x.from x.skip.now l.j l.invariant.staged s;
      long = ran-length s.ran ∙ l.invariant.long;
    }

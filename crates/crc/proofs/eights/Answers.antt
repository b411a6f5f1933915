-- `crc::eights` meets its contract. Invariant: the register has seen the first k times eight bytes. Assumes nothing.
use Rattle.crc.proofs.Runs.{eight-more}
use Rattle.crc.proofs.eights.Goals as goal

pub loop-k-preserved : goal.loop-k-preserved
loop-k-preserved c =
    let a = c.args in
    let l = c.loop-k in
    eight-more a.bytes.now 0xFFFF l.k c.eight_bytes.ensures c.step64-r.ensures l.invariant

-- `rights::bank_in` meets its contract: two words of the header. Assumes nothing.
use Rattle.rights.proofs.Banks.{bank-read}
use Rattle.rights.proofs.bank_in.Goals as goal

pub returns : goal.returns
returns c = let a = c.args in
    rw (c.word_in-2.ensures, c.word_in.ensures, c.entry_of-i.ensures.0) (bank-read a.image.now a.b)

-- `replies::put_success` meets its contract: words, none of them. Assumes nothing.
use Rattle.bits.specs.Bits.{words_bits}
use Rattle.replies.proofs.put_success.Goals as goal

pub returns : goal.returns
unfolding words_bits
returns c = c.put_words.ensures

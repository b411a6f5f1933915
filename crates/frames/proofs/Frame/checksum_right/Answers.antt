-- `frames::Frame::checksum_right` meets its contract: the two sides of the test. Assumes nothing.
use Rattle.frames.specs.Frames.{checksum_right}
use Rattle.frames.proofs.Frame.checksum_right.Goals as goal

pub returns : goal.returns
unfolding checksum_right
returns c = rw (c.crc16.ensures, c.last_word.ensures)

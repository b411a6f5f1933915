-- `image::read_layout` meets its contract: the header's words, by section. Assumes nothing.
use Rattle.image.specs.Layout.{layout_of}
use Rattle.image.proofs.read_layout.Goals as goal

pub returns : goal.returns
unfolding layout_of
returns c = rw (c.section_in-7.ensures, c.section_in-6.ensures, c.section_in-5.ensures, c.section_in-4.ensures, c.section_in-3.ensures, c.section_in-2.ensures, c.section_in.ensures, c.word_in.ensures)

-- `line_reader::places::read_hex` meets its contract. Assumes nothing.
use Rattle.std.proofs.Common.{◌∙◌, le-leb}
use Rattle.line_reader.proofs.Answers.{onward_line}
use Rattle.line_reader.proofs.places.read_hex.Goals as goal

pub returns : goal.returns
returns g c = rw (le-leb _ 16 c.if-this-gt-MOST_DIGITS.false) (c.onward.ensures ∙ onward_line _ _ _ _ _ c.hex_line.ensures)

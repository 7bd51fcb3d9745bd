-- `line_reader::digits::hex_digit` meets its contract. Assumes nothing.
use Rattle.std.proofs.Common.{◌∙◌, lt-ltb}
use Rattle.line_reader.proofs.digits.hex_digit.Goals as goal

pub returns : goal.returns
returns c = c.from.ensures ∙ rw (lt-ltb _ 256 c.ranges.b.fits)

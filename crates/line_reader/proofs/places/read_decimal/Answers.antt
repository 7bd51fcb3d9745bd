-- `line_reader::places::read_decimal` meets its contract. Assumes nothing.
use Rattle.std.proofs.Common.{◌∙◌}
use Rattle.line_reader.proofs.Answers.{onward_line}
use Rattle.line_reader.proofs.places.read_decimal.Goals as goal

pub returns : goal.returns
returns c = c.onward.ensures ∙ onward_line _ _ _ _ _ c.decimal_line.ensures

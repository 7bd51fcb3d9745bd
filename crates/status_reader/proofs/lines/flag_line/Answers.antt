-- `status_reader::lines::flag_line` meets its contract. Assumes nothing.
use mathlib.Core.Path.{◌∙◌}
use mathlib.Core.List.{[]}
use Rattle.status.specs.Lines.{flag_form}
use Rattle.status_reader.proofs.LineLaws.{last_value}
use Rattle.status_reader.proofs.lines.flag_line.Goals as goal

pub returns : goal.returns
returns c =
    last_value flag_form c.in_ok-values_of.field-0.now c.decimal_value.result c.decimal_value.ensures ∙ c.in_ok-values_of.ensures flag_form []

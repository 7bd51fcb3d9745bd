-- `status_reader::lines::set_line` meets its contract. Assumes nothing.
use mathlib.Core.Path.{◌∙◌}
use mathlib.Core.List.{[]}
use Rattle.status.specs.Lines.{set_form}
use Rattle.status_reader.proofs.LineLaws.{last_value}
use Rattle.status_reader.proofs.lines.set_line.Goals as goal

pub returns : goal.returns
returns c =
    last_value set_form c.in_ok-values_of.field-0.now c.set_value.result c.set_value.ensures ∙ c.in_ok-values_of.ensures set_form []

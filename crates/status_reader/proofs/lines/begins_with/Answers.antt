-- `status_reader::lines::begins_with` meets its contract. Assumes nothing.
use mathlib.Core.Path.{◌∙◌}
use Rattle.status_reader.proofs.LineLaws.{same_start}
use Rattle.status_reader.proofs.lines.begins_with.Goals as goal

pub returns : goal.returns
returns c = c.starts_with.ensures.value ∙ same_start c.args.name.now c.args.line.now

-- `sheet_writer::write_sheet` meets its contract. Assumes nothing.
use mathlib.Core.Path.{◌∙◌}
use Rattle.sheet_writer.proofs.Answers.{at_the_front, buffer_by_the_table}
use Rattle.sheet_writer.proofs.write_sheet.Goals as goal

pub returns : goal.returns
returns c =
    let front = at_the_front _ _ in
    let w = c.write_at.ensures in
    (w.0 ∙ front.0, w.1 ∙ buffer_by_the_table _ _ _ _ c.writing_table-table.ensures ∙ front.1)

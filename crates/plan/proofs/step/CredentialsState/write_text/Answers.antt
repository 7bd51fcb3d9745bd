-- `plan::step::CredentialsState::write_text` meets its contract. Assumes nothing.
use mathlib.Core.Path.{◌∙◌}
use Rattle.format.specs.Sheet.{sheet_text}
use Rattle.line_writer.proofs.LineLaws.{text_put}
use Rattle.plan.proofs.ReportLaws.{sheet_put}
use Rattle.plan.proofs.step.CredentialsState.write_text.Goals as goal

pub returns : goal.returns
returns c =
    let a = c.args in
    c.write_at.ensures.1
    ∙ sheet_put a.tables.now.writing a.self.now a.at a.buf.now a.tables.now.for_writing c.requires.0
    ∙ (text_put (sheet_text a.self.now) a.buf.now a.at c.requires.1).1

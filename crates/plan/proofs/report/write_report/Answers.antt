-- `plan::report::write_report` meets its contract. Assumes nothing.
use native.Mathlib.Omega.{arith}
use Rattle.plan.specs.Inside.{answers_text}
use Rattle.plan.proofs.ReportLaws.{report_done}
use Rattle.plan.proofs.report.write_report.Goals as goal

pub returns : goal.returns
returns g c =
    let a = c.args in
    let size = rw c.as_slice-results.ensures.value at c.results_length.ensures.0 in
    let results = rw c.as_slice-results.ensures.value at c.write_results-at.ensures in
    report_done (answers_text a.answers.now.items) (g.S.State.kind.text a.last.now) a.buf.now _ _ _ _ (omega (arith, size, c.text_length.ensures.0)) c.if-buf-size.false results.0 results.1 c.write_text.ensures

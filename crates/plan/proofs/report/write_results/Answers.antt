-- `plan::report::write_results` meets its contract. Assumes nothing.
use mathlib.Core.Path.{sym, ap, ◌∙◌}
use mathlib.Core.List.{[], ◌∷◌}
use native.Mathlib.Omega.{arith}
use lib.ListN.{length, length-append}
use Rattle.line_writer.specs.Inside.{Put}
use Rattle.plan.specs.Inside.{answer_text}
use Rattle.plan.proofs.ReportLaws.{answer_at, lines_step, lines_end, put_lines, result_put}
use Rattle.plan.proofs.report.write_results.Goals as goal

pub loop-answer-preserved : goal.loop-answer-preserved
loop-answer-preserved c =
    let l = c.loop-answer in
    let a = c.args in
    let h = c.loop-answer-test.true in
    let r = answer_at a.answers.now l.answer-index in
    let one = ap length (lines_step a.answers.now l.answer-index h) ∙ length-append (answer_text r) _ in
    let put = result_put a.tables.now.writing (r.code ∷ r.value ∷ r.cause ∷ []) l.buf l.at a.tables.now.for_writing (omega (arith, c.requires, l.invariant.1, l.invariant.2, one)) in
    let at = c.write_result-at.ensures.0 ∙ ap (λ (x : Put). x.at) put in
    let buf = c.write_result-at.ensures.1 ∙ ap (λ (x : Put). x.buffer) put in (
      l.invariant.0 ∙ put_lines a.answers.now l.answer-index h l.buf _ l.at _ at buf,
      omega (arith, l.invariant.1, one, at),
      c.write_result-at.auto.buf ∙ l.invariant.2,
    )

pub returns : goal.returns
returns c =
    let l = c.loop-answer in
    let none = lines_end c.args.answers.now l.answer-index c.loop-answer-test.false in
    (omega (arith, l.invariant.1, ap length none), sym (l.invariant.0 ∙ rw none))

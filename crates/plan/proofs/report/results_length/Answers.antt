-- `plan::report::results_length` meets its contract. Assumes nothing.
use mathlib.Core.Path.{ap}
use native.Mathlib.Omega.{arith}
use lib.ListN.{length}
use Rattle.plan.proofs.ReportLaws.{lines_length, lines_end}
use Rattle.plan.proofs.report.results_length.Goals as goal

pub loop-answer-preserved : goal.loop-answer-preserved
loop-answer-preserved c =
    let l = c.loop-answer in
    let code = rw c.from.ensures at c.decimal_length-code.ensures.0 in
    let cause = rw c.from-in-loop-answer.ensures at c.decimal_length-cause.ensures.0 in
    let one = lines_length c.args.answers.now l.answer-index c.loop-answer-test.true in
    (omega (arith, l.invariant.0, one, code, cause), omega (arith, l.invariant.1, c.decimal_length-code.ensures.1, c.decimal_length-cause.ensures.1))

pub returns : goal.returns
returns c =
    let l = c.loop-answer in
    (omega (arith, l.invariant.0, ap length (lines_end c.args.answers.now l.answer-index c.loop-answer-test.false)), omega arith)

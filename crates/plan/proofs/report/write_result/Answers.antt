-- `plan::report::write_result` meets its contract. Assumes nothing.
use Rattle.format.specs.Report.{result_kinds}
use Rattle.line_writer.specs.Inside.{lines_put}
use Rattle.plan.proofs.report.write_result.Goals as goal

pub returns : goal.returns
unfolding lines_put result_kinds
returns c =
    rw (← c.from-code.ensures, ← c.from-value.ensures, ← c.from-cause.ensures, ← c.write_decimal-p.ensures.0, ← c.write_decimal-p.ensures.1, ← c.write_hex-q.ensures.0, ← c.write_hex-q.ensures.1)
    c.write_decimal.ensures

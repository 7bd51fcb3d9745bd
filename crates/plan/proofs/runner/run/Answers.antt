-- `plan::runner::run` meets its contract. Assumes nothing.
use mathlib.Core.Path.{refl}
use Rattle.std.proofs.Common.{Ok, Err}
use Rattle.std.proofs.lemmas.Result.{err_from_is_err_and}
use Rattle.sheet_reader.proofs.Whole.{front_tells}
use Rattle.plan.proofs.RunLaws.{front_at_fault}
use Rattle.plan.proofs.runner.run.Goals as goal

pub returns-in_err-front : goal.returns-in_err-front
returns-in_err-front g c =
    let plan = c.args.plan.now in
    let e = err_from_is_err_and c.from_residual.result c.from_residual.ensures.1 in
    let t = front_tells c.both_tables-tables.result.reading plan (Err c.in_err-front.field-0.0) c.both_tables-tables.result.for_reading c.in_err-front.ensures in
    rw (e.1, e.2, front_at_fault g.S.State.kind plan c.in_err-front.field-0.0.line t) (refl, refl)

pub run_from-requires : goal.run_from-requires
run_from-requires g c =
    let t = front_tells c.both_tables-tables.result.reading c.args.plan.now (Ok c.in_ok-front.front) c.both_tables-tables.result.for_reading c.in_ok-front.ensures in
    (t.is, t.validity, c.requires)

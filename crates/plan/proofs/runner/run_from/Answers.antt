-- `plan::runner::run_from` meets its contract. Assumes nothing.
use mathlib.Core.Path.{refl, ◌∙◌}
use mathlib.Core.List.{[]}
use Rattle.std.proofs.lemmas.Result.{err_from_is_err_and}
use lib.ListN.{drop}
use Rattle.format.specs.Line.{read, fault_at}
use Rattle.plan.specs.Inside.{Ran}
use Rattle.plan.proofs.RunLaws.{not_true, not_false, steps_after}
use Rattle.plan.proofs.runner.run_from.Goals as goal

pub returns-in_err-run_steps : goal.returns-in_err-run_steps
returns-in_err-run_steps g c =
    let plan = c.args.plan.now in
    let front = c.args.front in
    let e = err_from_is_err_and c.from_residual.result c.from_residual.ensures.1 in
    let fault = fault_at c.in_err-run_steps.field-0.0.line in
    rw (e.1, e.2, steps_after g.S.State.kind plan front.credentials (drop front.end plan) c.at_start-state.result fault c.requires.0 c.at_start-state.ensures c.in_err-run_steps.ensures) (refl, refl)

pub returns-then-not-front : goal.returns-then-not-front
returns-then-not-front g c =
    let plan = c.args.plan.now in
    let front = c.args.front in
    let ran : Ran _ = record { answers = c.run_steps.new.answers.items; last = c.run_steps.new.state } in
    rw (steps_after g.S.State.kind plan front.credentials (drop front.end plan) c.at_start-state.result (read ran []) c.requires.0 c.at_start-state.ensures c.in_ok-run_steps.ensures, c.requires.1, not_true front.is_valid c.if-not-front.true)
    (refl, refl)

pub write_report-requires : goal.write_report-requires
write_report-requires g c =
    let plan = c.args.plan.now in
    let front = c.args.front in
    let ran : Ran _ = record { answers = c.run_steps.new.answers.items; last = c.run_steps.new.state } in
    c.requires.2 front.credentials (drop front.end plan) ran (c.requires.1 ∙ not_false front.is_valid c.if-not-front.false) (rw (← c.at_start-state.ensures, ← c.in_ok-run_steps.ensures))

pub returns : goal.returns
returns g c =
    let plan = c.args.plan.now in
    let front = c.args.front in
    let ran : Ran _ = record { answers = c.run_steps.new.answers.items; last = c.run_steps.new.state } in
    rw (steps_after g.S.State.kind plan front.credentials (drop front.end plan) c.at_start-state.result (read ran []) c.requires.0 c.at_start-state.ensures c.in_ok-run_steps.ensures, c.requires.1, not_false front.is_valid c.if-not-front.false)
    c.write_report.ensures

-- `plan::slot_step::ThreadsState::take_step` meets its contract. Assumes nothing.
use mathlib.Core.Path.{sym, ap, ◌∙◌}
use native.Mathlib.Omega.{arith}
use Rattle.std.proofs.Common.{Ok, Err}
use Rattle.std.proofs.lemmas.Result.{err_from_is_err_and}
use lib.ListN.{drop}
use Rattle.format.specs.Line.{read, mapped}
use Rattle.slot_format.specs.SlotPlan.{read_slot_step}
use Rattle.threads.specs.Step.{SlotStep, step_in}
use Rattle.threads.specs.declared.SlotResult.{SlotResult}
use Rattle.plan.specs.Inside.{slot_said, table_taken}
use Rattle.plan.proofs.RunLaws.{below_mapped}
use Rattle.plan.proofs.SlotSteps.{turn_taken}
use Rattle.plan.proofs.StepLaws.{slot_step_read}
use Rattle.plan.proofs.slot_step.ThreadsState.take_step.Goals as goal

pub returns-in_err-lines : goal.returns-in_err-lines
returns-in_err-lines c =
    let a = c.args in
    let does = λ (s : SlotStep). table_taken (step_in a.self.now s) in
    let e = err_from_is_err_and c.from_residual.result c.from_residual.ensures.1 in
    let s = slot_step_read a.tables.now.reading a.text.now a.place a.tables.now.for_reading (Err c.in_err-lines.field-0.0) c.requires c.in_err-lines.ensures in
    rw (e.1, e.2) (sym (below_mapped a.place.lines does (read_slot_step (drop a.place.at a.text.now)) ∙ ap (mapped does) s.0), tt)

pub returns : goal.returns
returns c =
    let a = c.args in
    let does = λ (s : SlotStep). table_taken (step_in a.self.now s) in
    let lines = c.in_ok-lines.lines in
    let turn = c.turn_of-turn in
    let s = slot_step_read a.tables.now.reading a.text.now a.place a.tables.now.for_reading (Ok (slot_said lines, c.in_ok-lines.end)) c.requires c.in_ok-lines.ensures in
    let done = turn_taken a.self.now _ lines turn.result c.place-i.ensures.0 turn.ensures.0 in (
      sym (
          below_mapped a.place.lines does (read_slot_step (drop a.place.at a.text.now))
          ∙ ap (mapped does) s.0
          ∙ ap (λ (r : SlotResult). read (table_taken r) (drop c.in_ok-lines.end.at a.text.now)) (sym done)
          ),
      (s.1, omega (arith, s.1)),
    )

-- `plan::step::CredentialsState::take_step` meets its contract. Assumes nothing.
use mathlib.Core.Path.{sym, ap, ◌∙◌}
use native.Mathlib.Omega.{arith}
use Rattle.std.proofs.Common.{Ok, Err}
use Rattle.std.proofs.lemmas.Result.{err_from_is_err_and}
use lib.ListN.{drop}
use Rattle.rules.specs.Run.{Step, result}
use Rattle.format.specs.Line.{mapped}
use Rattle.format.specs.Step.{read_step}
use Rattle.plan.specs.Inside.{said, thread_taken}
use Rattle.plan.proofs.RunLaws.{below_mapped}
use Rattle.plan.proofs.StepLaws.{step_read}
use Rattle.plan.proofs.Values.{answer_small}
use Rattle.plan.proofs.step.CredentialsState.take_step.Goals as goal

-- what the call gives fits 32 bits
pub overflow_cast-given : goal.overflow_cast-given
overflow_cast-given c =
    let step = c.in_ok-step.step in
    let given = rw c.perform-answer.ensures at c.value.ensures in
    omega (arith, given, answer_small c.args.self.now step.number step.a step.b step.c c.as_slice-attribute.result.now)

pub returns-in_err-step : goal.returns-in_err-step
returns-in_err-step c =
    let a = c.args in
    let does = λ (s : Step). thread_taken (result a.self.now s) in
    let e = err_from_is_err_and c.from_residual.result c.from_residual.ensures.1 in
    let s = step_read a.tables.now.reading a.text.now a.place a.tables.now.for_reading (Err c.in_err-step.field-0.0) c.requires c.in_err-step.ensures in
    rw (e.1, e.2) (sym (below_mapped a.place.lines does (read_step (drop a.place.at a.text.now)) ∙ ap (mapped does) s.0), tt)

pub returns : goal.returns
unfolding result
returns c =
    let a = c.args in
    let does = λ (s : Step). thread_taken (result a.self.now s) in
    let s = step_read a.tables.now.reading a.text.now a.place a.tables.now.for_reading (Ok (said c.in_ok-step.step, c.in_ok-step.end)) c.requires c.in_ok-step.ensures in
    let read = below_mapped a.place.lines does (read_step (drop a.place.at a.text.now)) ∙ ap (mapped does) s.0 in
    (rw (read, c.after.ensures, c.value.ensures, c.cause.ensures, c.code.ensures, c.perform-answer.ensures, c.as_slice-attribute.ensures), (s.1, omega (arith, s.1)))

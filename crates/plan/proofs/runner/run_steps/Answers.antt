-- `plan::runner::run_steps` meets its contract. Assumes nothing.
use mathlib.Core.Path.{sym, ap, ◌∙◌}
use Prim.Native.Nat.{◌+◌, ◌-◌}
use native.Mathlib.Omega.{arith}
use borrow.Author.Tests.{eqb-true, eqb-false}
use Rattle.std.proofs.lemmas.Result.{err_from_is_err_and}
use lib.ListN.{length, drop}
use Rattle.plan.specs.Inside.{Taken}
use Rattle.plan.proofs.RunLaws.{grown, grown_all, ran_end, ran_full, ran_fault, ran_step}
use Rattle.plan.proofs.runner.run_steps.Goals as goal

pub returns-then-is_full : goal.returns-then-is_full
returns-then-is_full g c =
    let l = c.loop-place in
    let full = eqb-true _ _ (sym c.if-is_full.ensures.value) in
    sym (l.invariant.0 ∙ ap (grown l.place.lines l.answers.items) (ran_full g.S.State.kind l.place.at c.args.text.now l.state (256 - length l.answers.items) (omega (arith, full)) c.loop-place-test.true))

pub returns-in_err-answer : goal.returns-in_err-answer
returns-in_err-answer g c =
    let l = c.loop-place in
    let n = length l.answers.items in
    let room = eqb-false _ _ (sym c.if-is_full.ensures.value) in
    let e = err_from_is_err_and c.from_residual.result c.from_residual.ensures.1 in
    rw (e.1, e.2)
    (ran_fault g.S.State.kind l.place.at c.args.text.now l.state (256 - n) (256 - (n + 1)) l.place.lines c.in_err-answer.field-0.0.line l.answers.items (omega (arith, room)) c.loop-place-test.true c.in_err-answer.ensures.0
    ∙ sym l.invariant.0)

pub loop-place-preserved : goal.loop-place-preserved
loop-place-preserved g c =
    let l = c.loop-place in
    let k = g.S.State.kind in
    let room = eqb-false _ _ (sym c.if-is_full.ensures.value) in
    let next = c.in_ok-answer.next in
    let rest = drop next.at c.args.text.now in
    let taken : Taken _ = record { answer = c.in_ok-answer.answer; state = c.take_step.new.self } in
    let answers = c.push.new.self.items in
    let left = 256 - length answers in (
      l.invariant.0
          ∙ ran_step k l.place.at c.args.text.now l.state (256 - length l.answers.items) left l.place.lines l.answers.items taken rest (omega (arith, room, c.push.ensures.len)) c.loop-place-test.true c.in_ok-answer.ensures.0
          ∙ rw (← c.push.ensures.items, ← c.in_ok-answer.ensures.1.0),
      omega (arith, room, c.push.ensures.len),
      omega (arith, l.invariant.2, c.in_ok-answer.ensures.1.1, c.push.ensures.len),
    )

pub returns : goal.returns
returns g c =
    let l = c.loop-place in
    let end = ran_end g.S.State.kind l.place.at c.args.text.now l.state (256 - length l.answers.items) c.loop-place-test.false in
    sym (l.invariant.0 ∙ ap (grown l.place.lines l.answers.items) end ∙ grown_all l.place.lines l.answers.items l.state)

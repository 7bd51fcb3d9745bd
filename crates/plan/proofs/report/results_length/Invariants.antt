-- `plan::report::results_length`: what its loop keeps.
use mathlib.Core.Path.{◌≡◌}
use Prim.Native.Nat.{◌≤◌, ◌+◌, ◌*◌}
use lib.ListN.{length, drop}
use Rattle.plan.specs.Inside.{answers_text}
use Rattle.plan.proofs.report.results_length.Given as goal

abbrev pub invariant-loop-answer : goal.invariant-loop-answer
invariant-loop-answer l = (length (answers_text l.answers) ≡ l.n + length (answers_text (drop l.answer-index l.answers))) × (l.n ≤ 80 * l.answer-index)

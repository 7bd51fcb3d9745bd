-- `plan::report::write_results`: what its loop keeps.
use mathlib.Core.Path.{◌≡◌}
use Prim.Native.Nat.{◌+◌}
use lib.ListN.{length, drop}
use lib.Seq.{sets}
use Rattle.plan.specs.Inside.{answers_text}
use Rattle.plan.proofs.report.write_results.Given as goal

abbrev pub invariant-loop-answer : goal.invariant-loop-answer
invariant-loop-answer l = (sets l.initial.buf 0 (answers_text l.answers) ≡ sets l.buf l.at (answers_text (drop l.answer-index l.answers))) × (length (answers_text l.answers) ≡ l.at + length (answers_text (drop l.answer-index l.answers))) × (length l.buf ≡ length l.initial.buf)

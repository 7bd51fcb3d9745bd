-- `plan::runner::run_steps`: what its loop keeps, and why it ends.
use mathlib.Core.Path.{◌≡◌}
use Prim.Native.Nat.{◌≤◌, ◌+◌, ◌-◌, ◌*◌}
use lib.ListN.{length, drop}
use Rattle.format.specs.Line.{below}
use Rattle.plan.specs.Inside.{ran_by}
use Rattle.plan.proofs.RunLaws.{grown}
use Rattle.plan.proofs.runner.run_steps.Given as goal

abbrev pub invariant-loop-place : goal.invariant-loop-place
invariant-loop-place g l =
    let k = g.S.State.kind in
    (below l.fn.first.lines (ran_by k 256 l.initial.state (drop l.fn.first.at l.text)) ≡ grown l.place.lines l.answers.items (ran_by k (256 - length l.answers.items) l.state (drop l.place.at l.text)))
    × (length l.answers.items ≤ 256)
    × (l.place.lines ≤ 15 + 6 * length l.answers.items)

abbrev pub decreases-loop-place : goal.decreases-loop-place
decreases-loop-place g l = 256 - length l.answers.items

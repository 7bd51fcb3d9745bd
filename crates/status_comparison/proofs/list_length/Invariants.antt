-- `status_comparison::list_length`: what its loop keeps.
use mathlib.Core.Path.{◌≡◌}
use Prim.Native.Nat.{◌+◌, ◌*◌, ◌≤◌}
use lib.ListN.{length, take}
use Rattle.status_comparison.specs.Lines.{lines_text}
use Rattle.status_comparison.proofs.list_length.Given as goal

abbrev pub invariant-loop-line : goal.invariant-loop-line
invariant-loop-line l = (l.n ≡ 36 + length (lines_text (take l.line-index l.lines))) × (l.n ≤ 36 + 54 * l.line-index)

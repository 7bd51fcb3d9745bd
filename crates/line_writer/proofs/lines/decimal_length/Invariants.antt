-- `line_writer::lines::decimal_length`: what its loops keep, and why they end.
use mathlib.Core.Path.{◌≡◌}
use Prim.Native.Nat.{◌≤◌, ◌+◌}
use lib.ListN.{length}
use Rattle.format.specs.Line.{decimal_text}
use Rattle.line_writer.proofs.lines.decimal_length.Given as goal

abbrev pub invariant-loop-w : goal.invariant-loop-w
invariant-loop-w l = (length (decimal_text l.v) + 1 ≡ l.n + length (decimal_text l.w)) × (length (decimal_text l.v) ≤ 20)

abbrev pub decreases-loop-w : goal.decreases-loop-w
decreases-loop-w l = l.w

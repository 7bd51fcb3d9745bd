-- `line_reader::lines::digits_at`: what its loops keep, and why they end.
use Rattle.std.proofs.Common.{◌≡◌, ◌-◌, ◌≤◌, length, drop}
use Rattle.format.specs.Line.{read_digits}
use Rattle.line_reader.proofs.lines.digits_at.Given as goal

abbrev pub invariant-loop-i : goal.invariant-loop-i
invariant-loop-i l = (read_digits l.largest l.first (drop l.at l.text) ≡ read_digits l.largest l.v (drop l.i l.text)) × (l.v ≤ l.largest)

abbrev pub decreases-loop-i : goal.decreases-loop-i
decreases-loop-i l = length l.text - l.i

-- `line_reader::lines::starts_with`: what its loops keep, and why they end.
use Rattle.std.proofs.Common.{◌≡◌, ◌+◌, ◌-◌, ◌≤◌, drop}
use Rattle.format.specs.Line.{starts_with}
use Rattle.line_reader.proofs.lines.starts_with.Given as goal

abbrev pub invariant-loop-k : goal.invariant-loop-k
invariant-loop-k l = (starts_with l.key (drop l.at l.text) ≡ starts_with (drop l.k l.key) (drop (l.at + l.k) l.text)) × (l.k ≤ l.n)

abbrev pub decreases-loop-k : goal.decreases-loop-k
decreases-loop-k l = l.n - l.k

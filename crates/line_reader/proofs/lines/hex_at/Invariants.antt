-- `line_reader::lines::hex_at`: what its loops keep, and why they end.
use Rattle.std.proofs.Common.{◌≡◌, ◌+◌, ◌-◌, ◌^◌, ◌<◌, ◌≤◌, drop}
use Rattle.line_reader.specs.Inside.{hex_of}
use Rattle.line_reader.proofs.lines.hex_at.Given as goal

abbrev pub invariant-loop-k : goal.invariant-loop-k
invariant-loop-k l = (hex_of l.table l.n 0 (drop l.at l.text) ≡ hex_of l.table (l.n - l.k) l.v (drop (l.at + l.k) l.text)) × (l.k ≤ l.n) × (l.v < 16 ^ l.k)

abbrev pub decreases-loop-k : goal.decreases-loop-k
decreases-loop-k l = l.n - l.k

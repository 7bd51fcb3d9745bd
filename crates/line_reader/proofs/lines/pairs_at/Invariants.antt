-- `line_reader::lines::pairs_at`: what its loops keep, and why they end.
use Rattle.std.proofs.Common.{◌≡◌, ◌-◌, ◌≤◌, [], length, take, drop, replicate}
use Rattle.hex_tables.specs.Tables.{read_pairs_by}
use Rattle.line_reader.proofs.lines.pairs_at.Given as goal

abbrev pub invariant-loop-i : goal.invariant-loop-i
invariant-loop-i l = (read_pairs_by l.table 24 [] (drop l.start l.text) ≡ read_pairs_by l.table (24 - l.n) (take l.n l.bytes) (drop l.i l.text))
    × (l.n ≤ 24) × (length l.bytes ≡ 24) × (drop l.n l.bytes ≡ replicate (24 - l.n) 0)

abbrev pub decreases-loop-i : goal.decreases-loop-i
decreases-loop-i l = length l.text - l.i

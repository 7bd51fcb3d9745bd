-- `names_reader::words::search_at`: what its loop keeps.
use mathlib.Core.List.{map}
use mathlib.Core.Path.{◌≡◌}
use Prim.Native.Nat.{◌+◌, ◌≤◌}
use lib.ListN.{length, drop}
use Rattle.names_reader.specs.Inside.{row_of, rows, find}
use Rattle.names_reader.proofs.words.search_at.Given as goal

abbrev pub invariant-loop-name : goal.invariant-loop-name
invariant-loop-name l = (find l.at 0 rows (drop l.at l.text) ≡ find l.at l.best (map row_of (drop l.name-index l.name-items)) (drop l.at l.text)) × (l.at + l.best ≤ length l.text)

-- `names_reader::subjects::names_at`: what its loops keep, and why they end.
use Prim.Native.Nat.{◌-◌, ◌≤◌}
use lib.ListN.{length}
use Prim.Native.Nat.{ℕ}
use Rattle.names_reader.specs.Inside.{NamesTold, Parsed}
use Rattle.names_reader.proofs.subjects.names_at.Given as goal

abbrev pub invariant-loop-i : goal.invariant-loop-i
invariant-loop-i l = ((r : Parsed ℕ) → NamesTold r l.text l.i l.all → NamesTold r l.text l.at l.c) × (l.at ≤ l.i)

abbrev pub decreases-loop-i : goal.decreases-loop-i
decreases-loop-i l = length l.text - l.i

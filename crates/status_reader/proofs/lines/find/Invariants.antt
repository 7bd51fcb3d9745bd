-- `status_reader::lines::find`: what its loop keeps.
use mathlib.Core.Path.{◌≡◌}
use Prim.Native.Nat.{◌+◌}
use lib.ListN.{length, drop}
use Rattle.status.specs.Reading.{up_to}
use Rattle.status_reader.proofs.lines.find.Given as goal

abbrev pub invariant-loop-i : goal.invariant-loop-i
invariant-loop-i l = length (up_to l.b l.text) ≡ l.i + length (up_to l.b (drop l.i l.text))

-- `status_reader::values::decimal_value`: what its loop keeps.
use mathlib.Core.Path.{◌≡◌}
use Prim.Native.Nat.{◌≤◌}
use lib.ListN.{drop}
use Rattle.format.specs.Line.{decimal}
use Rattle.status.specs.Reading.{value_of}
use Rattle.status_reader.proofs.ValueLaws.{decimal_left}
use Rattle.status_reader.proofs.values.decimal_value.Given as goal

abbrev pub invariant-loop-b : goal.invariant-loop-b
invariant-loop-b l = (value_of (decimal l.largest) l.part ≡ decimal_left l.largest l.value (drop l.b-index l.further)) × (l.value ≤ l.largest)

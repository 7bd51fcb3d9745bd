-- `status_reader::values::set_value`: what its loop keeps.
use mathlib.Core.Path.{◌≡◌}
use Prim.Native.Nat.{◌<◌, ◌-◌, ◌^◌}
use lib.ListN.{length, drop}
use Rattle.status.specs.Lines.{set_form}
use Rattle.status.specs.Reading.{value_of}
use Rattle.status_reader.proofs.ValueLaws.{hex_left}
use Rattle.status_reader.proofs.values.set_value.Given as goal

abbrev pub invariant-loop-b : goal.invariant-loop-b
invariant-loop-b l =
    (length l.part ≡ 16) × (value_of set_form l.part ≡ hex_left (16 - l.b-index) l.value (drop l.b-index l.part)) × (l.value < 16 ^ l.b-index)

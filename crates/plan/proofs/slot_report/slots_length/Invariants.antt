-- `plan::slot_report::slots_length`: what its loop keeps.
use mathlib.Core.Path.{◌≡◌}
use Prim.Native.Nat.{◌≤◌, ◌+◌, ◌-◌, ◌*◌}
use lib.ListN.{length}
use Rattle.slot_format.specs.SlotReport.{slots_text, table_text}
use Rattle.plan.proofs.slot_report.slots_length.Given as goal

abbrev pub invariant-loop-slot : goal.invariant-loop-slot
invariant-loop-slot l = (length (table_text l.table) ≡ l.n + length (slots_text l.table l.slot (96 - l.slot))) × (l.n ≤ l.slot * 390)

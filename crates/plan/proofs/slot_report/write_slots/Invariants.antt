-- `plan::slot_report::write_slots`: what its loop keeps.
use mathlib.Core.Path.{◌≡◌}
use Prim.Native.Nat.{◌+◌, ◌-◌}
use lib.ListN.{length}
use lib.Seq.{sets}
use Rattle.slot_format.specs.SlotReport.{slots_text, table_text}
use Rattle.plan.proofs.slot_report.write_slots.Given as goal

abbrev pub invariant-loop-slot : goal.invariant-loop-slot
invariant-loop-slot l = (sets l.initial.buf l.at (table_text l.table) ≡ sets l.buf l.past (slots_text l.table l.slot (96 - l.slot))) × (l.at + length (table_text l.table) ≡ l.past + length (slots_text l.table l.slot (96 - l.slot))) × (length l.buf ≡ length l.initial.buf)

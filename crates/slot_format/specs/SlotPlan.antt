-- The slot plan ("The whole machine, not one thread"): a sheet, then 0 to 256 steps, each a plan's with a line before it that names the slot. Assumes nothing.
use Rattle.std.specs.Prelude.{ℕ, ◌+◌, List, ◌++◌, length}
use Rattle.format.specs.Line.{Kind, kind, decimal, line_text, Read, next, mapped, read_line}
use Rattle.format.specs.Step.{step_kinds, step_text, read_step}
use Rattle.format.specs.Plan.{PlanOf, plan_text_by, read_many, read_plan_by}
use Rattle.threads.specs.Step.{SlotStep}

-- the line that names a slot, written as a call's number is: 0 to 99
abbrev pub slot_kind : Kind
slot_kind = kind "slot=" (decimal 99)

-- what a slot plan holds: the credentials of slot 0 at the start, and the steps
abbrev pub SlotPlan : Type 0
SlotPlan = PlanOf SlotStep

-- ---- written

-- the six lines of a step
unfoldable pub slot_step_text : SlotStep → List ℕ
slot_step_text s = line_text slot_kind s.slot ++ step_text s.step

abbrev pub slot_plan_text : SlotPlan → List ℕ
slot_plan_text p = plan_text_by slot_step_text p

-- ---- read

-- a step and the text after it, or the line of its first fault, 1 to 6
unfoldable pub read_slot_step : List ℕ → Read SlotStep
read_slot_step t = next 1 (read_line slot_kind t) (λ slot rest. mapped (λ x. record { slot = slot; step = x }) (read_step rest))

-- how many lines a step has
abbrev pub slot_step_lines : ℕ
slot_step_lines = length step_kinds + 2

-- up to n steps, and a slot plan of them: as a plan is read, and as many steps at most
abbrev pub read_slot_steps : ℕ → List ℕ → Read (List SlotStep)
read_slot_steps n t = read_many slot_step_lines read_slot_step n t

abbrev pub read_slot_plan : List ℕ → Read SlotPlan
read_slot_plan t = read_plan_by slot_step_lines read_slot_step t

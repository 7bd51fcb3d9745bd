-- Slot plans written and read, each from the other: the statements, which proofs/RoundTrip.antt proves. Assumes nothing.
use Rattle.std.specs.Prelude.{ℕ, ◌≤◌, ◌≡◌, List, [], ◌++◌}
use Rattle.format.specs.Line.{read}
use Rattle.format.specs.RoundTrip.{Writable, WritablePlanOf}
use Rattle.threads.specs.Step.{SlotStep}
use Rattle.slot_format.specs.SlotPlan.{slot_step_text, read_slot_step, SlotPlan, slot_plan_text, read_slot_plan}

-- what a step of a slot plan can hold: a slot up to 99, and what a plan's step can
pub record WritableSlotStep (s : SlotStep) : Type 0 where
  pub slot : s.slot ≤ 99
  pub step : Writable s.step

-- what a slot plan can hold: what a plan can, with such steps
abbrev pub WritableSlotPlan : SlotPlan → Type 0
WritableSlotPlan p = WritablePlanOf WritableSlotStep p

pub record SlotRoundTrip : Type 0 where
  -- a text is read as a step exactly if it begins with that step's written form
  pub step_written_read : (s : SlotStep) (rest : List ℕ) → WritableSlotStep s → read_slot_step (slot_step_text s ++ rest) ≡ read s rest
  pub step_read_written : (text : List ℕ) (s : SlotStep) (rest : List ℕ) → read_slot_step text ≡ read s rest
      → (text ≡ slot_step_text s ++ rest) × WritableSlotStep s
  -- a text is read as a slot plan exactly if it is that slot plan's written form
  pub written_read : (p : SlotPlan) → WritableSlotPlan p → read_slot_plan (slot_plan_text p) ≡ read p []
  pub read_written : (text : List ℕ) (p : SlotPlan) (rest : List ℕ) → read_slot_plan text ≡ read p rest
      → (text ≡ slot_plan_text p) × (rest ≡ []) × WritableSlotPlan p

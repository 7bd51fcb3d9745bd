-- The report of a slot plan ("The whole machine, not one thread"). What the runner answers and leaves for it is what it answers and leaves for a plan:
-- `outcome` and `buffer` of format/specs/Report.antt. Assumes nothing.
use Rattle.std.specs.Prelude.{ℕ, zero, suc, List, [], ◌∷◌, ◌++◌, cond}
use Rattle.credentials.specs.declared.Credentials.{Credentials}
use Rattle.format.specs.Line.{line_text, lines_text}
use Rattle.format.specs.Sheet.{sheet_text}
use Rattle.format.specs.Plan.{many_text}
use Rattle.format.specs.Report.{result_kinds, Verdict, judged_by}
use Rattle.threads.specs.Step.{run_in, ends}
use Rattle.threads.specs.Table.{SLOTS, held, in_use, fresh}
use Rattle.threads.specs.declared.SlotResult.{SlotResult}
use Rattle.threads.specs.declared.Threads.{Threads}
use Rattle.slot_format.specs.SlotPlan.{slot_kind, SlotPlan, read_slot_plan}

-- the three lines of a step's result, as in a plan's report
unfoldable pub slot_result_text : SlotResult → List ℕ
slot_result_text r = lines_text result_kinds (r.code ∷ r.value ∷ r.cause ∷ [])

-- a slot's line and its sheet
unfoldable pub slot_text : ℕ → Credentials → List ℕ
slot_text slot c = line_text slot_kind slot ++ sheet_text c

-- those of the n slots from k on that are in use, lowest first
unfoldable pub slots_text : Threads → ℕ → ℕ → List ℕ
slots_text table k zero = []
slots_text table k (suc n) = cond (in_use table k) (slot_text k (held table k)) [] ++ slots_text table (suc k) n

-- those of a table
abbrev pub table_text : Threads → List ℕ
table_text table = slots_text table 0 SLOTS

-- the results of the steps, each in the table that the last one left, refused ones included; then each slot that is in use at the end
unfoldable pub slot_report_text : SlotPlan → List ℕ
slot_report_text p = many_text slot_result_text (run_in (fresh p.start) p.steps) ++ table_text (ends (fresh p.start) p.steps)

-- what a slot plan's text comes to, before the buffer is looked at: as a whole 70, then 72, which is asked of the sheet
unfoldable pub slot_verdict : List ℕ → Verdict
slot_verdict text = judged_by slot_report_text (read_slot_plan text)

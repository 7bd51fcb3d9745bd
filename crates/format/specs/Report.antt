-- The report ("Sheet, plan and report"), and what the plan runner answers ("What comes back"). Assumes nothing.
use Rattle.std.specs.Prelude.{ℕ, ◌+◌, ◌*◌, List, [], ◌∷◌, ◌++◌, cond, leb, length, drop, Ok, Err}
use Rattle.std.specs.Prelude.{Result as Answer}
use Rattle.credentials.specs.Validity.{valid}
use Rattle.rules.specs.Run.{Result, run, left}
use Rattle.format.specs.declared.PlanError.{PlanError}
use Rattle.format.specs.declared.PlanError.TheVariants.{Malformed, Invalid, NoRoom}
use Rattle.format.specs.Line.{Kind, kind, decimal, hex, lines_text, Read, read, fault_at}
use Rattle.format.specs.Sheet.{sheet_text}
use Rattle.format.specs.Plan.{PlanOf, Plan, read_plan}

-- the three lines of a step's result: code in decimal, value in 16 hex digits, cause in decimal ("Why it was refused")
unfoldable pub result_kinds : List Kind
result_kinds = kind "code=" (decimal 99) ∷ kind "value=" (hex 16) ∷ kind "cause=" (decimal 11) ∷ []

unfoldable pub result_text : Result → List ℕ
result_text r = lines_text result_kinds (r.code ∷ r.value ∷ r.cause ∷ [])

-- three lines for each result
unfoldable pub results_text : List Result → List ℕ
results_text [] = []
results_text (r ∷ rs) = result_text r ++ results_text rs

-- the results of the steps, each from the state before it, refused ones included; then the sheet of the last state
unfoldable pub report_text : Plan → List ℕ
report_text p = results_text (run p.start p.steps) ++ sheet_text (left p.start p.steps)

-- what a plan's text comes to, before the buffer is looked at
pub data Verdict : Type 0 where
  report : List ℕ → Verdict
  malformed : ℕ → Verdict
  invalid : Verdict

-- of a plan with steps of some kind, by its report: 70 anywhere in the text comes before 72
abbrev pub judged_by : {A : Type 0} → (PlanOf A → List ℕ) → Read (PlanOf A) → Verdict
judged_by text (read p t) = cond (valid p.start) (report (text p)) invalid
judged_by text (fault_at line) = malformed line

unfoldable pub verdict : List ℕ → Verdict
verdict text = judged_by report_text (read_plan text)

-- what the runner answers, with a buffer of some length: the report's length, or why the plan is refused; 28 comes last
abbrev pub outcome : Verdict → ℕ → Answer ℕ PlanError
outcome (report t) room = cond (leb (length t) room) (Ok (length t)) (Err NoRoom)
outcome (malformed line) room = Err (Malformed line)
outcome invalid room = Err Invalid

-- the number of each refusal, and its line, 0 but for 70
abbrev pub plan_code : PlanError → ℕ
plan_code (Malformed line) = 70
plan_code Invalid = 72
plan_code NoRoom = 28

abbrev pub plan_line : PlanError → ℕ
plan_line (Malformed line) = line
plan_line Invalid = 0
plan_line NoRoom = 0

-- the buffer afterwards: the report and past it what was there; where the plan is refused, as it was
abbrev pub buffer : Verdict → List ℕ → List ℕ
buffer (report t) old = cond (leb (length t) (length old)) (t ++ drop (length t) old) old
buffer (malformed line) old = old
buffer invalid old = old

-- the C interface's number: the report's length, or the code times 4294967296, plus the line
abbrev pub c_number : Answer ℕ PlanError → ℕ
c_number (Ok size) = size
c_number (Err e) = plan_code e * 4294967296 + plan_line e

-- How the values of private functions stand for those of the format and the rules; no public contract cites these. Assumes nothing.
use Rattle.std.specs.Prelude.{ℕ, zero, suc, ◌≡◌, true, cond, List, [], ◌∷◌, ◌++◌, drop, Ok, Err}
use Rattle.std.specs.Prelude.{Result as Answer}
use Rattle.credentials.specs.declared.Credentials.{Credentials}
use Rattle.credentials.specs.Validity.{valid}
use Rattle.rules.specs.Run.{Step, Result, result}
use Rattle.format.specs.Line.{decimal, lines_text, Read, read, fault_at, below, next, mapped}
use Rattle.format.specs.Sheet.{sheet_text, read_front}
use Rattle.format.specs.Step.{step_kinds, attribute_key, step_of, read_step}
use Rattle.format.specs.Plan.{many_text}
use Rattle.format.specs.Report.{result_kinds, Verdict, report, malformed, invalid}
use Rattle.line_reader.specs.Positions.{Reading, valued, followed, number_at, lines_by, attribute_by}
use Rattle.line_reader.specs.declared.Fault.{Fault}
use Rattle.line_reader.specs.declared.Place.{Place}
use Rattle.slot_format.specs.SlotPlan.{slot_kind, read_slot_step}
use Rattle.slot_format.specs.SlotReport.{table_text}
use Rattle.threads.specs.Step.{SlotStep, step_in}
use Rattle.threads.specs.Table.{held, in_use, fresh}
use Rattle.threads.specs.declared.SlotResult.{SlotResult}
use Rattle.threads.specs.declared.Threads.{Threads}
use Rattle.plan.specs.declared.slot_step.SlotLines.{SlotLines}
use Rattle.plan.specs.declared.state.StepAnswer.{StepAnswer}
use Rattle.plan.specs.declared.step.StepLines.{StepLines}

-- ---- a step, read

-- what its lines say
abbrev pub said : StepLines → Step
said l = record { number = l.number; a = l.a; b = l.b; c = l.c; attribute = l.attribute }

abbrev pub slot_said : SlotLines → SlotStep
slot_said l = record { slot = l.slot; step = said l.step }

-- the step at a place, with its hex digits by a table; by that for reading it is the format's
abbrev pub step_by : List ℕ → List ℕ → Place → Reading Step
step_by table text p =
    followed (lines_by table step_kinds text p) (λ vs q. valued (λ bs. step_of vs bs) (attribute_by table attribute_key text q))

abbrev pub slot_step_by : List ℕ → List ℕ → Place → Reading SlotStep
slot_step_by table text p =
    followed (number_at slot_kind.key (decimal 99) text p) (λ v q. valued (λ s. record { slot = v; step = s }) (step_by table text q))

-- ---- the two kinds of plan

-- a step taken: what it answers, and the state that it leaves
pub record Taken (S : Type 0) : Type 0 where
  pub answer : StepAnswer
  pub state : S

-- a kind of plan, by the state that its steps are taken in: how many lines a step has, the state at the start, a step read at the front of a text and taken,
-- and the lines of a state that the report ends with
pub record PlanKind (S : Type 0) : Type 0 where
  pub lines : ℕ
  pub start : Credentials → S
  pub taken : S → List ℕ → Read (Taken S)
  pub text : S → List ℕ

-- a plan, of one thread
abbrev pub thread_taken : Result → Taken Credentials
thread_taken r = record { answer = record { code = r.code; cause = r.cause; value = r.value }; state = r.after }

abbrev pub thread_kind : PlanKind Credentials
thread_kind =
    record {
      lines = 5;
      start = λ c. c;
      taken = λ c t. mapped (λ s. thread_taken (result c s)) (read_step t);
      text = sheet_text;
    }

-- a slot plan, of a table of threads
abbrev pub table_taken : SlotResult → Taken Threads
table_taken r = record { answer = record { code = r.code; cause = r.cause; value = r.value }; state = r.table }

abbrev pub table_kind : PlanKind Threads
table_kind =
    record {
      lines = 6;
      start = fresh;
      taken = λ table t. mapped (λ s. table_taken (step_in table s)) (read_slot_step t);
      text = table_text;
    }

-- each slot in use has valid credentials
abbrev pub UsedValid : Threads → Type 0
UsedValid table = (slot : ℕ) → in_use table slot ≡ true → valid (held table slot) ≡ true

-- ---- steps, read and taken one after the other

-- a step as the code takes it: what it answers and the place past it, or the fault, and the state that it leaves
abbrev pub seen_step : {S : Type 0} → Reading StepAnswer → S → List ℕ → Read (Taken S)
seen_step (Ok r) s text = read (record { answer = r.0; state = s }) (drop r.1.at text)
seen_step (Err e) s text = fault_at e.line

-- steps taken: what each answers, and the state that the last one leaves
pub record Ran (S : Type 0) : Type 0 where
  pub answers : List StepAnswer
  pub last : S

-- none
abbrev pub ran_none : {S : Type 0} → S → Ran S
ran_none s = record { answers = []; last = s }

-- one more in front
abbrev pub before : {S : Type 0} → StepAnswer → Ran S → Ran S
before r x = record { answers = r ∷ x.answers; last = x.last }

-- up to n steps, to the end of the text
unfoldable pub ran_by : {S : Type 0} → PlanKind S → ℕ → S → List ℕ → Read (Ran S)
ran_by k zero s [] = read (ran_none s) []
ran_by k zero s (b ∷ t) = fault_at 1
ran_by k (suc n) s [] = read (ran_none s) []
ran_by k (suc n) s (b ∷ t) = next k.lines (k.taken s (b ∷ t)) (λ x rest. mapped (before x.answer) (ran_by k n x.state rest))

-- steps as the code takes them
abbrev pub seen_steps : {S U : Type 0} → Answer U Fault → S → List StepAnswer → Read (Ran S)
seen_steps (Ok u) s rs = read (record { answers = rs; last = s }) []
seen_steps (Err e) s rs = fault_at e.line

-- ---- the report

-- the three lines of an answer
abbrev pub answer_text : StepAnswer → List ℕ
answer_text r = lines_text result_kinds (r.code ∷ r.value ∷ r.cause ∷ [])

-- those of each
abbrev pub answers_text : List StepAnswer → List ℕ
answers_text rs = many_text answer_text rs

-- ---- the plan as a whole

-- what steps come to after a sheet of these credentials
abbrev pub ran_verdict : {S : Type 0} → PlanKind S → Credentials → Read (Ran S) → Verdict
ran_verdict k c (read x t) = cond (valid c) (report (answers_text x.answers ++ k.text x.last)) invalid
ran_verdict k c (fault_at line) = malformed line

abbrev pub front_verdict : {S : Type 0} → PlanKind S → Read Credentials → Verdict
front_verdict k (read c rest) = ran_verdict k c (below 15 (ran_by k 256 (k.start c) rest))
front_verdict k (fault_at line) = malformed line

-- what the text of a plan of some kind comes to: `verdict` for one thread, `slot_verdict` for a table
unfoldable pub verdict_by : {S : Type 0} → PlanKind S → List ℕ → Verdict
verdict_by k text = front_verdict k (read_front text)

-- steps from a valid start end in a state of which something holds
abbrev pub EndsIn : {S : Type 0} → PlanKind S → (S → Type 0) → Type 0
EndsIn {S} k Sound = (c : Credentials) (rest : List ℕ) (x : Ran S) → valid c ≡ true → below 15 (ran_by k 256 (k.start c) rest) ≡ read x [] → Sound x.last

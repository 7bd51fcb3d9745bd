-- The plan ("Sheet, plan and report"): a sheet and 0 to 256 steps. Assumes nothing.
use Rattle.std.specs.Prelude.{ℕ, zero, suc, ◌+◌, List, [], ◌∷◌, ◌++◌, length}
use Rattle.credentials.specs.declared.Credentials.{Credentials}
use Rattle.rules.specs.Run.{Step}
use Rattle.format.specs.Line.{Read, read, fault_at, next, mapped}
use Rattle.format.specs.Sheet.{sheet_kinds, read_front, sheet_text}
use Rattle.format.specs.Step.{step_kinds, read_step, step_text}

-- what a plan with steps of some kind holds: the credentials at the start, and the steps
pub record PlanOf (A : Type 0) : Type 0 where
  pub start : Credentials
  pub steps : List A

abbrev pub Plan : Type 0
Plan = PlanOf Step

-- ---- written

-- texts one after the other
unfoldable pub many_text : {A : Type 0} → (A → List ℕ) → List A → List ℕ
many_text text [] = []
many_text text (x ∷ xs) = text x ++ many_text text xs

-- the sheet, then the steps
unfoldable pub plan_text_by : {A : Type 0} → (A → List ℕ) → PlanOf A → List ℕ
plan_text_by text p = sheet_text p.start ++ many_text text p.steps

abbrev pub plan_text : Plan → List ℕ
plan_text p = plan_text_by step_text p

-- ---- read

-- up to n texts of so many lines each, one after the other to the end of the text; one more is a fault at its first line, whatever stands there
unfoldable pub read_many : {A : Type 0} → ℕ → (List ℕ → Read A) → ℕ → List ℕ → Read (List A)
read_many lines one zero [] = read [] []
read_many lines one zero (b ∷ t) = fault_at 1
read_many lines one (suc n) [] = read [] []
read_many lines one (suc n) (b ∷ t) = next lines (one (b ∷ t)) (λ x rest. mapped (λ xs. x ∷ xs) (read_many lines one n rest))

-- the most steps of a plan
abbrev pub MOST_STEPS : ℕ
MOST_STEPS = 256

-- a whole text that is to be a plan with steps of so many lines each
unfoldable pub read_plan_by : {A : Type 0} → ℕ → (List ℕ → Read A) → List ℕ → Read (PlanOf A)
read_plan_by lines one t =
    next (length sheet_kinds) (read_front t) (λ c rest. mapped (λ ss. record { start = c; steps = ss }) (read_many lines one MOST_STEPS rest))

-- how many lines a step has
abbrev pub step_lines : ℕ
step_lines = length step_kinds + 1

-- up to n steps, and a plan of them
abbrev pub read_steps : ℕ → List ℕ → Read (List Step)
read_steps n t = read_many step_lines read_step n t

abbrev pub read_plan : List ℕ → Read Plan
read_plan t = read_plan_by step_lines read_step t

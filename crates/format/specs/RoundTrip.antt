-- Written and read, each from the other: the statements, which proofs/RoundTrip.antt proves. Assumes nothing.
use Rattle.std.specs.Prelude.{ℕ, ◌<◌, ◌≤◌, ◌^◌, ◌≡◌, true, List, [], ◌∷◌, ◌++◌, length, Ok}
use Rattle.attribute.specs.Words.{Bytes}
use Rattle.credentials.specs.Validity.{valid}
use Rattle.credentials.specs.declared.Ids.{Ids}
use Rattle.credentials.specs.declared.Credentials.{Credentials}
use Rattle.rules.specs.Run.{Step}
use Rattle.format.specs.Line.{read}
use Rattle.format.specs.Sheet.{sheet_text, read_sheet}
use Rattle.format.specs.Step.{step_text, read_step}
use Rattle.format.specs.Plan.{PlanOf, Plan, plan_text, read_plan}

-- sheets
pub record SheetRoundTrip : Type 0 where
  -- reading the sheet written for valid credentials gives them back
  pub written_read : (c : Credentials) → valid c ≡ true → read_sheet (sheet_text c) ≡ Ok c
  -- a text that is read as credentials is the sheet written for them, and they are valid
  pub read_written : (text : List ℕ) (c : Credentials) → read_sheet text ≡ Ok c → (text ≡ sheet_text c) × (valid c ≡ true)

-- what a step can hold: a number up to 99, operands of 64 bits, at most 24 attribute bytes
pub record Writable (s : Step) : Type 0 where
  pub number : s.number ≤ 99
  pub a : s.a < 2 ^ 64
  pub b : s.b < 2 ^ 64
  pub c : s.c < 2 ^ 64
  pub size : length s.attribute ≤ 24
  pub bytes : Bytes s.attribute

-- steps: a text is read as a step exactly if it begins with that step's written form
pub record StepRoundTrip : Type 0 where
  pub written_read : (s : Step) (rest : List ℕ) → Writable s → read_step (step_text s ++ rest) ≡ read s rest
  pub read_written : (text : List ℕ) (s : Step) (rest : List ℕ) → read_step text ≡ read s rest → (text ≡ step_text s ++ rest) × Writable s

-- four IDs that a sheet can hold: up to 4294967295
pub record WritableIds (u : Ids) : Type 0 where
  pub real : u.real ≤ 4294967295
  pub effective : u.effective ≤ 4294967295
  pub saved : u.saved ≤ 4294967295
  pub filesystem : u.filesystem ≤ 4294967295

-- what a sheet can hold, valid or not: such user and group IDs, sets of 64 bits, securebits up to 255
pub record WritableSheet (c : Credentials) : Type 0 where
  pub uids : WritableIds c.uids
  pub gids : WritableIds c.gids
  pub permitted : c.sets.permitted < 2 ^ 64
  pub inheritable : c.sets.inheritable < 2 ^ 64
  pub effective : c.sets.effective < 2 ^ 64
  pub bounding : c.sets.bounding < 2 ^ 64
  pub ambient : c.sets.ambient < 2 ^ 64
  pub securebits : c.securebits ≤ 255

-- something holds of each in a list
unfoldable pub Every : {A : Type 0} → (A → Type 0) → List A → Type 0
Every P [] = Unit
Every P (x ∷ xs) = P x × Every P xs

-- what a plan can hold, where a step can hold so much: such a start, and at most 256 such steps
pub record WritablePlanOf {A : Type 0} (Fit : A → Type 0) (p : PlanOf A) : Type 0 where
  pub start : WritableSheet p.start
  pub steps : Every Fit p.steps
  pub count : length p.steps ≤ 256

abbrev pub WritablePlan : Plan → Type 0
WritablePlan p = WritablePlanOf Writable p

-- plans: a text is read as a plan exactly if it is that plan's written form
pub record PlanRoundTrip : Type 0 where
  pub written_read : (p : Plan) → WritablePlan p → read_plan (plan_text p) ≡ read p []
  pub read_written : (text : List ℕ) (p : Plan) (rest : List ℕ) → read_plan text ≡ read p rest → (text ≡ plan_text p) × (rest ≡ []) × WritablePlan p

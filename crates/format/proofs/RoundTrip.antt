-- Written and read, each from the other: sheets, steps and plans. Assumes nothing.
use mathlib.Core.Path.{◌≡◌, refl, sym, ap, ◌∙◌}
use mathlib.Core.List.{List, [], ◌∷◌, append-nil}
use mathlib.Core.Bool.{Bool, true, false, cond}
use Prim.Native.Nat.{ℕ}
use native.Mathlib.Omega.{arith}
use Rattle.credentials.specs.Validity.{valid}
use Rattle.credentials.specs.declared.Credentials.{Credentials}
use Rattle.std.proofs.Common.{Ok, Err}
use Rattle.format.specs.declared.SheetError.TheVariants.{Invalid}
use Rattle.format.specs.Line.{Read, read, fault_at}
use Rattle.format.specs.Sheet.{sheet_text, read_front, whole_sheet, read_sheet}
use Rattle.format.specs.Step.{step_text, read_step}
use Rattle.format.specs.Plan.{step_lines}
use Rattle.format.specs.RoundTrip.{SheetRoundTrip, StepRoundTrip, Writable, PlanRoundTrip}
use Rattle.format.proofs.Plans.{plan_read, plan_written}
use Rattle.format.proofs.Sheets.{front_read, front_written, valid_writable}
use Rattle.format.proofs.Steps.{step_read, step_written, no_step}

-- ---- sheets

sheet_read : (c : Credentials) → valid c ≡ true → read_sheet (sheet_text c) ≡ Ok c
unfolding read_sheet
sheet_read c h =
    ap (λ (t : List ℕ). whole_sheet (read_front t)) (sym (append-nil (sheet_text c)))
    ∙ ap whole_sheet (front_read c [] (valid_writable c h))
    ∙ ap (λ (b : Bool). cond b (Ok c) (Err Invalid)) h

valid_told : (d c : Credentials) (b : Bool) → valid d ≡ b → cond b (Ok d) (Err Invalid) ≡ Ok c → (d ≡ c) × (valid d ≡ true)
valid_told d c true h e = (cc, h)
valid_told d c false h e = let z : ◌≡◌ {A = ℕ} 0 1 = cc in absurd (omega arith)

whole_told : (text : List ℕ) (c : Credentials) (r : Read Credentials) → read_front text ≡ r → whole_sheet r ≡ Ok c
    → (text ≡ sheet_text c) × (valid c ≡ true)
whole_told text c (read d []) q e =
    let v = valid_told d c (valid d) refl e in
    let f = front_written d text [] q in
    rw (← v.0) (f.0 ∙ append-nil (sheet_text d), v.1)
whole_told text c (read d (b ∷ t)) q e = let z : ◌≡◌ {A = ℕ} 0 1 = cc in absurd (omega arith)
whole_told text c (fault_at line) q e = let z : ◌≡◌ {A = ℕ} 0 1 = cc in absurd (omega arith)

sheet_written : (text : List ℕ) (c : Credentials) → read_sheet text ≡ Ok c → (text ≡ sheet_text c) × (valid c ≡ true)
unfolding read_sheet
sheet_written text c e = whole_told text c (read_front text) refl e

-- a sheet's text and valid credentials
pub sheet_round_trip : SheetRoundTrip
sheet_round_trip = record { written_read = sheet_read; read_written = sheet_written }

-- ---- steps

-- the text that begins with a step, and the step
pub step_round_trip : StepRoundTrip
step_round_trip = record { written_read = step_read; read_written = step_written }

-- ---- plans

-- a plan's text and the plan
pub plan_round_trip : PlanRoundTrip
plan_round_trip =
    record {
      written_read = plan_read step_lines read_step step_text Writable no_step step_read step_written;
      read_written = plan_written step_lines read_step step_text Writable no_step step_read step_written;
    }

-- Plans with steps of some kind: written and read, each from the other, how long they and their reports are, and a text that is cut. Assumes nothing.
use mathlib.Core.Path.{◌≡◌, refl, ap, ◌∙◌}
use mathlib.Core.Bool.{Bool, true, false, cond}
use mathlib.Core.List.{List, [], ◌++◌}
use Prim.Native.Nat.{ℕ, ◌+◌, ◌*◌, ◌≤◌}
use native.Mathlib.Nat.{mul-le-mul_right}
use native.Mathlib.Omega.{arith}
use lib.ListN.{length, length-append}
use Rattle.credentials.specs.Validity.{valid}
use Rattle.credentials.specs.declared.Credentials.{Credentials}
use Rattle.format.specs.Line.{Read, read, fault_at, fault, mapped, read_lines}
use Rattle.format.specs.Sheet.{id_kinds, uid_kinds, gid_kinds, set_kinds, flag_kinds, sheet_kinds, sheet_values, sheet_text, credentials_of, read_front}
use Rattle.format.specs.Plan.{PlanOf, many_text, plan_text_by, read_many, MOST_STEPS, read_plan_by}
use Rattle.format.specs.Report.{report, invalid, judged_by}
use Rattle.format.specs.RoundTrip.{WritableSheet, WritablePlanOf}
use Rattle.format.proofs.Alike.{Alike, mapped_alike, next_alike, lines_alike}
use Rattle.format.proofs.Lengths.{length_one, at_most, most_lines, length_lines}
use Rattle.format.proofs.Many.{many_read, many_written, length_many, many_alike}
use Rattle.format.proofs.Reading.{next_told, mapped_told}
use Rattle.format.proofs.Sheets.{values_fit, front_read, front_written}

-- ---- written and read

module _ {A : Type 0} (lines : ℕ) (one : List ℕ → Read A) (text : A → List ℕ) (Fit : A → Type 0) (none : one [] ≡ fault)
    (again : (x : A) (rest : List ℕ) → Fit x → one (text x ++ rest) ≡ read x rest)
    (written : (t : List ℕ) (x : A) (rest : List ℕ) → one t ≡ read x rest → (t ≡ text x ++ rest) × Fit x) where
  pub plan_read : (p : PlanOf A) → WritablePlanOf Fit p → read_plan_by lines one (plan_text_by text p) ≡ read p []
  unfolding read_plan_by plan_text_by
  plan_read p w =
      rw (
        front_read p.start (many_text text p.steps) w.start,
        many_read lines one text Fit none again written MOST_STEPS p.steps w.steps (omega (arith, w.count)),
      )

  pub plan_written : (t : List ℕ) (p : PlanOf A) (rest : List ℕ) → read_plan_by lines one t ≡ read p rest
      → (t ≡ plan_text_by text p) × (rest ≡ []) × WritablePlanOf Fit p
  unfolding read_plan_by plan_text_by
  plan_written t p rest e =
      let n = next_told p rest _ (read_front t) (λ c u. mapped (λ ss. record { start = c; steps = ss }) (read_many lines one MOST_STEPS u)) e in
      let m = mapped_told p rest (λ ss. record { start = n.0; steps = ss }) (read_many lines one MOST_STEPS n.1) n.3 in
      let f = front_written n.0 t n.1 n.2 in
      let s = many_written lines one text Fit none again written MOST_STEPS m.0 n.1 rest m.1 in
      rw (← m.2) (
        f.0 ∙ ap (λ (u : List ℕ). sheet_text n.0 ++ u) s.0,
        s.1,
        record { start = f.1; steps = s.2; count = omega (arith, s.3) },
      )

-- ---- lengths

-- 204 bytes without the digits of the IDs, and eight times 10 digits
pub most_sheet : most_lines sheet_kinds ≤ 284
unfolding most_lines id_kinds uid_kinds gid_kinds set_kinds flag_kinds sheet_kinds
most_sheet = omega (arith, at_most 9 4294967295 (omega arith), length_one 1 (omega arith))

pub length_sheet : (c : Credentials) → WritableSheet c → length (sheet_text c) ≤ 284
unfolding sheet_text
length_sheet c w = omega (arith, length_lines sheet_kinds (sheet_values c) (values_fit c w), most_sheet)

-- a plan with steps of at most so many bytes each
pub length_by : {A : Type 0} (text : A → List ℕ) (Fit : A → Type 0) (most : ℕ) → ((x : A) → Fit x → length (text x) ≤ most)
    → (p : PlanOf A) → WritablePlanOf Fit p → length (plan_text_by text p) ≤ 284 + 256 * most
unfolding plan_text_by
length_by text Fit most h p w =
    let steps = length_many text Fit most h p.steps w.steps in
    let few : length p.steps * most ≤ 256 * most = mul-le-mul_right most w.count in
    omega (arith, length-append (sheet_text p.start) (many_text text p.steps), length_sheet p.start w.start, steps, few)

-- a report that is given has at most so many bytes if that of each valid plan has
pub length_judged : {A : Type 0} (text : PlanOf A → List ℕ) (most : ℕ) (r : Read (PlanOf A)) (t : List ℕ)
    → ((p : PlanOf A) (rest : List ℕ) → r ≡ read p rest → valid p.start ≡ true → length (text p) ≤ most)
    → judged_by text r ≡ report t → length t ≤ most
length_judged text most (read p rest) t h e = reported (valid p.start) refl e
  where
    reported : (b : Bool) → valid p.start ≡ b → cond b (report (text p)) invalid ≡ report t → length t ≤ most
    reported true v e = let q : text p ≡ t = cc in omega (arith, ap length q, h p rest refl v)
    reported false v e = let z : ◌≡◌ {A = ℕ} 0 1 = cc in absurd (omega arith)
length_judged text most (fault_at line) t h e = let z : ◌≡◌ {A = ℕ} 0 1 = cc in absurd (omega arith)

-- ---- a text that is cut

-- one byte more than a plan with steps of at most so many bytes has
pub plan_alike : {A : Type 0} (lines : ℕ) (one : List ℕ → Read A) (most : ℕ)
    → ((u more : List ℕ) (left : ℕ) → most + left ≤ length u → Alike more left (one u) (one (u ++ more)))
    → (u more : List ℕ) → 285 + 256 * most ≤ length u → Alike more 0 (read_plan_by lines one u) (read_plan_by lines one (u ++ more))
unfolding read_plan_by read_front
plan_alike lines one most alike u more h =
    next_alike more 0 _ (256 * most + 1) (read_front u) (read_front (u ++ more)) _
    (mapped_alike more (256 * most + 1) credentials_of (read_lines sheet_kinds u) (read_lines sheet_kinds (u ++ more))
    (lines_alike sheet_kinds u more (256 * most + 1) (omega (arith, most_sheet, h))))
    (λ c r g.
    mapped_alike more 0 (λ ss. record { start = c; steps = ss }) (read_many lines one MOST_STEPS r) (read_many lines one MOST_STEPS (r ++ more))
    (many_alike lines one most alike MOST_STEPS r more g))

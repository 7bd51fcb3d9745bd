-- How long sheets, steps, plans and reports are at most, and that reading a plan needs no more than one byte past that. Assumes nothing.
use mathlib.Core.Path.{◌≡◌, refl, sym, ap, ◌∙◌}
use mathlib.Core.Logic.{⊎_elim}
use mathlib.Core.Bool.{true}
use mathlib.Core.List.{List, [], ◌∷◌, ◌++◌}
use Prim.Native.Nat.{ℕ, ◌+◌, ◌*◌, ◌<◌, ◌≤◌}
use native.Mathlib.Omega.{arith}
use lib.ListN.{length, take, drop, length-append, take-append-drop}
use lib.Seq.{length-take-le, take_all}
use Rattle.credentials.specs.Validity.{valid}
use Rattle.credentials.specs.declared.Credentials.{Credentials}
use Rattle.rules.specs.declared.Refusal.TheVariants.{NotPermitted, InvalidArgument, UnreadableAttribute, InvalidCredentials}
use Rattle.rules.specs.declared.Cause.{Cause}
use Rattle.rules.specs.declared.Cause.TheVariants.{CapabilityNotEffective, InheritableBeyondPermitted, InheritableBeyondBounding, PermittedGrows, EffectiveBeyondPermitted, NotInPermittedAndInheritable, AmbientRaiseForbidden, LockUndone, LockedFlagChanged, IdNotAllowed, LaunchFallsShort}
use Rattle.rules.specs.Answers.{Answer, cause, cause_number, code, value}
use Rattle.rules.specs.Call.{answer}
use Rattle.rules.specs.Run.{Step, result, run, left}
use Rattle.rules.proofs.Demand3.{demand_3}
use Rattle.format.specs.declared.SheetError.TheVariants.{Malformed}
use Rattle.std.proofs.Common.{Ok, Err}
use Rattle.format.specs.Line.{decimal_text, lines_text, Read, read, fault_at, read_lines}
use Rattle.format.specs.Sheet.{sheet_kinds, sheet_text, credentials_of, read_front, whole_sheet, read_sheet}
use Rattle.format.specs.Step.{step_kinds, attribute_key, attribute_text, step_text, read_attribute, step_of, read_step}
use Rattle.format.specs.Plan.{Plan, step_lines, read_plan}
use Rattle.format.specs.Report.{result_text, results_text, report_text, report, judged_by, verdict}
use Rattle.format.specs.RoundTrip.{Writable}
use Rattle.format.specs.Longest.{longest_sheet, longest_plan, longest_report, Longest}
use Rattle.format.proofs.Alike.{Alike, value_alike, mapped_alike, next_alike, lines_alike, attribute_alike}
use Rattle.format.proofs.Decimals.{below_or_not}
use Rattle.format.proofs.Lengths.{at_most, most_lines, length_lines, length_result_lines, length_attribute}
use Rattle.format.proofs.Plans.{most_sheet, length_sheet, length_by, length_judged, plan_alike}
use Rattle.format.proofs.Sheets as Sheets
use Rattle.format.proofs.Steps as Steps
use Rattle.std.specs.Prelude.{Ok, Err}
use Rattle.format.proofs.RoundTrip.{sheet_round_trip, plan_round_trip}
use Rattle.format.proofs.Reached.{start, sheet, sheet_read, sheet_length, plan, text, text_read, text_length, text_verdict, report_length}

-- ---- sheets, steps and plans

-- a call's line of 8 bytes and three operands' of 19
most_step : most_lines step_kinds ≤ 65
unfolding most_lines step_kinds
most_step = omega (arith, at_most 1 99 (omega arith))

-- with an attribute's line of 54
pub length_step : (s : Step) → Writable s → length (step_text s) ≤ 119
unfolding step_text
length_step s w =
    let vs = s.number ∷ s.a ∷ s.b ∷ s.c ∷ [] in
    omega (
      arith,
      length-append (lines_text step_kinds vs) (attribute_text s.attribute),
      length_lines step_kinds vs (Steps.values_fit s w),
      most_step,
      length_attribute attribute_key s.attribute w.size,
    )

length_plan : (text : List ℕ) (p : Plan) (rest : List ℕ) → read_plan text ≡ read p rest → length text ≤ longest_plan
length_plan text p rest e =
    let r = plan_round_trip.read_written text p rest e in
    omega (arith, ap length r.0, length_by step_text Writable 119 length_step p r.2)

-- ---- reports

cause_small : (why : Cause) → cause_number why ≤ 99
cause_small CapabilityNotEffective = omega arith
cause_small InheritableBeyondPermitted = omega arith
cause_small InheritableBeyondBounding = omega arith
cause_small PermittedGrows = omega arith
cause_small EffectiveBeyondPermitted = omega arith
cause_small NotInPermittedAndInheritable = omega arith
cause_small AmbientRaiseForbidden = omega arith
cause_small LockUndone = omega arith
cause_small LockedFlagChanged = omega arith
cause_small IdNotAllowed = omega arith
cause_small LaunchFallsShort = omega arith

-- a code of two digits has cause 0, and a cause of two digits has code 1
pub three_digits : (a : Answer) → length (decimal_text (code a)) + length (decimal_text (cause a)) ≤ 3
three_digits (Ok d) = omega (arith, at_most 0 0 (omega arith))
three_digits (Err (NotPermitted why)) = omega (arith, at_most 0 1 (omega arith), at_most 1 (cause_number why) (omega (arith, cause_small why)))
three_digits (Err InvalidArgument) = omega (arith, at_most 1 22 (omega arith), at_most 0 0 (omega arith))
three_digits (Err UnreadableAttribute) = omega (arith, at_most 1 60 (omega arith), at_most 0 0 (omega arith))
three_digits (Err InvalidCredentials) = omega (arith, at_most 1 72 (omega arith), at_most 0 0 (omega arith))

-- 36 bytes without the digits of code and cause
length_result : (start : Credentials) (x : Step) → length (result_text (result start x)) ≤ 39
unfolding result_text result
length_result start x =
    let a = answer start x.number x.a x.b x.c x.attribute in
    omega (arith, length_result_lines (code a) (value a) (cause a), three_digits a)

length_results : (start : Credentials) (xs : List Step) → length (results_text (run start xs)) ≤ length xs * 39
unfolding run results_text
length_results start [] = omega arith
length_results start (x ∷ xs) =
    let r = result start x in
    let rs = run r.after xs in
    omega (
      arith,
      length-append (result_text r) (results_text rs),
      length_result start x,
      length_results r.after xs,
    )

-- and the sheet of the last state, which is valid
length_report : (p : Plan) → valid p.start ≡ true → length p.steps ≤ 256 → length (report_text p) ≤ longest_report
unfolding report_text
length_report p v n =
    let last = left p.start p.steps in
    omega (
      arith,
      length-append (results_text (run p.start p.steps)) (sheet_text last),
      length_results p.start p.steps,
      length_sheet last (Sheets.valid_writable last (demand_3 p.start v p.steps).ends_valid),
    )

length_verdict : (text t : List ℕ) → verdict text ≡ report t → length t ≤ longest_report
unfolding verdict
length_verdict text t e =
    length_judged report_text longest_report (read_plan text) t
    (λ p rest q v. length_report p v (plan_round_trip.read_written text p rest q).2.count) e

-- ---- a text that is cut

-- a text that is longer than a step by so many bytes
pub step_alike : (u more : List ℕ) (left : ℕ) → 119 + left ≤ length u → Alike more left (read_step u) (read_step (u ++ more))
unfolding read_step
step_alike u more left h =
    next_alike more left _ (54 + left) (read_lines step_kinds u) (read_lines step_kinds (u ++ more)) _
    (lines_alike step_kinds u more (54 + left) (omega (arith, most_step)))
    (λ vs t g.
    mapped_alike more left (step_of vs) (read_attribute attribute_key t) (read_attribute attribute_key (t ++ more))
    (attribute_alike attribute_key t more left g))

-- what does not depend on the text after its first n bytes is the same of those alone
pub cut_at : {A : Type 0} (f : List ℕ → A) (n : ℕ) → ((u more : List ℕ) → n ≤ length u → f u ≡ f (u ++ more)) → (text : List ℕ) → f (take n text) ≡ f text
cut_at f n h text =
    ⊎_elim
    (λ (l : length text < n). ap f (take_all n text (omega (arith, l))))
    (λ (l : n ≤ length text). h (take n text) (drop n text) (omega (arith, length-take-le n text l)) ∙ ap f (take-append-drop n text))
    (below_or_not (length text) n)

-- a text that is cut one byte after what a plan has at most
cut : (text : List ℕ) → verdict (take 30749 text) ≡ verdict text
unfolding verdict
cut = cut_at verdict 30749 (λ u more h. value_alike more (judged_by report_text) (λ p t s. refl) (read_plan u) (read_plan (u ++ more)) (plan_alike step_lines read_step 119 step_alike u more h))

-- ---- a sheet that is cut

-- one byte more than a sheet has
front_alike : (u more : List ℕ) → 285 ≤ length u → Alike more 1 (read_front u) (read_front (u ++ more))
unfolding read_front
front_alike u more h =
    mapped_alike more 1 credentials_of (read_lines sheet_kinds u) (read_lines sheet_kinds (u ++ more))
    (lines_alike sheet_kinds u more 1 (omega (arith, most_sheet, h)))

-- text past the sheet is a fault, whatever it is
whole_alike : (more : List ℕ) (r s : Read Credentials) → Alike more 1 r s → whole_sheet r ≡ whole_sheet s
whole_alike more (read c []) (read d u) h = absurd (omega (arith, h.2))
whole_alike more (read c (b ∷ t)) (read d u) h = sym (ap (λ (x : List ℕ). whole_sheet (read d x)) h.1)
whole_alike more (read c t) (fault_at line) h = absurd h
whole_alike more (fault_at line) (read d u) h = absurd h
whole_alike more (fault_at line) (fault_at other) h = ap (λ n. Err (Malformed n)) h

sheet_cut : (text : List ℕ) → read_sheet (take 285 text) ≡ read_sheet text
unfolding read_sheet
sheet_cut = cut_at read_sheet 285 (λ u more h. whole_alike more (read_front u) (read_front (u ++ more)) (front_alike u more h))

length_read : (text : List ℕ) (c : Credentials) → read_sheet text ≡ Ok c → length text ≤ longest_sheet
length_read text c e =
    let r = sheet_round_trip.read_written text c e in
    omega (arith, ap length r.0, length_sheet c (Sheets.valid_writable c r.1))

-- ---- the statement

-- how long sheets, plans and reports can be
pub longest : Longest
longest =
    record {
      sheets = length_read;
      a_longest_sheet = (sheet, start, sheet_read, sheet_length);
      sheet_cut = sheet_cut;
      plans = length_plan;
      a_longest_plan = (text, plan, [], text_read, text_length);
      reports = length_verdict;
      a_longest_report = (text, report_text plan, text_verdict, report_length);
      cut = cut;
    }

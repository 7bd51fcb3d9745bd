-- How long slot plans and their reports are at most, and that reading a slot plan needs no more than one byte past that. Assumes nothing.
use mathlib.Core.Path.{◌≡◌, refl, ap}
use mathlib.Core.List.{List, [], ◌++◌}
use Prim.Native.Nat.{ℕ, ◌+◌, ◌≤◌}
use native.Mathlib.Omega.{arith}
use lib.ListN.{length, take, length-append}
use Rattle.format.specs.Line.{line_text, read, read_line}
use Rattle.format.specs.Step.{step_text, read_step}
use Rattle.format.specs.Report.{report, judged_by}
use Rattle.format.proofs.Alike.{Alike, value_alike, mapped_alike, next_alike, line_alike, keyed}
use Rattle.format.proofs.Lengths.{most_keyed, length_line, at_most}
use Rattle.format.proofs.Longest.{length_step, step_alike, cut_at}
use Rattle.format.proofs.Plans.{length_by, length_judged, plan_alike}
use Rattle.threads.specs.Step.{SlotStep}
use Rattle.slot_format.specs.SlotPlan.{slot_kind, slot_step_text, read_slot_step, slot_step_lines, SlotPlan, read_slot_plan}
use Rattle.slot_format.specs.SlotReport.{slot_report_text, slot_verdict}
use Rattle.slot_format.specs.RoundTrip.{WritableSlotStep}
use Rattle.slot_format.specs.Longest.{longest_slot_plan, longest_slot_report, LongestOfSlots}
use Rattle.slot_format.proofs.RoundTrip.{slot_round_trip}
use Rattle.slot_format.proofs.Reports.{length_slot_report}
use Rattle.slot_format.proofs.Reached.{plan, text, text_read, text_length, reported, reported_text, reported_verdict, reported_length}

-- ---- slot plans

-- the line of a slot has at most 8 bytes
most_slot : most_keyed slot_kind.key slot_kind.form ≤ 8
most_slot = omega (arith, at_most 1 99 (omega arith))

-- with a step of 119
length_slot_step : (s : SlotStep) → WritableSlotStep s → length (slot_step_text s) ≤ 127
unfolding slot_step_text
length_slot_step s w =
    omega (
      arith,
      length-append (line_text slot_kind s.slot) (step_text s.step),
      length_line slot_kind.key slot_kind.form s.slot w.slot,
      most_slot,
      length_step s.step w.step,
    )

length_plan : (text : List ℕ) (p : SlotPlan) (rest : List ℕ) → read_slot_plan text ≡ read p rest → length text ≤ longest_slot_plan
length_plan text p rest e =
    let r = slot_round_trip.read_written text p rest e in
    omega (arith, ap length r.0, length_by slot_step_text WritableSlotStep 127 length_slot_step p r.2)

-- ---- reports

length_verdict : (text t : List ℕ) → slot_verdict text ≡ report t → length t ≤ longest_slot_report
unfolding slot_verdict
length_verdict text t e =
    length_judged slot_report_text longest_slot_report (read_slot_plan text) t
    (λ p rest q v. length_slot_report p v (slot_round_trip.read_written text p rest q).2.count) e

-- ---- a text that is cut

-- a text that is longer than a step by so many bytes
slot_step_alike : (u more : List ℕ) (left : ℕ) → 127 + left ≤ length u → Alike more left (read_slot_step u) (read_slot_step (u ++ more))
unfolding read_slot_step
slot_step_alike u more left h =
    next_alike more left 1 (119 + left) (read_line slot_kind u) (read_line slot_kind (u ++ more)) _
    (line_alike (keyed slot_kind.key slot_kind.form) u more (119 + left) (omega (arith, most_slot)))
    (λ slot t g. mapped_alike more left (λ x. record { slot = slot; step = x }) (read_step t) (read_step (t ++ more)) (step_alike t more left g))

-- a text that is cut one byte after what a slot plan has at most
cut : (text : List ℕ) → slot_verdict (take 32797 text) ≡ slot_verdict text
unfolding slot_verdict
cut = cut_at slot_verdict 32797 (λ u more h. value_alike more (judged_by slot_report_text) (λ p t s. refl) (read_slot_plan u) (read_slot_plan (u ++ more)) (plan_alike slot_step_lines read_slot_step 127 slot_step_alike u more h))

-- ---- the statement

pub longest_of_slots : LongestOfSlots
longest_of_slots =
    record {
      plans = length_plan;
      a_longest_plan = (text, plan, [], text_read, text_length);
      reports = length_verdict;
      a_longest_report = (reported_text, slot_report_text reported, reported_verdict, reported_length);
      cut = cut;
    }

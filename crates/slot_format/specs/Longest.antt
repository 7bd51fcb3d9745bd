-- How long slot plans and their reports can be; proofs/Longest.antt proves it. Assumes nothing.
use Rattle.std.specs.Prelude.{ℕ, ◌+◌, ◌≤◌, ◌≡◌, List, length, take}
use Rattle.format.specs.Line.{read}
use Rattle.format.specs.Report.{report}
use Rattle.slot_format.specs.SlotPlan.{SlotPlan, read_slot_plan}
use Rattle.slot_format.specs.SlotReport.{slot_verdict}

-- the bytes of a longest slot plan: a longest sheet, of 284, and 256 steps of 127
abbrev pub longest_slot_plan : ℕ
longest_slot_plan = 32796

-- the bytes of a longest report: 95 forks that are done, of 38, and 161 results of 39; then 96 times the line of a slot, 7 bytes up to slot 9 and 8 above,
-- and a longest sheet
abbrev pub longest_slot_report : ℕ
longest_slot_report = 37911

pub record LongestOfSlots : Type 0 where
  -- a text that is read as a slot plan has at most so many bytes, and some text has as many
  pub plans : (text : List ℕ) (p : SlotPlan) (rest : List ℕ) → read_slot_plan text ≡ read p rest → length text ≤ longest_slot_plan
  pub a_longest_plan : (text : List ℕ) × (p : SlotPlan) × (rest : List ℕ) × (read_slot_plan text ≡ read p rest) × (length text ≡ longest_slot_plan)
  -- a report has at most so many bytes, and some report has as many
  pub reports : (text t : List ℕ) → slot_verdict text ≡ report t → length t ≤ longest_slot_report
  pub a_longest_report : (text : List ℕ) × (t : List ℕ) × (slot_verdict text ≡ report t) × (length t ≡ longest_slot_report)
  -- what stands after one byte more than a longest slot plan has decides nothing for the runner
  pub cut : (text : List ℕ) → slot_verdict (take (longest_slot_plan + 1) text) ≡ slot_verdict text

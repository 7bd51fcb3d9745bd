-- How long sheets, plans and reports can be; proofs/Longest.antt proves it. Assumes nothing.
use Rattle.std.specs.Prelude.{ℕ, ◌+◌, ◌≤◌, ◌≡◌, List, length, take, Ok}
use Rattle.credentials.specs.declared.Credentials.{Credentials}
use Rattle.format.specs.Line.{read}
use Rattle.format.specs.Sheet.{read_sheet}
use Rattle.format.specs.Plan.{Plan, read_plan}
use Rattle.format.specs.Report.{report, verdict}

-- the bytes of a longest sheet: eight IDs of ten digits and 204 bytes else
abbrev pub longest_sheet : ℕ
longest_sheet = 284

-- the bytes of a longest plan: such a sheet and 256 steps of 119
abbrev pub longest_plan : ℕ
longest_plan = 30748

-- the bytes of a longest report: 256 results of 39 and such a sheet
abbrev pub longest_report : ℕ
longest_report = 10268

pub record Longest : Type 0 where
  -- a text that is read as a sheet has at most so many bytes, and some sheet has as many
  pub sheets : (text : List ℕ) (c : Credentials) → read_sheet text ≡ Ok c → length text ≤ longest_sheet
  pub a_longest_sheet : (text : List ℕ) × (c : Credentials) × (read_sheet text ≡ Ok c) × (length text ≡ longest_sheet)
  -- what stands after one byte more than a longest sheet has decides nothing for the sheet reader
  pub sheet_cut : (text : List ℕ) → read_sheet (take (longest_sheet + 1) text) ≡ read_sheet text
  -- a text that is read as a plan has at most so many bytes, and some text has as many
  pub plans : (text : List ℕ) (p : Plan) (rest : List ℕ) → read_plan text ≡ read p rest → length text ≤ longest_plan
  pub a_longest_plan : (text : List ℕ) × (p : Plan) × (rest : List ℕ) × (read_plan text ≡ read p rest) × (length text ≡ longest_plan)
  -- a report has at most so many bytes, and some report has as many
  pub reports : (text t : List ℕ) → verdict text ≡ report t → length t ≤ longest_report
  pub a_longest_report : (text : List ℕ) × (t : List ℕ) × (verdict text ≡ report t) × (length t ≡ longest_report)
  -- what stands after one byte more than a longest plan has decides nothing for the runner
  pub cut : (text : List ℕ) → verdict (take (longest_plan + 1) text) ≡ verdict text

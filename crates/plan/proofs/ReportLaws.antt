-- Laws of the report. Assumes nothing.
use native.Mathlib.Omega.{arith}
use native.Mathlib.Numerals.{add-one}
use native.Mathlib.Nat.{zero-add}
use mathlib.Core.Path.{◌≡◌, refl, sym, ap, ◌∙◌}
use mathlib.Core.List.{List, [], ◌++◌}
use mathlib.Core.Bool.{true}
use Prim.Native.Nat.{ℕ, ◌+◌, ◌<◌, ◌≤◌}
use borrow.Author.Tests.{le-leb, lt-leb}
use Rattle.std.proofs.Common.{Result, Ok, Err}
use lib.ListN.{length, get_or, drop, length-append, drop_of_length-le}
use lib.Seq.{sets, sets-eq, drop-cons}
use Rattle.credentials.specs.Validity.{valid}
use Rattle.credentials.specs.declared.Credentials.{Credentials}
use Rattle.format.specs.Line.{decimal_text, lines_text}
use Rattle.format.specs.Plan.{many_text}
use Rattle.format.specs.Sheet.{sheet_text}
use Rattle.format.specs.Report.{result_kinds, report, outcome, buffer}
use Rattle.format.specs.declared.PlanError.{PlanError}
use Rattle.format.specs.declared.PlanError.TheVariants.{NoRoom}
use Rattle.format.proofs.Lengths.{length_result_lines}
use Rattle.hex_tables.specs.Tables.{writing_table}
use Rattle.hex_tables.proofs.Format.{by_the_tables}
use Rattle.line_writer.specs.Positions.{written}
use Rattle.line_writer.specs.Inside.{lines_put}
use Rattle.line_writer.proofs.LineLaws.{sets_append, lines_put_lem}
use Rattle.sheet_writer.specs.Positions.{buffer_at, buffer_by}
use Rattle.sheet_writer.proofs.Answers.{buffer_by_the_table}
use Rattle.plan.specs.declared.state.StepAnswer.{StepAnswer}
use Rattle.plan.specs.Inside.{answer_text, answers_text}

-- ---- the results' lines

-- the j-th result
abbrev pub answer_at : List StepAnswer → ℕ → StepAnswer
answer_at rs j = get_or rs j (record { code = 0; cause = 0; value = 0 })

module _ (rs : List StepAnswer) (j : ℕ) (h : j < length rs) where
  -- its lines, and those after it
  pub lines_step : answers_text (drop j rs) ≡ answer_text (answer_at rs j) ++ answers_text (drop (j + 1) rs)
  unfolding many_text
  lines_step = rw (drop-cons rs j (record { code = 0; cause = 0; value = 0 }), add-one j)

  pub lines_length : length (answers_text (drop j rs))
      ≡ 36 + (length (decimal_text (answer_at rs j).code) + length (decimal_text (answer_at rs j).cause)) + length (answers_text (drop (j + 1) rs))
  lines_length =
      ap length lines_step
      ∙ length-append (answer_text (answer_at rs j)) (answers_text (drop (j + 1) rs))
      ∙ rw (length_result_lines (answer_at rs j).code (answer_at rs j).value (answer_at rs j).cause)

  -- one result's lines more
  pub put_lines : (old buf : List ℕ) (at past : ℕ) → past ≡ at + length (answer_text (answer_at rs j)) → buf ≡ sets old at (answer_text (answer_at rs j))
      → sets old at (answers_text (drop j rs)) ≡ sets buf past (answers_text (drop (j + 1) rs))
  put_lines old buf at past e f = rw (lines_step, e, f) (sets_append (answer_text (answer_at rs j)) (answers_text (drop (j + 1) rs)) old at)

pub lines_end : (rs : List StepAnswer) (j : ℕ) → length rs ≤ j → answers_text (drop j rs) ≡ []
unfolding many_text
lines_end rs j h = rw (drop_of_length-le rs {i = j} h)

-- by the table for writing, the lines of a result that fit are the format's
pub result_put : (table vs old : List ℕ) (at : ℕ) → table ≡ writing_table → at + length (lines_text result_kinds vs) ≤ length old
    → lines_put table result_kinds vs old at ≡ record { buffer = sets old at (lines_text result_kinds vs); at = at + length (lines_text result_kinds vs) }
result_put table vs old at e h =
    let text = by_the_tables.lines_written result_kinds vs in
    ap (λ (t : List ℕ). lines_put t result_kinds vs old at) e
    ∙ lines_put_lem writing_table result_kinds vs old at (rw text h)
    ∙ ap (λ (t : List ℕ). record { buffer = sets old at t; at = at + length t }) text

-- ---- the report

module _ (a s old : List ℕ) where
  pub report_done : (one two : List ℕ) (at size : ℕ) → size ≡ length a + length s → size ≤ length old → at ≡ length a → one ≡ sets old 0 a
      → two ≡ sets one at s
      → (◌≡◌ {A = Result ℕ PlanError} (Ok size) (outcome (report (a ++ s)) (length old))) × (two ≡ buffer (report (a ++ s)) old)
  report_done one two at size e h f g w =
      let n : length (a ++ s) ≡ size = length-append a s ∙ sym e in
      let fit : 0 + length (a ++ s) ≤ length old = omega (arith, n) in
      let all : sets (sets old 0 a) (length a) s ≡ (a ++ s) ++ drop (length (a ++ s)) old =
      rw (← (zero-add (length a))) (sym (sets_append a s old 0)) ∙ sets-eq (a ++ s) old 0 fit ∙ rw zero-add in
      rw (le-leb (length (a ++ s)) (length old) (omega (arith, n))) (
        ap (λ (k : ℕ). Ok k) (sym n),
        w ∙ rw (g, f) all,
      )

  pub report_no_room : length old < length a + length s
      → (◌≡◌ {A = Result ℕ PlanError} (Err NoRoom) (outcome (report (a ++ s)) (length old))) × (old ≡ buffer (report (a ++ s)) old)
  report_no_room h = rw (lt-leb (length (a ++ s)) (length old) (omega (arith, length-append a s))) (refl, refl)

-- the sheet of valid credentials is written
pub sheet_put : (table : List ℕ) (c : Credentials) (at : ℕ) (old : List ℕ) → table ≡ writing_table → valid c ≡ true
    → buffer_by table c at old ≡ written old at (sheet_text c)
unfolding buffer_at
sheet_put table c at old e v = buffer_by_the_table table c at old e ∙ rw v

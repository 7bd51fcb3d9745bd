-- What the sheet writer answers, by what it wrote. Assumes nothing.
use native.Mathlib.Omega.{arith}
use native.Mathlib.Nat.{zero-add}
use mathlib.Core.Path.{◌≡◌, refl, ap, ◌∙◌}
use mathlib.Core.List.{List}
use mathlib.Core.Bool.{Bool, true, false, cond}
use Prim.Native.Nat.{ℕ, ◌+◌, ◌<◌, ◌≤◌}
use borrow.Author.Tests.{le-leb, lt-leb, leb-true}
use lib.Dec.{leb}
use lib.ListN.{length}
use lib.Seq.{sets-eq}
use Rattle.std.proofs.Common.{Result, Ok, Err}
use Rattle.format.specs.declared.SheetWriteError.{SheetWriteError}
use Rattle.format.specs.declared.SheetWriteError.TheVariants.{Invalid, NoRoom}
use Rattle.credentials.specs.Validity.{valid}
use Rattle.credentials.specs.declared.Credentials.{Credentials}
use Rattle.format.specs.Sheet.{sheet_kinds, sheet_values, sheet_text, sheet_answer, sheet_buffer}
use Rattle.line_writer.specs.Positions.{written}
use Rattle.line_writer.specs.Inside.{lines_put}
use Rattle.line_writer.proofs.LineLaws.{lines_put_lem}
use Rattle.hex_tables.specs.Tables.{writing_table}
use Rattle.hex_tables.proofs.Lengths.{length_lines}
use Rattle.hex_tables.proofs.Format.{by_the_tables}
use Rattle.sheet_writer.specs.Positions.{answer_at, buffer_at, sheet_text_by, buffer_by}

-- whatever the table, a sheet is as long
length_by : (table : List ℕ) (c : Credentials) → length (sheet_text_by table c) ≡ length (sheet_text c)
unfolding sheet_text_by sheet_text
length_by table c = length_lines table sheet_kinds (sheet_values c)

module _ (table : List ℕ) (c : Credentials) (at : ℕ) (old : List ℕ) where
  pub sheet_written : (buf : List ℕ) (n : ℕ) → true ≡ valid c → n ≡ length (sheet_text c) → at + n ≤ length old
      → buf ≡ (lines_put table sheet_kinds (sheet_values c) old at).buffer
      → (◌≡◌ {A = Result ℕ SheetWriteError} (Ok n) (answer_at c at old)) × (buf ≡ buffer_by table c at old)
  unfolding answer_at buffer_by written sheet_text_by
  sheet_written buf n v e h w =
      let fit : at + length (sheet_text c) ≤ length old = omega (arith, e, h) in
      let fit_by : at + length (sheet_text_by table c) ≤ length old = omega (arith, length_by table c, fit) in
      rw (← v, le-leb (at + length (sheet_text c)) (length old) fit, le-leb (at + length (sheet_text_by table c)) (length old) fit_by) (
        ap (λ (k : ℕ). Ok k) e,
        w ∙ ap (λ (p : _). p.buffer) (lines_put_lem table sheet_kinds (sheet_values c) old at fit_by),
      )

  pub sheet_no_room : true ≡ valid c → length old < at + length (sheet_text c)
      → (Err NoRoom ≡ answer_at c at old) × (old ≡ buffer_by table c at old)
  unfolding answer_at buffer_by written
  sheet_no_room v h =
      let short : length old < at + length (sheet_text_by table c) = omega (arith, length_by table c, h) in
      rw (← v, lt-leb (at + length (sheet_text c)) (length old) h, lt-leb (at + length (sheet_text_by table c)) (length old) short) (refl, refl)

  pub sheet_invalid : false ≡ valid c → (Err Invalid ≡ answer_at c at old) × (old ≡ buffer_by table c at old)
  unfolding answer_at buffer_by
  sheet_invalid v = rw (← v) (refl, refl)

-- by the table for writing it is the format's sheet
pub buffer_by_the_table : (table : List ℕ) (c : Credentials) (at : ℕ) (old : List ℕ) → table ≡ writing_table → buffer_by table c at old ≡ buffer_at c at old
unfolding buffer_by buffer_at sheet_text_by sheet_text
buffer_by_the_table table c at old e =
    ap (λ (t : List ℕ). buffer_by t c at old) e
    ∙ ap (λ (t : List ℕ). cond (valid c) (written old at t) old) (by_the_tables.lines_written sheet_kinds (sheet_values c))

module _ (c : Credentials) (old : List ℕ) where
  -- at the front, by the two tests
  front : (v t : Bool) → valid c ≡ v → leb (length (sheet_text c)) (length old) ≡ t → (answer_at c 0 old ≡ sheet_answer c (length old)) × (buffer_at c 0 old ≡ sheet_buffer c old)
  unfolding answer_at buffer_at sheet_answer sheet_buffer written
  front false t e f = rw e (refl, refl)
  front true false e f = rw (e, zero-add (length (sheet_text c)), f) (refl, refl)
  front true true e f =
      let fit : 0 + length (sheet_text c) ≤ length old = omega (arith, leb-true (length (sheet_text c)) (length old) f) in
      rw (e, zero-add (length (sheet_text c)), f) (refl, sets-eq (sheet_text c) old 0 fit ∙ rw (zero-add (length (sheet_text c))))

  pub at_the_front : (answer_at c 0 old ≡ sheet_answer c (length old)) × (buffer_at c 0 old ≡ sheet_buffer c old)
  at_the_front = front (valid c) (leb (length (sheet_text c)) (length old)) refl refl

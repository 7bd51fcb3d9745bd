-- The sheet at a position of a buffer: what its writer answers and leaves. Assumes nothing.
use Rattle.std.specs.Prelude.{ℕ, cond, List, length, Result, Ok, Err}
use Rattle.credentials.specs.Validity.{valid}
use Rattle.credentials.specs.declared.Credentials.{Credentials}
use Rattle.format.specs.Sheet.{sheet_kinds, sheet_values, sheet_text}
use Rattle.format.specs.declared.SheetWriteError.{SheetWriteError}
use Rattle.format.specs.declared.SheetWriteError.TheVariants.{Invalid, NoRoom}
use Rattle.hex_tables.specs.Tables.{lines_text_by}
use Rattle.line_writer.specs.Positions.{fits, written}

-- credentials that are not valid, then a sheet that does not fit from the position on; else the sheet's length
unfoldable pub answer_at : Credentials → ℕ → List ℕ → Result ℕ SheetWriteError
answer_at c at buffer = cond (valid c) (cond (fits buffer at (sheet_text c)) (Ok (length (sheet_text c))) (Err NoRoom)) (Err Invalid)

-- the buffer afterwards: the sheet in place of the bytes from the position on; where it is refused, as it was
unfoldable pub buffer_at : Credentials → ℕ → List ℕ → List ℕ
buffer_at c at buffer = cond (valid c) (written buffer at (sheet_text c)) buffer

-- ---- with its hex digits by a table

-- the sheet of credentials; by the table for writing it is sheet_text
unfoldable pub sheet_text_by : List ℕ → Credentials → List ℕ
sheet_text_by table c = lines_text_by table sheet_kinds (sheet_values c)

-- the buffer afterwards; by the table for writing it is buffer_at
unfoldable pub buffer_by : List ℕ → Credentials → ℕ → List ℕ → List ℕ
buffer_by table c at buffer = cond (valid c) (written buffer at (sheet_text_by table c)) buffer

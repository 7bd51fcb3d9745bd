-- The sheet at the start of a text: what its reader answers where more text may follow. Assumes nothing.
use Rattle.std.specs.Prelude.{ℕ, ◌-◌, List, length, Result, Ok, Err}
use Rattle.credentials.specs.Validity.{valid}
use Rattle.credentials.specs.declared.Credentials.{Credentials}
use Rattle.format.specs.Line.{Read, read, fault_at}
use Rattle.format.specs.Sheet.{sheet_kinds, credentials_of, read_front}
use Rattle.line_reader.specs.declared.Fault.{Fault}
use Rattle.line_reader.specs.Positions.{from, Reading, lines_by}
use Rattle.sheet_reader.specs.declared.Front.{Front}

-- credentials and the position past them, and whether they are valid
abbrev pub judged : Credentials → ℕ → Front
judged c past = record { credentials = c; is_valid = valid c; end = past }

-- what was read, with the position of the text after it
abbrev pub placed_front : List ℕ → Read Credentials → Result Front Fault
placed_front text (read c rest) = Ok (judged c (length text - length rest))
placed_front text (fault_at line) = Err (record { line = line })

unfoldable pub front_of : List ℕ → Result Front Fault
front_of text = placed_front text (read_front text)

-- ---- with its hex digits by a table

-- what lines come to
abbrev pub fronted : Reading (List ℕ) → Result Front Fault
fronted (Ok r) = Ok (judged (credentials_of r.0) r.1.at)
fronted (Err e) = Err e

-- the lines of a sheet from the start of a text on; by the table for reading it is front_of
unfoldable pub front_by : List ℕ → List ℕ → Result Front Fault
front_by table text = fronted (lines_by table sheet_kinds text (from 0))

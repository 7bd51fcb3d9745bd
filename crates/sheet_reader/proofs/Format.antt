-- By the table for reading, the sheet at the start of a text is the format's. Assumes nothing.
use native.Mathlib.Omega.{arith}
use mathlib.Core.Path.{◌≡◌, refl, sym, ap, ◌∙◌}
use mathlib.Core.List.{List}
use Prim.Native.Nat.{ℕ, ◌≤◌}
use lib.ListN.{length}
use Rattle.std.proofs.Common.{Ok, Err}
use Rattle.format.specs.Line.{Read, mapped}
use Rattle.format.specs.Sheet.{id_kinds, uid_kinds, gid_kinds, set_kinds, flag_kinds, sheet_kinds, credentials_of, read_front}
use Rattle.hex_tables.specs.Tables.{reading_table, read_value_by}
use Rattle.line_reader.specs.Positions.{from, Reading, lines_by}
use Rattle.line_reader.specs.Inside.{seen}
use Rattle.line_reader.proofs.Answers.{lines_read, lines_within, Ends}
use Rattle.line_reader.proofs.LineLaws.{position}
use Rattle.sheet_reader.specs.Positions.{judged, placed_front, fronted, front_of, front_by}

-- lines that end within a text
fronted_by : (text : List ℕ) (r : Reading (List ℕ)) → Ends (λ q. q.at ≤ length text) (λ e. 0 ≤ e.line) r
    → fronted r ≡ placed_front text (mapped credentials_of (seen text r))
fronted_by text (Ok r) h = ap (λ n. Ok (judged (credentials_of r.0) n)) (sym (position text r.1.at h))
fronted_by text (Err e) h = refl

pub front_by_the_table : (text : List ℕ) → front_by reading_table text ≡ front_of text
unfolding front_by front_of read_front sheet_kinds id_kinds uid_kinds gid_kinds set_kinds flag_kinds
front_by_the_table text =
    fronted_by text (lines_by reading_table sheet_kinds text (from 0)) (lines_within (read_value_by reading_table) text sheet_kinds (from 0) (omega arith))
    ∙ ap (λ (r : Read (List ℕ)). placed_front text (mapped credentials_of r)) (sym (lines_read sheet_kinds text 0 (omega arith)))

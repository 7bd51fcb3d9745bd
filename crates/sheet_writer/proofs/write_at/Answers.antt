-- `sheet_writer::write_at` meets its contract. Assumes nothing.
use mathlib.Core.Path.{sym}
use native.Mathlib.Omega.{arith}
use borrow.Author.Tests.{leb-true, leb-false}
use Rattle.sheet_writer.proofs.Answers.{sheet_written, sheet_no_room, sheet_invalid}
use Rattle.sheet_writer.proofs.write_at.Goals as goal

pub returns-then-not-is_valid : goal.returns-then-not-is_valid
returns-then-not-is_valid c = sheet_invalid _ _ _ _ c.if-not-is_valid.ensures

pub returns-then-not-has_room : goal.returns-then-not-has_room
returns-then-not-has_room c =
    sheet_no_room _ _ _ _ c.if-not-is_valid.ensures (omega (arith, leb-false _ _ (sym c.if-not-has_room.ensures), c.sheet_length-size.ensures.0))

pub returns : goal.returns
returns c =
    sheet_written _ _ _ _ _ _ c.if-not-is_valid.ensures c.sheet_length-size.ensures.0 (leb-true _ _ (sym c.if-not-has_room.ensures)) c.write_lines.ensures.1

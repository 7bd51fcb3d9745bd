-- `sheet_reader::read_sheet` meets its contract. Assumes nothing.
use Rattle.std.proofs.lemmas.Result.{err_from_is_err_and}
use Rattle.sheet_reader.proofs.Whole.{front_tells, sheet_fault, sheet_longer, sheet_whole, sheet_invalid}
use Rattle.sheet_reader.proofs.read_sheet.Goals as goal

pub returns-in_err-front : goal.returns-in_err-front
returns-in_err-front c =
    let e = err_from_is_err_and c.from_residual.result c.from_residual.ensures.1 in
    rw (e.1, e.2) (sheet_fault _ _ (front_tells _ _ _ c.reading_table-table.ensures c.in_err-front.ensures))

pub returns-then-front-text : goal.returns-then-front-text
returns-then-front-text c = sheet_longer _ _ (front_tells _ _ _ c.reading_table-table.ensures c.in_ok-front.ensures) c.if-front-text.true

pub returns-then-front : goal.returns-then-front
returns-then-front c = sheet_whole _ _ (front_tells _ _ _ c.reading_table-table.ensures c.in_ok-front.ensures) c.if-front-text.false c.if-front.true

pub returns-else-front : goal.returns-else-front
returns-else-front c = sheet_invalid _ _ (front_tells _ _ _ c.reading_table-table.ensures c.in_ok-front.ensures) c.if-front-text.false c.if-front.false

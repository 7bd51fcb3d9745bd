-- `sheet_reader::read_sets` meets its contract. Assumes nothing.
use Rattle.std.proofs.lemmas.Result.{err_from_is_err_and}
use Rattle.format.specs.Sheet.{set_kinds}
use Rattle.line_reader.specs.Positions.{lines_at}
use Rattle.sheet_reader.proofs.read_sets.Goals as goal

pub returns-in_err-effective : goal.returns-in_err-effective
unfolding lines_at set_kinds
returns-in_err-effective c =
    let e = err_from_is_err_and c.from_residual-in_err-effective.result c.from_residual-in_err-effective.ensures.1 in
    rw (e.1, e.2) (simp (← c.in_err-effective.ensures, ← c.in_ok-inheritable.ensures, ← c.in_ok-permitted.ensures))

pub returns-in_err-bounding : goal.returns-in_err-bounding
unfolding lines_at set_kinds
returns-in_err-bounding c =
    let e = err_from_is_err_and c.from_residual-in_err-bounding.result c.from_residual-in_err-bounding.ensures.1 in
    rw (e.1, e.2) (simp (← c.in_err-bounding.ensures, ← c.in_ok-effective.ensures, ← c.in_ok-inheritable.ensures, ← c.in_ok-permitted.ensures))

pub returns-in_err-ambient : goal.returns-in_err-ambient
unfolding lines_at set_kinds
returns-in_err-ambient c =
    let e = err_from_is_err_and c.from_residual-in_err-ambient.result c.from_residual-in_err-ambient.ensures.1 in
    rw (e.1, e.2) (simp (← c.in_err-ambient.ensures, ← c.in_ok-bounding.ensures, ← c.in_ok-effective.ensures, ← c.in_ok-inheritable.ensures, ← c.in_ok-permitted.ensures))

pub returns : goal.returns
unfolding lines_at set_kinds
returns c = simp (← c.in_ok-ambient.ensures, ← c.in_ok-bounding.ensures, ← c.in_ok-effective.ensures, ← c.in_ok-inheritable.ensures, ← c.in_ok-permitted.ensures)

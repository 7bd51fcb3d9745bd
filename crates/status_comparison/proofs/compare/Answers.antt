-- `status_comparison::compare` meets its contract. Assumes nothing.
use Rattle.std.proofs.lemmas.Result.{err_from_is_err_and}
use Rattle.status_comparison.proofs.Laws.{not_read, compared_found}
use Rattle.status_comparison.proofs.compare.Goals as goal

pub returns-in_err-found : goal.returns-in_err-found
returns-in_err-found c =
    let a = c.args in
    let p = err_from_is_err_and c.from_residual.result c.from_residual.ensures.1 in
    rw (p.1, p.2) (not_read a.status.now a.predicted c.in_err-found.field-0.0 a.list.now c.in_err-found.ensures)

pub returns : goal.returns
returns c =
    let a = c.args in
    rw (compared_found a.status.now a.predicted c.in_ok-found.found c.in_ok-found.ensures) at c.lay_beside.ensures

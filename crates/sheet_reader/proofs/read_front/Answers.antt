-- `sheet_reader::read_front` meets its contract. Assumes nothing.
use Rattle.std.proofs.lemmas.Result.{err_from_is_err_and}
use Rattle.format.specs.Sheet.{uid_kinds, gid_kinds}
use Rattle.sheet_reader.proofs.Groups.{front_grouped}
use Rattle.sheet_reader.proofs.read_front.Goals as goal

pub returns-in_err-uids : goal.returns-in_err-uids
unfolding uid_kinds
returns-in_err-uids c =
    let e = err_from_is_err_and c.from_residual.result c.from_residual.ensures.1 in
    rw (e.1, e.2, front_grouped, c.in_err-uids.ensures c.args.table.now)

pub returns-in_err-gids : goal.returns-in_err-gids
unfolding uid_kinds gid_kinds
returns-in_err-gids c =
    let e = err_from_is_err_and c.from_residual-in_err-gids.result c.from_residual-in_err-gids.ensures.1 in
    rw (e.1, e.2, front_grouped, c.in_ok-uids.ensures c.args.table.now, c.in_err-gids.ensures c.args.table.now)

pub returns-in_err-sets : goal.returns-in_err-sets
unfolding uid_kinds gid_kinds
returns-in_err-sets c =
    let e = err_from_is_err_and c.from_residual-in_err-sets.result c.from_residual-in_err-sets.ensures.1 in
    rw (e.1, e.2, front_grouped, c.in_ok-uids.ensures c.args.table.now, c.in_ok-gids.ensures c.args.table.now, c.in_err-sets.ensures)

pub returns-in_err-securebits : goal.returns-in_err-securebits
unfolding uid_kinds gid_kinds
returns-in_err-securebits c =
    let e = err_from_is_err_and c.from_residual-in_err-securebits.result c.from_residual-in_err-securebits.ensures.1 in
    rw (e.1, e.2, front_grouped, c.in_ok-uids.ensures c.args.table.now, c.in_ok-gids.ensures c.args.table.now, c.in_ok-sets.ensures, c.in_err-securebits.ensures)

pub returns : goal.returns
unfolding uid_kinds gid_kinds
returns c =
    rw (c.is_valid.ensures, front_grouped, c.in_ok-uids.ensures c.args.table.now, c.in_ok-gids.ensures c.args.table.now, c.in_ok-sets.ensures, c.in_ok-securebits.ensures)

-- `sheet_writer::sheet_length` meets its contract. Assumes nothing.
use native.Mathlib.Omega.{arith}
use Rattle.sheet_writer.proofs.Groups.{length_of_sheet}
use Rattle.sheet_writer.proofs.sheet_length.Goals as goal

pub overflow_add-result : goal.overflow_add-result
overflow_add-result c = omega (arith, c.ids_length-users.ensures.1, c.ids_length-groups.ensures.1)

pub overflow_add-result-2 : goal.overflow_add-result-2
overflow_add-result-2 c = omega (arith, c.ids_length-users.ensures.1, c.ids_length-groups.ensures.1)

pub returns : goal.returns
returns c =
    let users = c.ids_length-users.ensures in
    let groups = c.ids_length-groups.ensures in
    (rw (length_of_sheet c.args.held, ← users.0, ← groups.0), omega (arith, users.1, groups.1))

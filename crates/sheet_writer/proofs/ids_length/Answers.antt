-- `sheet_writer::ids_length` meets its contract. Assumes nothing.
use native.Mathlib.Omega.{arith}
use Rattle.sheet_writer.proofs.ids_length.Goals as goal

pub overflow_add-result : goal.overflow_add-result
overflow_add-result c = omega (arith, c.decimal_length-real.ensures.1, c.decimal_length-effective.ensures.1)

pub overflow_add-result-2 : goal.overflow_add-result-2
overflow_add-result-2 c = omega (arith, c.decimal_length-real.ensures.1, c.decimal_length-effective.ensures.1, c.decimal_length-saved.ensures.1)

pub overflow_add-result-3 : goal.overflow_add-result-3
overflow_add-result-3 c = omega (arith, c.decimal_length-real.ensures.1, c.decimal_length-effective.ensures.1, c.decimal_length-saved.ensures.1, c.decimal_length-filesystem.ensures.1)

pub returns : goal.returns
returns c =
    let real = c.decimal_length-real.ensures in
    let effective = c.decimal_length-effective.ensures in
    let saved = c.decimal_length-saved.ensures in
    let filesystem = c.decimal_length-filesystem.ensures in
    (rw (← real.0, ← effective.0, ← saved.0, ← filesystem.0), omega (arith, real.1, effective.1, saved.1, filesystem.1))

-- `plan::slot_report::slot_length` meets its contract. Assumes nothing.
use native.Mathlib.Omega.{arith}
use Rattle.plan.proofs.SlotLaws.{slot_length}
use Rattle.plan.proofs.slot_report.slot_length.Goals as goal

pub returns : goal.returns
returns c =
    let a = c.args in
    let d = c.decimal_length.ensures in
    let s = c.sheet_length.ensures in
    (omega (arith, d.0, s.0, slot_length a.slot a.held), omega (arith, d.1, s.1))

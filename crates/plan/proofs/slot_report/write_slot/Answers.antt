-- `plan::slot_report::write_slot` meets its contract. Assumes nothing.
use mathlib.Core.Path.{◌≡◌, refl}
use native.Mathlib.Omega.{arith}
use lib.ListN.{length}
use Rattle.format.specs.Sheet.{sheet_text}
use Rattle.plan.proofs.SlotLaws.{slot_put}
use Rattle.plan.proofs.slot_report.write_slot.Goals as goal

pub unwrap-length-requires : goal.unwrap-length-requires
unwrap-length-requires c =
    let put = slot_put _ _ _ _ _ _ _ _ _ c.requires.0 c.args.tables.now.for_writing c.requires.1 c.write_decimal-past.ensures.0 c.write_decimal-past.ensures.1 c.write_at.ensures.0 c.write_at.ensures.1 in
    rw put.0 refl

pub overflow_add-result : goal.overflow_add-result
overflow_add-result c =
    let put = slot_put _ _ _ _ _ _ _ _ _ c.requires.0 c.args.tables.now.for_writing c.requires.1 c.write_decimal-past.ensures.0 c.write_decimal-past.ensures.1 c.write_at.ensures.0 c.write_at.ensures.1 in
    let size : c.unwrap-length.result ≡ length (sheet_text c.args.held) = let e = c.unwrap-length.ensures in let f = put.0 in cc in
    record { fits = omega (arith, put.1, size, c.requires.2) }

pub returns : goal.returns
returns c =
    let put = slot_put _ _ _ _ _ _ _ _ _ c.requires.0 c.args.tables.now.for_writing c.requires.1 c.write_decimal-past.ensures.0 c.write_decimal-past.ensures.1 c.write_at.ensures.0 c.write_at.ensures.1 in
    let size : c.unwrap-length.result ≡ length (sheet_text c.args.held) = let e = c.unwrap-length.ensures in let f = put.0 in cc in
    (omega (arith, put.1, size), put.2)

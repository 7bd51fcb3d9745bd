-- `sheet_writer::write_ids` meets its contract. Assumes nothing.
use Rattle.format.specs.Sheet.{id_kinds}
use Rattle.line_writer.specs.Inside.{lines_put}
use Rattle.sheet_writer.proofs.write_ids.Goals as goal

pub returns : goal.returns
unfolding lines_put id_kinds
returns c =
    λ table. rw (← c.write_decimal-at.ensures.0, ← c.write_decimal-at.ensures.1, ← c.write_decimal-at-2.ensures.0, ← c.write_decimal-at-2.ensures.1, ← c.write_decimal-at-3.ensures.0, ← c.write_decimal-at-3.ensures.1) c.write_decimal.ensures

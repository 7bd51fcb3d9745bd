-- `sheet_writer::write_sets` meets its contract. Assumes nothing.
use Rattle.format.specs.Sheet.{set_kinds}
use Rattle.line_writer.specs.Inside.{lines_put}
use Rattle.sheet_writer.proofs.write_sets.Goals as goal

pub returns : goal.returns
unfolding lines_put set_kinds
returns c =
    rw (← c.write_hex-at.ensures.0, ← c.write_hex-at.ensures.1, ← c.write_hex-at-2.ensures.0, ← c.write_hex-at-2.ensures.1, ← c.write_hex-at-3.ensures.0, ← c.write_hex-at-3.ensures.1, ← c.write_hex-at-4.ensures.0, ← c.write_hex-at-4.ensures.1) c.write_hex.ensures

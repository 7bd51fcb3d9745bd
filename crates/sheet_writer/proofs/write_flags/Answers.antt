-- `sheet_writer::write_flags` meets its contract. Assumes nothing.
use Rattle.rules.proofs.Flags.{cast_is_number}
use Rattle.format.specs.Sheet.{flag_kinds}
use Rattle.line_writer.specs.Inside.{lines_put}
use Rattle.sheet_writer.proofs.write_flags.Goals as goal

pub returns : goal.returns
unfolding lines_put flag_kinds
returns c =
    let nnp = c.args.nnp in
    rw (← c.write_hex-at.ensures.0, ← c.write_hex-at.ensures.1, ← (cast_is_number nnp), ← c.from.ensures) c.write_decimal.ensures

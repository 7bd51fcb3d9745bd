-- `names_writer::write_names` meets its contract. Assumes nothing.
use mathlib.Core.Path.{sym, ◌∙◌}
use native.Mathlib.Omega.{arith}
use Rattle.names_writer.proofs.Texts.{is_written}
use Rattle.names_writer.proofs.write_names.Goals as goal

pub returns : goal.returns
returns c =
    let a = c.args in
    let size = c.text_length-size in
    let told = is_written a.held a.buf.now size.result (sym c.has_bits_above_40.ensures ∙ c.if-has_bits_above_40.false) size.ensures.0 (omega (arith, size.ensures.0, c.if-buf-size.false)) in
    (told.0, c.write_clauses.ensures ∙ told.1)

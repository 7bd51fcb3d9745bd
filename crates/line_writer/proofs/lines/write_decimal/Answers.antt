-- `line_writer::lines::write_decimal` meets its contract. Assumes nothing.
use mathlib.Core.Path.{sym}
use native.Mathlib.Omega.{arith}
use Rattle.format.specs.Line.{decimal_text}
use Rattle.line_writer.proofs.LineLaws.{keyed_refused, keyed_written}
use Rattle.line_writer.proofs.lines.write_decimal.Goals as goal

pub returns-then-not-has_room : goal.returns-then-not-has_room
returns-then-not-has_room c =
    let a = c.args in
    keyed_refused a.key.now (decimal_text a.v) a.buf.now a.at _ (omega (arith, c.decimal_length-digits.ensures.0)) (sym c.if-not-has_room.ensures)

pub returns : goal.returns
returns c =
    let a = c.args in
    let key = c.put_bytes-value.ensures in
    let value = c.put_decimal-end.ensures in
    rw (value.1, key.1)
    (keyed_written a.key.now (decimal_text a.v) a.buf.now a.at _ (omega (arith, c.decimal_length-digits.ensures.0)) _ _ key.0
    (omega (arith, value.0, c.decimal_length-digits.ensures.0)) (sym c.if-not-has_room.ensures))

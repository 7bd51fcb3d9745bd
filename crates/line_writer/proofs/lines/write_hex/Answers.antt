-- `line_writer::lines::write_hex` meets its contract. Assumes nothing.
use mathlib.Core.Path.{sym}
use native.Mathlib.Omega.{arith}
use Rattle.hex_tables.specs.Tables.{hex_text_by}
use Rattle.hex_tables.proofs.Lengths.{length_hex_by}
use Rattle.line_writer.proofs.LineLaws.{keyed_refused, keyed_written}
use Rattle.line_writer.proofs.lines.write_hex.Goals as goal

pub returns-then-not-has_room : goal.returns-then-not-has_room
returns-then-not-has_room c =
    let a = c.args in
    keyed_refused a.key.now (hex_text_by a.table.now a.n a.v) a.buf.now a.at _ (omega (arith, c.from-digits.ensures, length_hex_by a.table.now a.n a.v)) (sym c.if-not-has_room.ensures)

pub returns : goal.returns
returns c =
    let a = c.args in
    let n = length_hex_by a.table.now a.n a.v in
    let key = c.put_bytes-value.ensures in
    let value = c.put_hex-end.ensures in
    rw (value.1, key.1, c.from-digits.ensures)
    (keyed_written a.key.now (hex_text_by a.table.now a.n a.v) a.buf.now a.at _ (omega (arith, c.from-digits.ensures, n)) _ _ key.0
    (omega (arith, value.0, c.from-digits.ensures, n)) (sym c.if-not-has_room.ensures))

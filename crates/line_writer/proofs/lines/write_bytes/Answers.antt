-- `line_writer::lines::write_bytes` meets its contract. Assumes nothing.
use mathlib.Core.Path.{sym, ◌∙◌}
use Rattle.line_writer.proofs.LineLaws.{text_refused, text_written}
use Rattle.line_writer.proofs.lines.write_bytes.Goals as goal

pub returns-then-not-has_room : goal.returns-then-not-has_room
returns-then-not-has_room c = text_refused _ _ _ (sym c.if-not-has_room.ensures)

pub returns : goal.returns
returns c =
    let w = text_written c.args.src.now c.args.buf.now c.args.at (sym c.if-not-has_room.ensures) in
    (c.put_bytes.ensures.0 ∙ w.0, c.put_bytes.ensures.1 ∙ w.1)

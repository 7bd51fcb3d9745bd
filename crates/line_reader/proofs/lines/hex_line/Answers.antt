-- `line_reader::lines::hex_line` meets its contract. Assumes nothing.
use Rattle.std.proofs.Common.{sym, ◌∙◌, arith, eq-eqb, ne_eqb}
use Rattle.hex_tables.specs.Tables.{read_hex_by}
use Rattle.line_reader.proofs.LineLaws.{hex_line_short, hex_line_no, hex_line_is, hex_line_longer, line_missing}
use Rattle.line_reader.proofs.lines.hex_line.Goals as goal

pub returns-then-len-size : goal.returns-then-len-size
returns-then-len-size c =
    let a = c.args in
    sym (hex_line_short a.table.now a.key.now a.n a.text.now a.at (omega arith))

pub returns-then-len-size-2 : goal.returns-then-len-size-2
returns-then-len-size-2 c =
    let a = c.args in
    sym (hex_line_short a.table.now a.key.now a.n a.text.now a.at (omega arith))

pub returns-in_err-v : goal.returns-in_err-v
returns-in_err-v c =
    let a = c.args in
    c.from_residual.ensures ∙ sym (hex_line_no a.table.now a.key.now a.n a.text.now a.at (sym c.starts_with.ensures ∙ c.if-starts_with.true) (omega arith) (sym c.hex_at.ensures ∙ c.in_err-v.was))

pub returns-then-text-q-eq-NEWLINE : goal.returns-then-text-q-eq-NEWLINE
returns-then-text-q-eq-NEWLINE c =
    let a = c.args in
    sym (hex_line_is a.table.now a.key.now a.n a.text.now a.at _ (sym c.starts_with.ensures ∙ c.if-starts_with.true) (omega arith) (sym c.hex_at.ensures ∙ c.in_ok-v.was) (eq-eqb _ _ c.if-text-q-eq-NEWLINE.true))

pub returns-else-text-q-eq-NEWLINE : goal.returns-else-text-q-eq-NEWLINE
returns-else-text-q-eq-NEWLINE c =
    let a = c.args in
    sym (hex_line_longer a.table.now a.key.now a.n a.text.now a.at _ (sym c.starts_with.ensures ∙ c.if-starts_with.true) (omega arith) (sym c.hex_at.ensures ∙ c.in_ok-v.was) (ne_eqb _ _ c.if-text-q-eq-NEWLINE.false))

pub returns-else-starts_with : goal.returns-else-starts_with
returns-else-starts_with c =
    let a = c.args in
    sym (line_missing a.key.now (read_hex_by a.table.now a.n 0) a.text.now a.at (sym c.starts_with.ensures ∙ c.if-starts_with.false))

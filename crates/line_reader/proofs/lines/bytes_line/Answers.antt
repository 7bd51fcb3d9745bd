-- `line_reader::lines::bytes_line` meets its contract. Assumes nothing.
use Rattle.std.proofs.Common.{[], sym, ◌∙◌, arith}
use Rattle.hex_tables.specs.Tables.{read_pairs_by}
use Rattle.line_reader.proofs.LineLaws.{line_there, line_missing}
use Rattle.line_reader.proofs.Pairs.{bytes_line_short}
use Rattle.line_reader.proofs.lines.bytes_line.Goals as goal

pub returns-then-len-size : goal.returns-then-len-size
returns-then-len-size c =
    let a = c.args in
    sym (bytes_line_short a.table.now a.key.now a.text.now a.at (omega arith))

pub returns-then-len-size-2 : goal.returns-then-len-size-2
returns-then-len-size-2 c =
    let a = c.args in
    sym (bytes_line_short a.table.now a.key.now a.text.now a.at (omega arith))

pub returns-then-starts_with : goal.returns-then-starts_with
returns-then-starts_with c =
    let a = c.args in
    c.pairs_at.ensures ∙ sym (line_there a.key.now (read_pairs_by a.table.now 24 []) a.text.now a.at (sym c.starts_with.ensures ∙ c.if-starts_with.true))

pub returns : goal.returns
returns c =
    let a = c.args in
    sym (line_missing a.key.now (read_pairs_by a.table.now 24 []) a.text.now a.at (sym c.starts_with.ensures ∙ c.if-starts_with.false))

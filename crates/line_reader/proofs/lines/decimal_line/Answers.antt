-- `line_reader::lines::decimal_line` meets its contract. Assumes nothing.
use Rattle.std.proofs.Common.{◌+◌, length, sym, ◌∙◌, arith, le-ltb, lt-ltb, le-leb}
use Rattle.format.specs.Line.{read_decimal}
use Rattle.line_reader.proofs.LineLaws.{decimal_line_short, decimal_step, line_there, line_missing}
use borrow.Author.Tests.{lt-leb}
use Rattle.line_reader.proofs.lines.decimal_line.Goals as goal

pub returns-then-len-size : goal.returns-then-len-size
returns-then-len-size c =
    let a = c.args in
    sym (decimal_line_short a.key.now a.largest a.text.now a.at (omega arith))

pub returns-then-len-size-2 : goal.returns-then-len-size-2
returns-then-len-size-2 c =
    let a = c.args in
    sym (decimal_line_short a.key.now a.largest a.text.now a.at (omega arith))

pub returns-then-d-ge10 : goal.returns-then-d-ge10
returns-then-d-ge10 c =
    let a = c.args in
    rw (line_there a.key.now (read_decimal a.largest) a.text.now a.at (sym c.starts_with.ensures ∙ c.if-starts_with.true), decimal_step a.largest (a.at + length a.key.now) a.text.now (omega arith), ← c.decimal_digit-d.ensures, le-ltb _ _ c.if-d-ge10.true)

pub returns-then-largest-d : goal.returns-then-largest-d
returns-then-largest-d c =
    let a = c.args in
    rw (line_there a.key.now (read_decimal a.largest) a.text.now a.at (sym c.starts_with.ensures ∙ c.if-starts_with.true), decimal_step a.largest (a.at + length a.key.now) a.text.now (omega arith), ← c.decimal_digit-d.ensures, lt-ltb _ _ c.if-d-ge10.false, lt-leb _ _ c.if-largest-d.true)

pub returns-then-starts_with : goal.returns-then-starts_with
returns-then-starts_with c =
    let a = c.args in
    rw (line_there a.key.now (read_decimal a.largest) a.text.now a.at (sym c.starts_with.ensures ∙ c.if-starts_with.true), decimal_step a.largest (a.at + length a.key.now) a.text.now (omega arith), ← c.decimal_digit-d.ensures, lt-ltb _ _ c.if-d-ge10.false, le-leb _ _ c.if-largest-d.false) c.digits_at.ensures

pub returns : goal.returns
returns c =
    let a = c.args in
    sym (line_missing a.key.now (read_decimal a.largest) a.text.now a.at (sym c.starts_with.ensures ∙ c.if-starts_with.false))

-- `line_writer::digits::decimal_digit` meets its contract. Assumes nothing.
use borrow.Author.Tests.{lt-ltb}
use Rattle.line_writer.proofs.digits.decimal_digit.Goals as goal

pub returns : goal.returns
returns c = simp (lt-ltb _ 10 c.requires)

-- `capi::urrezkalu_write_attribute` meets its contract. Assumes nothing.
use mathlib.Core.Path.{refl, ◌∙◌}
use borrow.Author.Tests.{le-leb, lt-leb}
use Rattle.attribute.specs.Writer.{write_code}
use Rattle.capi.specs.Interface.{bit_written, bit_buffer}
use Rattle.capi.proofs.Answers.{by_code}
use Rattle.capi.proofs.urrezkalu_write_attribute.Goals as goal

pub returns-then-effective-gt1 : goal.returns-then-effective-gt1
unfolding bit_written bit_buffer
returns-then-effective-gt1 c = rw (lt-leb _ _ c.if-effective-gt1.true) (rw (← c.from.ensures) c.joined.ensures, refl)

pub returns : goal.returns
unfolding bit_written bit_buffer
returns c =
    let w = c.write.ensures in
    rw (le-leb _ _ c.if-effective-gt1.false, ← w.0) (c.answered.ensures ∙ by_code write_code c.write.result c.map_err.result c.map_err.ensures.cases, w.1)

-- `status_reader::values::Digits::digit` meets its contract. Assumes nothing.
use mathlib.Core.Path.{◌∙◌}
use borrow.Author.Tests.{lt-ltb}
use Rattle.hex_tables.proofs.Format.{by_the_tables}
use Rattle.status_reader.proofs.values.Digits.digit.Goals as goal

pub returns-then-d-base : goal.returns-then-d-base
returns-then-d-base c =
    let e = rw c.from.ensures at c.from-d.ensures in
    (e ∙ rw (← c.args.self.now.made, lt-ltb _ 256 c.ranges.b.fits) at (by_the_tables.reading_entry c.args.b), c.if-d-base.true)

pub returns-else-d-base : goal.returns-else-d-base
returns-else-d-base c =
    let e = rw c.from.ensures at c.from-d.ensures in
    rw (e ∙ rw (← c.args.self.now.made, lt-ltb _ 256 c.ranges.b.fits) at (by_the_tables.reading_entry c.args.b)) at c.if-d-base.false

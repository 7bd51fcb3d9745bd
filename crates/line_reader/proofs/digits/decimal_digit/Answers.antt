-- `line_reader::digits::decimal_digit` meets its contract. Assumes nothing.
use Rattle.std.proofs.Common.{le-ltb, lt-ltb}
use Rattle.line_reader.proofs.digits.decimal_digit.Goals as goal

pub returns-then-b-lt-ZERO : goal.returns-then-b-lt-ZERO
returns-then-b-lt-ZERO c = simp (lt-ltb _ _ c.if-b-lt-ZERO.true)

pub returns-then-b-lt-PAST_NINE : goal.returns-then-b-lt-PAST_NINE
returns-then-b-lt-PAST_NINE c =
    simp (
      lt-ltb _ _ c.if-b-lt-PAST_NINE.true,
      le-ltb _ _ c.if-b-lt-ZERO.false,
    )

pub returns : goal.returns
returns c =
    simp (
      le-ltb _ _ c.if-b-lt-PAST_NINE.false,
      le-ltb _ _ c.if-b-lt-ZERO.false,
    )

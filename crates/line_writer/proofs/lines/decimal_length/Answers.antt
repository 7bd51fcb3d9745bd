-- `line_writer::lines::decimal_length` meets its contract. Assumes nothing.
use mathlib.Core.Path.{◌∙◌}
use native.Mathlib.Omega.{arith}
use Rattle.format.proofs.Lengths.{length_more, length_one, length_some}
use Rattle.line_writer.proofs.LineLaws.{length_64}
use Rattle.line_writer.proofs.lines.decimal_length.Goals as goal

pub loop-w-init : goal.loop-w-init
loop-w-init c = (omega arith, length_64 c.args.v (omega (arith, c.ranges.v.fits)))

pub overflow_add-n : goal.overflow_add-n
overflow_add-n c = let l = c.loop-w in omega (arith, l.invariant.0, l.invariant.1, length_some l.w)

pub loop-w-preserved : goal.loop-w-preserved
loop-w-preserved c = let l = c.loop-w in (l.invariant.0 ∙ rw (length_more l.w c.loop-w-test.true) (omega arith), l.invariant.1)

pub returns : goal.returns
returns c =
    let l = c.loop-w in
    let one = length_one l.w c.loop-w-test.false in
    (omega (arith, l.invariant.0, one), omega (arith, l.invariant.0, l.invariant.1, one))

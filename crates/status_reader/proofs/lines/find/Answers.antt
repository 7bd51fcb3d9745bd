-- `status_reader::lines::find` meets its contract. Assumes nothing.
use mathlib.Core.Path.{sym}
use native.Mathlib.Omega.{arith}
use Rattle.status_reader.proofs.LineLaws.{found_here, found_further, position_here, position_nowhere}
use Rattle.status_reader.proofs.lines.find.Goals as goal

pub returns-then-text-i : goal.returns-then-text-i
returns-then-text-i c =
    let a = c.args in
    let i = c.loop-i.i in
    sym (position_here a.b i a.text.now (omega (arith, c.loop-i.invariant, found_here a.b i a.text.now c.loop-i-test.true c.if-text-i.true)) c.loop-i-test.true)

pub loop-i-preserved : goal.loop-i-preserved
loop-i-preserved c =
    let a = c.args in
    omega (arith, c.loop-i.invariant, found_further a.b c.loop-i.i a.text.now c.loop-i-test.true c.if-text-i.false)

pub returns : goal.returns
returns c = sym (position_nowhere c.args.b c.args.text.now (omega (arith, c.loop-i.invariant, c.loop-i-test.false)))

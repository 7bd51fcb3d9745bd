-- `status_reader::values::decimal_value` meets its contract. Assumes nothing.
use mathlib.Core.Path.{sym}
use native.Mathlib.Omega.{arith}
use Rattle.status_reader.proofs.ValueLaws.{no_digits, first_good, first_none, first_above, further_good, further_above, further_zero, further_none, decimal_end}
use Rattle.status_reader.proofs.values.decimal_value.Goals as goal

pub returns-in_err-first : goal.returns-in_err-first
returns-in_err-first c = let a = c.args in rw c.from_residual.ensures (sym (no_digits a.largest a.part.now c.in_err-first.ensures.cases))

pub returns-in_err-value : goal.returns-in_err-value
returns-in_err-value c =
    let f = c.in_ok-first in
    rw (c.from_residual-in_err-value.ensures, f.ensures.cases.0) (sym (first_none c.args.largest f.first.now f.further.now c.in_err-value.ensures))

pub returns-then-from-value : goal.returns-then-from-value
returns-then-from-value c =
    let f = c.in_ok-first in
    let v = c.in_ok-value.ensures in
    rw f.ensures.cases.0 (sym (first_above c.args.largest f.first.now f.further.now (omega (arith, v)) (omega (arith, v, c.from.ensures))))

pub loop-b-init : goal.loop-b-init
loop-b-init c =
    let f = c.in_ok-first in
    let v = c.in_ok-value.ensures in
    (rw (f.ensures.cases.0, v.0) (first_good c.args.largest f.first.now f.further.now (omega (arith, v)) (omega (arith, v, c.from.ensures))), omega arith)

pub returns-then-value-eq0 : goal.returns-then-value-eq0
returns-then-value-eq0 c =
    let l = c.loop-b in
    rw l.invariant.0 (sym (further_zero c.args.largest l.value l.b-index c.in_ok-first.further.now (omega arith) c.if-value-eq0.true))

pub returns-in_err-d : goal.returns-in_err-d
returns-in_err-d c =
    let l = c.loop-b in
    rw (c.from_residual-in_err-d.ensures, l.invariant.0)
    (sym (further_none c.args.largest l.value l.b-index c.in_ok-first.further.now (omega arith) c.in_err-d.ensures))

pub returns-then-from-value-2 : goal.returns-then-from-value-2
returns-then-from-value-2 c =
    let l = c.loop-b in
    let d = c.in_ok-d.ensures in
    rw l.invariant.0
    (sym (further_above c.args.largest l.value l.b-index c.in_ok-first.further.now (omega arith) (omega (arith, d)) (omega (arith, d, c.from-in-loop-b.ensures))))

pub loop-b-preserved : goal.loop-b-preserved
loop-b-preserved c =
    let l = c.loop-b in
    let d = c.in_ok-d.ensures in (
      rw (l.invariant.0, d.0)
          (further_good c.args.largest l.value l.b-index c.in_ok-first.further.now (omega arith) c.if-value-eq0.false (omega (arith, d)) (omega (arith, d, c.from-in-loop-b.ensures))),
      omega arith,
    )

pub returns : goal.returns
returns c =
    let l = c.loop-b in
    rw l.invariant.0 (sym (decimal_end c.args.largest l.value l.b-index c.in_ok-first.further.now (omega arith)))

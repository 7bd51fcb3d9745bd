-- `line_reader::lines::digits_at` meets its contract. Assumes nothing.
use Rattle.std.proofs.Common.{◌+◌, Some, sym, refl, ap, arith, rules, le-ltb, lt-ltb, eq-eqb, ne_eqb, le-leb}
use Rattle.line_reader.proofs.LineLaws.{position, digits_step, digits_end}
use borrow.Author.Tests.{lt-leb}
use Rattle.line_reader.proofs.lines.digits_at.Goals as goal

pub loop-i-init : goal.loop-i-init
loop-i-init c = (refl, search rules)

pub returns-then-b-eq-NEWLINE : goal.returns-then-b-eq-NEWLINE
returns-then-b-eq-NEWLINE c =
    let a = c.args in
    let t = a.text.now in
    rw (c.loop-i.invariant.0, digits_step a.largest c.loop-i.i t (omega arith) c.loop-i.v, eq-eqb _ _ c.if-b-eq-NEWLINE.true) (ap (λ i. Some (c.loop-i.v, i)) (sym (position t (c.loop-i.i + 1) (omega arith))))

pub returns-then-v-eq0 : goal.returns-then-v-eq0
returns-then-v-eq0 c =
    let a = c.args in
    let t = a.text.now in
    rw (c.loop-i.invariant.0, digits_step a.largest c.loop-i.i t (omega arith) c.loop-i.v, ne_eqb _ _ c.if-b-eq-NEWLINE.false, eq-eqb _ _ c.if-v-eq0.true)

pub returns-then-d-ge10 : goal.returns-then-d-ge10
returns-then-d-ge10 c =
    let a = c.args in
    let t = a.text.now in
    rw (c.loop-i.invariant.0, digits_step a.largest c.loop-i.i t (omega arith) c.loop-i.v, ne_eqb _ _ c.if-b-eq-NEWLINE.false, ne_eqb _ _ c.if-v-eq0.false, ← c.decimal_digit-d.ensures, le-ltb _ _ c.if-d-ge10.true)

pub returns-then-largest-w : goal.returns-then-largest-w
returns-then-largest-w c =
    let a = c.args in
    let t = a.text.now in
    rw (c.loop-i.invariant.0, digits_step a.largest c.loop-i.i t (omega arith) c.loop-i.v, ne_eqb _ _ c.if-b-eq-NEWLINE.false, ne_eqb _ _ c.if-v-eq0.false, ← c.decimal_digit-d.ensures, lt-ltb _ _ c.if-d-ge10.false, lt-leb _ _ c.if-largest-w.true)

pub loop-i-preserved : goal.loop-i-preserved
loop-i-preserved c =
    let a = c.args in
    let t = a.text.now in
    (rw (c.loop-i.invariant.0, digits_step a.largest c.loop-i.i t (omega arith) c.loop-i.v, ne_eqb _ _ c.if-b-eq-NEWLINE.false, ne_eqb _ _ c.if-v-eq0.false, ← c.decimal_digit-d.ensures, lt-ltb _ _ c.if-d-ge10.false, le-leb _ _ c.if-largest-w.false), search rules)

pub returns : goal.returns
returns c = let a = c.args in rw (c.loop-i.invariant.0, digits_end a.largest c.loop-i.v a.text.now c.loop-i.i (omega arith))

-- `names_reader::subjects::names_at` meets its contract. Assumes nothing.
use mathlib.Core.Path.{sym, ◌∙◌}
use native.Mathlib.Omega.{arith}
use Rattle.std.specs.Prelude.{Ok, Err}
use Rattle.std.proofs.lemmas.Result.{err_from_is_err_and}
use Rattle.names.specs.declared.ReadError.TheVariants.{Malformed}
use Rattle.names_reader.proofs.Found.{names_operator, names_stuck, names_end, names_missing, names_next}
use Rattle.names_reader.proofs.subjects.names_at.Goals as goal

pub returns-then-is_operator : goal.returns-then-is_operator
returns-then-is_operator c =
    let t = c.args.text.now in
    let l = c.loop-i in
    let h = c.loop-i-test.true in
    (l.invariant.0 (Ok (l.all, l.i)) (names_operator t l.i l.all h (sym c.is_operator.ensures ∙ c.if-is_operator.true)), (l.invariant.1, h))

pub returns-then-b-ne-COMMA : goal.returns-then-b-ne-COMMA
returns-then-b-ne-COMMA c =
    let t = c.args.text.now in
    let l = c.loop-i in
    (l.invariant.0 (Err (Malformed l.i)) (names_stuck t l.i l.all c.loop-i-test.true (sym c.is_operator.ensures ∙ c.if-is_operator.false) c.if-b-ne-COMMA.true), tt)

pub returns-in_err-number : goal.returns-in_err-number
returns-in_err-number c =
    let t = c.args.text.now in
    let l = c.loop-i in
    let p = err_from_is_err_and c.from_residual.result c.from_residual.ensures.1 in
    let f = c.in_err-number.ensures.0 in
    rw (p.1, p.2) (l.invariant.0 (Err c.in_err-number.field-0.0) (names_missing t l.i l.all c.in_err-number.field-0.0 c.loop-i-test.true c.if-b-ne-COMMA.false f), tt)

pub loop-i-preserved : goal.loop-i-preserved
loop-i-preserved c =
    let t = c.args.text.now in
    let l = c.loop-i in
    let x = c.in_ok-number in (
      λ r h. l.invariant.0 r (names_next t l.i l.all x.number x.next c.single-all.result c.loop-i-test.true c.if-b-ne-COMMA.false x.ensures.0 c.single-all.ensures r h),
      omega (arith, x.ensures.1, l.invariant.1),
    )

pub returns : goal.returns
returns c =
    let t = c.args.text.now in
    let l = c.loop-i in
    (l.invariant.0 (Err (Malformed l.i)) (names_end t l.i l.all c.loop-i-test.false), tt)

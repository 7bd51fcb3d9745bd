-- `line_writer::lines::put_decimal` meets its contract. Assumes nothing.
use mathlib.Core.Path.{refl, sym, ◌∙◌}
use Prim.Native.Nat.{◌-◌}
use native.Mathlib.Omega.{arith}
use lib.ListN.{length-set}
use Rattle.format.proofs.Lengths.{length_more, length_some}
use Rattle.line_writer.proofs.LineLaws.{put_decimal_digit, put_first_digit, two_digits, one_digit}
use Rattle.line_writer.proofs.lines.put_decimal.Goals as goal

pub loop-m-preserved : goal.loop-m-preserved
loop-m-preserved c =
    let l = c.loop-m in
    let h = two_digits l.w (omega (arith, l.invariant.1)) in
    (l.invariant.0 ∙ put_decimal_digit l.w (l.m - 1) l.buf _ h (omega (arith, l.invariant.1)) ∙ rw c.decimal_digit.ensures, omega (arith, l.invariant.1, length_more l.w h), simp length-set l.invariant.2)

pub decimal_digit-requires-2 : goal.decimal_digit-requires-2
decimal_digit-requires-2 c = let l = c.loop-m in one_digit l.w (omega (arith, l.invariant.1))

pub bounds-buf-at-2 : goal.bounds-buf-at-2
bounds-buf-at-2 c = let l = c.loop-m in omega (arith, c.requires.0, c.requires.1, l.invariant.2, length_some c.args.v)

pub returns : goal.returns
returns c =
    let l = c.loop-m in
    (refl, sym (l.invariant.0 ∙ put_first_digit l.w _ _ (one_digit l.w (omega (arith, l.invariant.1))) ∙ rw c.decimal_digit-2.ensures))

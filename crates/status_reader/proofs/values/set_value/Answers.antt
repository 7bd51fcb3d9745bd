-- `status_reader::values::set_value` meets its contract. Assumes nothing.
use mathlib.Core.Path.{sym, ◌∙◌}
use Prim.Native.Nat.{◌-◌, ◌+◌}
use native.Mathlib.Omega.{arith}
use borrow.Author.Rules.{rules}
use borrow.Author.Tests.{le-ltb, lt-ltb}
use Rattle.format.proofs.Digits.{hex_room, hex_grows}
use Rattle.status_reader.proofs.ValueLaws.{set_start, hex_step, hex_end, hex_length}
use Rattle.status_reader.proofs.values.set_value.Goals as goal

pub returns-then-part-ne-SET_DIGITS : goal.returns-then-part-ne-SET_DIGITS
returns-then-part-ne-SET_DIGITS c = let t = c.args.part.now in sym (set_start t ∙ hex_length 16 0 t c.if-part-ne-SET_DIGITS.true)

pub loop-b-init : goal.loop-b-init
loop-b-init c = (c.if-part-ne-SET_DIGITS.false, set_start c.args.part.now, search rules)

pub returns-in_err-d : goal.returns-in_err-d
returns-in_err-d c =
    let t = c.args.part.now in
    let l = c.loop-b in
    rw (c.from_residual.ensures, l.invariant.1, hex_step (16 - l.b-index) (16 - (l.b-index + 1)) l.value l.b-index t (omega arith) (omega arith), le-ltb _ _ c.in_err-d.ensures)

pub overflow_mul-value : goal.overflow_mul-value
overflow_mul-value c =
    record { fits = omega (arith, hex_room c.loop-b.b-index c.loop-b.value (omega arith) c.loop-b.invariant.2) }

pub overflow_add-value : goal.overflow_add-value
overflow_add-value c =
    record { fits = omega (arith, c.in_ok-d.ensures, hex_room c.loop-b.b-index c.loop-b.value (omega arith) c.loop-b.invariant.2) }

pub loop-b-preserved : goal.loop-b-preserved
loop-b-preserved c =
    let t = c.args.part.now in
    let l = c.loop-b in
    let d = c.in_ok-d.ensures in (
      c.if-part-ne-SET_DIGITS.false,
      rw (l.invariant.1, hex_step (16 - l.b-index) (16 - (l.b-index + 1)) l.value l.b-index t (omega arith) (omega arith), ← d.0, lt-ltb _ _ d.1),
      hex_grows l.b-index l.value _ l.invariant.2 d.1,
    )

pub returns : goal.returns
returns c =
    let t = c.args.part.now in
    let l = c.loop-b in
    rw l.invariant.1 (sym (hex_end (16 - l.b-index) l.value l.b-index t (omega arith) (omega arith)))

-- `line_reader::lines::hex_at` meets its contract. Assumes nothing.
use Rattle.std.proofs.Common.{◌+◌, ◌-◌, sym, add-zero, arith, rules, le-ltb, lt-ltb}
use native.Mathlib.Nat.{sub-zero}
use Rattle.line_reader.proofs.LineLaws.{hex_step, hex_end}
use Rattle.format.proofs.Digits.{hex_room, hex_grows}
use Rattle.line_reader.proofs.lines.hex_at.Goals as goal

pub loop-k-init : goal.loop-k-init
loop-k-init c = (rw (add-zero, sub-zero), search rules, search rules)

pub returns-then-d-ge16 : goal.returns-then-d-ge16
returns-then-d-ge16 c =
    let a = c.args in
    rw (c.loop-k.invariant.0, hex_step a.table.now (a.n - c.loop-k.k) (a.n - (c.loop-k.k + 1)) c.loop-k.v (a.at + c.loop-k.k) (a.at + (c.loop-k.k + 1)) a.text.now (omega arith) (omega arith) (omega arith), ← c.hex_digit-d.ensures, le-ltb _ _ c.if-d-ge16.true)

pub overflow_mul-v : goal.overflow_mul-v
overflow_mul-v c =
    let a = c.args in
    record { fits = omega (arith, hex_room c.loop-k.k c.loop-k.v (omega arith) c.loop-k.invariant.2) }

pub overflow_add-v : goal.overflow_add-v
overflow_add-v c =
    let a = c.args in
    record { fits = omega (arith, hex_room c.loop-k.k c.loop-k.v (omega arith) c.loop-k.invariant.2) }

pub loop-k-preserved : goal.loop-k-preserved
loop-k-preserved c =
    let a = c.args in (
      rw (c.loop-k.invariant.0, hex_step a.table.now (a.n - c.loop-k.k) (a.n - (c.loop-k.k + 1)) c.loop-k.v (a.at + c.loop-k.k) (a.at + (c.loop-k.k + 1)) a.text.now (omega arith) (omega arith) (omega arith), ← c.hex_digit-d.ensures, lt-ltb _ _ c.if-d-ge16.false),
      search rules,
      hex_grows c.loop-k.k c.loop-k.v _ c.loop-k.invariant.2 c.if-d-ge16.false,
    )

pub returns : goal.returns
returns c = rw c.loop-k.invariant.0 (sym (hex_end _ _ _ _ (omega arith)))

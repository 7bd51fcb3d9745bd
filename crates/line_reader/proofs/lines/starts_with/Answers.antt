-- `line_reader::lines::starts_with` meets its contract. Assumes nothing.
use Rattle.std.proofs.Common.{◌+◌, sym, add-zero, arith, rules, eq-eqb, ne_eqb}
use Rattle.line_reader.proofs.Keys.{starts_step, starts_end}
use Rattle.line_reader.proofs.lines.starts_with.Goals as goal

pub loop-k-init : goal.loop-k-init
loop-k-init c = (rw add-zero, search rules)

pub returns-then-text-at : goal.returns-then-text-at
returns-then-text-at c =
    let a = c.args in
    rw (
      c.loop-k.invariant.0,
      starts_step a.key.now a.text.now c.loop-k.k (a.at + c.loop-k.k) (a.at + (c.loop-k.k + 1)) (omega arith) (omega arith) (omega arith),
      ne_eqb _ _ c.if-text-at.true,
    )

pub loop-k-preserved : goal.loop-k-preserved
loop-k-preserved c =
    let a = c.args in (
      rw (
        c.loop-k.invariant.0,
        starts_step a.key.now a.text.now c.loop-k.k (a.at + c.loop-k.k) (a.at + (c.loop-k.k + 1)) (omega arith) (omega arith) (omega arith),
        eq-eqb _ _ c.if-text-at.false,
      ),
      search rules,
    )

pub returns : goal.returns
returns c = rw c.loop-k.invariant.0 (sym (starts_end c.args.key.now _ c.loop-k.k (omega arith)))

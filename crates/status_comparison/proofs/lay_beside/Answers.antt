-- `status_comparison::lay_beside` meets its contract. Assumes nothing.
use mathlib.Core.Path.{sym, ap, ◌∙◌}
use lib.ListN.{length}
use lib.Seq.{sets}
use native.Mathlib.Omega.{arith}
use Rattle.status_comparison.proofs.Laws.{not_valid, no_room, is_written}
use Rattle.status_comparison.proofs.lay_beside.Goals as goal

pub returns-then-not-is_valid : goal.returns-then-not-is_valid
returns-then-not-is_valid c =
    let a = c.args in
    not_valid a.found a.predicted a.list.now (sym c.is_valid.ensures ∙ c.if-not-is_valid.true)

pub returns-then-list-size : goal.returns-then-list-size
returns-then-list-size c =
    let a = c.args in
    no_room a.found a.predicted a.list.now (sym c.is_valid.ensures ∙ c.if-not-is_valid.false) (omega (arith, ap length c.compared_lines-lines.ensures))

pub returns : goal.returns
returns c =
    let a = c.args in
    let size = c.list_length-size in
    let e = sym c.compared_lines-lines.ensures in
    is_written a.found a.predicted a.list.now size.result _ (sym c.is_valid.ensures ∙ c.if-not-is_valid.false) (size.ensures.0 ∙ ap length e) (omega (arith, ap length e)) (c.write_list.ensures ∙ ap (sets a.list.now 0) e)

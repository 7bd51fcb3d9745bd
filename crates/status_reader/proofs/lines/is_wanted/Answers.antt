-- `status_reader::lines::is_wanted` meets its contract. Assumes nothing.
use mathlib.Core.Path.{sym, ◌∙◌}
use native.Mathlib.Omega.{arith}
use Rattle.status_reader.proofs.LineLaws.{wanted_set, wanted_ids, wanted_flag, wanted_other, empty_line}
use Rattle.status_reader.proofs.lines.is_wanted.Goals as goal

pub returns-in_default : goal.returns-in_default
returns-in_default c = sym (empty_line c.args.line.now (rw c.in_default.is at c.first.ensures.value))

pub returns-in-67 : goal.returns-in-67
returns-in-67 c =
    let b = c.in-Some in
    c.is_set_line.ensures ∙ sym (wanted_set c.args.line.now b.first.now b.ensures.value c.in-67.is)

pub returns-in-85 : goal.returns-in-85
returns-in-85 c =
    let b = c.in-Some in
    c.begins_with.ensures ∙ sym (wanted_ids c.args.line.now b.first.now b.ensures.value c.in-85.is)

pub returns-in-78 : goal.returns-in-78
returns-in-78 c =
    let b = c.in-Some in
    c.begins_with-in-78.ensures ∙ sym (wanted_flag c.args.line.now b.first.now b.ensures.value c.in-78.is)

pub returns-in_default-first : goal.returns-in_default-first
returns-in_default-first c =
    let b = c.in-Some in
    sym (wanted_other c.args.line.now b.first.now b.ensures.value (λ e. omega arith) (λ e. omega arith) (λ e. omega arith))

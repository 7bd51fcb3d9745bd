-- `status_reader::lines::values_of` meets its contract. Assumes nothing.
use Rattle.status_reader.proofs.LineLaws.{by_option, name_missing, tab_missing, tab_there}
use Rattle.status_reader.proofs.lines.values_of.Goals as goal

pub returns-in_err-strip_prefix : goal.returns-in_err-strip_prefix
returns-in_err-strip_prefix c =
    rw c.from_residual.ensures (λ f fs. name_missing c.args.line.now c.args.name.now f fs c.in_err-strip_prefix.ensures.cases)

pub returns : goal.returns
returns c =
    let a = c.args in
    let e = c.in_ok-strip_prefix.ensures.cases in
    by_option c.strip_prefix-2.result
    (λ p f fs. tab_missing a.line.now a.name.now f fs e.0 p)
    (λ t p f fs. rw p.1 (tab_there a.line.now a.name.now f fs e.0 p.0))
    (rw e.1 at c.strip_prefix-2.ensures.cases)

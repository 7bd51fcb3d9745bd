-- `status_comparison::line::Line::write` meets its contract. Assumes nothing.
use borrow.Author.Tests.{ne_eqb}
use Rattle.format.specs.Line.{value_text}
use Rattle.status_comparison.specs.Inside.{form_of}
use Rattle.status_comparison.proofs.Laws.{past_some, line_put}
use Rattle.status_comparison.proofs.line.Line.write.Goals as goal

pub overflow_sub-past : goal.overflow_sub-past
overflow_sub-past c =
    let s = c.args.self.now in
    let form = form_of s.form in
    let fits = rw (ne_eqb _ _ c.if-self.false) at c.requires.0 in
    past_some s.key.now (value_text form s.predicted) (value_text form s.found) _ _ _ _ fits c.write-past.ensures

pub returns : goal.returns
returns c =
    let s = c.args.self.now in
    let form = form_of s.form in
    let differ = ne_eqb _ _ c.if-self.false in
    let fits = rw differ at c.requires.0 in
    rw differ (line_put s.key.now (value_text form s.predicted) (value_text form s.found) _ _ _ _ fits c.write-past.ensures c.write.ensures)

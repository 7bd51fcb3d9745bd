-- `status_reader::lines::first_id` meets its contract. Assumes nothing.
use Rattle.status.specs.Lines.{id_form}
use Rattle.status_reader.proofs.LineLaws.{none_follows, followed}
use Rattle.status_reader.proofs.lines.first_id.Goals as goal

pub returns-in_err-part : goal.returns-in_err-part
returns-in_err-part c = rw c.from_residual.ensures (λ f fs. none_follows id_form f fs c.args.values.now c.in_err-part.ensures)

pub returns : goal.returns
returns c =
    let p = c.in_ok-part in
    λ f fs. followed id_form f fs c.args.values.now p.behind.now c.in_ok-id.id p.ensures.1 (rw p.ensures.0 c.in_ok-id.ensures)

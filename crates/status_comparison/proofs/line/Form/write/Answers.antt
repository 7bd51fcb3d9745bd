-- `status_comparison::line::Form::write` meets its contract. Assumes nothing.
use Rattle.status_comparison.proofs.Laws.{by_the_table}
use Rattle.status_comparison.proofs.line.Form.write.Goals as goal

pub returns-in-Hex : goal.returns-in-Hex
returns-in-Hex c = rw (c.in-Hex.is, by_the_table c.args.table.now c.args.value c.requires) c.write_hex.ensures

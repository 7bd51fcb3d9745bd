-- `names_reader::table::row_by_hash` meets its contract: every entry at once, by computing the rows. Assumes nothing.
use mathlib.Core.Path.{refl}
use Rattle.names_reader.specs.Inside.{rows, row_for, rows_for, index}
use Rattle.names_reader.proofs.table.row_by_hash.Goals as goal

pub returns : goal.returns
unfolding index rows_for row_for rows
returns c = refl

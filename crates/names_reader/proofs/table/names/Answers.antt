-- `names_reader::table::names` meets its contract: every entry at once, by computing the rows. Assumes nothing.
use mathlib.Core.Path.{refl}
use Rattle.names_reader.specs.Inside.{rows}
use Rattle.names_reader.proofs.table.names.Goals as goal

pub returns : goal.returns
unfolding rows
returns c = refl

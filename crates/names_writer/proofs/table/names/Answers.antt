-- `names_writer::table::names` meets its contract: every entry at once, by computing the names. Assumes nothing.
use mathlib.Core.Path.{refl}
use Rattle.names.specs.Names.{capability_names}
use Rattle.names_writer.proofs.table.names.Goals as goal

pub returns : goal.returns
unfolding capability_names
returns c = refl

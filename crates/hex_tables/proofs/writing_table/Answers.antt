-- `hex_tables::writing_table` meets its contract: all 16 entries are computed from `digit` and compared. Assumes nothing.
use mathlib.Core.Path.{refl}
use Rattle.hex_tables.specs.Tables.{tabulated, writing_table}
use Rattle.hex_tables.proofs.writing_table.Goals as goal

pub returns : goal.returns
unfolding tabulated writing_table
returns c = refl

-- `hex_tables::reading_table` meets its contract: all 256 entries are computed from `hex_digit` and compared. Assumes nothing.
use mathlib.Core.Path.{refl}
use Rattle.hex_tables.specs.Tables.{tabulated, reading_table}
use Rattle.hex_tables.proofs.reading_table.Goals as goal

pub returns : goal.returns
unfolding tabulated reading_table
returns c = refl

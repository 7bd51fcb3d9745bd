-- `names_reader::words::indexed` meets its contract. Assumes nothing.
use Rattle.names_reader.proofs.Rows.{got}
use Rattle.names_reader.proofs.words.indexed.Goals as goal

pub returns : goal.returns
returns c = let h = c.get.ensures.lookup in got c.names.result.now c.from.result c.get.result h.0 h.1 c.names.ensures

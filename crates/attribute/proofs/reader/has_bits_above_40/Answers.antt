-- `attribute::reader::has_bits_above_40` meets its contract. Assumes nothing.
use Rattle.attribute.proofs.reader.has_bits_above_40.Goals as goal

pub returns : goal.returns
returns c = c.outside.ensures

-- `attribute::reader::is_unreadable` meets its contract. Assumes nothing.
use Rattle.attribute.specs.Reader.{unreadable}
use Rattle.attribute.proofs.reader.is_unreadable.Goals as goal

pub returns : goal.returns
unfolding unreadable
returns c =
    simp (
      ← c.has_bits_above_40.ensures,
      ← c.length_of.ensures,
      ← c.file_of-file.ensures,
      ← c.word-first.ensures.0,
    )

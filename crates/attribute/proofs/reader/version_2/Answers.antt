-- `attribute::reader::version_2` meets its contract. Assumes nothing.
use Rattle.attribute.specs.Reader.{version2}
use Rattle.attribute.proofs.reader.version_2.Goals as goal

pub returns : goal.returns
unfolding version2
returns c =
    simp (
      ← c.word-5.ensures.0,
      ← c.set_of-2.ensures,
      ← c.word-4.ensures.0,
      ← c.word-3.ensures.0,
      ← c.set_of.ensures,
      ← c.word-2.ensures.0,
      ← c.word.ensures.0,
    )

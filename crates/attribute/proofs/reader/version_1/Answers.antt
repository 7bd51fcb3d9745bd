-- `attribute::reader::version_1` meets its contract. Assumes nothing.
use Rattle.attribute.specs.Reader.{version1}
use Rattle.attribute.proofs.reader.version_1.Goals as goal

pub returns : goal.returns
unfolding version1
returns c =
    simp (
      ← c.word-3.ensures.0,
      ← c.word-2.ensures.0,
      ← c.word.ensures.0,
    )

-- `attribute::reader::file_of` meets its contract. Assumes nothing.
use Rattle.attribute.specs.Reader.{file_of}
use borrow.Author.Tests.{eq-eqb, ne_eqb}
use Rattle.attribute.proofs.reader.file_of.Goals as goal

pub returns-then-word-eq1 : goal.returns-then-word-eq1
unfolding file_of
returns-then-word-eq1 c =
    simp (
      ← c.version_1.ensures,
      eq-eqb _ _ c.if-word-eq1.true,
      ← c.word.ensures.0,
    )

pub returns : goal.returns
unfolding file_of
returns c =
    simp (
      ← c.version_2.ensures,
      ne_eqb _ _ c.if-word-eq1.false,
      ← c.word.ensures.0,
    )

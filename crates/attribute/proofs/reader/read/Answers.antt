-- `attribute::reader::read` meets its contract. Assumes nothing.
use Rattle.attribute.specs.Reader.{reading}
use Rattle.attribute.proofs.reader.read.Goals as goal

pub returns-then-is_empty : goal.returns-then-is_empty
unfolding reading
returns-then-is_empty c = simp (c.if-is_empty.true, ← c.is_empty.ensures)

pub returns-then-is_unreadable : goal.returns-then-is_unreadable
unfolding reading
returns-then-is_unreadable c =
    simp (
      c.if-is_unreadable.true,
      ← c.is_unreadable.ensures,
      c.if-is_empty.false,
      ← c.is_empty.ensures,
    )

pub returns : goal.returns
unfolding reading
returns c =
    simp (
      ← c.file_of.ensures,
      c.if-is_unreadable.false,
      ← c.is_unreadable.ensures,
      c.if-is_empty.false,
      ← c.is_empty.ensures,
    )

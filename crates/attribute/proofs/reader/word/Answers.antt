-- `attribute::reader::word` meets its contract. Assumes nothing.
use Rattle.attribute.specs.Words.{word_at}
use native.Mathlib.Omega.{arith}
use Rattle.attribute.proofs.reader.word.Goals as goal

pub returns : goal.returns
unfolding word_at
returns c = (
  simp (
    ← c.byte-4.ensures.0,
    ← c.byte-3.ensures.0,
    ← c.byte-2.ensures.0,
    ← c.byte.ensures.0,
  ),
  omega arith,
)

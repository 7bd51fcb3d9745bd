-- `attribute::writer::first_word` meets its contract. Assumes nothing.
use Rattle.attribute.specs.Writer.{first_word}
use Rattle.attribute.proofs.writer.first_word.Goals as goal

pub returns-then-effective : goal.returns-then-effective
unfolding first_word
returns-then-effective c = simp c.if-effective.true

pub returns : goal.returns
unfolding first_word
returns c = simp c.if-effective.false

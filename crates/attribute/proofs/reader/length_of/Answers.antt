-- `attribute::reader::length_of` meets its contract. Assumes nothing.
use Rattle.attribute.specs.Reader.{length_of}
use borrow.Author.Tests.{eq-eqb, ne_eqb}
use Rattle.attribute.proofs.reader.length_of.Goals as goal

pub returns-then-version-eq1 : goal.returns-then-version-eq1
unfolding length_of
returns-then-version-eq1 c = simp (eq-eqb _ _ c.if-version-eq1.true)

pub returns : goal.returns
unfolding length_of
returns c = simp (ne_eqb _ _ c.if-version-eq1.false)

-- `capi::give` meets its contract. Assumes nothing.
use mathlib.Core.Path.{refl}
use borrow.Author.Tests.{le-leb, lt-leb}
use Rattle.capi.specs.Interface.{given_number, given_in}
use Rattle.capi.proofs.give.Goals as goal

pub returns-then-values-n : goal.returns-then-values-n
unfolding given_number given_in
returns-then-values-n c = rw (lt-leb _ _ c.if-values-n.true) (c.joined.ensures, refl)

pub returns : goal.returns
unfolding given_number given_in
returns c = rw (le-leb _ _ c.if-values-n.false, c.copy_from_slice.ensures.after) (c.joined-2.ensures, refl)

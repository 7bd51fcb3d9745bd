-- `capabilities::sets::has` meets its contract. Assumes nothing.
use mathlib.Core.Path.{sym}
use Rattle.capabilities.proofs.Masks.{has_code}
use Rattle.capabilities.proofs.Membership.{has_above}
use Rattle.capabilities.proofs.sets.has.Goals as goal

pub returns-then-n-lt-WORD_BITS : goal.returns-then-n-lt-WORD_BITS
returns-then-n-lt-WORD_BITS c = has_code c.args.a c.args.n

pub returns : goal.returns
returns c = sym (has_above 64 c.args.a c.args.n c.ranges.a.fits c.if-n-lt-WORD_BITS.false)

-- `capabilities::sets::single` meets its contract. Assumes nothing.
use Rattle.capabilities.proofs.Masks.{single_code}
use Rattle.capabilities.proofs.sets.single.Goals as goal

pub returns-then-n-lt-WORD_BITS : goal.returns-then-n-lt-WORD_BITS
returns-then-n-lt-WORD_BITS c = single_code c.args.n c.if-n-lt-WORD_BITS.true

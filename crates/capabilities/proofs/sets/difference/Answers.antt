-- `capabilities::sets::difference` meets its contract. Assumes nothing.
use Rattle.capabilities.proofs.Masks.{minus_code}
use Rattle.capabilities.proofs.sets.difference.Goals as goal

pub returns : goal.returns
returns c = minus_code 64 c.args.a c.args.b c.ranges.a.fits c.ranges.b.fits

-- `slots::table::lowest_free` meets its contract. Assumes nothing.
use Rattle.std.proofs.Common.{rules}
use Rattle.std.proofs.lemmas.Iterator.{IsFirst-from_position, YieldsList-from_slice}
use borrow.Author.Tests.{tests}
use Rattle.slots.proofs.Free.{Free, Used, free_position}
use Rattle.slots.proofs.table.lowest_free.Goals as goal

pub returns : goal.returns
returns c =
    free_position c.position.result c.args.used.now 96 c.requires
    (IsFirst-from_position _ _ c.position.result Free Used c.position.ensures.ran (YieldsList-from_slice c.args.used.now cc)
    (λ x q k. search (rules, tests)) (λ x q k. search (rules, tests)))

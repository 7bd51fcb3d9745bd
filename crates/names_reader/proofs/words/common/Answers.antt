-- `names_reader::words::common` meets its contract. Assumes nothing.
use mathlib.Core.Path.{◌∙◌}
use Prim.Native.Nat.{ℕ}
use native.Mathlib.Omega.{arith}
use Rattle.std.proofs.Common.{rules, tests, ◌==◌}
use Rattle.std.proofs.lemmas.Iterator.{YieldsList-from_slice, YieldsList-from_zip}
use Rattle.std.proofs.lemmas.Iterator.Consumers.{YieldsList-at, count_from_yields_List}
use Rattle.std.proofs.lemmas.Iterator.Search.{YieldsList-from_take_while}
use Rattle.names.specs.Grammar.{lower}
use Rattle.names_reader.proofs.Common.{common_le, common_pairs}
use Rattle.names_reader.proofs.words.common.Goals as goal

pub returns : goal.returns
returns c =
    let a = c.args in
    let pairs = YieldsList-from_zip (YieldsList-at c.zip.ensures.first (YieldsList-from_slice a.text.now c.iter.ensures.rest)) (YieldsList-from_slice a.key.now c.zip.ensures.second.0) in
    let e =
    count_from_yields_List c.take_while.result c.count.result c.count.ensures.ran
    (YieldsList-from_take_while _ (λ (p : ℕ × ℕ). lower p.0 == p.1) (YieldsList-at c.take_while.ensures.source pairs) c.take_while.ensures.closure c.take_while.ensures.done (λ x b q k. search (rules, tests)))
    ∙ common_pairs a.key.now a.text.now in
    let l = common_le a.key.now a.text.now in
    (e, omega (arith, e, l.0), omega (arith, e, l.1))

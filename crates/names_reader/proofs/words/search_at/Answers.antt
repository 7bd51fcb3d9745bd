-- `names_reader::words::search_at` meets its contract. Assumes nothing.
use mathlib.Core.Path.{◌≡◌, sym, ap, ◌∙◌}
use mathlib.Core.List.{List, [], map}
use Prim.Native.Nat.{◌+◌, ◌<◌, ℕ, max}
use native.Mathlib.Omega.{arith}
use lib.ListN.{length, drop, get_or, length-drop, drop_of_length-le}
use borrow.Author.Tests.{ne_eqb}
use Rattle.std.proofs.lemmas.Bool.Decides.{nat_tests}
use Rattle.names_reader.specs.Inside.{Row, row_of, common, find}
use Rattle.names_reader.proofs.Common.{common_le, rest}
use Rattle.names_reader.proofs.Rows.{names_length, row_next, find_next, find_end}
use Rattle.names_reader.proofs.words.search_at.Goals as goal

pub loop-name-preserved : goal.loop-name-preserved
loop-name-preserved c =
    let a = c.args in
    let t = drop a.at a.text.now in
    let ns = c.names-name-items.result.now in
    let i = c.loop-name.name-index in
    let x = get_or ns i (record { ref_ptr = (0, 0); now = [] }, 0) in
    let h : i < length ns = omega (arith, c.loop-name-test.true, names_length ns c.names-name-items.ensures) in
    let e = row_next ns i (record { ref_ptr = (0, 0); now = [] }, 0) h in
    let k : c.common-n.result ≡ common x.0.now t = rw (rest a.at a.text.now) at c.common-n.ensures.0 in
    let m : max c.loop-name.best c.common-n.result ≡ c.max-best.result = let z = c.max-best.ensures in grind (arith, nat_tests, z) in (
      c.loop-name.invariant.0
          ∙ ap (λ (xs : List Row). find a.at c.loop-name.best xs t) e
          ∙ find_next a.at c.loop-name.best t (row_of x) _ (ne_eqb _ _ (λ z. c.if-n-name.false (k ∙ z)))
          ∙ ap (λ (j : ℕ). find a.at j (map row_of (drop (i + 1) ns)) t) (ap (λ (j : ℕ). max c.loop-name.best j) (sym k) ∙ m),
      omega (arith, (common_le x.0.now t).1, k, m, c.loop-name.invariant.1, length-drop a.at a.text.now, c.requires),
    )

pub returns : goal.returns
returns c =
    let a = c.args in
    let ns = c.names-name-items.result.now in
    sym (c.loop-name.invariant.0 ∙ find_end a.at c.loop-name.best _ (map row_of (drop c.loop-name.name-index ns)) (ap (map row_of) (drop_of_length-le ns {i = c.loop-name.name-index} (omega (arith, c.loop-name-test.false, names_length ns c.names-name-items.ensures)))))

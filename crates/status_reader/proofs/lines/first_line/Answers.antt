-- `status_reader::lines::first_line` meets its contract. Assumes nothing.
use mathlib.Core.Path.{◌≡◌, refl, sym}
use native.Mathlib.Omega.{arith}
use borrow.Author.Tests.{eqb-true, eqb-false}
use lib.ListN.{length}
use Rattle.status_reader.proofs.LineLaws.{no_lines, first_of_lines}
use Rattle.status_reader.proofs.lines.first_line.Goals as goal

pub returns-then-is_empty : goal.returns-then-is_empty
returns-then-is_empty c = let t = c.args.text.now in no_lines t (eqb-true (length t) 0 (sym c.if-is_empty.ensures))

pub returns : goal.returns
returns c =
    let t = c.args.text.now in
    let k : length t ≡ 0 → ⊥ = eqb-false (length t) 0 (sym c.if-is_empty.ensures) in
    rw c.unwrap_or.ensures (first_of_lines t c.split_once.result _ (omega arith) c.split_once.ensures refl refl)

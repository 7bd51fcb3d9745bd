-- `names_writer::write_clauses` meets its contract. Assumes nothing.
use mathlib.Core.Path.{sym, ap, ◌∙◌}
use mathlib.Core.List.{[], map}
use Prim.Native.Nat.{◌+◌, ℕ}
use native.Mathlib.Omega.{arith}
use lib.Dec.{eqb}
use lib.ListN.{length, drop, get_or}
use lib.Seq.{sets}
use Rattle.line_writer.proofs.LineLaws.{sets_append}
use Rattle.names_writer.specs.Inside.{clause_at, clauses_from}
use Rattle.names_writer.proofs.Texts.{next, length_next}
use Rattle.names_writer.proofs.write_clauses.Goals as goal

pub loop-number-preserved : goal.loop-number-preserved
loop-number-preserved c =
    let s = c.args.held in
    let ns = c.names-name-items.result.now in
    let l = c.loop-number in
    let x = c.write_clause-at in
    let clause = clause_at (eqb l.at 0) s l.number (get_or ns l.number (record { ref_ptr = (0, 0); now = [] })).now in
    let rest = λ (at : ℕ). clauses_from at s (l.number + 1) (map (λ y. y.now) (drop (l.number + 1) ns)) in
    let t = next s ns c.names-name-items.ensures l.at l.number c.loop-number-test.true in
    let n = length_next s ns c.names-name-items.ensures l.at l.number c.loop-number-test.true in
    record {
      text = rw (x.ensures.1, x.ensures.0)
          (sym (sets_append clause (rest (l.at + length clause)) l.buf l.at) ∙ ap (sets l.buf l.at) (sym t) ∙ l.invariant.text);
      size = rw x.ensures.0 (omega (arith, n, l.invariant.size));
      buffer = x.auto.buf ∙ l.invariant.buffer;
    }

-- `names_writer::clause::clause_length` meets its contract. Assumes nothing.
use mathlib.Core.Path.{◌≡◌, sym, ap, ◌∙◌}
use native.Mathlib.Omega.{arith}
use lib.Dec.{eqb}
use lib.ListN.{length}
use Rattle.names.specs.Writing.{flags_text, has_flag}
use Rattle.names_writer.specs.Inside.{flags_put}
use Rattle.names_writer.proofs.Texts.{clause_lengths, flags_split, separator_length}
use Rattle.names_writer.proofs.clause.clause_length.Goals as goal

pub returns-then-any : goal.returns-then-any
returns-then-any c =
    let a = c.args in
    let any : c.any.result ≡ has_flag a.held a.number = rw c.of-flags.ensures at c.any.ensures in
    let l = clause_lengths a.held (eqb a.at 0) a.number a.name.now (sym any ∙ c.if-any.true) in
    let n : c.count.result ≡ length (flags_text a.held a.number) = c.count.ensures ∙ ap (λ f. length (flags_put f)) c.of-flags.ensures ∙ ap length (sym (flags_split a.held a.number)) in
    omega (arith, l, n, c.from.ensures, separator_length (eqb a.at 0))

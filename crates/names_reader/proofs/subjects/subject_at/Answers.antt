-- `names_reader::subjects::subject_at` meets its contract. Assumes nothing.
use mathlib.Core.Path.{sym, ◌∙◌}
use lib.ListN.{get_or}
use lib.Bits.{or_zero_l}
use Rattle.capabilities.specs.Sets.{single}
use Rattle.names.specs.Grammar.{names}
use Rattle.names.specs.Reading.{gap, word}
use Rattle.std.proofs.lemmas.Result.{err_from_is_err_and}
use Rattle.names_reader.proofs.Steps.{read_same, gap_name}
use Rattle.names_reader.proofs.Found.{subject_end}
use Rattle.names_reader.proofs.subjects.subject_at.Goals as goal

pub returns-in_err-number : goal.returns-in_err-number
returns-in_err-number c =
    let t = c.args.text.now in
    let i = c.args.at in
    let p = err_from_is_err_and c.from_residual.result c.from_residual.ensures.1 in
    rw (p.1, p.2) (
      λ s. c.in_err-number.ensures.0 0 s
          ∙ sym (read_same t i (gap s) (word names 0 s) c.requires.0 (gap_name s (get_or t i 0) c.requires.1 c.if-b-eq-EQUALS.false (λ z. c.if-to_ascii_lowercase-eq97.false (c.to_ascii_lowercase.ensures.value ∙ z)))),
      tt,
    )

pub returns : goal.returns
returns c =
    let t = c.args.text.now in
    let i = c.args.at in
    let x = c.in_ok-number in (
      λ s. c.names_at.ensures.0 s 0 (single x.number) (or_zero_l (single x.number) ∙ sym c.single.ensures) ∙ x.ensures.0 0 s
          ∙ sym (read_same t i (gap s) (word names 0 s) c.requires.0 (gap_name s (get_or t i 0) c.requires.1 c.if-b-eq-EQUALS.false (λ z. c.if-to_ascii_lowercase-eq97.false (c.to_ascii_lowercase.ensures.value ∙ z)))),
      subject_end t i x.next c.names_at.result x.ensures.1.0 c.names_at.ensures.1,
    )

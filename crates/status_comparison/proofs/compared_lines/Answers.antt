-- `status_comparison::compared_lines` meets its contract. Assumes nothing.
use Rattle.rules.proofs.Flags.{cast_is_number}
use Rattle.status_comparison.specs.Lines.{lines_text}
use Rattle.status_comparison.proofs.Laws.{ten_lines}
use Rattle.status_comparison.proofs.compared_lines.Goals as goal

pub returns : goal.returns
unfolding lines_text
returns c =
    let p = c.args.predicted in
    let s = c.args.found in
    let nnp = rw (c.from-nnp.ensures, cast_is_number p.nnp, c.from.ensures, cast_is_number s.nnp) at c.new-10.ensures in
    rw (c.new.ensures, c.new-2.ensures, c.new-3.ensures, c.new-4.ensures, c.new-5.ensures, c.new-6.ensures, c.new-7.ensures, c.new-8.ensures, c.new-9.ensures, nnp)
    (ten_lines p s)

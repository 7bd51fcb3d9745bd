-- `status_comparison::list_length` meets its contract. Assumes nothing.
use mathlib.Core.Path.{refl, ap}
use native.Mathlib.Omega.{arith}
use lib.ListN.{length, take, length-append}
use Rattle.status.specs.Comparing.{last_line}
use Rattle.status_comparison.specs.Lines.{line_text, lines_text}
use Rattle.status_comparison.proofs.Laws.{lines_more, all_lines}
use Rattle.status_comparison.proofs.list_length.Goals as goal

pub loop-line-init : goal.loop-line-init
unfolding lines_text
loop-line-init c = (refl, omega arith)

pub loop-line-preserved : goal.loop-line-preserved
loop-line-preserved c =
    let l = c.loop-line in
    let x = c.line-item in
    let more = lines_more c.args.lines.now l.line-index x.result (omega arith) x.is in
    omega (arith, l.invariant, ap length more, length-append (lines_text (take l.line-index c.args.lines.now)) (line_text x.result), c.length-n.ensures)

pub returns : goal.returns
unfolding last_line
returns c =
    let l = c.loop-line in
    let t = c.args.lines.now in
    omega (arith, l.invariant, ap length (all_lines t l.line-index (omega arith)), length-append (lines_text t) last_line)

-- `status_comparison::write_list`: what its loop keeps.
use lib.ListN.{take}
use Rattle.status_comparison.specs.Inside.{Put}
use Rattle.status_comparison.specs.Lines.{lines_text}
use Rattle.status_comparison.proofs.write_list.Given as goal

abbrev pub invariant-loop-line : goal.invariant-loop-line
invariant-loop-line l = Put l.fn.list 0 (lines_text (take l.line-index l.lines)) l.list l.at

-- `status_comparison::write_list` meets its contract. Assumes nothing.
use mathlib.Core.Path.{ap}
use Prim.Native.Nat.{◌+◌, ◌≤◌}
use native.Mathlib.Omega.{arith}
use lib.ListN.{length, take, length-append}
use Rattle.status.specs.Comparing.{last_line}
use Rattle.status_comparison.specs.Lines.{line_text, lines_text}
use Rattle.status_comparison.proofs.Laws.{lines_more, all_lines, part_fits, put_nothing, put_then, put_text}
use Rattle.status_comparison.proofs.write_list.Goals as goal

pub loop-line-init : goal.loop-line-init
unfolding lines_text
loop-line-init c = put_nothing c.args.list.now 0

pub write-at-requires : goal.write-at-requires
write-at-requires c =
    let l = c.loop-line in
    let x = c.line-item in
    let t = c.args.lines.now in
    let more = ap length (lines_more t l.line-index x.result (omega arith) x.is) in (
      omega (
        arith,
        c.requires,
        l.invariant.position,
        l.auto.list,
        more,
        length-append (lines_text (take l.line-index t)) (line_text x.result),
        part_fits t (l.line-index + 1),
        length-append (lines_text t) last_line,
      ),
      c.writing_table-table.ensures,
    )

pub loop-line-preserved : goal.loop-line-preserved
loop-line-preserved c =
    let l = c.loop-line in
    let x = c.line-item in
    rw (lines_more c.args.lines.now l.line-index x.result (omega arith) x.is) (put_then l.invariant c.write-at.ensures)

pub returns : goal.returns
unfolding last_line
returns c =
    let l = c.loop-line in
    let t = c.args.lines.now in
    let all = all_lines t l.line-index (omega arith) in
    let fits : l.at + length last_line ≤ length l.list = omega (arith, c.requires, l.invariant.position, l.auto.list, ap length all, length-append (lines_text t) last_line) in
    rw all at (put_then l.invariant (put_text l.list _ l.at _ last_line fits c.write_bytes.ensures)).buffer

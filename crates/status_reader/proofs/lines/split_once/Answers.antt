-- `status_reader::lines::split_once` meets its contract. Assumes nothing.
use mathlib.Core.Path.{sym, ◌∙◌}
use Prim.Native.Nat.{◌+◌}
use Rattle.status_reader.proofs.LineLaws.{at_first, rest_of}
use Rattle.status_reader.proofs.lines.split_once.Goals as goal

pub returns-in_err-end : goal.returns-in_err-end
returns-in_err-end c = rw c.from_residual.ensures (rw (sym c.find.ensures ∙ c.in_err-end.was) at (at_first c.args.b c.args.text.now))

pub returns : goal.returns
returns c =
    let t = c.args.text.now in
    let p = rw (sym c.find.ensures ∙ c.in_ok-end.was) at (at_first c.args.b t) in
    (p.0, rw (rest_of (c.in_ok-end.end + 1) t) p.1)

-- `line_writer::lines::put_bytes` meets its contract. Assumes nothing.
use mathlib.Core.Path.{refl, sym, ◌∙◌}
use Prim.Native.Nat.{◌+◌}
use native.Mathlib.Omega.{arith}
use native.Mathlib.Nat.{add-zero}
use lib.ListN.{length-set}
use Rattle.line_writer.proofs.LineLaws.{put_byte, put_no_byte}
use Rattle.line_writer.proofs.lines.put_bytes.Goals as goal

pub loop-k-init : goal.loop-k-init
loop-k-init c = (rw add-zero, refl)

pub loop-k-preserved : goal.loop-k-preserved
loop-k-preserved c =
    let l = c.loop-k in
    let a = c.args in
    (l.invariant.0 ∙ put_byte a.src.now l.buf l.k (a.at + l.k) (a.at + (l.k + 1)) c.loop-k-test.true (omega arith), simp length-set l.invariant.1)

pub returns : goal.returns
returns c = (refl, sym (c.loop-k.invariant.0 ∙ put_no_byte c.args.src.now _ c.loop-k.k _ (omega arith)))

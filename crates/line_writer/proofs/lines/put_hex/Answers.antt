-- `line_writer::lines::put_hex` meets its contract. Assumes nothing.
use mathlib.Core.Path.{refl, sym, ◌∙◌}
use Prim.Native.Nat.{◌-◌}
use native.Mathlib.Omega.{arith}
use lib.ListN.{length-set}
use Rattle.line_writer.proofs.LineLaws.{put_hex_digit, put_no_hex}
use Rattle.line_writer.proofs.lines.put_hex.Goals as goal

pub loop-m-preserved : goal.loop-m-preserved
loop-m-preserved c =
    let l = c.loop-m in
    (l.invariant.0 ∙ put_hex_digit _ l.m (l.m - 1) l.w l.buf _ (omega arith) ∙ rw c.hex_digit.ensures, simp length-set l.invariant.1)

pub returns : goal.returns
returns c = (refl, sym (c.loop-m.invariant.0 ∙ put_no_hex _ c.loop-m.m _ _ _ (omega arith)))

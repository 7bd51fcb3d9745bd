-- `line_writer::lines::put_bytes`: what its loop keeps.
use mathlib.Core.Path.{◌≡◌}
use Prim.Native.Nat.{◌+◌}
use lib.ListN.{length, drop}
use lib.Seq.{sets}
use Rattle.line_writer.proofs.lines.put_bytes.Given as goal

abbrev pub invariant-loop-k : goal.invariant-loop-k
invariant-loop-k l = (sets l.initial.buf l.at l.src ≡ sets l.buf (l.at + l.k) (drop l.k l.src)) × (length l.buf ≡ length l.initial.buf)

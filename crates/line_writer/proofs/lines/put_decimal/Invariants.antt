-- `line_writer::lines::put_decimal`: what its loops keep, and why they end.
use mathlib.Core.Path.{◌≡◌}
use lib.ListN.{length}
use lib.Seq.{sets}
use Rattle.format.specs.Line.{decimal_text}
use Rattle.line_writer.proofs.lines.put_decimal.Given as goal

abbrev pub invariant-loop-m : goal.invariant-loop-m
invariant-loop-m l = (sets l.initial.buf l.at (decimal_text l.v) ≡ sets l.buf l.at (decimal_text l.w)) × (l.m ≡ length (decimal_text l.w)) × (length l.buf ≡ length l.initial.buf)

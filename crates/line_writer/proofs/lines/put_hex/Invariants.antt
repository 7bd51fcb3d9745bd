-- `line_writer::lines::put_hex`: what its loops keep, and why they end.
use mathlib.Core.Path.{◌≡◌}
use lib.ListN.{length}
use lib.Seq.{sets}
use Rattle.hex_tables.specs.Tables.{hex_text_by}
use Rattle.line_writer.proofs.lines.put_hex.Given as goal

abbrev pub invariant-loop-m : goal.invariant-loop-m
invariant-loop-m l = (sets l.initial.buf l.at (hex_text_by l.table l.n l.v) ≡ sets l.buf l.at (hex_text_by l.table l.m l.w)) × (length l.buf ≡ length l.initial.buf)

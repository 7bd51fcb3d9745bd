-- `names_writer::write_clauses`: what its loop keeps.
use mathlib.Core.List.{map}
use mathlib.Core.Path.{◌≡◌}
use Prim.Native.Nat.{◌+◌}
use lib.ListN.{length, drop}
use lib.Seq.{sets}
use Rattle.names.specs.Writing.{sets_text}
use Rattle.names_writer.specs.Inside.{clauses_from}
use Rattle.names_writer.proofs.write_clauses.Given as goal

abbrev pub invariant-loop-number : goal.invariant-loop-number
invariant-loop-number l = record {
  text : sets l.buf l.at (clauses_from l.at l.held l.number (map (λ x. x.now) (drop l.number l.name-items))) ≡ sets l.initial.buf 0 (sets_text l.held);
  size : l.at + length (clauses_from l.at l.held l.number (map (λ x. x.now) (drop l.number l.name-items))) ≡ length (sets_text l.held);
  buffer : length l.buf ≡ length l.initial.buf;
}

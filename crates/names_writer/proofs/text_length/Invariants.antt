-- `names_writer::text_length`: what its loop keeps.
use mathlib.Core.List.{map}
use mathlib.Core.Path.{◌≡◌}
use Prim.Native.Nat.{◌+◌}
use lib.ListN.{length, drop}
use Rattle.names.specs.Writing.{sets_text}
use Rattle.names_writer.specs.Inside.{clauses_from}
use Rattle.names_writer.proofs.text_length.Given as goal

abbrev pub invariant-loop-number : goal.invariant-loop-number
invariant-loop-number l = l.size + length (clauses_from l.size l.held l.number (map (λ x. x.now) (drop l.number l.name-items))) ≡ length (sets_text l.held)

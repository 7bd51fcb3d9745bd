-- `names_reader::clauses::operators_at`: what its loop keeps.
use mathlib.Core.Path.{◌≡◌}
use mathlib.Core.Bool.{true}
use Rattle.names.specs.Reading.{operated}
use Rattle.names_reader.specs.Inside.{read_at}
use Rattle.names_reader.proofs.clauses.operators_at.Given as goal

abbrev pub invariant-loop-i : goal.invariant-loop-i
invariant-loop-i l = read_at l.text l.at (operated true true l.c l.initial.sets) ≡ read_at l.text l.i (operated l.gives l.ends l.c l.sets)

-- `names_reader::read_names`: what its loops keep, and why they end.
use mathlib.Core.Path.{◌≡◌}
use Prim.Native.Nat.{◌-◌}
use lib.ListN.{length}
use Rattle.names.specs.Reading.{gap, read_text}
use Rattle.names_reader.specs.Inside.{read_at}
use Rattle.names_reader.proofs.read_names.Given as goal

abbrev pub invariant-loop-i : goal.invariant-loop-i
invariant-loop-i l = read_text l.text ≡ read_at l.text l.i (gap l.sets)

abbrev pub decreases-loop-i : goal.decreases-loop-i
decreases-loop-i l = length l.text - l.i

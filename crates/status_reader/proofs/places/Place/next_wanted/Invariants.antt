-- `status_reader::places::Place::next_wanted`: what its loop keeps, and why it ends.
use mathlib.Core.Path.{◌≡◌}
use mathlib.Core.List.{List}
use Prim.Native.Nat.{◌+◌, ◌^◌, ◌<◌}
use lib.ListN.{length}
use Rattle.status.specs.Lines.{Entry}
use Rattle.status_reader.specs.Inside.{from}
use Rattle.status_reader.proofs.places.Place.next_wanted.Given as goal

abbrev pub invariant-loop-line : goal.invariant-loop-line
invariant-loop-line l = ((es : List Entry) → from l.fn.self.rest.now l.fn.self.passed es ≡ from l.rest l.passed es) × (l.passed + length l.rest < 2 ^ 63)

abbrev pub decreases-loop-line : goal.decreases-loop-line
decreases-loop-line l = length l.rest

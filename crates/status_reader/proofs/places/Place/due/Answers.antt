-- `status_reader::places::Place::due` meets its contract. Assumes nothing.
use mathlib.Core.Path.{refl}
use Rattle.status_reader.proofs.PlaceLaws.{not_come, due_told}
use Rattle.status_reader.proofs.places.Place.due.Goals as goal

pub returns-in_default : goal.returns-in_default
returns-in_default g c =
    let s = c.args.self.now in
    let n = c.next_wanted.new.self in
    λ e values reads es. not_come s.rest.now n.rest.now s.passed n.passed e es c.in_default.ensures

pub returns : goal.returns
returns g c =
    let s = c.args.self.now in
    let n = c.next_wanted.new.self in
    let l = c.in-Some.line in
    λ e values reads es.
    rw c.ok_or.ensures.value
    (due_told s.rest.now n.rest.now s.passed n.passed e es values l.now c.read.result c.in-Some.ensures
    (reads l.now c.read.result (record { shown = l; shows = refl; says = record { met = c.read.ensures } })))

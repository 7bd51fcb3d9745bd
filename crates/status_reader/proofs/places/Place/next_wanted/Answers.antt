-- `status_reader::places::Place::next_wanted` meets its contract. Assumes nothing.
use mathlib.Core.Path.{sym, ◌∙◌}
use native.Mathlib.Omega.{arith}
use Rattle.status_reader.proofs.PlaceLaws.{none_left, passed_over, found_next}
use Rattle.status_reader.proofs.places.Place.next_wanted.Goals as goal

pub returns-then-is_wanted : goal.returns-then-is_wanted
returns-then-is_wanted c =
    let l = c.loop-line in
    let s = c.in-Some in
    let n = found_next l.rest.now l.passed s.line.now s.behind.now s.ensures.0 (sym c.if-is_wanted.ensures) in
    (n.0, n.1, λ es. l.invariant.0 es ∙ n.2 es)

pub loop-line-preserved : goal.loop-line-preserved
loop-line-preserved c =
    let l = c.loop-line in
    let s = c.in-Some in
    let over = passed_over l.rest.now l.passed s.line.now s.behind.now s.ensures.0 (sym c.if-is_wanted.ensures) in
    (λ es. l.invariant.0 es ∙ over es, omega (arith, l.invariant.1, s.ensures.1))

pub returns : goal.returns
returns c =
    let l = c.loop-line in
    λ es. l.invariant.0 es ∙ none_left l.rest.now l.passed c.in_default.ensures es

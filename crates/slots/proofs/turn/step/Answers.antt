-- `slots::turn::step` meets its contract. Assumes nothing.
use Prim.Native.Nat.{ℕ}
use mathlib.Core.Path.{ap, ◌∙◌}
use Rattle.threads.specs.Table.{held}
use Rattle.slots.specs.Turn.{step_of, turn_of, stored}
use Rattle.slots.proofs.Turns.{turns_stored}
use Rattle.slots.proofs.turn.step.Goals as goal

pub returns : goal.returns
returns c =
    let a = c.args in
    let x = step_of a.number a.a a.b a.c a.attribute.now in
    ap (stored a.table) c.take_turn-given.ensures
    ∙ ap (λ (n : ℕ). stored a.table (turn_of a.table.used a.slot (held a.table n) x)) c.place-at.ensures.0
    ∙ turns_stored.is_the_step a.table (record { slot = a.slot; step = x })

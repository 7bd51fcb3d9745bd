-- `plan::slot_step::turn_of` meets its contract. Assumes nothing.
use mathlib.Core.Path.{sym, subst}
use Prim.Native.Nat.{◌<◌, ◌≤◌}
use Rattle.slots.specs.declared.turn.Turn.{Turn}
use Rattle.slots.proofs.Turns.{turns_stored}
use Rattle.plan.proofs.Values.{turn_small}
use Rattle.plan.proofs.slot_step.turn_of.Goals as goal

-- the slot that the turn is stored in is one of the 96, and its value fits 32 bits
pub returns : goal.returns
returns c =
    let turn = rw c.as_slice.ensures at c.take_turn.ensures in (
      turn,
      subst (λ (t : Turn). t.to < 96) (sym turn) (turns_stored.within _ _ _ _),
      subst (λ (t : Turn). t.value ≤ 4294967295) (sym turn) (turn_small _ _ _ _),
    )

-- The turn of a step of a slot plan, stored, is what the step does to the table. Assumes nothing.
use mathlib.Core.Path.{◌≡◌, ap, ◌∙◌}
use Prim.Native.Nat.{ℕ}
use Rattle.slots.specs.declared.turn.Turn.{Turn}
use Rattle.slots.specs.Turn.{place, turn_of, stored}
use Rattle.slots.proofs.Turns.{turns_stored}
use Rattle.threads.specs.Step.{step_in}
use Rattle.threads.specs.Table.{held}
use Rattle.threads.specs.declared.Threads.{Threads}
use Rattle.plan.specs.declared.slot_step.SlotLines.{SlotLines}
use Rattle.plan.specs.Inside.{said, slot_said}

pub turn_taken : (table : Threads) (n : ℕ) (lines : SlotLines) (t : Turn) → n ≡ place lines.slot → t ≡ turn_of table.used lines.slot (held table n) (said lines.step)
    → stored table t ≡ step_in table (slot_said lines)
turn_taken table n lines t there is =
    ap (stored table) is
    ∙ ap (λ (k : ℕ). stored table (turn_of table.used lines.slot (held table k) (said lines.step))) there
    ∙ turns_stored.is_the_step table (slot_said lines)

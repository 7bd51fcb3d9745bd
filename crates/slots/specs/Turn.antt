-- A step's turn: its answer, and what it stores in which slot, as the use marks and the credentials of the named slot decide. A turn that is stored is the
-- step (Stored, at the end, which proofs/Turns.antt proves), so that a loop can keep the table where it is. Assumes nothing.
use Rattle.std.specs.Prelude.{ℕ, ◌<◌, ◌≡◌, Bool, true, false, cond, List, ltb, get_or}
use Rattle.credentials.specs.declared.Credentials.{Credentials}
use Rattle.rules.specs.Answers.{code, value, cause, after}
use Rattle.rules.specs.Run.{Step}
use Rattle.threads.specs.Step.{SlotStep, decided, step_in}
use Rattle.threads.specs.Table.{SLOTS, held, lowest_free, with_credentials, with_mark}
use Rattle.threads.specs.declared.Decision.{Decision}
use Rattle.threads.specs.declared.Decision.TheVariants.{Answered, Forks, Exits}
use Rattle.threads.specs.declared.SlotResult.{SlotResult}
use Rattle.threads.specs.declared.Threads.{Threads}
use Rattle.slots.specs.declared.decision.Asked.{Asked}
use Rattle.slots.specs.declared.turn.Turn.{Turn}

-- a step by its numbers and bytes
abbrev pub step_of : ℕ → ℕ → ℕ → ℕ → List ℕ → Step
step_of number a b c attribute = record { number = number; a = a; b = b; c = c; attribute = attribute }

-- and as the code hands it on
abbrev pub asked_step : Asked → Step
asked_step x = step_of x.number x.a x.b x.c x.attribute.now

-- and in a slot
abbrev pub slot_step : ℕ → ℕ → ℕ → ℕ → ℕ → List ℕ → SlotStep
slot_step slot number a b c attribute = record { slot = slot; step = step_of number a b c attribute }

-- where in the table a step's own credentials stand: in its slot, and for a slot above 95, in which nothing stands, in slot 0
unfoldable pub place : ℕ → ℕ
place slot = cond (ltb slot SLOTS) slot 0

-- a refusal with a code stores in a slot what stands there
abbrev pub keeps : ℕ → Bool → Credentials → ℕ → Turn
keeps slot mark start n = record { code = n; cause = 0; used = mark; value = 0; to = slot; credentials = start }

-- in a slot in use, by what its credentials decide; free is the lowest free slot
abbrev pub turn_by : ℕ → Credentials → ℕ → Decision → Turn
turn_by slot start free (Answered r) = record { code = code r; cause = cause r; used = true; value = value r; to = slot; credentials = after start r }
turn_by slot start free Forks =
    cond (ltb free SLOTS) (record { code = 0; cause = 0; used = true; value = free; to = free; credentials = start }) (keeps slot true start 11)
turn_by slot start free Exits = record { code = 0; cause = 0; used = false; value = 0; to = slot; credentials = start }

-- the turn of a step: 22 for a slot above 95, then 3 for one that is not in use, then what its credentials decide
unfoldable pub turn_of : List Bool → ℕ → Credentials → Step → Turn
turn_of marks slot start x =
    cond (ltb slot SLOTS)
    (cond (get_or marks slot false) (turn_by slot start (lowest_free marks) (decided start x)) (keeps slot false start 3))
    (keeps 0 (get_or marks 0 false) start 22)

-- a turn that is stored in a table
abbrev pub stored : Threads → Turn → SlotResult
stored table t =
    record {
      code = t.code;
      value = t.value;
      cause = t.cause;
      table = with_mark (with_credentials table t.to t.credentials) t.to t.used;
    }

-- the turn of a step in a table
abbrev pub turn_in : Threads → SlotStep → Turn
turn_in table s = turn_of table.used s.slot (held table (place s.slot)) s.step

pub record Stored : Type 0 where
  -- a step's turn, stored, is the step
  pub is_the_step : (table : Threads) (s : SlotStep) → stored table (turn_in table s) ≡ step_in table s
  -- and it is stored in one of the 96 slots
  pub within : (marks : List Bool) (slot : ℕ) (start : Credentials) (x : Step) → (turn_of marks slot start x).to < SLOTS

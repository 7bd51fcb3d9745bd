-- Demand 3 per slot ("The whole machine, not one thread"), as one statement, DemandedPerSlot, at the end. Proved in proofs/Lives.antt. Assumes nothing.
use Rattle.std.specs.Prelude.{ℕ, ◌≡◌, Bool, true, cond, not, ◌&&◌, ◌||◌, List, [], ◌∷◌, ◌++◌, eqb}
use Rattle.credentials.specs.Validity.{valid}
use Rattle.credentials.specs.declared.Credentials.{Credentials}
use Rattle.rules.specs.Run.{Step, Result, run, left}
use Rattle.rules.specs.Demand3.{Demand3}
use Rattle.threads.specs.declared.SlotResult.{SlotResult}
use Rattle.threads.specs.declared.Threads.{Threads}
use Rattle.threads.specs.Table.{held, in_use, fresh}
use Rattle.threads.specs.Step.{SlotStep, FORK, EXIT, step_in, ends}

-- a slot's life since the latest fork into it: the parent's credentials at that moment, the calls that named the slot since then, and what came back for
-- each
pub record Life : Type 0 where
  pub start : Credentials
  pub calls : List Step
  pub results : List Result

-- a life that begins
abbrev pub begins : Credentials → Life
begins start = record { start = start; calls = []; results = [] }

-- one call more
abbrev pub lengthened : Life → Step → Result → Life
lengthened life x r = record { start = life.start; calls = life.calls ++ (x ∷ []); results = life.results ++ (r ∷ []) }

-- a step was a fork that took the slot
abbrev pub fork_into : ℕ → SlotStep → SlotResult → Bool
fork_into slot s r = eqb s.step.number FORK && (eqb r.code 0 && eqb r.value slot)

-- a step is a call that names the slot: any number but those of fork and exit
abbrev pub call_in : ℕ → SlotStep → Bool
call_in slot s = eqb s.slot slot && not (eqb s.step.number FORK || eqb s.step.number EXIT)

-- what came back from a step, with what the slot holds after it
abbrev pub came_back : ℕ → SlotResult → Result
came_back slot r = record { code = r.code; value = r.value; cause = r.cause; after = held r.table slot }

-- a slot's life after a step that was made in a table and came to a result: it begins anew, is longer by a call, or is as it was
abbrev pub lived : Threads → ℕ → Life → SlotStep → SlotResult → Life
lived table slot life s r =
    cond (fork_into slot s r) (begins (held table s.slot)) (cond (call_in slot s) (lengthened life s.step (came_back slot r)) life)

-- and after a list of steps
unfoldable pub life_of : Threads → ℕ → Life → List SlotStep → Life
life_of table slot life [] = life
life_of table slot life (s ∷ ss) = life_of (step_in table s).table slot (lived table slot life s (step_in table s)) ss

-- from the table at the start: slot 0, until forked into, begins with the sheet; any other slot is free, and begins when it is forked into
abbrev pub life_from : Credentials → ℕ → List SlotStep → Life
life_from sheet slot steps = life_of (fresh sheet) slot (begins (held (fresh sheet) slot)) steps

-- what the demand says of one slot
pub record PerSlot (end : Threads) (slot : ℕ) (life : Life) : Type 0 where
  -- what came back for its calls is what the rules give for them, one after the other, from its start
  pub results : life.results ≡ run life.start life.calls
  -- the slot holds what they leave: nothing else changed it
  pub holds : held end slot ≡ left life.start life.calls
  -- and demand 3 holds of that start and these calls, word for word
  pub demand : Demand3 life.start life.calls

-- the demand: from the table at the start with any valid credentials, by any list of steps, for each slot that is in use after it
abbrev pub DemandedPerSlot : Type 0
DemandedPerSlot = (sheet : Credentials) → valid sheet ≡ true → (steps : List SlotStep) (slot : ℕ)
    → in_use (ends (fresh sheet) steps) slot ≡ true → PerSlot (ends (fresh sheet) steps) slot (life_from sheet slot steps)

-- What a step does to the slots, and what its answer depends on, as one statement, Slots, at the end. Proved in proofs/Slots.antt. Assumes nothing.
use Rattle.std.specs.Prelude.{ℕ, ◌<◌, ◌≤◌, ◌≡◌, ◌≢◌, Bool, true, false, cond, ◌||◌, eqb, length}
use Rattle.credentials.specs.Validity.{valid}
use Rattle.rules.specs.Decoding.{uses_none}
use Rattle.rules.specs.Run.{result}
use Rattle.threads.specs.declared.SlotResult.{SlotResult}
use Rattle.threads.specs.declared.Threads.{Threads}
use Rattle.threads.specs.Table.{SLOTS, held, in_use}
use Rattle.threads.specs.Step.{SlotStep, FORK, EXIT, step_in}

-- ---- what the fields are said with

-- a table has 96 slots, as every table of the code has
pub record Sized (table : Threads) : Type 0 where
  pub credentials : length table.credentials ≡ SLOTS
  pub used : length table.used ≡ SLOTS

-- a step is a fork; an exit; or neither, and so a call, or a number that is no call's
abbrev pub Fork : SlotStep → Type 0
Fork s = eqb s.step.number FORK ≡ true

abbrev pub Exit : SlotStep → Type 0
Exit s = eqb s.step.number EXIT ≡ true

abbrev pub Calls : SlotStep → Type 0
Calls s = eqb s.step.number FORK || eqb s.step.number EXIT ≡ false

-- a step gives no operand and no attribute
abbrev pub bare : SlotStep → Bool
bare s = uses_none s.step.a s.step.b s.step.c (length s.step.attribute)

-- the slot that a step names is one of the 96, and in use
pub record Named (table : Threads) (s : SlotStep) : Type 0 where
  pub within : s.slot < SLOTS
  pub used : in_use table s.slot ≡ true

-- and its credentials are valid
pub record Ready (table : Threads) (s : SlotStep) : Type 0 where
  pub named : Named table s
  pub held_valid : valid (held table s.slot) ≡ true

-- a refusal with a code: value and cause 0, and the table as it was
pub record Refused (table : Threads) (n : ℕ) (r : SlotResult) : Type 0 where
  pub code : r.code ≡ n
  pub value : r.value ≡ 0
  pub cause : r.cause ≡ 0
  pub table_stays : r.table ≡ table

-- no slot is free
abbrev pub Full : Threads → Type 0
Full table = (i : ℕ) → i < SLOTS → in_use table i ≡ true

-- two tables have the same in a slot: credentials and use mark
pub record Same (one other : Threads) (slot : ℕ) : Type 0 where
  pub credentials : held one slot ≡ held other slot
  pub used : in_use one slot ≡ in_use other slot

-- two tables have the same slots in use, and the same in each of them
pub record SameInUse (one other : Threads) : Type 0 where
  pub used : (i : ℕ) → in_use one i ≡ in_use other i
  pub credentials : (i : ℕ) → in_use one i ≡ true → held one i ≡ held other i

-- two results are the same answer: code, value and cause
pub record SameAnswer (one other : SlotResult) : Type 0 where
  pub code : one.code ≡ other.code
  pub value : one.value ≡ other.value
  pub cause : one.cause ≡ other.cause

-- a slot that is free, with none free below it
pub record Lowest (table : Threads) (slot : ℕ) : Type 0 where
  pub within : slot < SLOTS
  pub free : in_use table slot ≡ false
  pub below : (i : ℕ) → i < slot → in_use table i ≡ true

-- a call came to a result: code, value, cause and what it leaves in its slot are what the rules give on the slot's credentials
pub record Called (table : Threads) (s : SlotStep) (r : SlotResult) : Type 0 where
  pub code : r.code ≡ (result (held table s.slot) s.step).code
  pub value : r.value ≡ (result (held table s.slot) s.step).value
  pub cause : r.cause ≡ (result (held table s.slot) s.step).cause
  pub leaves : held r.table s.slot ≡ (result (held table s.slot) s.step).after
  pub used : in_use r.table s.slot ≡ true

-- a fork was done
pub record Forked (table : Threads) (s : SlotStep) (r : SlotResult) : Type 0 where
  pub code : r.code ≡ 0
  pub cause : r.cause ≡ 0
  -- its value is the lowest free slot
  pub takes : Lowest table r.value
  -- which is then in use, with all of the caller's credentials
  pub copy : held r.table r.value ≡ held table s.slot
  pub used : in_use r.table r.value ≡ true
  -- and no other slot is changed
  pub others : (i : ℕ) → i ≢ r.value → Same r.table table i

-- an exit was done
pub record Exited (table : Threads) (s : SlotStep) (r : SlotResult) : Type 0 where
  pub code : r.code ≡ 0
  pub value : r.value ≡ 0
  pub cause : r.cause ≡ 0
  -- its slot is free
  pub free : in_use r.table s.slot ≡ false

-- a code but for 11, in whose place 0 stands: what a fork would answer if there were room
abbrev pub but_for_room : ℕ → ℕ
but_for_room n = cond (eqb n 11) 0 n

-- ---- the statement

pub record Slots : Type 0 where
  -- a step leaves a table of 96 slots
  pub sized : (table : Threads) (s : SlotStep) → Sized table → Sized (step_in table s).table
  -- which answer comes, in the order of the refusals: 22 for a slot above 95,
  pub no_slot : (table : Threads) (s : SlotStep) → SLOTS ≤ s.slot → Refused table 22 (step_in table s)
  -- 3 for a slot that is not in use,
  pub not_in_use : (table : Threads) (s : SlotStep) → s.slot < SLOTS → in_use table s.slot ≡ false → Refused table 3 (step_in table s)
  -- 72 for credentials of the named slot that are not valid, for fork and exit too,
  pub invalid : (table : Threads) (s : SlotStep) → Named table s → valid (held table s.slot) ≡ false → Refused table 72 (step_in table s)
  -- then a call has what the rules give on the credentials of its slot,
  pub call : (table : Threads) (s : SlotStep) → Sized table → Named table s → Calls s → Called table s (step_in table s)
  -- a fork with an operand or an attribute 22, and an exit too,
  pub fork_operands : (table : Threads) (s : SlotStep) → Ready table s → Fork s → bare s ≡ false → Refused table 22 (step_in table s)
  pub exit_operands : (table : Threads) (s : SlotStep) → Ready table s → Exit s → bare s ≡ false → Refused table 22 (step_in table s)
  -- an exit is done,
  pub exit : (table : Threads) (s : SlotStep) → Sized table → Ready table s → Exit s → bare s ≡ true → Exited table s (step_in table s)
  -- a fork is done where a slot is free,
  pub fork : (table : Threads) (s : SlotStep) → Sized table → Ready table s → Fork s → bare s ≡ true → (i : ℕ) → i < SLOTS → in_use table i ≡ false
      → Forked table s (step_in table s)
  -- and gets 11 where none is;
  pub fork_full : (table : Threads) (s : SlotStep) → Ready table s → Fork s → bare s ≡ true → Full table → Refused table 11 (step_in table s)
  -- nothing else gets 11
  pub eleven : (table : Threads) (s : SlotStep) → (step_in table s).code ≡ 11 → Fork s × Full table
  -- a refusal changes nothing
  pub refusal : (table : Threads) (s : SlotStep) → eqb (step_in table s).code 0 ≡ false → (step_in table s).table ≡ table
  -- a call or an exit in one slot changes no other slot
  pub elsewhere : (table : Threads) (s : SlotStep) → eqb s.step.number FORK ≡ false → (i : ℕ) → i ≢ s.slot → Same (step_in table s).table table i
  -- a fork changes only the slot that it takes
  pub fork_elsewhere : (table : Threads) (s : SlotStep) → Fork s → (step_in table s).code ≡ 0 → (i : ℕ) → i ≢ (step_in table s).value
      → Same (step_in table s).table table i
  -- a slot that is free, as an exit's is, stays free until a fork takes it
  pub free_until_forked : (table : Threads) (s : SlotStep) (i : ℕ) → Sized table → in_use table i ≡ false → in_use (step_in table s).table i ≡ true
      → Fork s × ((step_in table s).code ≡ 0) × ((step_in table s).value ≡ i)
  -- and a fork that is done takes no slot above it: it is taken as soon as none below it is free
  pub taken_again : (table : Threads) (s : SlotStep) (i : ℕ) → Sized table → in_use table i ≡ false → i < SLOTS → Fork s → (step_in table s).code ≡ 0
      → ((step_in table s).value ≤ i) × (((j : ℕ) → j < i → in_use table j ≡ true) → (step_in table s).value ≡ i)
  -- but for a fork's, every answer depends on its step and the named slot alone
  pub answer : (one other : Threads) (s : SlotStep) → eqb s.step.number FORK ≡ false → Same one other s.slot
      → SameAnswer (step_in one s) (step_in other s)
  -- and of a fork's, all but its value and its 11
  pub fork_code : (one other : Threads) (s : SlotStep) → Same one other s.slot
      → (but_for_room (step_in one s).code ≡ but_for_room (step_in other s).code) × ((step_in one s).cause ≡ (step_in other s).cause)
  -- which depend besides on which slots are in use, and on nothing else
  pub fork_room : (one other : Threads) (s : SlotStep) → Same one other s.slot → ((i : ℕ) → in_use one i ≡ in_use other i)
      → SameAnswer (step_in one s) (step_in other s)
  -- what a free slot still holds shows nowhere: of two tables that differ in that alone the answers are the same, and the tables after it differ in that alone
  pub leftovers : (one other : Threads) (s : SlotStep) → Sized one → Sized other → SameInUse one other
      → SameAnswer (step_in one s) (step_in other s) × SameInUse (step_in one s).table (step_in other s).table

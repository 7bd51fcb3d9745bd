-- A step in a slot ("The whole machine, not one thread"): for any table, slot number, call number, operands and attribute bytes, the code, the value, the
-- cause and the table. And steps one after the other. Assumes nothing.
use Rattle.std.specs.Prelude.{ℕ, true, false, cond, List, [], ◌∷◌, eqb, ltb, length, Err}
use Rattle.credentials.specs.Validity.{valid}
use Rattle.credentials.specs.declared.Credentials.{Credentials}
use Rattle.rules.specs.Answers.{after, Answer, cause, code, value}
use Rattle.rules.specs.Call.{answer}
use Rattle.rules.specs.Decoding.{uses_none}
use Rattle.rules.specs.Run.{Step}
use Rattle.rules.specs.declared.Refusal.TheVariants.{InvalidArgument, InvalidCredentials}
use Rattle.threads.specs.declared.Decision.{Decision}
use Rattle.threads.specs.declared.Decision.TheVariants.{Answered, Forks, Exits}
use Rattle.threads.specs.declared.SlotResult.{SlotResult}
use Rattle.threads.specs.declared.Threads.{Threads}
use Rattle.threads.specs.Table.{SLOTS, held, in_use, with_credentials, with_mark, lowest_free}

-- the two operations that are no calls of one thread; every other number is a call's, or no call's
abbrev pub FORK : ℕ
FORK = 30

abbrev pub EXIT : ℕ
EXIT = 31

-- a step: the slot that it names, and what it asks there
pub record SlotStep : Type 0 where
  pub slot : ℕ
  pub step : Step

-- ---- what the credentials of the named slot decide

-- fork and exit: 72, then 22, since they use no operand and no attribute
unfoldable pub unless_refused : Credentials → Step → Decision → Decision
unless_refused start x done =
    cond (valid start)
    (cond (uses_none x.a x.b x.c (length x.attribute)) done (Answered (Err InvalidArgument)))
    (Answered (Err InvalidCredentials))

-- 30 forks, 31 exits, any other number is a call on these credentials, which has its 72, 22, 60 and 1 by itself
unfoldable pub decided : Credentials → Step → Decision
decided start x =
    cond (eqb x.number FORK) (unless_refused start x Forks)
    (cond (eqb x.number EXIT) (unless_refused start x Exits)
    (Answered (answer start x.number x.a x.b x.c x.attribute)))

-- ---- what becomes of the table

-- a refusal that no call gives: its code, value and cause 0, and the table as it was
abbrev pub refused : Threads → ℕ → SlotResult
refused table n = record { code = n; value = 0; cause = 0; table = table }

-- a call: its code, value and cause, and in the slot what it leaves
abbrev pub answered : Threads → ℕ → Answer → SlotResult
answered table slot r = record { code = code r; value = value r; cause = cause r; table = with_credentials table slot (after (held table slot) r) }

-- a fork: all of the caller's credentials go to the lowest free slot, whose number is the value; 11 where none is free
unfoldable pub forked : Threads → Credentials → ℕ → SlotResult
forked table caller free =
    cond (ltb free SLOTS) (record { code = 0; value = free; cause = 0; table = with_mark (with_credentials table free caller) free true }) (refused table 11)

-- an exit frees its slot; its value is 0
abbrev pub exited : Threads → ℕ → SlotResult
exited table slot = record { code = 0; value = 0; cause = 0; table = with_mark table slot false }

abbrev pub carried_out : Threads → ℕ → Decision → SlotResult
carried_out table slot (Answered r) = answered table slot r
carried_out table slot Forks = forked table (held table slot) (lowest_free table.used)
carried_out table slot Exits = exited table slot

-- the step: 22 first, for a slot above 95; then 3, for one that is not in use; then what the slot's credentials decide
unfoldable pub step_in : Threads → SlotStep → SlotResult
step_in table s =
    cond (ltb s.slot SLOTS)
    (cond (in_use table s.slot) (carried_out table s.slot (decided (held table s.slot) s.step)) (refused table 3))
    (refused table 22)

-- ---- steps one after the other

-- the results of a list of steps, each in the table that the last one left
unfoldable pub run_in : Threads → List SlotStep → List SlotResult
run_in table [] = []
run_in table (s ∷ ss) = step_in table s ∷ run_in (step_in table s).table ss

-- the table that they leave
unfoldable pub ends : Threads → List SlotStep → Threads
ends table [] = table
ends table (s ∷ ss) = ends (step_in table s).table ss

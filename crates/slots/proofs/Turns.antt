-- A turn that is stored is the step. Assumes nothing.
use Prim.Native.Nat.{ℕ, ◌<◌}
use native.Mathlib.Omega.{arith}
use mathlib.Core.Path.{◌≡◌, refl, sym, ap, ◌∙◌}
use mathlib.Core.Bool.{Bool, true, false, cond}
use mathlib.Core.List.{List}
use lib.Dec.{ltb}
use lib.ListN.{get_or, set}
use lib.Seq.{set-get_or}
use borrow.Author.Tests.{ltb-true}
use Rattle.credentials.specs.declared.Credentials.{Credentials}
use Rattle.rules.specs.Run.{Step}
use Rattle.rules.proofs.Conditions.{cond_cases}
use Rattle.threads.specs.Step.{SlotStep, decided, refused, forked, carried_out, step_in}
use Rattle.threads.specs.Table.{SLOTS, held, in_use, lowest_free, with_credentials, with_mark}
use Rattle.threads.specs.declared.Decision.{Decision}
use Rattle.threads.specs.declared.Decision.TheVariants.{Answered, Forks, Exits}
use Rattle.threads.specs.declared.Threads.{Threads}
use Rattle.threads.proofs.StepCases.{kept}
use Rattle.slots.specs.declared.turn.Turn.{Turn}
use Rattle.slots.specs.Turn.{place, keeps, turn_by, turn_of, stored, turn_in, Stored}

-- ---- a turn that is stored is the step

marked : (table : Threads) (slot : ℕ) (mark : Bool) → in_use table slot ≡ mark → set table.used slot mark ≡ table.used
marked table slot mark u = ap (set table.used slot) (sym u) ∙ set-get_or table.used slot false

keeps_stored : (table : Threads) (slot : ℕ) (mark : Bool) (n : ℕ) → in_use table slot ≡ mark → stored table (keeps slot mark (held table slot) n) ≡ refused table n
keeps_stored table slot mark n u = rw (kept table slot, marked table slot mark u)

carried_stored : (table : Threads) (slot : ℕ) → in_use table slot ≡ true → (d : Decision)
    → stored table (turn_by slot (held table slot) (lowest_free table.used) d) ≡ carried_out table slot d
unfolding forked
carried_stored table slot u (Answered r) = rw (marked table slot true u)
carried_stored table slot u Forks = by (ltb (lowest_free table.used) SLOTS)
  where
    by : (t : Bool)
        → stored table (cond t (record { code = 0; cause = 0; used = true; value = lowest_free table.used; to = lowest_free table.used; credentials = held table slot }) (keeps slot true (held table slot) 11))
        ≡ cond t (record { code = 0; value = lowest_free table.used; cause = 0; table = with_mark (with_credentials table (lowest_free table.used) (held table slot)) (lowest_free table.used) true }) (refused table 11)
    by true = refl
    by false = keeps_stored table slot true 11 u
carried_stored table slot u Exits = rw (kept table slot)

is_the_step : (table : Threads) (s : SlotStep) → stored table (turn_in table s) ≡ step_in table s
unfolding place turn_of step_in
is_the_step table s = by (ltb s.slot SLOTS) (in_use table s.slot) refl
  where
    by : (w u : Bool) → in_use table s.slot ≡ u
        → stored table
        (cond w
        (cond u (turn_by s.slot (held table (cond w s.slot 0)) (lowest_free table.used) (decided (held table (cond w s.slot 0)) s.step))
        (keeps s.slot false (held table (cond w s.slot 0)) 3))
        (keeps 0 (in_use table 0) (held table (cond w s.slot 0)) 22))
        ≡ cond w (cond u (carried_out table s.slot (decided (held table s.slot) s.step)) (refused table 3)) (refused table 22)
    by true true h = carried_stored table s.slot h (decided (held table s.slot) s.step)
    by true false h = keeps_stored table s.slot false 3 h
    by false u h = keeps_stored table 0 (in_use table 0) 22 refl

-- ---- it is stored in one of the slots

carried_within : (slot : ℕ) (start : Credentials) (free : ℕ) → slot < SLOTS → (d : Decision) → (turn_by slot start free d).to < SLOTS
carried_within slot start free h (Answered r) = h
carried_within slot start free h Forks = cond_cases (λ (t : Turn). t.to < SLOTS) (ltb free SLOTS) _ _ (λ w. ltb-true free SLOTS w) (λ w. h)
carried_within slot start free h Exits = h

within : (marks : List Bool) (slot : ℕ) (start : Credentials) (x : Step) → (turn_of marks slot start x).to < SLOTS
unfolding turn_of
within marks slot start x =
    cond_cases (λ (t : Turn). t.to < SLOTS) (ltb slot SLOTS) _ _
    (λ w. let h = ltb-true slot SLOTS w in
    cond_cases (λ (t : Turn). t.to < SLOTS) (get_or marks slot false) _ _ (λ u. carried_within slot start (lowest_free marks) h (decided start x)) (λ u. h))
    (λ w. omega arith)

-- ---- the statement

pub turns_stored : Stored
turns_stored = record { is_the_step = is_the_step; within = within }

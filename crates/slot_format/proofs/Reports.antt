-- How long the report of a slot plan is at most: each slot that is in use at the end takes a fork that is done, and the result of that is a byte shorter than
-- the longest. Assumes nothing.
use mathlib.Core.Path.{◌≡◌, refl, sym, ap, ◌∙◌}
use mathlib.Core.Bool.{Bool, true, false, cond}
use mathlib.Core.List.{List, [], ◌∷◌}
use Prim.Native.Nat.{ℕ, zero, suc, ◌+◌, ◌*◌, ◌≤◌}
use native.Mathlib.Omega.{arith}
use lib.Dec.{ltb}
use lib.ListN.{length, get_or, set, length-append}
use Rattle.credentials.specs.Validity.{valid}
use Rattle.credentials.specs.declared.Credentials.{Credentials}
use Rattle.rules.specs.Fields.{number}
use Rattle.rules.proofs.Conditions.{cond_cases}
use Rattle.format.specs.Line.{decimal_of, decimal_text, keyed_text}
use Rattle.format.specs.Sheet.{sheet_text}
use Rattle.format.specs.Plan.{many_text}
use Rattle.format.proofs.Lengths.{at_most, length_keyed, length_result_lines}
use Rattle.format.proofs.Longest.{three_digits}
use Rattle.format.proofs.Plans.{length_sheet}
use Rattle.format.proofs.Sheets.{valid_writable}
use Rattle.threads.specs.Step.{SlotStep, answered, forked, step_in, run_in, ends}
use Rattle.threads.specs.Table.{SLOTS, held, in_use, lowest_free, fresh}
use Rattle.threads.specs.declared.SlotResult.{SlotResult}
use Rattle.threads.specs.declared.Threads.{Threads}
use Rattle.threads.proofs.Lives.{ends_sized, ends_valid, fresh_sized}
use Rattle.threads.proofs.StepCases.{asked, step_cases}
use Rattle.slot_format.specs.SlotPlan.{slot_kind, SlotPlan}
use Rattle.slot_format.specs.SlotReport.{slot_result_text, slot_text, slots_text, table_text, slot_report_text}

-- ---- slots in use

-- how many are
unfoldable count : List Bool → ℕ
count [] = 0
count (mark ∷ marks) = number mark + count marks

number_small : (mark : Bool) → number mark ≤ 1
unfolding number
number_small true = omega arith
number_small false = omega arith

-- one mark changed makes at most one more
count_set : (marks : List Bool) (i : ℕ) (mark : Bool) → count (set marks i mark) ≤ count marks + 1
unfolding count
count_set [] i mark = omega arith
count_set (x ∷ marks) zero mark = omega (arith, number_small mark)
count_set (x ∷ marks) (suc i) mark = omega (arith, count_set marks i mark)

-- ---- results

length_result : (r : SlotResult) → length (slot_result_text r) ≡ 36 + (length (decimal_text r.code) + length (decimal_text r.cause))
unfolding slot_result_text
length_result r = length_result_lines r.code r.value r.cause

-- a result's length and the slots in use after it
abbrev Small : Threads → SlotResult → Type 0
Small table r = length (slot_result_text r) + count r.table.used ≤ 39 + count table.used

-- a result with value and cause 0 that leaves the use marks
refused_small : (table : Threads) (n : ℕ) → n ≤ 99 → Small table (record { code = n; value = 0; cause = 0; table = table })
refused_small table n h =
    omega (arith, length_result (record { code = n; value = 0; cause = 0; table = table }), at_most 1 n (omega (arith, h)), at_most 0 0 (omega arith))

-- one that is done, and changes one mark
done_small : (table : Threads) (v i : ℕ) (mark : Bool) (cs : List Credentials)
    → Small table (record { code = 0; value = v; cause = 0; table = record { credentials = cs; used = set table.used i mark } })
done_small table v i mark cs =
    omega (
      arith,
      length_result (record { code = 0; value = v; cause = 0; table = record { credentials = cs; used = set table.used i mark } }),
      at_most 0 0 (omega arith),
      count_set table.used i mark,
    )

forked_small : (table : Threads) (caller : Credentials) (free : ℕ) → Small table (forked table caller free)
unfolding forked
forked_small table caller free =
    cond_cases (Small table) (ltb free SLOTS) _ _ (λ h. done_small table free free true _) (λ h. refused_small table 11 (omega arith))

step_small : (table : Threads) (s : SlotStep) → Small table (step_in table s)
step_small table s =
    step_cases table s (Small table)
    (λ n o w. refused_small table n o.small)
    (λ w u f v. forked_small table (held table s.slot) (lowest_free table.used))
    (λ w u f e. done_small table 0 s.slot false table.credentials)
    (λ w u f e. omega (arith, length_result (answered table s.slot (asked table s)), three_digits (asked table s)))

results_small : (table : Threads) (ss : List SlotStep)
    → length (many_text slot_result_text (run_in table ss)) + count (ends table ss).used ≤ length ss * 39 + count table.used
unfolding run_in ends many_text
results_small table [] = omega arith
results_small table (s ∷ ss) =
    let r = step_in table s in
    omega (
      arith,
      length-append (slot_result_text r) (many_text slot_result_text (run_in r.table ss)),
      step_small table s,
      results_small r.table ss,
    )

-- ---- slots

-- the most bytes of a slot's line and a sheet
length_slot : (slot : ℕ) (c : Credentials) → valid c ≡ true → length (slot_text slot c) ≤ 290 + length (decimal_text slot)
unfolding slot_text
length_slot slot c v =
    omega (
      arith,
      length-append (keyed_text slot_kind.key (decimal_text slot)) (sheet_text c),
      length_keyed slot_kind.key (decimal_text slot),
      length_sheet c (valid_writable c v),
    )

-- how many of the n slots from k on are in use, and how many bytes those take that are not
unfoldable used_from : List Bool → ℕ → ℕ → ℕ
used_from marks k zero = 0
used_from marks k (suc n) = number (get_or marks k false) + used_from marks (suc k) n

unfoldable room_from : ℕ → ℕ → ℕ
room_from k zero = 0
room_from k (suc n) = 289 + length (decimal_text k) + room_from (suc k) n

used_past : (mark : Bool) (marks : List Bool) (k n : ℕ) → used_from (mark ∷ marks) (suc k) n ≡ used_from marks k n
unfolding used_from
used_past mark marks k zero = refl
used_past mark marks k (suc n) = ap (λ (m : ℕ). number (get_or marks k false) + m) (used_past mark marks (suc k) n)

used_all : (marks : List Bool) → used_from marks 0 (length marks) ≡ count marks
unfolding used_from count
used_all [] = refl
used_all (mark ∷ marks) = ap (λ (m : ℕ). number mark + m) (used_past mark marks 0 (length marks) ∙ used_all marks)

slot_small : (table : Threads) (k : ℕ) (mark : Bool) → (mark ≡ true → valid (held table k) ≡ true)
    → length (cond mark (slot_text k (held table k)) []) ≤ number mark + (289 + length (decimal_text k))
unfolding number
slot_small table k true v = omega (arith, length_slot k (held table k) (v refl))
slot_small table k false v = omega arith

slots_small : (table : Threads) → ((slot : ℕ) → in_use table slot ≡ true → valid (held table slot) ≡ true) → (k n : ℕ)
    → length (slots_text table k n) ≤ used_from table.used k n + room_from k n
unfolding slots_text used_from room_from
slots_small table v k zero = omega arith
slots_small table v k (suc n) =
    omega (
      arith,
      length-append (cond (in_use table k) (slot_text k (held table k)) []) (slots_text table (suc k) n),
      slot_small table k (in_use table k) (v k),
      slots_small table v (suc k) n,
    )

-- 96 times 289 bytes, ten numbers of one digit and 86 of two
room_all : room_from 0 96 ≡ 27926
unfolding room_from decimal_text decimal_of
room_all = refl

table_small : (table : Threads) → length table.used ≡ SLOTS → ((slot : ℕ) → in_use table slot ≡ true → valid (held table slot) ≡ true)
    → length (table_text table) ≤ count table.used + 27926
table_small table z v =
    let all : used_from table.used 0 SLOTS ≡ count table.used = ap (used_from table.used 0) (sym z) ∙ used_all table.used in
    omega (arith, slots_small table v 0 SLOTS, all, room_all)

-- ---- the report

fresh_count : (sheet : Credentials) → count (fresh sheet).used ≡ 1
unfolding count number
fresh_count sheet = refl

pub length_slot_report : (p : SlotPlan) → valid p.start ≡ true → length p.steps ≤ 256 → length (slot_report_text p) ≤ 37911
unfolding slot_report_text
length_slot_report p v n =
    let table = fresh p.start in
    let end = ends table p.steps in
    omega (
      arith,
      length-append (many_text slot_result_text (run_in table p.steps)) (table_text end),
      results_small table p.steps,
      fresh_count p.start,
      table_small end (ends_sized table (fresh_sized p.start) p.steps).used (ends_valid p.start v p.steps),
    )

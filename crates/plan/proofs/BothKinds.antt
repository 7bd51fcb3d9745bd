-- The two kinds of plan: what their texts come to, and that a valid start leads to sound states. Assumes nothing.
use mathlib.Core.Path.{◌≡◌, refl, sym, ap, ◌∙◌, subst}
use mathlib.Core.List.{List, [], ◌∷◌, ◌++◌}
use mathlib.Core.Bool.{true, cond}
use Prim.Native.Nat.{ℕ}
use Rattle.credentials.specs.Validity.{valid}
use Rattle.credentials.specs.declared.Credentials.{Credentials}
use Rattle.rules.specs.Run.{Step, Result, result, run, last_of, left}
use Rattle.rules.proofs.Demand3.{demand_3}
use Rattle.format.specs.Line.{lines_text, Read, read, fault_at, below, next, mapped}
use Rattle.format.specs.Sheet.{id_kinds, uid_kinds, gid_kinds, set_kinds, flag_kinds, sheet_kinds, sheet_text, read_front}
use Rattle.format.specs.Step.{step_kinds, read_step}
use Rattle.format.specs.Plan.{PlanOf, many_text, read_many, read_plan_by}
use Rattle.format.specs.Report.{result_kinds, result_text, results_text, report_text, report, invalid, judged_by, verdict}
use Rattle.format.proofs.Reading.{mapped_told}
use Rattle.slot_format.specs.SlotPlan.{read_slot_step}
use Rattle.slot_format.specs.SlotReport.{slot_result_text, table_text, slot_report_text, slot_verdict}
use Rattle.threads.specs.Step.{SlotStep, step_in, run_in, ends}
use Rattle.threads.specs.Table.{fresh}
use Rattle.threads.specs.declared.SlotResult.{SlotResult}
use Rattle.threads.specs.declared.Threads.{Threads}
use Rattle.threads.proofs.Lives.{ends_valid}
use Rattle.plan.specs.declared.state.StepAnswer.{StepAnswer}
use Rattle.plan.specs.Inside.{Taken, PlanKind, thread_taken, thread_kind, table_taken, table_kind, UsedValid, Ran, ran_none, before, ran_by, answers_text, ran_verdict, front_verdict, verdict_by}
use Rattle.plan.proofs.RunLaws.{below_read, read_and_ran}

-- ---- of either kind: read first and run then, or each step taken as it is read

module _ {A S : Type 0} (k : PlanKind S) (one : List ℕ → Read A) (does : S → A → Taken S) (ran : S → List A → Ran S) (text : PlanOf A → List ℕ)
    (taken : (s : S) (t : List ℕ) → k.taken s t ≡ mapped (does s) (one t))
    (none : (s : S) → ran s [] ≡ ran_none s)
    (some : (s : S) (x : A) (xs : List A) → ran s (x ∷ xs) ≡ before (does s x).answer (ran (does s x).state xs))
    (says : (c : Credentials) (xs : List A)
    → text (record { start = c; steps = xs }) ≡ answers_text (ran (k.start c) xs).answers ++ k.text (ran (k.start c) xs).last) where
  abbrev steps_read : List ℕ → Read (List A)
  steps_read rest = read_many k.lines one 256 rest

  abbrev made : Credentials → List A → PlanOf A
  made c xs = record { start = c; steps = xs }

  by_steps : (c : Credentials) (r : Read (List A)) → judged_by text (below 15 (mapped (made c) r)) ≡ ran_verdict k c (below 15 (mapped (ran (k.start c)) r))
  by_steps c (read xs t) = ap (λ (u : List ℕ). cond (valid c) (report u) invalid) (says c xs)
  by_steps c (fault_at line) = refl

  by_front : (r : Read Credentials) → judged_by text (next 15 r (λ c rest. mapped (made c) (steps_read rest))) ≡ front_verdict k r
  by_front (read c rest) =
      by_steps c (steps_read rest) ∙ ap (λ (r : Read (Ran S)). ran_verdict k c (below 15 r)) (sym (read_and_ran k one does ran taken none some 256 (k.start c) rest))
  by_front (fault_at line) = refl

  same_verdict : (t : List ℕ) → judged_by text (read_plan_by k.lines one t) ≡ verdict_by k t
  unfolding verdict_by read_plan_by sheet_kinds id_kinds uid_kinds gid_kinds set_kinds flag_kinds
  same_verdict t = by_front (read_front t)

  -- what steps leave, as their list does
  leaves : (lines n : ℕ) (s : S) (t rest : List ℕ) (x : Ran S) → below lines (ran_by k n s t) ≡ read x rest → (xs : List A) × (ran s xs ≡ x)
  leaves lines n s t rest x e =
      let m = mapped_told x rest (ran s) (read_many k.lines one n t) (sym (read_and_ran k one does ran taken none some n s t) ∙ below_read lines (ran_by k n s t) x rest e) in
      (m.0, m.2)

-- what is answered, of each in a list
unfoldable answers_of : {R : Type 0} → (R → StepAnswer) → List R → List StepAnswer
answers_of f [] = []
answers_of f (r ∷ rs) = f r ∷ answers_of f rs

-- ---- a plan

abbrev thread_ran : Credentials → List Step → Ran Credentials
thread_ran c ss = record { answers = answers_of (λ r. (thread_taken r).answer) (run c ss); last = left c ss }

abbrev thread_does : Credentials → Step → Taken Credentials
thread_does c s = thread_taken (result c s)

thread_step : (c : Credentials) (t : List ℕ) → thread_kind.taken c t ≡ mapped (thread_does c) (read_step t)
thread_step c t = refl

thread_none : (c : Credentials) → thread_ran c [] ≡ ran_none c
unfolding run last_of answers_of
thread_none c = refl

thread_some : (c : Credentials) (x : Step) (xs : List Step) → thread_ran c (x ∷ xs) ≡ before (thread_does c x).answer (thread_ran (thread_does c x).state xs)
unfolding run last_of answers_of
thread_some c x xs = refl

results_say : (rs : List Result) → results_text rs ≡ answers_text (answers_of (λ r. (thread_taken r).answer) rs)
unfolding results_text result_text many_text answers_of
results_say [] = refl
results_say (r ∷ rs) = ap (λ (t : List ℕ). lines_text result_kinds (r.code ∷ r.value ∷ r.cause ∷ []) ++ t) (results_say rs)

thread_says : (c : Credentials) (xs : List Step)
    → report_text (record { start = c; steps = xs }) ≡ answers_text (thread_ran (thread_kind.start c) xs).answers ++ thread_kind.text (thread_ran (thread_kind.start c) xs).last
unfolding report_text
thread_says c xs = ap (λ (t : List ℕ). t ++ sheet_text (left c xs)) (results_say (run c xs))

pub thread_verdict : (text : List ℕ) → verdict text ≡ verdict_by thread_kind text
unfolding verdict step_kinds
thread_verdict text = same_verdict thread_kind read_step thread_does thread_ran report_text thread_step thread_none thread_some thread_says text

-- demand 3
pub thread_ends_sound : (c : Credentials) (rest : List ℕ) (x : Ran Credentials) → valid c ≡ true → below 15 (ran_by thread_kind 256 (thread_kind.start c) rest) ≡ read x []
    → valid x.last ≡ true
thread_ends_sound c rest x v e =
    let m = leaves thread_kind read_step thread_does thread_ran report_text thread_step thread_none thread_some thread_says 15 256 c rest [] x e in
    ap (λ (y : Ran Credentials). valid y.last) (sym m.1) ∙ (demand_3 c v m.0).ends_valid

-- ---- a slot plan

abbrev table_ran : Threads → List SlotStep → Ran Threads
table_ran table ss = record { answers = answers_of (λ r. (table_taken r).answer) (run_in table ss); last = ends table ss }

abbrev table_does : Threads → SlotStep → Taken Threads
table_does table s = table_taken (step_in table s)

table_step : (table : Threads) (t : List ℕ) → table_kind.taken table t ≡ mapped (table_does table) (read_slot_step t)
table_step table t = refl

table_none : (table : Threads) → table_ran table [] ≡ ran_none table
unfolding run_in ends answers_of
table_none table = refl

table_some : (table : Threads) (x : SlotStep) (xs : List SlotStep) → table_ran table (x ∷ xs) ≡ before (table_does table x).answer (table_ran (table_does table x).state xs)
unfolding run_in ends answers_of
table_some table x xs = refl

slot_results_say : (rs : List SlotResult) → many_text slot_result_text rs ≡ answers_text (answers_of (λ r. (table_taken r).answer) rs)
unfolding many_text slot_result_text answers_of
slot_results_say [] = refl
slot_results_say (r ∷ rs) = ap (λ (t : List ℕ). lines_text result_kinds (r.code ∷ r.value ∷ r.cause ∷ []) ++ t) (slot_results_say rs)

table_says : (c : Credentials) (xs : List SlotStep)
    → slot_report_text (record { start = c; steps = xs }) ≡ answers_text (table_ran (table_kind.start c) xs).answers ++ table_kind.text (table_ran (table_kind.start c) xs).last
unfolding slot_report_text
table_says c xs = ap (λ (t : List ℕ). t ++ table_text (ends (fresh c) xs)) (slot_results_say (run_in (fresh c) xs))

pub table_verdict : (text : List ℕ) → slot_verdict text ≡ verdict_by table_kind text
unfolding slot_verdict step_kinds
table_verdict text = same_verdict table_kind read_slot_step table_does table_ran slot_report_text table_step table_none table_some table_says text

-- demand 3 per slot
pub table_ends_sound : (c : Credentials) (rest : List ℕ) (x : Ran Threads) → valid c ≡ true → below 15 (ran_by table_kind 256 (table_kind.start c) rest) ≡ read x []
    → UsedValid x.last
table_ends_sound c rest x v e =
    let m = leaves table_kind read_slot_step table_does table_ran slot_report_text table_step table_none table_some table_says 15 256 (fresh c) rest [] x e in
    subst (λ (y : Ran Threads). UsedValid y.last) m.1 (ends_valid c v m.0)

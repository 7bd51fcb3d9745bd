-- Demand 3 per slot holds: from the table at the start with any valid credentials, by any list of steps. Assumes nothing.
use Prim.Native.Nat.{ℕ, zero, suc, ◌<◌, ◌≤◌}
use mathlib.Core.Path.{◌≡◌, refl, sym, ap, ◌∙◌, subst}
use mathlib.Core.Logic.{◌≢◌, ⊎_elim}
use mathlib.Core.Bool.{Bool, true, false, not, ◌&&◌, ◌||◌, true≢false}
use mathlib.Core.List.{List, [], ◌∷◌, ◌++◌}
use lib.Dec.{eqb, ltb}
use lib.ListN.{length, get_or, replicate, get_or-eq_default}
use lib.Seq.{get_or-set_same, get_or-set_other}
use borrow.Author.Tests.{ltb-true, eqb-true, eq-eqb, ne_eqb}
use Rattle.credentials.specs.Validity.{valid}
use Rattle.credentials.specs.declared.Credentials.{Credentials}
use Rattle.rules.specs.Answers.{code, value, cause}
use Rattle.rules.specs.Run.{Step, Result, result, run, last_of, left}
use Rattle.rules.proofs.Conditions.{cond_cases}
use Rattle.rules.proofs.Demand3.{demand_3}
use Rattle.threads.specs.declared.SlotResult.{SlotResult}
use Rattle.threads.specs.declared.Threads.{Threads}
use Rattle.threads.specs.Table.{SLOTS, empty, held, in_use, lowest_free, fresh, with_credentials, with_mark}
use Rattle.threads.specs.Step.{SlotStep, FORK, EXIT, refused, answered, forked, exited, step_in, ends}
use Rattle.threads.specs.Slots.{Sized}
use Rattle.threads.specs.Lives.{Life, begins, lengthened, fork_into, call_in, came_back, lived, life_of, life_from, DemandedPerSlot}
use Rattle.threads.proofs.StepCases.{NoCall, asked, step_cases}
use Rattle.threads.proofs.Tests.{equal_or_not, different}
use Rattle.threads.proofs.WhatChanges.{sized}

-- ---- what is carried from step to step, of a slot in use: its start was valid, its results are the rules', and it holds what they leave

record Kept (table : Threads) (slot : ℕ) (life : Life) : Type 0 where
  pub valid_start : valid life.start ≡ true
  pub results : life.results ≡ run life.start life.calls
  pub holds : held table slot ≡ left life.start life.calls

-- of the same credentials in another table
moved : (table other : Threads) (slot : ℕ) (life : Life) → held other slot ≡ held table slot → Kept table slot life → Kept other slot life
moved table other slot life e k = record { valid_start = k.valid_start; results = k.results; holds = e ∙ k.holds }

-- a life that begins
begun : (table : Threads) (slot : ℕ) (start : Credentials) → valid start ≡ true → held table slot ≡ start → Kept table slot (begins start)
unfolding run last_of
begun table slot start v e = record { valid_start = v; results = refl; holds = e }

-- one call more
longer : (table other : Threads) (slot : ℕ) (life : Life) (x : Step) (r : Result) → r ≡ result (held table slot) x → held other slot ≡ r.after
    → Kept table slot life → Kept other slot (lengthened life x r)
unfolding run last_of
longer table other slot life x r e h k =
    let on = (demand_3 life.start k.valid_start (life.calls ++ (x ∷ []))).goes_on life.calls (x ∷ []) refl in
    let f : r ≡ result (left life.start life.calls) x = e ∙ ap (λ (c : Credentials). result c x) k.holds in
    record {
      valid_start = k.valid_start;
      results = ap (λ (rs : List Result). rs ++ (r ∷ [])) k.results ∙ ap (λ (y : Result). run life.start life.calls ++ (y ∷ [])) f ∙ sym on.results;
      holds = h ∙ ap (λ (y : Result). y.after) f ∙ sym on.leaves;
    }

-- ---- tests

and_l : (a b : Bool) → a && b ≡ true → a ≡ true
and_l true b h = refl
and_l false b h = h

and_r : (a b : Bool) → a && b ≡ true → b ≡ true
and_r true b h = h
and_r false b h = absurd (true≢false (sym h))

not_both : (a : Bool) → not a ≡ true → a ≡ true → ⊥
not_both true h k = true≢false (sym h)
not_both false h k = true≢false (sym k)

-- ---- one step

module _ (table : Threads) (s : SlotStep) (z : Sized table) (slot : ℕ) (life : Life) (k : in_use table slot ≡ true → Kept table slot life) where
  abbrev Goes : SlotResult → Type 0
  Goes r = in_use r.table slot ≡ true → Kept r.table slot (lived table slot life s r)

  -- neither a fork into the slot nor a call in it
  stays : (r : SlotResult) → fork_into slot s r ≡ false → (call_in slot s ≡ true → ⊥) → Kept r.table slot life → Kept r.table slot (lived table slot life s r)
  stays r f c kept =
      cond_cases (Kept r.table slot) (fork_into slot s r) _ _
      (λ h. absurd (true≢false (sym h ∙ f)))
      (λ h. cond_cases (Kept r.table slot) (call_in slot s) _ _ (λ h. absurd (c h)) (λ h. kept))

  -- a fork or an exit is no call
  not_a_call : eqb s.step.number FORK || eqb s.step.number EXIT ≡ true → call_in slot s ≡ true → ⊥
  not_a_call h c = not_both (eqb s.step.number FORK || eqb s.step.number EXIT) (and_r (eqb s.slot slot) _ c) h

  -- nor is a step that is refused before its call is asked one in a slot in use
  no_call : NoCall table s → in_use table slot ≡ true → call_in slot s ≡ true → ⊥
  no_call w u c =
      let e : s.slot ≡ slot = eqb-true s.slot slot (and_l (eqb s.slot slot) _ c) in
      ⊎_elim
      (λ big. true≢false (sym u ∙ get_or-eq_default table.used false (subst (λ (n : ℕ). length table.used ≤ n) e (subst (λ (n : ℕ). n ≤ s.slot) (sym z.used) big))))
      (λ v. ⊎_elim (λ free. true≢false (sym u ∙ ap (λ (n : ℕ). in_use table n) (sym e) ∙ free)) (λ other. not_a_call other c) v)
      w

  refuses : (n : ℕ) → eqb n 0 ≡ false → (in_use table slot ≡ true → call_in slot s ≡ true → ⊥) → Goes (refused table n)
  refuses n h w u = stays (refused table n) (no_fork (eqb s.step.number FORK)) (w u) (k u)
    where
      no_fork : (b : Bool) → b && (eqb n 0 && eqb 0 slot) ≡ false
      no_fork true = rw h
      no_fork false = refl

  forks : eqb s.step.number FORK ≡ true → valid (held table s.slot) ≡ true → (free : ℕ) → Goes (forked table (held table s.slot) free)
  unfolding forked
  forks f v free =
      let caller = held table s.slot in
      cond_cases Goes (ltb free SLOTS) _ _
      (λ h u.
      let w = ltb-true free SLOTS h in
      let other : Threads = with_mark (with_credentials table free caller) free true in
      let r : SlotResult = record { code = 0; value = free; cause = 0; table = other } in
      ⊎_elim
      (λ (e : slot ≡ free).
      cond_cases (Kept other slot) (fork_into slot s r) _ _
      (λ i. begun other slot caller v
      (ap (λ (n : ℕ). held other n) e ∙ get_or-set_same table.credentials free caller empty (subst (λ (n : ℕ). free < n) (sym z.credentials) w)))
      (λ i. absurd (true≢false (sym (rw (f, eq-eqb free slot (sym e))) ∙ i))))
      (λ (ne : eqb slot free ≡ false).
      let away : slot ≢ free = different slot free ne in
      stays r (rw (f, ne_eqb free slot (λ e. away (sym e)))) (not_a_call (rw f))
      (moved table other slot life (get_or-set_other table.credentials free slot caller empty away)
      (k (sym (get_or-set_other table.used free slot true false away) ∙ u))))
      (equal_or_not slot free))
      (λ h. refuses 11 refl (λ u. not_a_call (rw f)))

  exits : s.slot < SLOTS → eqb s.step.number FORK ≡ false → eqb s.step.number EXIT ≡ true → Goes (exited table s.slot)
  exits w f e u =
      let away : slot ≢ s.slot = λ p. true≢false (sym u ∙ ap (λ (n : ℕ). in_use (with_mark table s.slot false) n) p ∙ get_or-set_same table.used s.slot false false (subst (λ (n : ℕ). s.slot < n) (sym z.used) w)) in
      stays (exited table s.slot) (rw f) (not_a_call (rw (f, e)))
      (moved table (with_mark table s.slot false) slot life refl (k (sym (get_or-set_other table.used s.slot slot false false away) ∙ u)))

  calls : s.slot < SLOTS → in_use table s.slot ≡ true → eqb s.step.number FORK ≡ false → eqb s.step.number EXIT ≡ false
      → Goes (answered table s.slot (asked table s))
  unfolding result
  calls w u f e now =
      let r = answered table s.slot (asked table s) in
      ⊎_elim
      (λ (p : slot ≡ s.slot).
      cond_cases (Kept r.table slot) (fork_into slot s r) _ _
      (λ h. absurd (true≢false (sym h ∙ rw f)))
      (λ h. cond_cases (Kept r.table slot) (call_in slot s) _ _
      (λ c. longer table r.table slot life s.step _
      (subst (λ (n : ℕ). came_back n r ≡ result (held table n) s.step) (sym p)
      (came_back_lem (get_or-set_same table.credentials s.slot _ empty (subst (λ (n : ℕ). s.slot < n) (sym z.credentials) w))))
      refl (k (ap (λ (n : ℕ). in_use table n) p ∙ u)))
      (λ c. absurd (true≢false (sym (rw (eq-eqb s.slot slot (sym p), f, e)) ∙ c)))))
      (λ (ne : eqb slot s.slot ≡ false).
      let away : slot ≢ s.slot = different slot s.slot ne in
      stays r (rw f) (λ c. away (sym (eqb-true s.slot slot (and_l (eqb s.slot slot) _ c))))
      (moved table r.table slot life (get_or-set_other table.credentials s.slot slot _ empty away) (k now)))
      (equal_or_not slot s.slot)
    where
      -- what came back, with what the slot then holds, is the rules' result
      came_back_lem : held (answered table s.slot (asked table s)).table s.slot ≡ (result (held table s.slot) s.step).after
          → came_back s.slot (answered table s.slot (asked table s)) ≡ result (held table s.slot) s.step
      came_back_lem h = λ i. record { code = code (asked table s); value = value (asked table s); cause = cause (asked table s); after = h i }

  one_step : Goes (step_in table s)
  one_step =
      step_cases table s Goes
      (λ n o w. refuses n o.not_0 (no_call w))
      (λ w u f v. forks f v (lowest_free table.used))
      (λ w u f e. exits w f e)
      (λ w u f e. calls w u f e)

-- ---- a list of steps

list_kept : (table : Threads) → Sized table → (slot : ℕ) (life : Life) → (in_use table slot ≡ true → Kept table slot life) → (steps : List SlotStep)
    → in_use (ends table steps) slot ≡ true → Kept (ends table steps) slot (life_of table slot life steps)
unfolding ends life_of
list_kept table z slot life k [] = k
list_kept table z slot life k (s ∷ ss) =
    list_kept (step_in table s).table (sized table s z) slot (lived table slot life s (step_in table s)) (one_step table s z slot life k) ss

-- ---- the table at the start

none_used : (n i : ℕ) → get_or (replicate n false) i false ≡ false
none_used zero i = refl
none_used (suc n) zero = refl
none_used (suc n) (suc i) = none_used n i

fresh_kept : (sheet : Credentials) → valid sheet ≡ true → (slot : ℕ) → in_use (fresh sheet) slot ≡ true → Kept (fresh sheet) slot (begins (held (fresh sheet) slot))
fresh_kept sheet v zero u = begun (fresh sheet) zero sheet v refl
fresh_kept sheet v (suc i) u = absurd (true≢false (sym u ∙ none_used 95 i))

pub fresh_sized : (sheet : Credentials) → Sized (fresh sheet)
fresh_sized sheet = record { credentials = refl; used = refl }

-- ---- the theorem

pub demand_3_per_slot : DemandedPerSlot
demand_3_per_slot sheet v steps slot u =
    let k = list_kept (fresh sheet) (fresh_sized sheet) slot (begins (held (fresh sheet) slot)) (fresh_kept sheet v slot) steps u in
    let life = life_from sheet slot steps in
    record { results = k.results; holds = k.holds; demand = demand_3 life.start k.valid_start life.calls }

-- what a slot in use holds after any list of steps is valid
pub ends_valid : (sheet : Credentials) → valid sheet ≡ true → (steps : List SlotStep) (slot : ℕ) → in_use (ends (fresh sheet) steps) slot ≡ true
    → valid (held (ends (fresh sheet) steps) slot) ≡ true
ends_valid sheet v steps slot u =
    let p = demand_3_per_slot sheet v steps slot u in ap valid p.holds ∙ p.demand.ends_valid

-- and the table has 96 slots
pub ends_sized : (table : Threads) → Sized table → (steps : List SlotStep) → Sized (ends table steps)
unfolding ends
ends_sized table z [] = z
ends_sized table z (s ∷ ss) = ends_sized (step_in table s).table (sized table s z) ss

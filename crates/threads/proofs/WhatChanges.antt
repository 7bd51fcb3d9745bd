-- What a step changes, and that a slot that is free is taken again. Assumes nothing.
use Prim.Native.Nat.{ℕ, ◌<◌, ◌≤◌}
use native.Mathlib.Omega.{arith}
use mathlib.Core.Path.{◌≡◌, refl, sym, ap, ◌∙◌, subst}
use mathlib.Core.Logic.{◌≢◌, ⊎_elim}
use mathlib.Core.Bool.{Bool, true, false, true≢false}
use lib.Dec.{eqb, leb, ltb}
use lib.ListN.{length-set}
use lib.Seq.{get_or-set_same, get_or-set_other}
use borrow.Author.Tests.{ltb-true, ltb-false, leb-true, leb-false}
use Rattle.std.specs.Prelude.{Ok, Err}
use Rattle.credentials.specs.declared.Credentials.{Credentials}
use Rattle.rules.specs.Answers.{Answer, code}
use Rattle.rules.specs.declared.Refusal.TheVariants.{NotPermitted, InvalidArgument, UnreadableAttribute, InvalidCredentials}
use Rattle.rules.proofs.Conditions.{cond_cases}
use Rattle.threads.specs.declared.SlotResult.{SlotResult}
use Rattle.threads.specs.declared.Threads.{Threads}
use Rattle.threads.specs.Table.{SLOTS, empty, held, in_use, with_mark, lowest_free}
use Rattle.threads.specs.Step.{SlotStep, FORK, answered, forked, step_in}
use Rattle.threads.specs.Slots.{Sized, Fork, Same}
use Rattle.threads.proofs.Free.{lowest_free_lem, lowest_below}
use Rattle.threads.proofs.StepCases.{kept, asked, step_cases}
use Rattle.threads.proofs.Tests.{not_other, equal_or_not, different}

pub same_all : (table : Threads) (i : ℕ) → Same table table i
same_all table i = record { credentials = refl; used = refl }

-- ---- a fork

module _ (table : Threads) (caller : Credentials) where
  pub forked_others : (free i : ℕ) → i ≢ free → Same (forked table caller free).table table i
  unfolding forked
  forked_others free i ne =
      cond_cases (λ (r : SlotResult). Same r.table table i) (ltb free SLOTS) _ _
      (λ h. record { credentials = get_or-set_other table.credentials free i caller empty ne; used = get_or-set_other table.used free i true false ne })
      (λ h. same_all table i)

  -- its value is the slot, where it is done
  pub forked_value : (free : ℕ) → (forked table caller free).code ≡ 0 → ((forked table caller free).value ≡ free) × (free < SLOTS)
  unfolding forked
  forked_value free =
      cond_cases (λ (r : SlotResult). r.code ≡ 0 → (r.value ≡ free) × (free < SLOTS)) (ltb free SLOTS) _ _
      (λ h k. (refl, ltb-true free SLOTS h)) (λ h k. absurd (omega (arith, k)))

-- ---- sizes

forked_sized : (table : Threads) (caller : Credentials) (free : ℕ) → Sized table → Sized (forked table caller free).table
unfolding forked
forked_sized table caller free z =
    cond_cases (λ (r : SlotResult). Sized r.table) (ltb free SLOTS) _ _
    (λ h. record { credentials = length-set table.credentials free caller ∙ z.credentials; used = length-set table.used free true ∙ z.used })
    (λ h. z)

pub sized : (table : Threads) (s : SlotStep) → Sized table → Sized (step_in table s).table
sized table s z =
    step_cases table s (λ (r : SlotResult). Sized r.table)
    (λ n o w. z)
    (λ w u f v. forked_sized table (held table s.slot) (lowest_free table.used) z)
    (λ w u f e. record { credentials = z.credentials; used = length-set table.used s.slot false ∙ z.used })
    (λ w u f e. record { credentials = length-set table.credentials s.slot _ ∙ z.credentials; used = z.used })

-- ---- what is changed

answered_refusal : (table : Threads) (slot : ℕ) (r : Answer) → eqb (code r) 0 ≡ false → (answered table slot r).table ≡ table
answered_refusal table slot (Ok d) h = absurd (true≢false h)
answered_refusal table slot (Err (NotPermitted why)) h = rw (kept table slot)
answered_refusal table slot (Err InvalidArgument) h = rw (kept table slot)
answered_refusal table slot (Err UnreadableAttribute) h = rw (kept table slot)
answered_refusal table slot (Err InvalidCredentials) h = rw (kept table slot)

forked_refusal : (table : Threads) (caller : Credentials) (free : ℕ) → eqb (forked table caller free).code 0 ≡ false → (forked table caller free).table ≡ table
unfolding forked
forked_refusal table caller free =
    cond_cases (λ (r : SlotResult). eqb r.code 0 ≡ false → r.table ≡ table) (ltb free SLOTS) _ _ (λ h k. absurd (true≢false k)) (λ h k. refl)

pub refusal : (table : Threads) (s : SlotStep) → eqb (step_in table s).code 0 ≡ false → (step_in table s).table ≡ table
refusal table s =
    step_cases table s (λ (r : SlotResult). eqb r.code 0 ≡ false → r.table ≡ table)
    (λ n o w k. refl)
    (λ w u f v. forked_refusal table (held table s.slot) (lowest_free table.used))
    (λ w u f e k. absurd (true≢false k))
    (λ w u f e. answered_refusal table s.slot (asked table s))

pub elsewhere : (table : Threads) (s : SlotStep) → eqb s.step.number FORK ≡ false → (i : ℕ) → i ≢ s.slot → Same (step_in table s).table table i
elsewhere table s no_fork i ne =
    step_cases table s (λ (r : SlotResult). Same r.table table i)
    (λ n o w. same_all table i)
    (λ w u f v. absurd (true≢false (sym f ∙ no_fork)))
    (λ w u f e. record { credentials = refl; used = get_or-set_other table.used s.slot i false false ne })
    (λ w u f e. record { credentials = get_or-set_other table.credentials s.slot i _ empty ne; used = refl })

pub fork_elsewhere : (table : Threads) (s : SlotStep) → Fork s → (step_in table s).code ≡ 0 → (i : ℕ) → i ≢ (step_in table s).value → Same (step_in table s).table table i
fork_elsewhere table s is_fork done i ne =
    step_cases table s (λ (r : SlotResult). r.code ≡ 0 → i ≢ r.value → Same r.table table i)
    (λ n o w k m. same_all table i)
    (λ w u f v k m.
    let caller = held table s.slot in
    let free = lowest_free table.used in
    forked_others table caller free i (λ e. m (e ∙ sym (forked_value table caller free k).0)))
    (λ w u f e. absurd (true≢false (sym is_fork ∙ f)))
    (λ w u f e. absurd (true≢false (sym is_fork ∙ f)))
    done ne

-- ---- a slot that is free

-- a fork's result that has the slot in use took it
taken_by : (table : Threads) (caller : Credentials) (free i : ℕ) → in_use table i ≡ false → in_use (forked table caller free).table i ≡ true
    → ((forked table caller free).code ≡ 0) × ((forked table caller free).value ≡ i)
unfolding forked
taken_by table caller free i was =
    cond_cases (λ (r : SlotResult). in_use r.table i ≡ true → (r.code ≡ 0) × (r.value ≡ i)) (ltb free SLOTS) _ _
    (λ h now. ⊎_elim
    (λ (e : i ≡ free). (refl, sym e))
    (λ (ne : eqb i free ≡ false). absurd (true≢false (sym now ∙ get_or-set_other table.used free i true false (different i free ne) ∙ was)))
    (equal_or_not i free))
    (λ h now. absurd (true≢false (sym now ∙ was)))

pub free_until_forked : (table : Threads) (s : SlotStep) (i : ℕ) → Sized table → in_use table i ≡ false → in_use (step_in table s).table i ≡ true
    → Fork s × ((step_in table s).code ≡ 0) × ((step_in table s).value ≡ i)
free_until_forked table s i z was now =
    step_cases table s (λ (r : SlotResult). in_use r.table i ≡ true → Fork s × (r.code ≡ 0) × (r.value ≡ i))
    (λ n o w k. absurd (true≢false (sym k ∙ was)))
    (λ w u f v k. let t = taken_by table (held table s.slot) (lowest_free table.used) i was k in (f, t.0, t.1))
    (λ w u f e k. absurd (⊎_elim
    (λ (p : i ≡ s.slot).
    true≢false (sym (ap (λ (n : ℕ). in_use (with_mark table s.slot false) n) (sym p) ∙ k)
    ∙ get_or-set_same table.used s.slot false false (subst (λ (n : ℕ). s.slot < n) (sym z.used) w)))
    (λ (ne : eqb i s.slot ≡ false).
    true≢false (sym k ∙ get_or-set_other table.used s.slot i false false (different i s.slot ne) ∙ was))
    (equal_or_not i s.slot)))
    (λ w u f e k. absurd (true≢false (sym k ∙ was)))
    now

pub taken_again : (table : Threads) (s : SlotStep) (i : ℕ) → Sized table → in_use table i ≡ false → i < SLOTS → Fork s → (step_in table s).code ≡ 0
    → ((step_in table s).value ≤ i) × (((j : ℕ) → j < i → in_use table j ≡ true) → (step_in table s).value ≡ i)
taken_again table s i z was w is_fork done =
    let free = lowest_free table.used in
    let is : (step_in table s).value ≡ free =
    step_cases table s (λ (r : SlotResult). r.code ≡ 0 → r.value ≡ free)
    (λ n o w k. absurd (not_other n 0 k o.not_0))
    (λ w u f v k. (forked_value table (held table s.slot) free k).0)
    (λ w u f e. absurd (true≢false (sym is_fork ∙ f)))
    (λ w u f e. absurd (true≢false (sym is_fork ∙ f)))
    done in
    let up : free ≤ i = no_higher (leb free i) refl in
    (omega (arith, is, up), λ below. is ∙ exactly below up)
  where
    no_higher : (t : Bool) → leb (lowest_free table.used) i ≡ t → lowest_free table.used ≤ i
    no_higher true h = leb-true (lowest_free table.used) i h
    no_higher false h = absurd (true≢false (sym (lowest_below table.used i (leb-false (lowest_free table.used) i h)) ∙ was))

    exactly : ((j : ℕ) → j < i → in_use table j ≡ true) → lowest_free table.used ≤ i → lowest_free table.used ≡ i
    exactly below up = not_lower (ltb (lowest_free table.used) i) refl
      where
        not_lower : (t : Bool) → ltb (lowest_free table.used) i ≡ t → lowest_free table.used ≡ i
        not_lower true h = absurd (true≢false (sym (below (lowest_free table.used) (ltb-true (lowest_free table.used) i h)) ∙ lowest_free_lem table.used))
        not_lower false h = omega (arith, up, ltb-false (lowest_free table.used) i h)

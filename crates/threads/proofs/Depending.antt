-- What answers depend on. Assumes nothing.
use Prim.Native.Nat.{ℕ}
use mathlib.Core.Path.{◌≡◌, refl, sym, ◌∙◌, subst}
use mathlib.Core.Bool.{Bool, true, false, cond, true≢false}
use lib.Dec.{eqb, ltb}
use Rattle.std.specs.Prelude.{Err}
use Rattle.credentials.specs.declared.Credentials.{Credentials}
use Rattle.rules.specs.Answers.{Answer}
use Rattle.rules.specs.declared.Refusal.TheVariants.{InvalidArgument, InvalidCredentials}
use Rattle.rules.proofs.Conditions.{cond_cases}
use Rattle.threads.specs.declared.Decision.{Decision}
use Rattle.threads.specs.declared.Decision.TheVariants.{Answered, Forks, Exits}
use Rattle.threads.specs.declared.SlotResult.{SlotResult}
use Rattle.threads.specs.declared.Threads.{Threads}
use Rattle.threads.specs.Table.{SLOTS, held, in_use, with_credentials, with_mark, lowest_free}
use Rattle.threads.specs.Step.{SlotStep, FORK, decided, refused, answered, forked, carried_out, step_in}
use Rattle.threads.specs.Slots.{Same, SameAnswer, but_for_room}
use Rattle.threads.proofs.Free.{lowest_same}
use Rattle.threads.proofs.StepCases.{asked, decided_cases}

-- ---- what answers depend on

module _ (one other : Threads) (s : SlotStep) where
  -- in two tables that have the same in the named slot, the step comes to the same but for what is carried out
  alike_by : (P : SlotResult → SlotResult → Type 0) → Same one other s.slot
      → ((n : ℕ) → P (refused one n) (refused other n))
      → P (carried_out one s.slot (decided (held one s.slot) s.step)) (carried_out other s.slot (decided (held one s.slot) s.step))
      → P (step_in one s) (step_in other s)
  unfolding step_in
  alike_by P same refuses carries =
      rw (← same.used, ← same.credentials) (by (ltb s.slot SLOTS) (in_use one s.slot))
    where
      by : (w u : Bool)
          → P (cond w (cond u (carried_out one s.slot (decided (held one s.slot) s.step)) (refused one 3)) (refused one 22))
          (cond w (cond u (carried_out other s.slot (decided (held one s.slot) s.step)) (refused other 3)) (refused other 22))
      by true true = carries
      by true false = refuses 3
      by false u = refuses 22

  same_refused : (n : ℕ) → SameAnswer (refused one n) (refused other n)
  same_refused n = record { code = refl; value = refl; cause = refl }

  -- a call's answer is the same whatever the table
  same_answered : (r : Answer) → SameAnswer (answered one s.slot r) (answered other s.slot r)
  same_answered r = record { code = refl; value = refl; cause = refl }

  pub answer_same : eqb s.step.number FORK ≡ false → Same one other s.slot → SameAnswer (step_in one s) (step_in other s)
  answer_same no_fork same =
      alike_by SameAnswer same same_refused
      (decided_cases (held one s.slot) s.step (λ (d : Decision). SameAnswer (carried_out one s.slot d) (carried_out other s.slot d))
      (λ o. same_answered (Err InvalidArgument)) (λ o. same_answered (Err InvalidCredentials))
      (λ f v. absurd (true≢false (sym f ∙ no_fork)))
      (λ f e. record { code = refl; value = refl; cause = refl })
      (λ f e. same_answered (asked one s)))

  -- a fork by the same free slot
  same_forked : (a b : Credentials) (free : ℕ) → SameAnswer (forked one a free) (forked other b free)
  unfolding forked
  same_forked a b free = by (ltb free SLOTS)
    where
      by : (t : Bool)
          → SameAnswer (cond t (record { code = 0; value = free; cause = 0; table = with_mark (with_credentials one free a) free true }) (refused one 11))
          (cond t (record { code = 0; value = free; cause = 0; table = with_mark (with_credentials other free b) free true }) (refused other 11))
      by true = record { code = refl; value = refl; cause = refl }
      by false = record { code = refl; value = refl; cause = refl }

  pub fork_room : Same one other s.slot → ((i : ℕ) → in_use one i ≡ in_use other i) → SameAnswer (step_in one s) (step_in other s)
  fork_room same marks = alike_by SameAnswer same same_refused (carries (decided (held one s.slot) s.step))
    where
      carries : (d : Decision) → SameAnswer (carried_out one s.slot d) (carried_out other s.slot d)
      carries (Answered r) = same_answered r
      carries Forks =
          subst (λ (free : ℕ). SameAnswer (forked one (held one s.slot) (lowest_free one.used)) (forked other (held other s.slot) free))
          (lowest_same one.used other.used marks) (same_forked (held one s.slot) (held other s.slot) (lowest_free one.used))
      carries Exits = record { code = refl; value = refl; cause = refl }

  abbrev ButForRoom : SlotResult → SlotResult → Type 0
  ButForRoom p q = (but_for_room p.code ≡ but_for_room q.code) × (p.cause ≡ q.cause)

  -- a fork's code is 0 or 11, and its cause 0
  forked_but : (table : Threads) (caller : Credentials) (free : ℕ)
      → (but_for_room (forked table caller free).code ≡ 0) × ((forked table caller free).cause ≡ 0)
  unfolding forked
  forked_but table caller free =
      cond_cases (λ (r : SlotResult). (but_for_room r.code ≡ 0) × (r.cause ≡ 0)) (ltb free SLOTS) _ _ (λ h. (refl, refl)) (λ h. (refl, refl))

  pub fork_code : Same one other s.slot → ButForRoom (step_in one s) (step_in other s)
  fork_code same = alike_by ButForRoom same (λ n. (refl, refl)) (carries (decided (held one s.slot) s.step))
    where
      carries : (d : Decision) → ButForRoom (carried_out one s.slot d) (carried_out other s.slot d)
      carries (Answered r) = (refl, refl)
      carries Forks =
          let p = forked_but one (held one s.slot) (lowest_free one.used) in
          let q = forked_but other (held other s.slot) (lowest_free other.used) in
          (p.0 ∙ sym q.0, p.1 ∙ sym q.1)
      carries Exits = (refl, refl)

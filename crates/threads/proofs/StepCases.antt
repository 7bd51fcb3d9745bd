-- The ways in which a step in a slot can come out. Assumes nothing.
use Prim.Native.Nat.{ℕ, ◌<◌, ◌≤◌}
use native.Mathlib.Omega.{arith}
use mathlib.Core.Path.{◌≡◌, refl, sym, subst}
use mathlib.Core.Logic.{◌⊎◌, inl, inr}
use mathlib.Core.Bool.{true, false, ◌||◌}
use lib.Dec.{eqb, ltb}
use lib.ListN.{length, set}
use lib.Seq.{set-get_or}
use borrow.Author.Tests.{ltb-true, ltb-false}
use Rattle.std.specs.Prelude.{Err}
use Rattle.credentials.specs.Validity.{valid}
use Rattle.credentials.specs.declared.Credentials.{Credentials}
use Rattle.rules.specs.Call.{answer}
use Rattle.rules.specs.Decoding.{uses_none}
use Rattle.rules.specs.Run.{Step}
use Rattle.rules.specs.Answers.{Answer}
use Rattle.rules.specs.declared.Refusal.TheVariants.{InvalidArgument, InvalidCredentials}
use Rattle.rules.proofs.Conditions.{cond_cases}
use Rattle.threads.specs.declared.Decision.{Decision}
use Rattle.threads.specs.declared.Decision.TheVariants.{Answered, Forks, Exits}
use Rattle.threads.specs.declared.SlotResult.{SlotResult}
use Rattle.threads.specs.declared.Threads.{Threads}
use Rattle.threads.specs.Table.{SLOTS, empty, held, in_use, lowest_free}
use Rattle.threads.specs.Step.{SlotStep, FORK, EXIT, unless_refused, decided, refused, answered, forked, exited, carried_out, step_in}

-- what the slot's credentials decide: what holds of each decision that the tests on the way lead to holds of it
module _ (start : Credentials) (x : Step) (P : Decision → Type 0) where
  pub decided_cases :
      (eqb x.number FORK || eqb x.number EXIT ≡ true → P (Answered (Err InvalidArgument)))
      → (eqb x.number FORK || eqb x.number EXIT ≡ true → P (Answered (Err InvalidCredentials)))
      → (eqb x.number FORK ≡ true → valid start ≡ true → P Forks)
      → (eqb x.number FORK ≡ false → eqb x.number EXIT ≡ true → P Exits)
      → (eqb x.number FORK ≡ false → eqb x.number EXIT ≡ false → P (Answered (answer start x.number x.a x.b x.c x.attribute)))
      → P (decided start x)
  unfolding decided unless_refused
  decided_cases operands invalid forks exits calls =
      cond_cases P (eqb x.number FORK) _ _
      (λ f. cond_cases P (valid start) _ _
      (λ v. cond_cases P (uses_none x.a x.b x.c (length x.attribute)) _ _ (λ u. forks f v) (λ u. operands (rw f)))
      (λ v. invalid (rw f)))
      (λ f. cond_cases P (eqb x.number EXIT) _ _
      (λ e. cond_cases P (valid start) _ _
      (λ v. cond_cases P (uses_none x.a x.b x.c (length x.attribute)) _ _ (λ u. exits f e) (λ u. operands (rw (f, e))))
      (λ v. invalid (rw (f, e))))
      (λ e. calls f e))

-- a refused step was no call in a slot in use: it names no slot, or one that is not in use, or it is a fork or an exit
abbrev pub NoCall : Threads → SlotStep → Type 0
NoCall table s = (SLOTS ≤ s.slot) ⊎ ((in_use table s.slot ≡ false) ⊎ (eqb s.step.number FORK || eqb s.step.number EXIT ≡ true))

-- a code of at most two digits that is neither 0 nor 11
pub record Other (n : ℕ) : Type 0 where
  pub not_0 : eqb n 0 ≡ false
  pub not_11 : eqb n 11 ≡ false
  pub small : n ≤ 99

-- credentials stored where they stood leave the table
pub kept : (table : Threads) (slot : ℕ) → set table.credentials slot (held table slot) ≡ table.credentials
kept table slot = set-get_or table.credentials slot empty

-- so a call's refusal is a refusal
pub refused_argument : (table : Threads) (slot : ℕ) → answered table slot (Err InvalidArgument) ≡ refused table 22
refused_argument table slot = rw (kept table slot)

pub refused_credentials : (table : Threads) (slot : ℕ) → answered table slot (Err InvalidCredentials) ≡ refused table 72
refused_credentials table slot = rw (kept table slot)

-- what the named slot's credentials answer to the step as a call
abbrev pub asked : Threads → SlotStep → Answer
asked table s = answer (held table s.slot) s.step.number s.step.a s.step.b s.step.c s.step.attribute

-- a step: it is refused and leaves the table, or it is a fork, an exit or a call in a slot that is in use
module _ (table : Threads) (s : SlotStep) (P : SlotResult → Type 0) where
  pub step_cases :
      ((n : ℕ) → Other n → NoCall table s → P (refused table n))
      → (s.slot < SLOTS → in_use table s.slot ≡ true → eqb s.step.number FORK ≡ true → valid (held table s.slot) ≡ true
      → P (forked table (held table s.slot) (lowest_free table.used)))
      → (s.slot < SLOTS → in_use table s.slot ≡ true → eqb s.step.number FORK ≡ false → eqb s.step.number EXIT ≡ true
      → P (exited table s.slot))
      → (s.slot < SLOTS → in_use table s.slot ≡ true → eqb s.step.number FORK ≡ false → eqb s.step.number EXIT ≡ false
      → P (answered table s.slot (asked table s)))
      → P (step_in table s)
  unfolding step_in
  step_cases refuses forks exits calls =
      cond_cases P (ltb s.slot SLOTS) _ _
      (λ w. cond_cases P (in_use table s.slot) _ _
      (λ u. let within = ltb-true s.slot SLOTS w in
      decided_cases (held table s.slot) s.step (λ (d : Decision). P (carried_out table s.slot d))
      (λ o. subst P (sym (refused_argument table s.slot)) (refuses 22 (record { not_0 = refl; not_11 = refl; small = omega arith }) (inr (inr o))))
      (λ o. subst P (sym (refused_credentials table s.slot)) (refuses 72 (record { not_0 = refl; not_11 = refl; small = omega arith }) (inr (inr o))))
      (forks within u) (exits within u) (calls within u))
      (λ u. refuses 3 (record { not_0 = refl; not_11 = refl; small = omega arith }) (inr (inl u))))
      (λ w. refuses 22 (record { not_0 = refl; not_11 = refl; small = omega arith }) (inl (ltb-false s.slot SLOTS w)))

-- Which answer comes in any table, in the order of the refusals. Assumes nothing.
use Prim.Native.Nat.{ℕ, ◌<◌, ◌≤◌}
use native.Mathlib.Nat.{lt_of_lt_of_le}
use native.Mathlib.Omega.{arith}
use mathlib.Core.Path.{◌≡◌, refl, sym, ap, ◌∙◌, subst}
use mathlib.Core.Bool.{Bool, true, false, cond, true≢false}
use lib.Dec.{eqb, ltb}
use lib.Seq.{get_or-set_same, get_or-set_other}
use borrow.Author.Tests.{ltb-true, ltb-false, lt-ltb, le-ltb}
use Rattle.std.specs.Prelude.{Ok, Err}
use Rattle.credentials.specs.Validity.{valid}
use Rattle.credentials.specs.declared.Credentials.{Credentials}
use Rattle.rules.specs.Answers.{Answer, code}
use Rattle.rules.specs.Call.{answer}
use Rattle.rules.specs.Run.{Step, result}
use Rattle.rules.specs.declared.Refusal.TheVariants.{NotPermitted, InvalidArgument, UnreadableAttribute, InvalidCredentials}
use Rattle.rules.proofs.Conditions.{cond_cases}
use Rattle.threads.specs.declared.Decision.{Decision}
use Rattle.threads.specs.declared.Decision.TheVariants.{Answered, Forks, Exits}
use Rattle.threads.specs.declared.SlotResult.{SlotResult}
use Rattle.threads.specs.declared.Threads.{Threads}
use Rattle.threads.specs.Table.{SLOTS, empty, held, in_use, lowest_free}
use Rattle.threads.specs.Step.{SlotStep, FORK, EXIT, unless_refused, decided, refused, forked, carried_out, step_in}
use Rattle.threads.specs.Slots.{Sized, Fork, Exit, Calls, bare, Named, Ready, Refused, Full, Called, Forked, Exited}
use Rattle.threads.proofs.Free.{lowest_free_lem, lowest_below}
use Rattle.threads.proofs.StepCases.{refused_argument, refused_credentials, asked, step_cases}
use Rattle.threads.proofs.Tests.{or_left_false, or_right_false, fork_no_exit, not_other}

-- ---- which answer comes

-- a refusal, by what the step is
is_refused : (table : Threads) (n : ℕ) (r : SlotResult) → r ≡ refused table n → Refused table n r
is_refused table n r e = rw e (record { code = refl; value = refl; cause = refl; table_stays = refl })

module _ (table : Threads) (s : SlotStep) where
  pub no_slot : SLOTS ≤ s.slot → Refused table 22 (step_in table s)
  unfolding step_in
  no_slot h = is_refused table 22 (step_in table s) (rw (le-ltb s.slot SLOTS h))

  pub not_in_use : s.slot < SLOTS → in_use table s.slot ≡ false → Refused table 3 (step_in table s)
  unfolding step_in
  not_in_use h u = is_refused table 3 (step_in table s) (rw (lt-ltb s.slot SLOTS h, u))

  -- in a slot that is in use, what its credentials decide is carried out
  carried : Named table s → step_in table s ≡ carried_out table s.slot (decided (held table s.slot) s.step)
  unfolding step_in
  carried n = rw (lt-ltb s.slot SLOTS n.within, n.used)

  carried_by : Named table s → (d : Decision) → decided (held table s.slot) s.step ≡ d → step_in table s ≡ carried_out table s.slot d
  carried_by n d e = carried n ∙ ap (carried_out table s.slot) e

invalid_decides : (start : Credentials) (x : Step) → valid start ≡ false → decided start x ≡ Answered (Err InvalidCredentials)
unfolding decided unless_refused answer
invalid_decides start x v =
    cond_cases (λ (d : Decision). d ≡ Answered (Err InvalidCredentials)) (eqb x.number FORK) _ _ (λ f. rw v)
    (λ f. cond_cases (λ (d : Decision). d ≡ Answered (Err InvalidCredentials)) (eqb x.number EXIT) _ _ (λ e. rw v) (λ e. rw v))

pub invalid : (table : Threads) (s : SlotStep) → Named table s → valid (held table s.slot) ≡ false → Refused table 72 (step_in table s)
invalid table s n v =
    is_refused table 72 (step_in table s)
    (carried_by table s n _ (invalid_decides (held table s.slot) s.step v) ∙ refused_credentials table s.slot)

module _ (start : Credentials) (s : SlotStep) where
  calls_decides : Calls s → decided start s.step ≡ Answered (answer start s.step.number s.step.a s.step.b s.step.c s.step.attribute)
  unfolding decided
  calls_decides c =
      rw (or_left_false (eqb s.step.number FORK) (eqb s.step.number EXIT) c, or_right_false (eqb s.step.number FORK) (eqb s.step.number EXIT) c)

  -- a fork or an exit of valid credentials, by whether an operand or an attribute is given
  fork_decides : valid start ≡ true → Fork s → (b : Bool) → bare s ≡ b → decided start s.step ≡ cond b Forks (Answered (Err InvalidArgument))
  unfolding decided unless_refused
  fork_decides v f b e = rw (f, v, e)

  exit_decides : valid start ≡ true → Exit s → (b : Bool) → bare s ≡ b → decided start s.step ≡ cond b Exits (Answered (Err InvalidArgument))
  unfolding decided unless_refused
  exit_decides v x b e = rw (fork_no_exit s.step.number x, x, v, e)

module _ (table : Threads) (s : SlotStep) where
  pub call : Sized table → Named table s → Calls s → Called table s (step_in table s)
  unfolding result
  call z n c =
      rw (carried_by table s n _ (calls_decides (held table s.slot) s c)) (record {
        code = refl;
        value = refl;
        cause = refl;
        leaves = get_or-set_same table.credentials s.slot _ empty (subst (λ (k : ℕ). s.slot < k) (sym z.credentials) n.within);
        used = n.used;
      })

  pub fork_operands : Ready table s → Fork s → bare s ≡ false → Refused table 22 (step_in table s)
  fork_operands r f b =
      is_refused table 22 (step_in table s)
      (carried_by table s r.named _ (fork_decides (held table s.slot) s r.held_valid f false b) ∙ refused_argument table s.slot)

  pub exit_operands : Ready table s → Exit s → bare s ≡ false → Refused table 22 (step_in table s)
  exit_operands r x b =
      is_refused table 22 (step_in table s)
      (carried_by table s r.named _ (exit_decides (held table s.slot) s r.held_valid x false b) ∙ refused_argument table s.slot)

  pub exit : Sized table → Ready table s → Exit s → bare s ≡ true → Exited table s (step_in table s)
  exit z r x b =
      rw (carried_by table s r.named _ (exit_decides (held table s.slot) s r.held_valid x true b)) (record {
        code = refl;
        value = refl;
        cause = refl;
        free = get_or-set_same table.used s.slot false false (subst (λ (k : ℕ). s.slot < k) (sym z.used) r.named.within);
      })

-- ---- a fork

module _ (table : Threads) (caller : Credentials) where
  -- the lowest free slot is within the table where any slot is free
  room : (i : ℕ) → i < SLOTS → in_use table i ≡ false → lowest_free table.used < SLOTS
  room i w u = below_or (ltb (lowest_free table.used) SLOTS) refl
    where
      below_or : (t : Bool) → ltb (lowest_free table.used) SLOTS ≡ t → lowest_free table.used < SLOTS
      below_or true h = ltb-true (lowest_free table.used) SLOTS h
      below_or false h =
          absurd (true≢false (sym (lowest_below table.used i (lt_of_lt_of_le w (ltb-false (lowest_free table.used) SLOTS h))) ∙ u))

  -- and is not where none is
  no_room : Full table → SLOTS ≤ lowest_free table.used
  no_room full = above_or (ltb (lowest_free table.used) SLOTS) refl
    where
      above_or : (t : Bool) → ltb (lowest_free table.used) SLOTS ≡ t → SLOTS ≤ lowest_free table.used
      above_or true h = absurd (true≢false (sym (full (lowest_free table.used) (ltb-true (lowest_free table.used) SLOTS h)) ∙ lowest_free_lem table.used))
      above_or false h = ltb-false (lowest_free table.used) SLOTS h

module _ (table : Threads) (s : SlotStep) where
  pub fork : Sized table → Ready table s → Fork s → bare s ≡ true → (i : ℕ) → i < SLOTS → in_use table i ≡ false → Forked table s (step_in table s)
  unfolding forked
  fork z r f b i w u =
      let caller = held table s.slot in
      let free = lowest_free table.used in
      let below = room table caller i w u in
      let is = carried_by table s r.named _ (fork_decides caller s r.held_valid f true b) in
      rw (is, lt-ltb free SLOTS below) (record {
        code = refl;
        cause = refl;
        takes = record { within = below; free = lowest_free_lem table.used; below = lowest_below table.used };
        copy = get_or-set_same table.credentials free caller empty (subst (λ (k : ℕ). free < k) (sym z.credentials) below);
        used = get_or-set_same table.used free true false (subst (λ (k : ℕ). free < k) (sym z.used) below);
        others = λ j ne. record { credentials = get_or-set_other table.credentials free j caller empty ne; used = get_or-set_other table.used free j true false ne };
      })

  pub fork_full : Ready table s → Fork s → bare s ≡ true → Full table → Refused table 11 (step_in table s)
  unfolding forked
  fork_full r f b full =
      is_refused table 11 (step_in table s)
      (carried_by table s r.named _ (fork_decides (held table s.slot) s r.held_valid f true b)
      ∙ rw (le-ltb (lowest_free table.used) SLOTS (no_room table (held table s.slot) full)))

-- a call's code is no 11
answered_not_11 : (r : Answer) → code r ≡ 11 → ⊥
answered_not_11 (Ok d) h = omega (arith, h)
answered_not_11 (Err (NotPermitted why)) h = omega (arith, h)
answered_not_11 (Err InvalidArgument) h = omega (arith, h)
answered_not_11 (Err UnreadableAttribute) h = omega (arith, h)
answered_not_11 (Err InvalidCredentials) h = omega (arith, h)

forked_11 : (table : Threads) (caller : Credentials) (free : ℕ) → (forked table caller free).code ≡ 11 → SLOTS ≤ free
unfolding forked
forked_11 table caller free =
    cond_cases (λ (r : SlotResult). r.code ≡ 11 → SLOTS ≤ free) (ltb free SLOTS) _ _ (λ h k. absurd (omega (arith, k))) (λ h k. ltb-false free SLOTS h)

pub eleven : (table : Threads) (s : SlotStep) → (step_in table s).code ≡ 11 → Fork s × Full table
eleven table s h =
    step_cases table s (λ (r : SlotResult). r.code ≡ 11 → Fork s × Full table)
    (λ n o w k. absurd (not_other n 11 k o.not_11))
    (λ w u f v k. (f, λ i l. lowest_below table.used i (lt_of_lt_of_le l (forked_11 table (held table s.slot) (lowest_free table.used) k))))
    (λ w u f e k. absurd (omega (arith, k)))
    (λ w u f e k. absurd (answered_not_11 (asked table s) k))
    h

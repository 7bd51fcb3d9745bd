-- Demand 3 holds: for any valid start and any list of calls. Assumes nothing.
use Prim.Native.Nat.{ℕ, suc}
use mathlib.Core.Path.{◌≡◌, refl, ap, ◌∙◌}
use mathlib.Core.Bool.{true, false, ◌&&◌}
use mathlib.Core.List.{List, [], ◌∷◌, ◌++◌}
use mathlib.Core.Logic.{◌⊎◌, inl, inr}
use lib.Dec.{eqb}
use lib.ListN.{length}
use Rattle.capabilities.specs.Sets.{union, Has}
use Rattle.capabilities.proofs.Inclusion.{in_union_l, in_union_r, union_cases}
use Rattle.credentials.specs.Validity.{valid}
use Rattle.credentials.specs.declared.Credentials.{Credentials}
use Rattle.credentials.proofs.Valid.{Valid, facts_valid, valid_facts}
use Rattle.rules.specs.Call.{answer}
use Rattle.rules.specs.Run.{Result, Step, last_of, left, result, run}
use Rattle.rules.specs.Demand3.{Demanded, OneLaunch, launch_done, reach}
use Rattle.rules.proofs.KeptCalls.{Kept, answer_keeps, kept_by, nothing_changes, one_after_another, still_valid}
use Rattle.rules.proofs.OneLaunch.{one_launch}

-- ---- runs

one_each : (steps : List Step) (start : Credentials) → length (run start steps) ≡ length steps
unfolding run
one_each [] start = refl
one_each (x ∷ xs) start = ap suc (one_each xs _)

run_append : (start : Credentials) (before rest : List Step) → run start (before ++ rest) ≡ run start before ++ run (left start before) rest
unfolding run last_of
run_append start [] rest = refl
run_append start (x ∷ xs) rest = ap (λ (rs : List Result). result start x ∷ rs) (run_append (result start x).after xs rest)

left_append : (start : Credentials) (before rest : List Step) → left start (before ++ rest) ≡ left (left start before) rest
unfolding run last_of
left_append start [] rest = refl
left_append start (x ∷ xs) rest = left_append (result start x).after xs rest

run_from : (start : Credentials) (x : Step) (rest : List Step) → run start (x ∷ rest) ≡ result start x ∷ run (result start x).after rest
unfolding run
run_from start x rest = refl

-- ---- what a list keeps

step_kept : (start : Credentials) → Valid start → (x : Step) → Kept (eqb x.number 1 && eqb (result start x).code 0) start (result start x).after
unfolding result
step_kept start v x =
    kept_by v (eqb x.number 1) (answer start x.number x.a x.b x.c x.attribute)
    (answer_keeps start v x.attribute x.number x.a x.b x.c)

list_kept : (start : Credentials) → Valid start → (steps : List Step) → Kept (launch_done start steps) start (left start steps)
unfolding launch_done run last_of
list_kept start v [] = nothing_changes v
list_kept start v (x ∷ xs) =
    let k = step_kept start v x in one_after_another k (list_kept (result start x).after (still_valid v k) xs)

left_valid : (start : Credentials) → Valid start → (steps : List Step) → valid (left start steps) ≡ true
left_valid start v steps = facts_valid (left start steps) (still_valid v (list_kept start v steps))

-- ---- the theorem

pub demand_3 : Demanded
demand_3 start h steps =
    let v : Valid start = valid_facts start h in
    let k = list_kept start v steps in
    record {
      one_each = one_each steps start;
      by_the_rules = λ before x rest e.
          ap (run start) e ∙ run_append start before (x ∷ rest) ∙ ap (λ (rs : List Result). run start before ++ rs) (run_from (left start before) x rest);
      goes_on = λ before rest e.
          record { again = left_valid start v before; results = run_append start before rest; leaves = left_append start before rest };
      ends_valid = left_valid start v steps;
      bounding_shrinks = k.sets.bounding;
      locks_stay = k.securebits.locks_stay;
      noroot = k.securebits.noroot;
      no_setuid_fixup = k.securebits.no_setuid_fixup;
      no_cap_ambient_raise = k.securebits.no_cap_ambient_raise;
      keep_caps = k.securebits.keep_caps;
      permitted_within = k.sets.permitted;
      reachable = λ clear n m. within_reach clear n m;
      by_one_launch = λ clear n m. one_launch start h clear n m;
    }
  where
    within_reach : start.nnp ≡ false → (n : ℕ) → Has (reach start.sets) n → Has start.sets.permitted n ⊎ OneLaunch start n
    within_reach clear n m =
        union_cases (union start.sets.permitted start.sets.inheritable) start.sets.bounding m
        (λ pi. union_cases start.sets.permitted start.sets.inheritable pi (λ p. inl p)
        (λ i. inr (one_launch start h clear n (in_union_l start.sets.bounding i))))
        (λ b. inr (one_launch start h clear n (in_union_r start.sets.inheritable b)))

-- The cause of a refusal by the rules is the lowest number of the tests that fail. Assumes nothing.
use Prim.Native.Nat.{ℕ, ◌≤◌}
use mathlib.Core.Path.{◌≡◌, refl, sym, subst, ◌∙◌}
use mathlib.Core.Bool.{Bool, true, false, cond, ◌&&◌, true≢false}
use mathlib.Core.List.{List, [], ◌∷◌}
use lib.Dec.{eqb, leb}
use lib.ListN.{length}
use borrow.Author.Tests.{eq-eqb, eqb-true, leb-true, le-ltb}
use Rattle.std.specs.Prelude.{Option, Some, None, Result, Ok, Err}
use Rattle.capabilities.proofs.Inclusion.{and_l, and_r}
use Rattle.attribute.specs.declared.FileCapabilities.{FileCapabilities}
use Rattle.attribute.specs.declared.ReadError.{ReadError}
use Rattle.credentials.specs.Validity.{valid}
use Rattle.credentials.specs.declared.Credentials.{Credentials}
use Rattle.rules.specs.Answers.{Answer, cause, cause_number, code, done}
use Rattle.rules.specs.Launching.{file_read, launch, launch_of}
use Rattle.rules.specs.Capset.{capset}
use Rattle.rules.specs.Bounding.{bounding_drop, bounding_read}
use Rattle.rules.specs.Ambient.{ambient_clear_all, ambient_is_set, ambient_lower, ambient_raise}
use Rattle.rules.specs.Securebits.{get_securebits, set_securebits}
use Rattle.rules.specs.ThreadFlags.{get_keep_caps, get_no_new_privs, set_keep_caps, set_no_new_privs}
use Rattle.rules.specs.Ids.{filesystem_group_id_changed, filesystem_user_id_changed, group_ids_changed, may_set_any_group_id, may_set_any_user_id, setfsgid, setfsuid, setfsuid_on, setgid, setregid, setresgid, setresuid, setresuid_on, setreuid, setreuid_on, setuid, setuid_on, user_ids_changed}
use Rattle.rules.specs.Decoding.{decode, known}
use Rattle.rules.specs.Call.{answer, decoded, performed}
use Rattle.rules.specs.Run.{Step, result}
use Rattle.rules.specs.WhyRefused.{Test, WhyRefused, asked, causes_of, failing, is_among, lowest, lowest_with, not_allowed, one_fails, read_falls_short, tests, tests_of}
use Rattle.rules.specs.declared.Refusal.TheVariants.{InvalidArgument, InvalidCredentials, NotPermitted, UnreadableAttribute}
use Rattle.rules.specs.declared.Call.{Call}
use Rattle.rules.specs.declared.Call.TheVariants.{Execve, Capset, BoundingDrop, BoundingRead, AmbientRaise, AmbientLower, AmbientIsSet, AmbientClearAll, SetSecurebits, GetSecurebits, SetKeepCaps, GetKeepCaps, SetNoNewPrivs, GetNoNewPrivs, Setuid, Setreuid, Setresuid, Setfsuid, Setgid, Setregid, Setresgid, Setfsgid}
use Rattle.rules.specs.declared.Cause.{Cause}
use Rattle.rules.specs.declared.Cause.TheVariants.{CapabilityNotEffective, InheritableBeyondPermitted, InheritableBeyondBounding, PermittedGrows, EffectiveBeyondPermitted, NotInPermittedAndInheritable, AmbientRaiseForbidden, LockUndone, LockedFlagChanged, IdNotAllowed, LaunchFallsShort}
use Rattle.rules.proofs.Conditions.{cond_cases}
use Rattle.rules.proofs.EachCause.{each_occurs}
use Rattle.credentials.specs.declared.Ids.{Ids}

-- ---- the lowest of ordered tests

-- a number is at most each test's
unfoldable is_below : ℕ → List Test → Bool
is_below n [] = true
is_below n (t ∷ ts) = leb n t.number && is_below n ts

below_first : (n : ℕ) (t : Test) (ts : List Test) → is_below n (t ∷ ts) ≡ true → n ≤ t.number
unfolding is_below
below_first n t ts h = leb-true n t.number (and_l (leb n t.number) (is_below n ts) h)

below_rest : (n : ℕ) (t : Test) (ts : List Test) → is_below n (t ∷ ts) ≡ true → is_below n ts ≡ true
unfolding is_below
below_rest n t ts h = and_r (leb n t.number) (is_below n ts) h

-- then it is lowest with any of them
stays_lowest : (n : ℕ) (ts : List Test) → is_below n ts ≡ true → lowest_with n (failing ts) ≡ n
unfolding failing lowest_with
stays_lowest n [] h = refl
stays_lowest n (t ∷ ts) h =
    let rest = stays_lowest n ts (below_rest n t ts h) in
    cond_cases (λ (ms : List ℕ). lowest_with n ms ≡ n) t.fails _ _
    (λ f. subst (λ (b : Bool). lowest_with (cond b t.number n) (failing ts) ≡ n) (sym (le-ltb t.number n (below_first n t ts h))) rest)
    (λ f. rest)

-- ---- what the statement says of an answer, the tests of its call and the causes that are the call's own

record Told (own : List ℕ) (ts : List Test) (r : Answer) : Type 0 where
  refused : eqb (code r) 1 ≡ one_fails ts
  lowest_number : cause r ≡ lowest (failing ts)
  among : eqb (code r) 1 ≡ true → is_among (cause r) own ≡ true

-- a test before others whose numbers are no lower
first : {own : List ℕ} {ts : List Test} {r : Answer} (why : Cause) (t : Bool) → is_below (cause_number why) ts ≡ true
    → is_among (cause_number why) own ≡ true → Told own ts r → Told own (record { number = cause_number why; fails = t } ∷ ts) (cond t (Err (NotPermitted why)) r)
unfolding failing one_fails
first why true h m k = record { refused = refl; lowest_number = sym (stays_lowest (cause_number why) _ h); among = λ e. m }
first why false h m k = record { refused = k.refused; lowest_number = k.lowest_number; among = k.among }

-- a call that has passed its tests, or has none
passed : {own : List ℕ} {v : ℕ} {d : Credentials} → Told own [] (done v d)
unfolding failing one_fails
passed = record { refused = refl; lowest_number = refl; among = λ e. absurd (true≢false (sym e)) }

-- ---- each call

-- the number of each call
abbrev number_of : Call → ℕ
number_of (Execve owner flags group) = 1
number_of (Capset p i e) = 2
number_of (BoundingDrop n) = 3
number_of (BoundingRead n) = 4
number_of (AmbientRaise n) = 5
number_of (AmbientLower n) = 6
number_of (AmbientIsSet n) = 7
number_of AmbientClearAll = 8
number_of (SetSecurebits new) = 9
number_of GetSecurebits = 10
number_of (SetKeepCaps on) = 11
number_of GetKeepCaps = 12
number_of SetNoNewPrivs = 13
number_of GetNoNewPrivs = 14
number_of (Setuid id) = 15
number_of (Setreuid r e) = 16
number_of (Setresuid r e s) = 17
number_of (Setfsuid id) = 18
number_of (Setgid id) = 19
number_of (Setregid r e) = 20
number_of (Setresgid r e s) = 21
number_of (Setfsgid id) = 22

-- an ID call's one test
abbrev on_ids : Option Ids → List Test
on_ids n = record { number = 10; fails = not_allowed n } ∷ []

module _ (c : Credentials) (s : List ℕ) where
  user_ids_told : (n : Option Ids) → Told (10 ∷ []) (on_ids n) (user_ids_changed c n)
  unfolding is_below is_among
  user_ids_told (Some new) = first IdNotAllowed false refl refl passed
  user_ids_told None = first {r = done 0 c} IdNotAllowed true refl refl passed

  group_ids_told : (n : Option Ids) → Told (10 ∷ []) (on_ids n) (group_ids_changed c n)
  unfolding is_below is_among
  group_ids_told (Some new) = first IdNotAllowed false refl refl passed
  group_ids_told None = first {r = done 0 c} IdNotAllowed true refl refl passed

  filesystem_user_id_told : (n : Option Ids) → Told [] [] (filesystem_user_id_changed c n)
  filesystem_user_id_told (Some new) = passed
  filesystem_user_id_told None = passed

  filesystem_group_id_told : (n : Option Ids) → Told [] [] (filesystem_group_id_changed c n)
  filesystem_group_id_told (Some new) = passed
  filesystem_group_id_told None = passed

  launch_told : (owner flags group : ℕ) (r : Result FileCapabilities ReadError)
      → Told (11 ∷ []) (record { number = 11; fails = read_falls_short c.sets r } ∷ []) (launch_of c owner flags group r)
  unfolding failing one_fails is_below is_among
  launch_told owner flags group (Ok f) = first LaunchFallsShort _ refl refl passed
  launch_told owner flags group (Err e) = record { refused = refl; lowest_number = refl; among = λ e. absurd (true≢false (sym e)) }

  told : (k : Call) → Told (causes_of (number_of k)) (tests c s k) (performed c s k)
  unfolding causes_of is_below is_among launch capset bounding_drop bounding_read ambient_raise ambient_lower ambient_is_set ambient_clear_all set_securebits get_securebits set_keep_caps get_keep_caps set_no_new_privs get_no_new_privs setuid setreuid setresuid setfsuid setgid setregid setresgid setfsgid
  told (Execve owner flags group) = launch_told owner flags group (file_read c.nnp flags s)
  told (Capset p i e) =
      first InheritableBeyondPermitted _ refl refl
      (first InheritableBeyondBounding _ refl refl (first PermittedGrows _ refl refl (first EffectiveBeyondPermitted _ refl refl passed)))
  told (BoundingDrop n) = first CapabilityNotEffective _ refl refl passed
  told (BoundingRead n) = passed
  told (AmbientRaise n) = first NotInPermittedAndInheritable _ refl refl (first AmbientRaiseForbidden _ refl refl passed)
  told (AmbientLower n) = passed
  told (AmbientIsSet n) = passed
  told AmbientClearAll = passed
  told (SetSecurebits new) = first CapabilityNotEffective _ refl refl (first LockUndone _ refl refl (first LockedFlagChanged _ refl refl passed))
  told GetSecurebits = passed
  told (SetKeepCaps on) = first LockedFlagChanged _ refl refl passed
  told GetKeepCaps = passed
  told SetNoNewPrivs = passed
  told GetNoNewPrivs = passed
  told (Setuid id) = user_ids_told (setuid_on (may_set_any_user_id c) c.uids id)
  told (Setreuid r e) = user_ids_told (setreuid_on (may_set_any_user_id c) c.uids r e)
  told (Setresuid r e t) = user_ids_told (setresuid_on (may_set_any_user_id c) c.uids r e t)
  told (Setfsuid id) = filesystem_user_id_told (setfsuid_on (may_set_any_user_id c) c.uids id)
  told (Setgid id) = group_ids_told (setuid_on (may_set_any_group_id c) c.gids id)
  told (Setregid r e) = group_ids_told (setreuid_on (may_set_any_group_id c) c.gids r e)
  told (Setresgid r e t) = group_ids_told (setresuid_on (may_set_any_group_id c) c.gids r e t)
  told (Setfsgid id) = filesystem_group_id_told (setfsuid_on (may_set_any_group_id c) c.gids id)

-- ---- the call that a number makes has that number

module _ (number : ℕ) where
  abbrev Numbered : Option Call → Type 0
  Numbered (Some k) = number_of k ≡ number
  Numbered None = Unit {0}

  -- one number's call, and the others after it
  or_else : (n : ℕ) (right : Bool) (k : Call) (d : Option Call) → number_of k ≡ n → Numbered d → Numbered (cond (eqb number n) (known right k) d)
  unfolding known
  or_else n right k d h g =
      cond_cases Numbered (eqb number n) _ _
      (λ t. cond_cases Numbered right _ _ (λ r. h ∙ sym (eqb-true number n t)) (λ r. tt))
      (λ t. g)

  numbered : (x y z size : ℕ) → Numbered (decode number x y z size)
  unfolding decode
  numbered x y z size =
      or_else 1 _ _ _ refl
      (or_else 2 _ _ _ refl
      (or_else 3 _ _ _ refl
      (or_else 4 _ _ _ refl
      (or_else 5 _ _ _ refl
      (or_else 6 _ _ _ refl
      (or_else 7 _ _ _ refl
      (or_else 8 _ _ _ refl
      (or_else 9 _ _ _ refl
      (or_else 10 _ _ _ refl
      (or_else 11 _ _ _ refl
      (or_else 12 _ _ _ refl
      (or_else 13 _ _ _ refl
      (or_else 14 _ _ _ refl
      (or_else 15 _ _ _ refl
      (or_else 16 _ _ _ refl
      (or_else 17 _ _ _ refl
      (or_else 18 _ _ _ refl
      (or_else 19 _ _ _ refl
      (or_else 20 _ _ _ refl
      (or_else 21 _ _ _ refl
      (or_else 22 _ _ _ refl
      tt)))))))))))))))))))))

  -- ---- any credentials, operands and attribute

  answer_told : (c : Credentials) (s : List ℕ) (t : Bool) (d : Option Call) → Numbered d
      → Told (causes_of number) (cond t (tests_of c s d) []) (cond t (decoded c s d) (Err InvalidCredentials))
  unfolding failing one_fails
  answer_told c s true (Some k) h = subst (λ (n : ℕ). Told (causes_of n) (tests c s k) (performed c s k)) h (told c s k)
  answer_told c s true None h = record { refused = refl; lowest_number = refl; among = λ e. absurd (true≢false (sym e)) }
  answer_told c s false d h = record { refused = refl; lowest_number = refl; among = λ e. absurd (true≢false (sym e)) }

step_told : (c : Credentials) (x : Step) → Told (causes_of x.number) (asked c x) (answer c x.number x.a x.b x.c x.attribute)
unfolding answer asked
step_told c x =
    let size : ℕ = length x.attribute in
    answer_told x.number c x.attribute (valid c) (decode x.number x.a x.b x.c size) (numbered x.number x.a x.b x.c size)

-- a refusal by the rules alone has a cause
no_other : (r : Answer) → eqb (code r) 1 ≡ false → cause r ≡ 0
no_other (Ok d) e = refl
no_other (Err (NotPermitted why)) e = absurd (true≢false e)
no_other (Err InvalidArgument) e = refl
no_other (Err UnreadableAttribute) e = refl
no_other (Err InvalidCredentials) e = refl

pub why_refused : WhyRefused
unfolding result
why_refused =
    record {
      refused_if = λ c x. (step_told c x).refused;
      lowest_wins = λ c x e. (step_told c x).lowest_number;
      own_causes = λ c x e. (step_told c x).among (eq-eqb _ 1 e);
      each_occurs = each_occurs;
      no_other = λ c x e. no_other (answer c x.number x.a x.b x.c x.attribute) e;
    }

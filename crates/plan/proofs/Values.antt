-- What a call or a turn gives as its value fits 32 bits: an ID, securebits, a flag, a slot, or 0. Assumes nothing.
use native.Mathlib.Omega.{arith}
use mathlib.Core.Bool.{Bool, true, false, cond}
use mathlib.Core.List.{List}
use Prim.Native.Nat.{ℕ, ◌≤◌}
use lib.Dec.{ltb}
use lib.ListN.{length, get_or}
use borrow.Author.Tests.{ltb-true}
use Rattle.std.specs.Prelude.{Result, Ok, Err, Option, Some, None}
use Rattle.attribute.specs.declared.FileCapabilities.{FileCapabilities}
use Rattle.attribute.specs.declared.ReadError.{ReadError}
use Rattle.credentials.specs.Validity.{valid}
use Rattle.credentials.specs.declared.Credentials.{Credentials}
use Rattle.credentials.specs.declared.Ids.{Ids}
use Rattle.credentials.proofs.Valid.{Valid, valid_facts}
use Rattle.rules.specs.Ambient.{ambient_raise, ambient_lower, ambient_is_set, ambient_clear_all}
use Rattle.rules.specs.Answers.{Answer, value}
use Rattle.rules.specs.Bounding.{bounding_drop, bounding_read}
use Rattle.rules.specs.Call.{answer, decoded, performed}
use Rattle.rules.specs.Capset.{capset}
use Rattle.rules.specs.Decoding.{decode}
use Rattle.rules.specs.Fields.{number}
use Rattle.rules.specs.Ids.{filesystem_group_id_changed, filesystem_user_id_changed, group_ids_changed, setfsgid, setfsuid, setgid, setregid, setresgid, setresuid, setreuid, setuid, user_ids_changed}
use Rattle.rules.specs.Launching.{file_read, launch, launch_of}
use Rattle.rules.specs.Run.{Step}
use Rattle.rules.specs.Securebits.{set_securebits, get_securebits}
use Rattle.rules.specs.ThreadFlags.{set_keep_caps, get_keep_caps, set_no_new_privs, get_no_new_privs}
use Rattle.rules.specs.declared.Call.{Call}
use Rattle.rules.specs.declared.Call.TheVariants.{Execve, Capset, BoundingDrop, BoundingRead, AmbientRaise, AmbientLower, AmbientIsSet, AmbientClearAll, SetSecurebits, GetSecurebits, SetKeepCaps, GetKeepCaps, SetNoNewPrivs, GetNoNewPrivs, Setuid, Setreuid, Setresuid, Setfsuid, Setgid, Setregid, Setresgid, Setfsgid}
use Rattle.rules.specs.declared.Refusal.{Refusal}
use Rattle.rules.proofs.Conditions.{cond_cases}
use Rattle.slots.specs.Turn.{turn_by, turn_of}
use Rattle.slots.specs.declared.turn.Turn.{Turn}
use Rattle.threads.specs.Table.{SLOTS, lowest_free}
use Rattle.threads.specs.declared.Decision.{Decision}
use Rattle.threads.proofs.StepCases.{decided_cases}

-- ---- a call

abbrev Small : Answer → Type 0
Small r = value r ≤ 4294967295

-- nothing is given
none_given : 0 ≤ 4294967295
none_given = omega arith

-- a flag
flag_small : (flag : Bool) → number flag ≤ 4294967295
unfolding number
flag_small true = omega arith
flag_small false = omega arith

-- a refusal gives 0
unless_refused : (t : Bool) (why : Refusal) (r : Answer) → Small r → Small (cond t (Err why) r)
unless_refused true why r h = none_given
unless_refused false why r h = h

module _ (c : Credentials) (v : Valid c) where
  launch_small : (owner flags group : ℕ) (r : Result FileCapabilities ReadError) → Small (launch_of c owner flags group r)
  launch_small owner flags group (Ok f) = search (unless_refused, none_given)
  launch_small owner flags group (Err e) = none_given

  user_ids_small : (new : Option Ids) → Small (user_ids_changed c new)
  user_ids_small (Some new) = none_given
  user_ids_small None = none_given

  group_ids_small : (new : Option Ids) → Small (group_ids_changed c new)
  group_ids_small (Some new) = none_given
  group_ids_small None = none_given

  filesystem_user_id_small : (new : Option Ids) → Small (filesystem_user_id_changed c new)
  filesystem_user_id_small (Some new) = omega (arith, v.uids.filesystem_small)
  filesystem_user_id_small None = omega (arith, v.uids.filesystem_small)

  filesystem_group_id_small : (new : Option Ids) → Small (filesystem_group_id_changed c new)
  filesystem_group_id_small (Some new) = omega (arith, v.gids.filesystem_small)
  filesystem_group_id_small None = omega (arith, v.gids.filesystem_small)

  -- what a call gives by its own rules
  performed_small : (s : List ℕ) (call : Call) → Small (performed c s call)
  unfolding launch capset bounding_drop bounding_read ambient_raise ambient_lower ambient_is_set ambient_clear_all set_securebits get_securebits set_keep_caps get_keep_caps set_no_new_privs get_no_new_privs setuid setreuid setresuid setfsuid setgid setregid setresgid setfsgid
  performed_small s (Execve owner flags group) = launch_small owner flags group (file_read c.nnp flags s)
  performed_small s (Capset p i e) = search (unless_refused, none_given)
  performed_small s (BoundingDrop n) = search (unless_refused, none_given)
  performed_small s (BoundingRead n) = flag_small _
  performed_small s (AmbientRaise n) = search (unless_refused, none_given)
  performed_small s (AmbientLower n) = none_given
  performed_small s (AmbientIsSet n) = flag_small _
  performed_small s AmbientClearAll = none_given
  performed_small s (SetSecurebits new) = search (unless_refused, none_given)
  performed_small s GetSecurebits = omega (arith, v.securebits_small)
  performed_small s (SetKeepCaps on) = search (unless_refused, none_given)
  performed_small s GetKeepCaps = flag_small _
  performed_small s SetNoNewPrivs = none_given
  performed_small s GetNoNewPrivs = flag_small _
  performed_small s (Setuid id) = user_ids_small _
  performed_small s (Setreuid r e) = user_ids_small _
  performed_small s (Setresuid r e t) = user_ids_small _
  performed_small s (Setfsuid id) = filesystem_user_id_small _
  performed_small s (Setgid id) = group_ids_small _
  performed_small s (Setregid r e) = group_ids_small _
  performed_small s (Setresgid r e t) = group_ids_small _
  performed_small s (Setfsgid id) = filesystem_group_id_small _

  decoded_small : (s : List ℕ) (call : Option Call) → Small (decoded c s call)
  decoded_small s (Some call) = performed_small s call
  decoded_small s None = none_given

-- and whatever the number, operands and attribute
pub answer_small : (c : Credentials) (number x y z : ℕ) (s : List ℕ) → value (answer c number x y z s) ≤ 4294967295
unfolding answer
answer_small c number x y z s =
    cond_cases Small (valid c) _ _ (λ v. decoded_small c (valid_facts c v) s (decode number x y z (length s))) (λ v. none_given)

-- ---- a turn

-- a fork gives a slot, and a call what it gives on the credentials of its own
abbrev SmallTurn : Turn → Type 0
SmallTurn t = t.value ≤ 4294967295

pub turn_small : (marks : List Bool) (slot : ℕ) (start : Credentials) (x : Step) → (turn_of marks slot start x).value ≤ 4294967295
unfolding turn_of
turn_small marks slot start x =
    let free = lowest_free marks in
    cond_cases SmallTurn (ltb slot SLOTS) _ _
    (λ w. cond_cases SmallTurn (get_or marks slot false) _ _
    (λ u. decided_cases start x (λ (d : Decision). SmallTurn (turn_by slot start free d))
    (λ o. none_given)
    (λ o. none_given)
    (λ f v. cond_cases SmallTurn (ltb free SLOTS) _ _ (λ h. omega (arith, ltb-true free SLOTS h)) (λ h. none_given))
    (λ f e. none_given)
    (λ f e. answer_small start x.number x.a x.b x.c x.attribute))
    (λ u. none_given))
    (λ w. none_given)

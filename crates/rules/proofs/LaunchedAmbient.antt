-- What a launch leaves of the ambient set. Assumes nothing.
use Prim.Native.Nat.{ℕ}
use mathlib.Core.Path.{◌≡◌, refl}
use mathlib.Core.Bool.{Bool, true, false, cond, not, ◌&&◌, ◌||◌}
use mathlib.Core.List.{List}
use lib.Dec.{eqb}
use lib.ListN.{length}
use borrow.Author.Tests.{eqb-false}
use Rattle.std.specs.Prelude.{Result, Ok, Err}
use Rattle.attribute.specs.Reader.{file_of, reading, revision, unreadable, version1, version2}
use Rattle.attribute.specs.declared.FileCapabilities.{FileCapabilities}
use Rattle.attribute.specs.declared.ReadError.{ReadError}
use Rattle.attribute.specs.declared.ReadError.TheVariants.{Unreadable}
use Rattle.credentials.specs.declared.Ids.{Ids}
use Rattle.credentials.specs.declared.Credentials.{Credentials}
use Rattle.rules.specs.Answers.{after, Answer, code, done}
use Rattle.rules.specs.Launching.{SET_GROUP_ID, SET_USER_ID, changes_effective, effective_id, falls_short, file_read, ignores_attribute, in_force, is_privileged, launch, launched, launched_ambient, launched_ids, launched_sets, launch_of}
use Rattle.rules.specs.Decoding.{decode}
use Rattle.rules.specs.Call.{answer}
use Rattle.rules.specs.Run.{result}
use Rattle.rules.specs.AmbientAfterLaunch.{AmbientAfterLaunch, ambient_after, attribute_counts, was_changed}
use Rattle.rules.specs.declared.Refusal.TheVariants.{InvalidArgument, InvalidCredentials, NotPermitted, UnreadableAttribute}
use Rattle.rules.specs.declared.Cause.TheVariants.{LaunchFallsShort}
use Rattle.rules.specs.declared.Call.TheVariants.{Execve}
use Rattle.rules.proofs.Conditions.{cond_cases, cond_with}
use Rattle.rules.proofs.OneCall.{answered}

-- ---- an attribute counts where one is attached to the file as it was read

abbrev Attached : Bool → Result FileCapabilities ReadError → Type 0
Attached t (Ok f) = f.attached ≡ t
Attached t (Err e) = Unit {0}

attached_read : (s : List ℕ) → Attached (not (eqb (length s) 0)) (reading s)
unfolding reading file_of version1 version2
attached_read s =
    cond_with (λ t. Attached (not t)) (eqb (length s) 0) _ _ refl
    (cond_cases (Attached true) (unreadable s) _ _ (λ h. tt)
    (λ h. cond_cases (λ (f : FileCapabilities). f.attached ≡ true) (eqb (revision s) 1) _ _ (λ k. refl) (λ k. refl)))

attached_counts : (nnp : Bool) (flags : ℕ) (s : List ℕ) → Attached (attribute_counts nnp flags s) (file_read nnp flags s)
unfolding file_read
attached_counts nnp flags s =
    cond_with (λ t. Attached (not t && not (eqb (length s) 0))) (ignores_attribute nnp flags) _ _ refl (attached_read s)

-- ---- a set-ID bit counts where the effective ID was changed

was_changed_lem : (force : Bool) (id : ℕ) (u : Ids) → changes_effective force id u ≡ was_changed force u (launched_ids force id u)
unfolding changes_effective launched_ids effective_id
was_changed_lem true id u = refl
was_changed_lem false id u = refl

-- ---- the statement

module _ (start : Credentials) (owner flags group : ℕ) (s : List ℕ) where
  -- what it says of an answer
  abbrev Says : Answer → Type 0
  Says r = code r ≡ 0 → (after start r).sets.ambient ≡ ambient_after start flags s (after start r)

  -- a refusal is no launch that is done
  refused : (r : Answer) → eqb (code r) 0 ≡ false → Says r
  refused r e h = absurd (eqb-false (code r) 0 e h)

  launched_says : (f : FileCapabilities) → f.attached ≡ attribute_counts start.nnp flags s → Says (done 0 (launched start owner flags group f))
  unfolding launched launched_sets launched_ambient is_privileged
  launched_says f e h =
      let by_user = was_changed_lem (in_force start.nnp flags SET_USER_ID) owner start.uids in
      let by_group = was_changed_lem (in_force start.nnp flags SET_GROUP_ID) group start.gids in
      λ i. cond (e i || by_user i || by_group i) 0 start.sets.ambient

  launch_of_says : (r : Result FileCapabilities ReadError) → Attached (attribute_counts start.nnp flags s) r → Says (launch_of start owner flags group r)
  launch_of_says (Ok f) e = cond_cases Says (falls_short start.sets f) _ _ (λ t. refused (Err (NotPermitted LaunchFallsShort)) refl) (λ t. launched_says f e)
  launch_of_says (Err Unreadable) e = refused (Err UnreadableAttribute) refl

  answer_says : Says (answer start 1 owner flags group s)
  unfolding decode launch
  answer_says =
      answered Says start (refused (Err InvalidCredentials) refl) (refused (Err InvalidArgument) refl) 1 owner flags group s _ (Execve owner flags group) refl
      (launch_of_says (file_read start.nnp flags s) (attached_counts start.nnp flags s))

pub ambient_after_launch : AmbientAfterLaunch
unfolding result
ambient_after_launch start owner flags group attribute = answer_says start owner flags group attribute

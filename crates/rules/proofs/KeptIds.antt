-- What an ID call makes of valid IDs, user or group, is valid. Assumes nothing.
use Prim.Native.Nat.{ℕ, ◌≤◌}
use mathlib.Core.Path.{◌≡◌}
use mathlib.Core.Bool.{Bool, true, false, cond}
use native.Mathlib.Omega.{arith}
use lib.Dec.{eqb}
use borrow.Author.Tests.{eqb-false, leb-true, not-true}
use Rattle.std.specs.Prelude.{Option, Some, None}
use Rattle.capabilities.proofs.Inclusion.{and_l}
use Rattle.credentials.specs.declared.Ids.{Ids}
use Rattle.credentials.proofs.Valid.{ValidIds}
use Rattle.rules.specs.Ids.{NO_ID, given_or, is_given, setfsuid_changes, setfsuid_on, setresuid_allowed, setresuid_ids, setresuid_on, setreuid_allowed, setreuid_ids, setreuid_on, setreuid_saved, setreuid_saves, setuid_allowed, setuid_ids, setuid_on}
use Rattle.rules.specs.Launching.{effective_id, launched_ids}
use Rattle.rules.specs.Decoding.{id_or_none}
use Rattle.rules.proofs.Conditions.{cond_cases}

-- ---- the operands

id_given : (id : ℕ) → id_or_none id ≡ true → (id ≡ NO_ID → ⊥) → id ≤ 4294967294
id_given id h g = let k : id ≤ 4294967295 = leb-true id NO_ID h in omega arith

given_small : (old id : ℕ) → old ≤ 4294967294 → id_or_none id ≡ true → given_or old id ≤ 4294967294
unfolding given_or
given_small old id h k =
    cond_cases (λ (x : ℕ). x ≤ 4294967294) (eqb id NO_ID) _ _ (λ e. h) (λ e. id_given id k (eqb-false id NO_ID e))

either_small : (t : Bool) (x y : ℕ) → x ≤ 4294967294 → y ≤ 4294967294 → cond t x y ≤ 4294967294
either_small true x y h k = h
either_small false x y h k = k

-- ---- the new IDs

-- new IDs, where the call may make them, are valid
abbrev pub NewValid : Option Ids → Type 0
NewValid (Some new) = ValidIds new
NewValid None = Unit {0}

module _ (any : Bool) (u : Ids) (v : ValidIds u) where
  pub setuid_valid : (id : ℕ) → id ≤ 4294967294 → NewValid (setuid_on any u id)
  unfolding setuid_on setuid_ids
  setuid_valid id h =
      cond_cases NewValid (setuid_allowed any u id) _ _
      (λ k. record {
        real_small = either_small any id u.real h v.real_small;
        effective_small = h;
        saved_small = either_small any id u.saved h v.saved_small;
        filesystem_small = h;
      })
      (λ k. tt)

  pub setreuid_valid : (r e : ℕ) → id_or_none r ≡ true → id_or_none e ≡ true → NewValid (setreuid_on any u r e)
  unfolding setreuid_on setreuid_ids setreuid_saved
  setreuid_valid r e hr he =
      let effective = given_small u.effective e v.effective_small he in
      cond_cases NewValid (setreuid_allowed any u (setreuid_ids u r e)) _ _
      (λ k. record {
        real_small = given_small u.real r v.real_small hr;
        effective_small = effective;
        saved_small = either_small (setreuid_saves u r e) (given_or u.effective e) u.saved effective v.saved_small;
        filesystem_small = effective;
      })
      (λ k. tt)

  pub setresuid_valid : (r e s : ℕ) → id_or_none r ≡ true → id_or_none e ≡ true → id_or_none s ≡ true → NewValid (setresuid_on any u r e s)
  unfolding setresuid_on setresuid_ids
  setresuid_valid r e s hr he hs =
      let effective = given_small u.effective e v.effective_small he in
      cond_cases NewValid (setresuid_allowed any u (setresuid_ids u r e s)) _ _
      (λ k. record {
        real_small = given_small u.real r v.real_small hr;
        effective_small = effective;
        saved_small = given_small u.saved s v.saved_small hs;
        filesystem_small = effective;
      })
      (λ k. tt)

  pub setfsuid_valid : (id : ℕ) → id_or_none id ≡ true → NewValid (setfsuid_on any u id)
  unfolding setfsuid_on setfsuid_changes
  setfsuid_valid id h =
      cond_cases NewValid (setfsuid_changes any u id) _ _
      (λ k. record {
        real_small = v.real_small;
        effective_small = v.effective_small;
        saved_small = v.saved_small;
        filesystem_small = id_given id h (eqb-false id NO_ID (not-true _ (and_l (is_given id) _ k)));
      })
      (λ k. tt)

-- ---- a launch

pub launched_valid : (force : Bool) (id : ℕ) (u : Ids) → id ≤ 4294967294 → ValidIds u → ValidIds (launched_ids force id u)
unfolding launched_ids effective_id
launched_valid force id u h v =
    let effective = either_small force id u.effective h v.effective_small in
    record { real_small = v.real_small; effective_small = effective; saved_small = effective; filesystem_small = effective }

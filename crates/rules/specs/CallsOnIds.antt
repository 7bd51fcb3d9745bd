-- The ID calls on user IDs and on group IDs beside each other ("Group IDs on the sheet"): one statement, CallsOnIds, at the end. Proved in
-- proofs/Corresponding.antt. Assumes nothing.
use Rattle.std.specs.Prelude.{◌-◌, ◌≤◌, ◌≡◌}
use Rattle.capabilities.specs.Sets.{has}
use Rattle.capabilities.specs.Header.{CAP_SETGID, CAP_SETUID}
use Rattle.credentials.specs.Validity.{valid}
use Rattle.credentials.specs.declared.Credentials.{Credentials}
use Rattle.rules.specs.Run.{Step, result}

-- calls 15 to 18, and calls 19 to 22, with whatever operands and attribute bytes
abbrev pub OnUserIds : Step → Type 0
OnUserIds x = (15 ≤ x.number) × (x.number ≤ 18)

abbrev pub OnGroupIds : Step → Type 0
OnGroupIds x = (19 ≤ x.number) × (x.number ≤ 22)

-- the call on user IDs that one on group IDs is like: 15 for 19, up to 18 for 22
abbrev pub user_id_call : Step → Step
user_id_call x = record { number = x.number - 4; a = x.a; b = x.b; c = x.c; attribute = x.attribute }

-- d has for user IDs the group IDs of c, SETUID where c has SETGID, and is valid where c is
pub record Counterpart (c d : Credentials) : Type 0 where
  pub ids : d.uids ≡ c.gids
  pub may_set_any : has d.sets.effective CAP_SETUID ≡ has c.sets.effective CAP_SETGID
  pub valid_alike : valid d ≡ valid c

-- of every credentials, valid or not, and every call
pub record CallsOnIds : Type 0 where
  -- calls 19 to 22 change no capability set,
  pub sets_stay : (c : Credentials) (x : Step) → OnGroupIds x → (result c x).after.sets ≡ c.sets
  -- no user ID,
  pub user_ids_stay : (c : Credentials) (x : Step) → OnGroupIds x → (result c x).after.uids ≡ c.uids
  -- no securebits
  pub securebits_stay : (c : Credentials) (x : Step) → OnGroupIds x → (result c x).after.securebits ≡ c.securebits
  -- and not no-new-privs
  pub no_new_privs_stays : (c : Credentials) (x : Step) → OnGroupIds x → (result c x).after.nnp ≡ c.nnp
  -- calls 15 to 18 change no group ID
  pub group_ids_stay : (c : Credentials) (x : Step) → OnUserIds x → (result c x).after.gids ≡ c.gids
  -- calls 19 to 22 answer what 15 to 18 answer for a counterpart: its code,
  pub same_code : (c d : Credentials) → Counterpart c d → (x : Step) → OnGroupIds x → (result c x).code ≡ (result d (user_id_call x)).code
  -- its value
  pub same_value : (c d : Credentials) → Counterpart c d → (x : Step) → OnGroupIds x → (result c x).value ≡ (result d (user_id_call x)).value
  -- and its cause,
  pub same_cause : (c d : Credentials) → Counterpart c d → (x : Step) → OnGroupIds x → (result c x).cause ≡ (result d (user_id_call x)).cause
  -- and leave in the group IDs what those leave in the counterpart's user IDs
  pub same_ids : (c d : Credentials) → Counterpart c d → (x : Step) → OnGroupIds x → (result c x).after.gids ≡ (result d (user_id_call x)).after.uids
  -- there is a counterpart of every credentials
  pub counterpart : (c : Credentials) → (d : Credentials) × Counterpart c d

-- "The other rules", the ID calls 15 to 18: setuid(2), setreuid(2), setresuid(2), setfsuid(2); and "Group IDs on the sheet", by the same rules 19 to
-- 22: setgid(2), setregid(2), setresgid(2), setfsgid(2). What an ID call allows and gives is a matter of four IDs and of whether it may set any; what
-- follows for the sets is of user IDs alone. Assumes nothing.
use Rattle.std.specs.Prelude.{ℕ, Bool, cond, not, ◌&&◌, ◌||◌, eqb, Option, Some, None, Err}
use Rattle.capabilities.specs.Sets.{has, union, inter, minus}
use Rattle.capabilities.specs.Header.{CAP_SETGID, CAP_SETUID}
use Rattle.credentials.specs.Securebits.{SECBIT_NO_SETUID_FIXUP, SECBIT_KEEP_CAPS}
use Rattle.credentials.specs.declared.Ids.{Ids}
use Rattle.credentials.specs.declared.Sets.{Sets}
use Rattle.credentials.specs.declared.Credentials.{Credentials}
use Rattle.rules.specs.Fields.{is_set, with_ambient, with_effective, with_filesystem, with_gids, with_permitted, with_sets, with_uids}
use Rattle.rules.specs.Answers.{Answer, done}
use Rattle.rules.specs.declared.Refusal.TheVariants.{NotPermitted}
use Rattle.rules.specs.declared.Cause.TheVariants.{IdNotAllowed}

-- ---- "The eighteen calls": an operand that gives an ID, and one that gives none

-- in calls 16 to 18 and 20 to 22 this operand gives none
abbrev pub NO_ID : ℕ
NO_ID = 4294967295

abbrev pub is_given : ℕ → Bool
is_given operand = not (eqb operand NO_ID)

-- the new ID: the one given, or else the old one
unfoldable pub given_or : ℕ → ℕ → ℕ
given_or old operand = cond (eqb operand NO_ID) old operand

-- ---- what each call allows and gives, of user IDs with SETUID and of group IDs with SETGID: the flag says that it may set any

-- one of real, effective and saved
unfoldable pub one_of_three : Ids → ℕ → Bool
one_of_three u id = eqb id u.real || eqb id u.effective || eqb id u.saved

-- setuid, where it may not set any: the ID must be the real or the saved one
unfoldable pub setuid_allowed : Bool → Ids → ℕ → Bool
setuid_allowed any u id = any || eqb id u.real || eqb id u.saved

-- setuid: where it may set any all four IDs change, and else the effective and the filesystem ID
unfoldable pub setuid_ids : Bool → Ids → ℕ → Ids
setuid_ids any u id = record { real = cond any id u.real; effective = id; saved = cond any id u.saved; filesystem = id }

-- setuid on four IDs, user or group: the new ones, or not allowed
unfoldable pub setuid_on : Bool → Ids → ℕ → Option Ids
setuid_on any u id = cond (setuid_allowed any u id) (Some (setuid_ids any u id)) None

-- setreuid, where it may not set any: real goes to real or effective, and effective to one of the three
unfoldable pub setreuid_allowed : Bool → Ids → Ids → Bool
setreuid_allowed any u new =
    any || (eqb new.real u.real || eqb new.real u.effective) && one_of_three u new.effective

-- setreuid: the saved ID moves where real is given, or effective is given and is not the old real
abbrev pub setreuid_saves : Ids → ℕ → ℕ → Bool
setreuid_saves u r e = is_given r || is_given e && not (eqb e u.real)

-- setreuid: the saved ID, where it moves, becomes the new effective one
unfoldable pub setreuid_saved : Ids → ℕ → ℕ → ℕ
setreuid_saved u r e = cond (setreuid_saves u r e) (given_or u.effective e) u.saved

-- setreuid: the two IDs that are given, and the filesystem ID is the effective one
unfoldable pub setreuid_ids : Ids → ℕ → ℕ → Ids
setreuid_ids u r e =
    record {
      real = given_or u.real r;
      effective = given_or u.effective e;
      saved = setreuid_saved u r e;
      filesystem = given_or u.effective e;
    }

-- setreuid on four IDs
unfoldable pub setreuid_on : Bool → Ids → ℕ → ℕ → Option Ids
setreuid_on any u r e = cond (setreuid_allowed any u (setreuid_ids u r e)) (Some (setreuid_ids u r e)) None

-- setresuid, where it may not set any: each goes to one of the three
unfoldable pub setresuid_allowed : Bool → Ids → Ids → Bool
setresuid_allowed any u new = any || one_of_three u new.real && one_of_three u new.effective && one_of_three u new.saved

-- setresuid: the three IDs that are given, and the filesystem ID is the effective one
unfoldable pub setresuid_ids : Ids → ℕ → ℕ → ℕ → Ids
setresuid_ids u r e s =
    record {
      real = given_or u.real r;
      effective = given_or u.effective e;
      saved = given_or u.saved s;
      filesystem = given_or u.effective e;
    }

-- setresuid on four IDs
unfoldable pub setresuid_on : Bool → Ids → ℕ → ℕ → ℕ → Option Ids
setresuid_on any u r e s = cond (setresuid_allowed any u (setresuid_ids u r e s)) (Some (setresuid_ids u r e s)) None

-- setfsuid: changes to any of the four, or where it may set any to any that is given
unfoldable pub setfsuid_changes : Bool → Ids → ℕ → Bool
setfsuid_changes any u id = is_given id && (any || one_of_three u id || eqb id u.filesystem)

-- setfsuid on four IDs
unfoldable pub setfsuid_on : Bool → Ids → ℕ → Option Ids
setfsuid_on any u id = cond (setfsuid_changes any u id) (Some (with_filesystem u id)) None

-- ---- after an accepted call on user IDs, unless NO_SETUID_FIXUP

-- one of real, effective and saved is 0
abbrev pub any_root : Ids → Bool
any_root u = one_of_three u 0

-- rule 1: where one of the three was 0 and none is now, A is cleared, and P and E too unless KEEP_CAPS
unfoldable pub root_left : Ids → Ids → ℕ → Sets → Sets
root_left old new securebits s =
    cond (any_root old && not (any_root new))
    (cond (is_set securebits SECBIT_KEEP_CAPS) (with_ambient s 0) (with_permitted (with_effective (with_ambient s 0) 0) 0))
    s

-- rule 2: the effective ID from 0 to nonzero clears E
unfoldable pub effective_left : Ids → Ids → Sets → Sets
effective_left old new s = cond (eqb old.effective 0 && not (eqb new.effective 0)) (with_effective s 0) s

-- rule 3: the effective ID from nonzero to 0 makes P the effective set
unfoldable pub effective_taken : Ids → Ids → Sets → Sets
effective_taken old new s = cond (not (eqb old.effective 0) && eqb new.effective 0) (with_effective s s.permitted) s

-- rule 4's set: CHOWN, DAC_OVERRIDE, DAC_READ_SEARCH, FOWNER, FSETID, LINUX_IMMUTABLE, MKNOD and MAC_OVERRIDE
abbrev pub filesystem_set : ℕ
filesystem_set = 0x10800021f

-- rule 4: the filesystem ID from 0 to nonzero takes that set from E
unfoldable pub filesystem_left : Ids → Ids → Sets → Sets
filesystem_left old new s =
    cond (eqb old.filesystem 0 && not (eqb new.filesystem 0)) (with_effective s (minus s.effective filesystem_set)) s

-- rule 4: from nonzero to 0 it adds to E what P has of that set
unfoldable pub filesystem_taken : Ids → Ids → Sets → Sets
filesystem_taken old new s =
    cond (not (eqb old.filesystem 0) && eqb new.filesystem 0) (with_effective s (union s.effective (inter filesystem_set s.permitted))) s

-- calls 15 to 17: rules 1, 2 and 3
unfoldable pub sets_after : Ids → Ids → ℕ → Sets → Sets
sets_after old new securebits s =
    cond (is_set securebits SECBIT_NO_SETUID_FIXUP) s (effective_taken old new (effective_left old new (root_left old new securebits s)))

-- call 18: rule 4; the three IDs of rules 1 to 3 stay, and so do these rules' sets
unfoldable pub sets_after_filesystem : Ids → Ids → ℕ → Sets → Sets
sets_after_filesystem old new securebits s = cond (is_set securebits SECBIT_NO_SETUID_FIXUP) s (filesystem_taken old new (filesystem_left old new s))

-- ---- the calls on user IDs

-- with SETUID a thread may set any user ID
abbrev pub may_set_any_user_id : Credentials → Bool
may_set_any_user_id c = has c.sets.effective CAP_SETUID

-- calls 15 to 17: the new user IDs, and the sets by rules 1 to 3; or refused
abbrev pub user_ids_changed : Credentials → Option Ids → Answer
user_ids_changed c (Some new) = done 0 (with_sets (with_uids c new) (sets_after c.uids new c.securebits c.sets))
user_ids_changed c None = Err (NotPermitted IdNotAllowed)

-- call 15
unfoldable pub setuid : Credentials → ℕ → Answer
setuid c id = user_ids_changed c (setuid_on (may_set_any_user_id c) c.uids id)

-- call 16
unfoldable pub setreuid : Credentials → ℕ → ℕ → Answer
setreuid c r e = user_ids_changed c (setreuid_on (may_set_any_user_id c) c.uids r e)

-- call 17
unfoldable pub setresuid : Credentials → ℕ → ℕ → ℕ → Answer
setresuid c r e s = user_ids_changed c (setresuid_on (may_set_any_user_id c) c.uids r e s)

-- call 18: the sets by rule 4; never refused, and the value is the old filesystem ID
abbrev pub filesystem_user_id_changed : Credentials → Option Ids → Answer
filesystem_user_id_changed c (Some new) =
    done c.uids.filesystem (with_sets (with_uids c new) (sets_after_filesystem c.uids new c.securebits c.sets))
filesystem_user_id_changed c None = done c.uids.filesystem c

unfoldable pub setfsuid : Credentials → ℕ → Answer
setfsuid c id = filesystem_user_id_changed c (setfsuid_on (may_set_any_user_id c) c.uids id)

-- ---- the calls on group IDs, by the same rules with SETGID in place of SETUID; none of rules 1 to 4 runs, and no set is touched

-- with SETGID a thread may set any group ID
abbrev pub may_set_any_group_id : Credentials → Bool
may_set_any_group_id c = has c.sets.effective CAP_SETGID

-- calls 19 to 21: the new group IDs, or refused
abbrev pub group_ids_changed : Credentials → Option Ids → Answer
group_ids_changed c (Some new) = done 0 (with_gids c new)
group_ids_changed c None = Err (NotPermitted IdNotAllowed)

-- call 19
unfoldable pub setgid : Credentials → ℕ → Answer
setgid c id = group_ids_changed c (setuid_on (may_set_any_group_id c) c.gids id)

-- call 20
unfoldable pub setregid : Credentials → ℕ → ℕ → Answer
setregid c r e = group_ids_changed c (setreuid_on (may_set_any_group_id c) c.gids r e)

-- call 21
unfoldable pub setresgid : Credentials → ℕ → ℕ → ℕ → Answer
setresgid c r e s = group_ids_changed c (setresuid_on (may_set_any_group_id c) c.gids r e s)

-- call 22: never refused, and the value is the old filesystem ID
abbrev pub filesystem_group_id_changed : Credentials → Option Ids → Answer
filesystem_group_id_changed c (Some new) = done c.gids.filesystem (with_gids c new)
filesystem_group_id_changed c None = done c.gids.filesystem c

unfoldable pub setfsgid : Credentials → ℕ → Answer
setfsgid c id = filesystem_group_id_changed c (setfsuid_on (may_set_any_group_id c) c.gids id)

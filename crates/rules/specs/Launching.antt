-- "Launching", call 1: execve(2) of a file with an owner, flags, a group and an attribute. Assumes nothing.
use Rattle.std.specs.Prelude.{ℕ, Bool, cond, not, ◌&&◌, ◌||◌, Result, Ok, Err, List, eqb}
use Rattle.capabilities.specs.Sets.{full, union, inter, minus, outside}
use Rattle.attribute.specs.Reader.{none_attached, reading}
use Rattle.attribute.specs.declared.FileCapabilities.{FileCapabilities}
use Rattle.attribute.specs.declared.ReadError.{ReadError}
use Rattle.credentials.specs.Securebits.{SECBIT_NOROOT, SECBIT_KEEP_CAPS}
use Rattle.credentials.specs.declared.Ids.{Ids}
use Rattle.credentials.specs.declared.Sets.{Sets}
use Rattle.credentials.specs.declared.Credentials.{Credentials}
use Rattle.rules.specs.Fields.{is_set, with_gids, with_uids, with_sets, with_securebits}
use Rattle.rules.specs.Answers.{Answer, done}
use Rattle.rules.specs.declared.Refusal.TheVariants.{NotPermitted, UnreadableAttribute}
use Rattle.rules.specs.declared.Cause.TheVariants.{LaunchFallsShort}

-- call 1's flags: the file's mode bits, and how it is mounted, run and booted
abbrev pub SET_USER_ID : ℕ
SET_USER_ID = 1

abbrev pub SET_GROUP_ID : ℕ
SET_GROUP_ID = 2

abbrev pub NOSUID : ℕ
NOSUID = 4

abbrev pub TRACED : ℕ
TRACED = 8

abbrev pub NO_FILE_CAPS : ℕ
NO_FILE_CAPS = 16

-- a: what makes a launch ignore the set-ID bits: no-new-privs, a nosuid mount, tracing
unfoldable pub ignores_set_id : Bool → ℕ → Bool
ignores_set_id nnp flags = nnp || is_set flags NOSUID || is_set flags TRACED

-- a: what makes it ignore the attribute: the same three, and no_file_caps
unfoldable pub ignores_attribute : Bool → ℕ → Bool
ignores_attribute nnp flags = ignores_set_id nnp flags || is_set flags NO_FILE_CAPS

-- a: an attribute that is ignored is not looked at, as if there were none (house rule)
unfoldable pub file_read : Bool → ℕ → List ℕ → Result FileCapabilities ReadError
file_read nnp flags attribute = cond (ignores_attribute nnp flags) (Ok none_attached) (reading attribute)

-- b: a set-ID bit, by its value, is in force where it is set and not ignored, also where it then changes nothing
unfoldable pub in_force : Bool → ℕ → ℕ → Bool
in_force nnp flags bit = is_set flags bit && not (ignores_set_id nnp flags)

-- b: a set-ID bit in force makes the file's ID the effective one
unfoldable pub effective_id : Bool → ℕ → Ids → ℕ
effective_id force id u = cond force id u.effective

-- b: the saved and the filesystem ID then follow the effective one
unfoldable pub launched_ids : Bool → ℕ → Ids → Ids
launched_ids force id u =
    record {
      real = u.real;
      effective = effective_id force id u;
      saved = effective_id force id u;
      filesystem = effective_id force id u;
    }

-- b: the user IDs, by the set-user-ID bit and the file's owner
abbrev pub launched_uids : Credentials → ℕ → ℕ → Ids
launched_uids c owner flags = launched_ids (in_force c.nnp flags SET_USER_ID) owner c.uids

-- b: the group IDs likewise ("Group IDs on the sheet"), by the set-group-ID bit and the file's group
abbrev pub launched_gids : Credentials → ℕ → ℕ → Ids
launched_gids c flags group = launched_ids (in_force c.nnp flags SET_GROUP_ID) group c.gids

-- c, the exception: an attribute is attached, and only the effective ID is 0
abbrev keeps_own : Ids → FileCapabilities → Bool
keeps_own u f = f.attached && not (eqb u.real 0) && eqb u.effective 0

-- c: root counts for more where NOROOT is clear, but for the exception
unfoldable pub root_counts : ℕ → Ids → FileCapabilities → Bool
root_counts securebits u f = not (is_set securebits SECBIT_NOROOT) && not (keeps_own u f)

-- c: then with a real or effective ID of 0 each of the file's sets counts as full
unfoldable pub counted_set : ℕ → Ids → FileCapabilities → ℕ → ℕ
counted_set securebits u f own = cond (root_counts securebits u f && (eqb u.real 0 || eqb u.effective 0)) full own

-- c: and with an effective ID of 0 the file's effective bit counts as on
abbrev counted_bit : ℕ → Ids → FileCapabilities → Bool
counted_bit securebits u f = f.effective || root_counts securebits u f && eqb u.effective 0

-- c: the file as it counts, for the user IDs after b
unfoldable pub counted : ℕ → Ids → FileCapabilities → FileCapabilities
counted securebits u f =
    record {
      attached = f.attached;
      permitted = counted_set securebits u f f.permitted;
      inheritable = counted_set securebits u f f.inheritable;
      effective = counted_bit securebits u f;
    }

-- d: a set-ID bit counts where it is in force and makes the effective ID differ from what it was before the launch ("Ambient lost too easily")
unfoldable pub changes_effective : Bool → ℕ → Ids → Bool
changes_effective force id u = force && not (eqb id u.effective)

-- d: a privileged file (the paper's term) has an attribute attached or a set-ID bit that counts, each bit asked of its own ID
unfoldable pub is_privileged : Credentials → ℕ → ℕ → ℕ → FileCapabilities → Bool
is_privileged c owner flags group f =
    f.attached
    || changes_effective (in_force c.nnp flags SET_USER_ID) owner c.uids
    || changes_effective (in_force c.nnp flags SET_GROUP_ID) group c.gids

-- d: such a file empties the ambient set
unfoldable pub launched_ambient : Bool → ℕ → ℕ
launched_ambient privileged a = cond privileged 0 a

-- e and f: what a file gives: what is inheritable in both, and what it permits within the bounding set
unfoldable pub gained : Sets → FileCapabilities → ℕ
gained s f = union (inter s.inheritable f.inheritable) (inter f.permitted s.bounding)

-- e: the permitted set, from the file as it counts and the new ambient set
abbrev pub launched_permitted : Sets → FileCapabilities → ℕ → ℕ
launched_permitted s f a = union (gained s f) a

-- e: the effective set is the new permitted set with the bit on, and else the new ambient set
unfoldable pub launched_effective : Bool → ℕ → ℕ → ℕ
launched_effective on p a = cond on p a

-- e: the inheritable and the bounding set stay
unfoldable pub launched_sets : Sets → FileCapabilities → ℕ → Sets
launched_sets s f a =
    record {
      permitted = launched_permitted s f a;
      inheritable = s.inheritable;
      effective = launched_effective f.effective (launched_permitted s f a) a;
      bounding = s.bounding;
      ambient = a;
    }

-- e: KEEP_CAPS is cleared, locked or not
abbrev launched_securebits : ℕ → ℕ
launched_securebits securebits = minus securebits SECBIT_KEEP_CAPS

-- f: with its own bit on, a file's own permitted set has to be given whole, whatever c counts as full
unfoldable pub falls_short : Sets → FileCapabilities → Bool
falls_short s f = f.effective && outside f.permitted (gained s f)

-- b to e together: no rule after an ID call runs here, and no-new-privs stays
unfoldable pub launched : Credentials → ℕ → ℕ → ℕ → FileCapabilities → Credentials
launched c owner flags group f =
    let u : Ids = launched_uids c owner flags in
    let g : Ids = launched_gids c flags group in
    let a : ℕ = launched_ambient (is_privileged c owner flags group f) c.sets.ambient in
    with_securebits (with_sets (with_gids (with_uids c u) g) (launched_sets c.sets (counted c.securebits u f) a)) (launched_securebits c.securebits)

-- the launch of a file that was read: 60 where it could not be, then 1 by f
abbrev pub launch_of : Credentials → ℕ → ℕ → ℕ → Result FileCapabilities ReadError → Answer
launch_of c owner flags group (Ok f) = cond (falls_short c.sets f) (Err (NotPermitted LaunchFallsShort)) (done 0 (launched c owner flags group f))
launch_of c owner flags group (Err e) = Err UnreadableAttribute

-- call 1
unfoldable pub launch : Credentials → ℕ → ℕ → ℕ → List ℕ → Answer
launch c owner flags group attribute = launch_of c owner flags group (file_read c.nnp flags attribute)

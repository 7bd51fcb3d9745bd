-- "The other rules", securebits, calls 9 and 10 (prctl(2): PR_SET_SECUREBITS, PR_GET_SECUREBITS). Assumes nothing.
use Rattle.std.specs.Prelude.{ℕ, ◌+◌, ◌/◌, Bool, cond, not, eqb, Err}
use Rattle.capabilities.specs.Sets.{inter, lacks, outside}
use Rattle.capabilities.specs.Header.{CAP_SETPCAP}
use Rattle.credentials.specs.Securebits.{SECBIT_NOROOT, SECBIT_NO_SETUID_FIXUP, SECBIT_KEEP_CAPS, SECBIT_NO_CAP_AMBIENT_RAISE, lock_of}
use Rattle.credentials.specs.declared.Credentials.{Credentials}
use Rattle.rules.specs.Fields.{with_securebits}
use Rattle.rules.specs.Answers.{Answer, done}
use Rattle.rules.specs.declared.Refusal.TheVariants.{NotPermitted}
use Rattle.rules.specs.declared.Cause.TheVariants.{CapabilityNotEffective, LockUndone, LockedFlagChanged}

-- all four flags, and their locks
abbrev all_flags : ℕ
all_flags = SECBIT_NOROOT + SECBIT_NO_SETUID_FIXUP + SECBIT_KEEP_CAPS + SECBIT_NO_CAP_AMBIENT_RAISE

abbrev pub all_locks : ℕ
all_locks = lock_of all_flags

-- the locks that are set, and the flags that they lock
abbrev pub locks_set : ℕ → ℕ
locks_set securebits = inter securebits all_locks

abbrev pub locked_flags : ℕ → ℕ
locked_flags securebits = locks_set securebits / 2

-- call 9, second test: a lock that is set is missing from the new bits
abbrev pub undoes_lock : ℕ → ℕ → Bool
undoes_lock old new = outside (locks_set old) new

-- call 9, third test: a locked flag is not as it was
unfoldable pub changes_locked : ℕ → ℕ → Bool
changes_locked old new = not (eqb (inter old (locked_flags old)) (inter new (locked_flags old)))

-- call 9, set: needs SETPCAP, every set lock kept and each locked flag unchanged
unfoldable pub set_securebits : Credentials → ℕ → Answer
set_securebits c new =
    cond (lacks c.sets.effective CAP_SETPCAP) (Err (NotPermitted CapabilityNotEffective))
    (cond (undoes_lock c.securebits new) (Err (NotPermitted LockUndone))
    (cond (changes_locked c.securebits new) (Err (NotPermitted LockedFlagChanged))
    (done 0 (with_securebits c new))))

-- call 10, get: all the bits
unfoldable pub get_securebits : Credentials → Answer
get_securebits c = done c.securebits c

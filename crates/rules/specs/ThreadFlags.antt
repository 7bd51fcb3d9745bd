-- "The other rules", keep-caps and no-new-privs, calls 11 to 14 (prctl(2): PR_SET_KEEPCAPS and PR_SET_NO_NEW_PRIVS, and their PR_GET).
-- Assumes nothing.
use Rattle.std.specs.Prelude.{ℕ, Bool, true, cond, Err}
use Rattle.capabilities.specs.Sets.{union, minus}
use Rattle.credentials.specs.Securebits.{SECBIT_KEEP_CAPS, lock_of}
use Rattle.credentials.specs.declared.Credentials.{Credentials}
use Rattle.rules.specs.Fields.{is_set, number, with_nnp, with_securebits}
use Rattle.rules.specs.Answers.{Answer, done}
use Rattle.rules.specs.declared.Refusal.TheVariants.{NotPermitted}
use Rattle.rules.specs.declared.Cause.TheVariants.{LockedFlagChanged}

-- call 11's test: the lock of KEEP_CAPS is set
abbrev pub keep_caps_locked : ℕ → Bool
keep_caps_locked securebits = is_set securebits (lock_of SECBIT_KEEP_CAPS)

-- securebits with KEEP_CAPS on or off
unfoldable pub with_keep_caps : ℕ → Bool → ℕ
with_keep_caps securebits on = cond on (union securebits SECBIT_KEEP_CAPS) (minus securebits SECBIT_KEEP_CAPS)

-- call 11, set keep-caps: refused where it is locked; needs no capability
unfoldable pub set_keep_caps : Credentials → Bool → Answer
set_keep_caps c on =
    cond (keep_caps_locked c.securebits) (Err (NotPermitted LockedFlagChanged))
    (done 0 (with_securebits c (with_keep_caps c.securebits on)))

-- call 12, get keep-caps
unfoldable pub get_keep_caps : Credentials → Answer
get_keep_caps c = done (number (is_set c.securebits SECBIT_KEEP_CAPS)) c

-- call 13, set no-new-privs
unfoldable pub set_no_new_privs : Credentials → Answer
set_no_new_privs c = done 0 (with_nnp c true)

-- call 14, get no-new-privs
unfoldable pub get_no_new_privs : Credentials → Answer
get_no_new_privs c = done (number c.nnp) c

-- "The other rules", the ambient set, calls 5 to 8 (prctl(2): PR_CAP_AMBIENT). Assumes nothing.
use Rattle.std.specs.Prelude.{ℕ, Bool, cond, ◌||◌, Err}
use Rattle.capabilities.specs.Sets.{has, lacks, union, minus, single}
use Rattle.credentials.specs.Securebits.{SECBIT_NO_CAP_AMBIENT_RAISE}
use Rattle.credentials.specs.declared.Sets.{Sets}
use Rattle.credentials.specs.declared.Credentials.{Credentials}
use Rattle.rules.specs.Fields.{is_set, number, with_ambient, with_sets}
use Rattle.rules.specs.Answers.{Answer, done}
use Rattle.rules.specs.declared.Refusal.TheVariants.{NotPermitted}
use Rattle.rules.specs.declared.Cause.TheVariants.{NotInPermittedAndInheritable, AmbientRaiseForbidden}

-- raise, first test: the capability is missing from P or from I
abbrev pub not_in_both : Sets → ℕ → Bool
not_in_both s n = lacks s.permitted n || lacks s.inheritable n

-- raise, second test: NO_CAP_AMBIENT_RAISE is set
abbrev pub raise_forbidden : ℕ → Bool
raise_forbidden securebits = is_set securebits SECBIT_NO_CAP_AMBIENT_RAISE

-- call 5, raise: the capability comes into A
unfoldable pub ambient_raise : Credentials → ℕ → Answer
ambient_raise c n =
    cond (not_in_both c.sets n) (Err (NotPermitted NotInPermittedAndInheritable))
    (cond (raise_forbidden c.securebits) (Err (NotPermitted AmbientRaiseForbidden))
    (done 0 (with_sets c (with_ambient c.sets (union c.sets.ambient (single n))))))

-- call 6, lower: the capability leaves A, and nothing is needed
unfoldable pub ambient_lower : Credentials → ℕ → Answer
ambient_lower c n = done 0 (with_sets c (with_ambient c.sets (minus c.sets.ambient (single n))))

-- call 7, is-set: 1 where the capability is in A
unfoldable pub ambient_is_set : Credentials → ℕ → Answer
ambient_is_set c n = done (number (has c.sets.ambient n)) c

-- call 8, clear all: A is empty
unfoldable pub ambient_clear_all : Credentials → Answer
ambient_clear_all c = done 0 (with_sets c (with_ambient c.sets 0))

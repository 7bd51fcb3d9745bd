-- "The other rules", the bounding set, calls 3 and 4 (prctl(2): PR_CAPBSET_DROP, PR_CAPBSET_READ). Assumes nothing.
use Rattle.std.specs.Prelude.{ℕ, cond, Err}
use Rattle.capabilities.specs.Sets.{has, lacks, minus, single}
use Rattle.capabilities.specs.Header.{CAP_SETPCAP}
use Rattle.credentials.specs.declared.Credentials.{Credentials}
use Rattle.rules.specs.Fields.{number, with_bounding, with_sets}
use Rattle.rules.specs.Answers.{Answer, done}
use Rattle.rules.specs.declared.Refusal.TheVariants.{NotPermitted}
use Rattle.rules.specs.declared.Cause.TheVariants.{CapabilityNotEffective}

-- call 3, drop: needs SETPCAP; the capability leaves B, and no other set
unfoldable pub bounding_drop : Credentials → ℕ → Answer
bounding_drop c n =
    cond (lacks c.sets.effective CAP_SETPCAP) (Err (NotPermitted CapabilityNotEffective))
    (done 0 (with_sets c (with_bounding c.sets (minus c.sets.bounding (single n)))))

-- call 4, read: 1 where the capability is in B
unfoldable pub bounding_read : Credentials → ℕ → Answer
bounding_read c n = done (number (has c.sets.bounding n)) c

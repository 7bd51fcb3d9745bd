-- "What comes back" from a call: what it answers, and the number, the value, the cause and the state of each answer. Assumes nothing.
use Rattle.std.specs.Prelude.{ℕ, Result, Ok, Err}
use Rattle.credentials.specs.declared.Credentials.{Credentials}
use Rattle.rules.specs.declared.Done.{Done}
use Rattle.rules.specs.declared.Refusal.{Refusal}
use Rattle.rules.specs.declared.Refusal.TheVariants.{NotPermitted, InvalidArgument, UnreadableAttribute, InvalidCredentials}
use Rattle.rules.specs.declared.Cause.{Cause}
use Rattle.rules.specs.declared.Cause.TheVariants.{CapabilityNotEffective, InheritableBeyondPermitted, InheritableBeyondBounding, PermittedGrows, EffectiveBeyondPermitted, NotInPermittedAndInheritable, AmbientRaiseForbidden, LockUndone, LockedFlagChanged, IdNotAllowed, LaunchFallsShort}

-- what a call answers: that it is done, or why it is refused
abbrev pub Answer : Type 0
Answer = Result Done Refusal

-- done, with a value and the credentials after it
abbrev pub done : ℕ → Credentials → Answer
done v c = Ok (record { value = v; after = c })

-- the number of a refusal: 1 refused by the rules (EPERM), 22 no call of that form, 60 attribute unreadable, 72 credentials not valid
abbrev pub refusal_number : Refusal → ℕ
refusal_number (NotPermitted why) = 1
refusal_number InvalidArgument = 22
refusal_number UnreadableAttribute = 60
refusal_number InvalidCredentials = 72

-- the number of an answer: 0 done, and the refusal's
abbrev pub code : Answer → ℕ
code (Ok d) = 0
code (Err why) = refusal_number why

-- the value: what a call that is done gives, and 0 for a refusal
abbrev pub value : Answer → ℕ
value (Ok d) = d.value
value (Err why) = 0

-- the number of a cause ("Why it was refused")
abbrev pub cause_number : Cause → ℕ
cause_number CapabilityNotEffective = 1
cause_number InheritableBeyondPermitted = 2
cause_number InheritableBeyondBounding = 3
cause_number PermittedGrows = 4
cause_number EffectiveBeyondPermitted = 5
cause_number NotInPermittedAndInheritable = 6
cause_number AmbientRaiseForbidden = 7
cause_number LockUndone = 8
cause_number LockedFlagChanged = 9
cause_number IdNotAllowed = 10
cause_number LaunchFallsShort = 11

-- the cause: why the rules refuse, and 0 for every other answer
abbrev pub cause : Answer → ℕ
cause (Ok d) = 0
cause (Err (NotPermitted why)) = cause_number why
cause (Err InvalidArgument) = 0
cause (Err UnreadableAttribute) = 0
cause (Err InvalidCredentials) = 0

-- the state: what a call that is done leaves; a refusal leaves the credentials that were given
abbrev pub after : Credentials → Answer → Credentials
after start (Ok d) = d.after
after start (Err why) = start

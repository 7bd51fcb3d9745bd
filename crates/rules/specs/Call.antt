-- A call as a whole ("What comes back"): for any credentials, number, operands and attribute bytes, the answer. Assumes nothing.
use Rattle.std.specs.Prelude.{ℕ, cond, List, length, Option, Some, None, Err}
use Rattle.credentials.specs.Validity.{valid}
use Rattle.credentials.specs.declared.Credentials.{Credentials}
use Rattle.rules.specs.Launching.{launch}
use Rattle.rules.specs.Capset.{capset}
use Rattle.rules.specs.Bounding.{bounding_drop, bounding_read}
use Rattle.rules.specs.Ambient.{ambient_raise, ambient_lower, ambient_is_set, ambient_clear_all}
use Rattle.rules.specs.Securebits.{set_securebits, get_securebits}
use Rattle.rules.specs.ThreadFlags.{set_keep_caps, get_keep_caps, set_no_new_privs, get_no_new_privs}
use Rattle.rules.specs.Ids.{setuid, setreuid, setresuid, setfsuid, setgid, setregid, setresgid, setfsgid}
use Rattle.rules.specs.Decoding.{decode}
use Rattle.rules.specs.Answers.{Answer}
use Rattle.rules.specs.declared.Refusal.TheVariants.{InvalidArgument, InvalidCredentials}
use Rattle.rules.specs.declared.Call.{Call}
use Rattle.rules.specs.declared.Call.TheVariants.{Execve, Capset, BoundingDrop, BoundingRead, AmbientRaise, AmbientLower, AmbientIsSet, AmbientClearAll, SetSecurebits, GetSecurebits, SetKeepCaps, GetKeepCaps, SetNoNewPrivs, GetNoNewPrivs, Setuid, Setreuid, Setresuid, Setfsuid, Setgid, Setregid, Setresgid, Setfsgid}

-- 60 and 1: what a call that is known does, by its own rules
abbrev pub performed : Credentials → List ℕ → Call → Answer
performed start attribute (Execve owner flags group) = launch start owner flags group attribute
performed start attribute (Capset p i e) = capset start p i e
performed start attribute (BoundingDrop n) = bounding_drop start n
performed start attribute (BoundingRead n) = bounding_read start n
performed start attribute (AmbientRaise n) = ambient_raise start n
performed start attribute (AmbientLower n) = ambient_lower start n
performed start attribute (AmbientIsSet n) = ambient_is_set start n
performed start attribute AmbientClearAll = ambient_clear_all start
performed start attribute (SetSecurebits new) = set_securebits start new
performed start attribute GetSecurebits = get_securebits start
performed start attribute (SetKeepCaps on) = set_keep_caps start on
performed start attribute GetKeepCaps = get_keep_caps start
performed start attribute SetNoNewPrivs = set_no_new_privs start
performed start attribute GetNoNewPrivs = get_no_new_privs start
performed start attribute (Setuid id) = setuid start id
performed start attribute (Setreuid r e) = setreuid start r e
performed start attribute (Setresuid r e s) = setresuid start r e s
performed start attribute (Setfsuid id) = setfsuid start id
performed start attribute (Setgid id) = setgid start id
performed start attribute (Setregid r e) = setregid start r e
performed start attribute (Setresgid r e s) = setresgid start r e s
performed start attribute (Setfsgid id) = setfsgid start id

-- 22 before them: number, operands and attribute make no call
abbrev pub decoded : Credentials → List ℕ → Option Call → Answer
decoded start attribute (Some call) = performed start attribute call
decoded start attribute None = Err InvalidArgument

-- 72 before all: the credentials given are not valid
unfoldable pub answer : Credentials → ℕ → ℕ → ℕ → ℕ → List ℕ → Answer
answer start number a b c attribute = cond (valid start) (decoded start attribute (decode number a b c (length attribute))) (Err InvalidCredentials)

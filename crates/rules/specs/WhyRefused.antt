-- The cause of a refusal by the rules ("Why it was refused"): the tests of each call with their numbers, and one statement, WhyRefused, at the end.
-- Proved in proofs/WhyRefused.antt. Assumes nothing.
use Rattle.std.specs.Prelude.{ℕ, ◌≡◌, Bool, true, false, cond, ◌||◌, List, [], ◌∷◌, eqb, ltb, length, Option, Some, None, Result, Ok, Err}
use Rattle.capabilities.specs.Sets.{lacks}
use Rattle.capabilities.specs.Header.{CAP_SETPCAP}
use Rattle.attribute.specs.Words.{Bytes}
use Rattle.attribute.specs.declared.FileCapabilities.{FileCapabilities}
use Rattle.attribute.specs.declared.ReadError.{ReadError}
use Rattle.credentials.specs.Validity.{valid}
use Rattle.credentials.specs.declared.Sets.{Sets}
use Rattle.credentials.specs.declared.Credentials.{Credentials}
use Rattle.rules.specs.Launching.{falls_short, file_read}
use Rattle.rules.specs.Capset.{beyond_permitted, beyond_bounding, permitted_grows, effective_exceeds}
use Rattle.rules.specs.Ambient.{not_in_both, raise_forbidden}
use Rattle.rules.specs.Securebits.{undoes_lock, changes_locked}
use Rattle.rules.specs.ThreadFlags.{keep_caps_locked}
use Rattle.rules.specs.Ids.{may_set_any_user_id, may_set_any_group_id, setuid_on, setreuid_on, setresuid_on}
use Rattle.rules.specs.Decoding.{decode}
use Rattle.rules.specs.Run.{Step, result}
use Rattle.rules.specs.declared.Call.{Call}
use Rattle.rules.specs.declared.Call.TheVariants.{Execve, Capset, BoundingDrop, BoundingRead, AmbientRaise, AmbientLower, AmbientIsSet, AmbientClearAll, SetSecurebits, GetSecurebits, SetKeepCaps, GetKeepCaps, SetNoNewPrivs, GetNoNewPrivs, Setuid, Setreuid, Setresuid, Setfsuid, Setgid, Setregid, Setresgid, Setfsgid}
use Rattle.credentials.specs.declared.Ids.{Ids}

-- ---- the tests

-- a test: the number of its cause, and whether it fails
pub record Test : Type 0 where
  pub number : ℕ
  pub fails : Bool

abbrev test : ℕ → Bool → Test
test number fails = record { number = number; fails = fails }

-- fails for a thread that has no SETPCAP
abbrev no_setpcap : Credentials → Bool
no_setpcap c = lacks c.sets.effective CAP_SETPCAP

-- fails where an ID call may not make the IDs so
abbrev pub not_allowed : Option Ids → Bool
not_allowed (Some new) = false
not_allowed None = true

-- fails where a launch falls short of the file's permitted set; a file that cannot be read is refused before that, with 60
abbrev pub read_falls_short : Sets → Result FileCapabilities ReadError → Bool
read_falls_short s (Ok f) = falls_short s f
read_falls_short s (Err e) = false

-- the tests of each call, with the numbers of their causes: 1 to 11, as the request has them
abbrev pub tests : Credentials → List ℕ → Call → List Test
tests c attribute (Execve owner flags group) = test 11 (read_falls_short c.sets (file_read c.nnp flags attribute)) ∷ []
tests c attribute (Capset p i e) =
    test 2 (beyond_permitted c.sets i) ∷ test 3 (beyond_bounding c.sets i) ∷ test 4 (permitted_grows c.sets p) ∷ test 5 (effective_exceeds p e) ∷ []
tests c attribute (BoundingDrop n) = test 1 (no_setpcap c) ∷ []
tests c attribute (BoundingRead n) = []
tests c attribute (AmbientRaise n) = test 6 (not_in_both c.sets n) ∷ test 7 (raise_forbidden c.securebits) ∷ []
tests c attribute (AmbientLower n) = []
tests c attribute (AmbientIsSet n) = []
tests c attribute AmbientClearAll = []
tests c attribute (SetSecurebits new) = test 1 (no_setpcap c) ∷ test 8 (undoes_lock c.securebits new) ∷ test 9 (changes_locked c.securebits new) ∷ []
tests c attribute GetSecurebits = []
tests c attribute (SetKeepCaps on) = test 9 (keep_caps_locked c.securebits) ∷ []
tests c attribute GetKeepCaps = []
tests c attribute SetNoNewPrivs = []
tests c attribute GetNoNewPrivs = []
tests c attribute (Setuid id) = test 10 (not_allowed (setuid_on (may_set_any_user_id c) c.uids id)) ∷ []
tests c attribute (Setreuid r e) = test 10 (not_allowed (setreuid_on (may_set_any_user_id c) c.uids r e)) ∷ []
tests c attribute (Setresuid r e s) = test 10 (not_allowed (setresuid_on (may_set_any_user_id c) c.uids r e s)) ∷ []
tests c attribute (Setfsuid id) = []
tests c attribute (Setgid id) = test 10 (not_allowed (setuid_on (may_set_any_group_id c) c.gids id)) ∷ []
tests c attribute (Setregid r e) = test 10 (not_allowed (setreuid_on (may_set_any_group_id c) c.gids r e)) ∷ []
tests c attribute (Setresgid r e s) = test 10 (not_allowed (setresuid_on (may_set_any_group_id c) c.gids r e s)) ∷ []
tests c attribute (Setfsgid id) = []

-- what makes no call is refused before any test, with 22
abbrev pub tests_of : Credentials → List ℕ → Option Call → List Test
tests_of c attribute (Some call) = tests c attribute call
tests_of c attribute None = []

-- the tests that a step comes to: none for credentials that are not valid, which are refused before all, with 72
unfoldable pub asked : Credentials → Step → List Test
asked c x = cond (valid c) (tests_of c x.attribute (decode x.number x.a x.b x.c (length x.attribute))) []

-- ---- those that fail

-- one of the tests fails
unfoldable pub one_fails : List Test → Bool
one_fails [] = false
one_fails (t ∷ ts) = t.fails || one_fails ts

-- the numbers of the tests that fail
unfoldable pub failing : List Test → List ℕ
failing [] = []
failing (t ∷ ts) = cond t.fails (t.number ∷ failing ts) (failing ts)

-- the lowest of a number and others; and of some numbers, 0 if there are none
unfoldable pub lowest_with : ℕ → List ℕ → ℕ
lowest_with n [] = n
lowest_with n (m ∷ ms) = lowest_with (cond (ltb m n) m n) ms

abbrev pub lowest : List ℕ → ℕ
lowest [] = 0
lowest (n ∷ ns) = lowest_with n ns

-- ---- the statement

-- the causes that the call of a number can have
unfoldable pub causes_of : ℕ → List ℕ
causes_of number =
    cond (eqb number 1) (11 ∷ [])
    (cond (eqb number 2) (2 ∷ 3 ∷ 4 ∷ 5 ∷ [])
    (cond (eqb number 3) (1 ∷ [])
    (cond (eqb number 5) (6 ∷ 7 ∷ [])
    (cond (eqb number 9) (1 ∷ 8 ∷ 9 ∷ [])
    (cond (eqb number 11) (9 ∷ [])
    (cond (eqb number 15) (10 ∷ [])
    (cond (eqb number 16) (10 ∷ [])
    (cond (eqb number 17) (10 ∷ [])
    (cond (eqb number 19) (10 ∷ [])
    (cond (eqb number 20) (10 ∷ [])
    (cond (eqb number 21) (10 ∷ [])
    [])))))))))))

-- a number is among others
unfoldable pub is_among : ℕ → List ℕ → Bool
is_among n [] = false
is_among n (m ∷ ms) = eqb n m || is_among n ms

-- the call of a number has a cause, from some valid credentials with some operands and attribute bytes
pub record Occurs (number n : ℕ) : Type 0 where
  pub start : Credentials
  pub starts_valid : valid start ≡ true
  pub step : Step
  pub is_call : step.number ≡ number
  pub bytes : Bytes step.attribute
  pub has_cause : (result start step).cause ≡ n

-- of every credentials, valid or not, and every call, its operands and its attribute
pub record WhyRefused : Type 0 where
  -- the rules refuse it, with 1, exactly if one of its tests fails
  pub refused_if : (c : Credentials) (x : Step) → eqb (result c x).code 1 ≡ one_fails (asked c x)
  -- then its cause is the lowest number of those that fail
  pub lowest_wins : (c : Credentials) (x : Step) → (result c x).code ≡ 1 → (result c x).cause ≡ lowest (failing (asked c x))
  -- and one of the call's own: the ID calls give 10 and capset 2 to 5, call 11 gives 9, and none but calls 3 and 9 give 1
  pub own_causes : (c : Credentials) (x : Step) → (result c x).code ≡ 1 → is_among (result c x).cause (causes_of x.number) ≡ true
  -- each of these is given by some call
  pub each_occurs : (number n : ℕ) → is_among n (causes_of number) ≡ true → Occurs number n
  -- every other answer has cause 0
  pub no_other : (c : Credentials) (x : Step) → eqb (result c x).code 1 ≡ false → (result c x).cause ≡ 0

-- Demand 3 as one statement, Demanded, at the end: for any valid start and any list of calls. Proved in proofs/Demand3.antt. Assumes nothing.
use Rattle.std.specs.Prelude.{ℕ, ◌≡◌, Bool, true, false, cond, ◌&&◌, ◌||◌, List, [], ◌∷◌, ◌++◌, ◌⊎◌, eqb, length}
use Rattle.capabilities.specs.Sets.{union, Has, Within}
use Rattle.attribute.specs.Words.{Bytes}
use Rattle.credentials.specs.Securebits.{SECBIT_NOROOT, SECBIT_NO_SETUID_FIXUP, SECBIT_KEEP_CAPS, SECBIT_NO_CAP_AMBIENT_RAISE, lock_of}
use Rattle.credentials.specs.Validity.{valid}
use Rattle.credentials.specs.declared.Sets.{Sets}
use Rattle.credentials.specs.declared.Credentials.{Credentials}
use Rattle.rules.specs.Fields.{is_set}
use Rattle.rules.specs.Securebits.{locks_set}
use Rattle.rules.specs.Run.{Step, result, run, left}

-- P, I and B together
abbrev pub reach : Sets → ℕ
reach s = union (union s.permitted s.inheritable) s.bounding

-- a launch, call 1, in the list was done: it answered 0
unfoldable pub launch_done : Credentials → List Step → Bool
launch_done start [] = false
launch_done start (x ∷ xs) = eqb x.number 1 && eqb (result start x).code 0 || launch_done (result start x).after xs

-- a flag that is locked in the first securebits is in the second as it is in the first
abbrev pub LockedStays : ℕ → ℕ → ℕ → Type 0
LockedStays flag first second = is_set first (lock_of flag) ≡ true → is_set second flag ≡ is_set first flag

-- call 1 with operands 0 and these attribute bytes
abbrev launch_step : List ℕ → Step
launch_step attribute = record { number = 1; a = 0; b = 0; c = 0; attribute = attribute }

-- one launch of some file is done and leaves the capability in P
pub record OneLaunch (start : Credentials) (n : ℕ) : Type 0 where
  pub attribute : List ℕ
  pub bytes : Bytes attribute
  pub done : (result start (launch_step attribute)).code ≡ 0
  pub gives : Has (result start (launch_step attribute)).after.sets.permitted n

-- the list goes on from a state on the way
pub record GoesOn (start : Credentials) (before rest : List Step) : Type 0 where
  -- that state is valid, and so again a start
  pub again : valid (left start before) ≡ true
  -- the run of the whole list is the run so far and the run of the rest from that state
  pub results : run start (before ++ rest) ≡ run start before ++ run (left start before) rest
  -- and leaves what the rest leaves
  pub leaves : left start (before ++ rest) ≡ left (left start before) rest

-- what the demand says of one start and one list
pub record Demand3 (start : Credentials) (steps : List Step) : Type 0 where
  -- there is one result for each call
  pub one_each : length (run start steps) ≡ length steps
  -- each call's code, value, cause and credentials are the rules' from the state that the calls before it left, the first's from the start; and
  -- what it leaves is what the rest goes on from: nothing else changes the credentials
  pub by_the_rules : (before : List Step) (x : Step) (rest : List Step) → steps ≡ before ++ x ∷ rest
      → run start steps ≡ run start before ++ result (left start before) x ∷ run (result (left start before) x).after rest
  -- each state on the way is again a start for the rest
  pub goes_on : (before rest : List Step) → steps ≡ before ++ rest → GoesOn start before rest
  -- after the list the credentials are valid
  pub ends_valid : valid (left start steps) ≡ true
  -- the bounding set is within that of the start
  pub bounding_shrinks : Within (left start steps).sets.bounding start.sets.bounding
  -- every lock set at the start is still set
  pub locks_stay : Within (locks_set start.securebits) (left start steps).securebits
  -- each of these flags, where locked at the start, is as it was then
  pub noroot : LockedStays SECBIT_NOROOT start.securebits (left start steps).securebits
  pub no_setuid_fixup : LockedStays SECBIT_NO_SETUID_FIXUP start.securebits (left start steps).securebits
  pub no_cap_ambient_raise : LockedStays SECBIT_NO_CAP_AMBIENT_RAISE start.securebits (left start steps).securebits
  -- keep-caps, where locked at the start, is clear if a launch in the list was done, and as it was if none was
  pub keep_caps : is_set start.securebits (lock_of SECBIT_KEEP_CAPS) ≡ true
      → is_set (left start steps).securebits SECBIT_KEEP_CAPS ≡ cond (launch_done start steps) false (is_set start.securebits SECBIT_KEEP_CAPS)
  -- nothing is permitted that is in none of P, I and B of the start
  pub permitted_within : Within (left start steps).sets.permitted (reach start.sets)
  -- with no-new-privs clear at the start, each capability of the three is permitted then or after one launch of some file
  pub reachable : start.nnp ≡ false → (n : ℕ) → Has (reach start.sets) n → Has start.sets.permitted n ⊎ OneLaunch start n
  -- and so by a launch each one of I or B, be it permitted at the start or not
  pub by_one_launch : start.nnp ≡ false → (n : ℕ) → Has (union start.sets.inheritable start.sets.bounding) n → OneLaunch start n

-- the demand: from any valid credentials, by any list of calls
abbrev pub Demanded : Type 0
Demanded = (start : Credentials) → valid start ≡ true → (steps : List Step) → Demand3 start steps

-- What a launch leaves of the ambient set ("Ambient lost too easily"): one statement, AmbientAfterLaunch, at the end. Proved in
-- proofs/LaunchedAmbient.antt. Assumes nothing.
use Rattle.std.specs.Prelude.{ℕ, ◌≡◌, Bool, cond, not, ◌&&◌, ◌||◌, List, eqb, length}
use Rattle.credentials.specs.declared.Ids.{Ids}
use Rattle.credentials.specs.declared.Credentials.{Credentials}
use Rattle.rules.specs.Launching.{SET_GROUP_ID, SET_USER_ID, ignores_attribute, in_force}
use Rattle.rules.specs.Run.{Step, result}

-- call 1 of a file with this owner, these flags, this group and these attribute bytes
abbrev pub execve : ℕ → ℕ → ℕ → List ℕ → Step
execve owner flags group attribute = record { number = 1; a = owner; b = flags; c = group; attribute = attribute }

-- an attribute counts where there are bytes and they are not ignored
abbrev pub attribute_counts : Bool → ℕ → List ℕ → Bool
attribute_counts nnp flags attribute = not (ignores_attribute nnp flags) && not (eqb (length attribute) 0)

-- an effective ID was changed by the set-ID bit for it, which was in force
abbrev pub was_changed : Bool → Ids → Ids → Bool
was_changed force before after = force && not (eqb after.effective before.effective)

-- A is the old A where no attribute counts and neither effective ID was changed by a set-ID bit in force, and is empty otherwise
abbrev pub ambient_after : Credentials → ℕ → List ℕ → Credentials → ℕ
ambient_after before flags attribute after =
    cond
    (attribute_counts before.nnp flags attribute
    || was_changed (in_force before.nnp flags SET_USER_ID) before.uids after.uids
    || was_changed (in_force before.nnp flags SET_GROUP_ID) before.gids after.gids)
    0 before.sets.ambient

-- so it is after every launch that is done, of any file by any thread
abbrev pub AmbientAfterLaunch : Type 0
AmbientAfterLaunch =
    (start : Credentials) (owner flags group : ℕ) (attribute : List ℕ) → (result start (execve owner flags group attribute)).code ≡ 0
    → (result start (execve owner flags group attribute)).after.sets.ambient
    ≡ ambient_after start flags attribute (result start (execve owner flags group attribute)).after

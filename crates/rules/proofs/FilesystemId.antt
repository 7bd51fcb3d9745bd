-- Rules 1 to 3 after an ID call leave the sets alone where only the filesystem ID changes, as in call 18. Assumes nothing.
use Prim.Native.Nat.{ℕ}
use mathlib.Core.Path.{◌≡◌, refl}
use mathlib.Core.Bool.{Bool, true, false, cond, not, ◌&&◌}
use Rattle.credentials.specs.Securebits.{SECBIT_NO_SETUID_FIXUP}
use Rattle.credentials.specs.declared.Ids.{Ids}
use Rattle.credentials.specs.declared.Sets.{Sets}
use Rattle.rules.specs.Fields.{is_set, with_filesystem}
use Rattle.rules.specs.Ids.{effective_left, effective_taken, one_of_three, root_left, sets_after}

never : (t : Bool) → t && not t ≡ false
never true = refl
never false = refl

nor_so : (t : Bool) → not t && t ≡ false
nor_so true = refl
nor_so false = refl

pub rules_1_to_3_rest : (u : Ids) (id bits : ℕ) (s : Sets) → sets_after u (with_filesystem u id) bits s ≡ s
unfolding sets_after root_left effective_left effective_taken one_of_three
rules_1_to_3_rest u id bits s = simp (never, nor_so, either (is_set bits SECBIT_NO_SETUID_FIXUP))
  where
    either : (t : Bool) → cond t s s ≡ s
    either true = refl
    either false = refl

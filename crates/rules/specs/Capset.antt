-- "The other rules", capset(2), call 2: the four tests in their order, then the sets. Assumes nothing.
use Rattle.std.specs.Prelude.{ℕ, Bool, cond, ◌&&◌, Err}
use Rattle.capabilities.specs.Sets.{union, inter, lacks, outside}
use Rattle.capabilities.specs.Header.{CAP_SETPCAP}
use Rattle.credentials.specs.declared.Sets.{Sets}
use Rattle.credentials.specs.declared.Credentials.{Credentials}
use Rattle.rules.specs.Fields.{with_sets}
use Rattle.rules.specs.Answers.{Answer, done}
use Rattle.rules.specs.declared.Refusal.TheVariants.{NotPermitted}
use Rattle.rules.specs.declared.Cause.TheVariants.{InheritableBeyondPermitted, InheritableBeyondBounding, PermittedGrows, EffectiveBeyondPermitted}

-- first test: without SETPCAP, the new I goes beyond I and P together
abbrev pub beyond_permitted : Sets → ℕ → Bool
beyond_permitted s i = lacks s.effective CAP_SETPCAP && outside i (union s.inheritable s.permitted)

-- second test: the new I goes beyond I and B together
abbrev pub beyond_bounding : Sets → ℕ → Bool
beyond_bounding s i = outside i (union s.inheritable s.bounding)

-- third test: the new P goes beyond P
abbrev pub permitted_grows : Sets → ℕ → Bool
permitted_grows s p = outside p s.permitted

-- fourth test: the new E goes beyond the new P
abbrev pub effective_exceeds : ℕ → ℕ → Bool
effective_exceeds p e = outside e p

-- done: the three sets as given, and A keeps what is in both the new P and the new I
unfoldable pub capset_sets : Sets → ℕ → ℕ → ℕ → Sets
capset_sets s p i e = record { permitted = p; inheritable = i; effective = e; bounding = s.bounding; ambient = inter (inter s.ambient p) i }

-- call 2
unfoldable pub capset : Credentials → ℕ → ℕ → ℕ → Answer
capset c p i e =
    cond (beyond_permitted c.sets i) (Err (NotPermitted InheritableBeyondPermitted))
    (cond (beyond_bounding c.sets i) (Err (NotPermitted InheritableBeyondBounding))
    (cond (permitted_grows c.sets p) (Err (NotPermitted PermittedGrows))
    (cond (effective_exceeds p e) (Err (NotPermitted EffectiveBeyondPermitted))
    (done 0 (with_sets c (capset_sets c.sets p i e))))))

-- A flag as a number, where code casts it. Assumes nothing.
use mathlib.Core.Path.{◌≡◌, refl}
use mathlib.Core.Bool.{Bool, true, false}
use mir.Val.{bool_byte}
use Rattle.rules.specs.Fields.{number}

pub cast_is_number : (flag : Bool) → bool_byte flag ≡ number flag
unfolding number
cast_is_number true = refl
cast_is_number false = refl

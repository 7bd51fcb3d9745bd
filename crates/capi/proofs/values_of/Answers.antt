-- `capi::values_of` meets its contract. Assumes nothing.
use mathlib.Core.Path.{refl, ◌∙◌}
use Rattle.rules.proofs.Flags.{cast_is_number}
use Rattle.capi.proofs.values_of.Goals as goal

pub returns : goal.returns
returns c = rw (c.from.ensures ∙ cast_is_number c.args.held.nnp) refl

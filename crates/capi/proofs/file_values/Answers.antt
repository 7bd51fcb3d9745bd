-- `capi::file_values` meets its contract. Assumes nothing.
use mathlib.Core.Path.{refl, ◌∙◌}
use Rattle.rules.proofs.Flags.{cast_is_number}
use Rattle.capi.proofs.file_values.Goals as goal

pub returns : goal.returns
returns c = rw (c.from.ensures ∙ cast_is_number c.args.file.attached, c.from-2.ensures ∙ cast_is_number c.args.file.effective) refl

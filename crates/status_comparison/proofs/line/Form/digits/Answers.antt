-- `status_comparison::line::Form::digits` meets its contract. Assumes nothing.
use mathlib.Core.Path.{sym, ◌∙◌}
use native.Mathlib.Omega.{arith}
use Rattle.format.proofs.Lengths.{length_hex}
use Rattle.status_comparison.proofs.line.Form.digits.Goals as goal

pub returns-in-Hex : goal.returns-in-Hex
returns-in-Hex c = rw c.in-Hex.is (c.from.ensures ∙ sym (length_hex 16 c.args.value), omega arith)

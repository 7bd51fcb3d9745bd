-- `capi::urrezkalu_write_sheet` meets its contract. Assumes nothing.
use mathlib.Core.Path.{sym, ap, ◌∙◌}
use Rattle.format.specs.Sheet.{sheet_write_code}
use Rattle.capi.specs.Interface.{answered}
use Rattle.capi.proofs.Answers.{by_code, not_written, sheet_written}
use Rattle.capi.proofs.urrezkalu_write_sheet.Goals as goal

pub returns-in_default : goal.returns-in_default
returns-in_default c =
    let n = not_written c.args.values.now c.args.sheet.now (sym c.credentials_of.ensures ∙ c.in_default.is) in
    (c.joined.ensures ∙ n.0, n.1)

pub returns : goal.returns
returns c =
    let w = c.write_sheet.ensures in
    let n = sheet_written c.args.values.now c.args.sheet.now _ (sym c.credentials_of.ensures ∙ c.in-Some.is) in (
      c.answered.ensures ∙ by_code sheet_write_code c.write_sheet.result c.map_err.result c.map_err.ensures.cases ∙ ap (answered sheet_write_code) w.0 ∙ n.0,
      w.1 ∙ n.1,
    )

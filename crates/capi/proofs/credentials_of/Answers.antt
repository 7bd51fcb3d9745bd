-- `capi::credentials_of` meets its contract. Assumes nothing.
use borrow.Author.Tests.{eq-eqb, ne_eqb, le-leb, lt-leb}
use Rattle.format.specs.Sheet.{id_kinds, uid_kinds, gid_kinds, set_kinds, flag_kinds, sheet_kinds}
use Rattle.capi.specs.Interface.{are_values, given_credentials}
use Rattle.capi.proofs.credentials_of.Goals as goal

pub returns-then-values-ne-SHEET_VALUES : goal.returns-then-values-ne-SHEET_VALUES
unfolding given_credentials are_values sheet_kinds id_kinds uid_kinds gid_kinds set_kinds flag_kinds
returns-then-values-ne-SHEET_VALUES c = simp (ne_eqb _ _ c.if-values-ne-SHEET_VALUES.true)

pub returns-then-values-gt1 : goal.returns-then-values-gt1
unfolding given_credentials are_values sheet_kinds id_kinds uid_kinds gid_kinds set_kinds flag_kinds
returns-then-values-gt1 c = simp (eq-eqb _ _ c.if-values-ne-SHEET_VALUES.false, lt-leb _ _ c.if-values-gt1.true)

pub returns : goal.returns
unfolding given_credentials are_values sheet_kinds id_kinds uid_kinds gid_kinds set_kinds flag_kinds
returns c = simp (eq-eqb _ _ c.if-values-ne-SHEET_VALUES.false, le-leb _ _ c.if-values-gt1.false)

-- `sheet_writer::write_lines` meets its contract. Assumes nothing.
use Rattle.format.specs.Sheet.{uid_kinds, gid_kinds}
use Rattle.sheet_writer.proofs.Groups.{sheet_put}
use Rattle.sheet_writer.proofs.write_lines.Goals as goal

pub returns : goal.returns
unfolding uid_kinds gid_kinds
returns c =
    sheet_put _ _ _ _ _ _ _ _ _ _ _ _ (c.write_ids-at.ensures _) (c.write_ids-at-2.ensures _) c.write_sets-at.ensures c.write_flags.ensures

-- The sheet's lines, group after group, by whatever table. Assumes nothing.
use mathlib.Core.Path.{◌≡◌, ap, ◌∙◌}
use mathlib.Core.List.{List, ◌++◌}
use Prim.Native.Nat.{ℕ}
use Rattle.format.specs.Sheet.{uid_kinds, gid_kinds, set_kinds, flag_kinds, sheet_kinds}
use Rattle.hex_tables.specs.Tables.{read_value_by}
use Rattle.line_reader.specs.declared.Place.{Place}
use Rattle.line_reader.specs.Positions.{from, Reading, valued, followed, lines_by}
use Rattle.line_reader.proofs.Answers.{lines_grouped}
use Rattle.sheet_reader.specs.Positions.{fronted, front_by}

module _ (table text : List ℕ) where
  -- the values before a group, then those of the group
  abbrev then : (Place → Reading (List ℕ)) → List ℕ → Place → Reading (List ℕ)
  then rest vs p = valued (λ ws. vs ++ ws) (rest p)

  abbrev flags : Place → Reading (List ℕ)
  flags p = lines_by table flag_kinds text p

  abbrev sets : Place → Reading (List ℕ)
  sets p = followed (lines_by table set_kinds text p) (then flags)

  abbrev groups : Place → Reading (List ℕ)
  groups p = followed (lines_by table gid_kinds text p) (then sets)

  sets_grouped : (p : Place) → lines_by table (set_kinds ++ flag_kinds) text p ≡ sets p
  sets_grouped p = lines_grouped (read_value_by table) text set_kinds flag_kinds p

  groups_grouped : (p : Place) → lines_by table (gid_kinds ++ (set_kinds ++ flag_kinds)) text p ≡ groups p
  groups_grouped p =
      lines_grouped (read_value_by table) text gid_kinds (set_kinds ++ flag_kinds) p
      ∙ ap (followed (lines_by table gid_kinds text p)) (λ i vs q. valued (λ ws. vs ++ ws) (sets_grouped q i))

  pub front_grouped : front_by table text ≡ fronted (followed (lines_by table uid_kinds text (from 0)) (then groups))
  unfolding front_by sheet_kinds
  front_grouped =
      ap fronted (
      lines_grouped (read_value_by table) text uid_kinds (gid_kinds ++ (set_kinds ++ flag_kinds)) (from 0)
      ∙ ap (followed (lines_by table uid_kinds text (from 0))) (λ i vs q. valued (λ ws. vs ++ ws) (groups_grouped q i))
      )

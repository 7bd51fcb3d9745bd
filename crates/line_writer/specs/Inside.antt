-- Lines one after the other, as private functions of the crates above write them; no public contract cites these. Assumes nothing.
use Rattle.std.specs.Prelude.{ℕ, List, [], ◌∷◌}
use Rattle.format.specs.Line.{Kind}
use Rattle.hex_tables.specs.Tables.{line_text_by}
use Rattle.line_writer.specs.Positions.{written, written_to}

-- a buffer and the position past what was written
pub record Put : Type 0 where
  pub buffer : List ℕ
  pub at : ℕ

-- the lines of these kinds with these values, their hex digits by a table, from a position on, each at the position past the last
unfoldable pub lines_put : List ℕ → List Kind → List ℕ → List ℕ → ℕ → Put
lines_put table [] vs buffer at = record { buffer = buffer; at = at }
lines_put table (k ∷ ks) [] buffer at = record { buffer = buffer; at = at }
lines_put table (k ∷ ks) (v ∷ vs) buffer at = lines_put table ks vs (written buffer at (line_text_by table k v)) (written_to buffer at (line_text_by table k v))

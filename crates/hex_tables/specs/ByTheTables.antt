-- With the two tables, what is read and written by table is the format's: one statement, ByTheTables. Proved in proofs/Format.antt. Assumes nothing.
use Rattle.std.specs.Prelude.{ℕ, ◌<◌, ◌≡◌, List, length}
use Rattle.format.specs.Line.{Form, Kind, digit, hex_text, lines_text, hex_digit, read_value}
use Rattle.format.specs.Step.{read_pairs}
use Rattle.hex_tables.specs.Tables.{reading_table, writing_table, hex_digit_by, read_value_by, read_pairs_by, digit_by, hex_text_by, lines_text_by}

pub record ByTheTables : Type 0 where
  -- the table for reading has 256 entries, that for writing 16
  pub reading_length : length reading_table ≡ 256
  pub writing_length : length writing_table ≡ 16
  -- each byte is the hex digit that the format takes it for, or none, and so is any other number
  pub reading_entry : (b : ℕ) → hex_digit_by reading_table b ≡ hex_digit b
  -- each number below 16 has the format's digit
  pub writing_entry : (d : ℕ) → d < 16 → digit_by writing_table d ≡ digit d
  -- a value of any form is read as the format reads it
  pub value_read : (form : Form) (t : List ℕ) → read_value_by reading_table form t ≡ read_value form t
  -- and so are bytes of two hex digits each
  pub pairs_read : (n : ℕ) (bs t : List ℕ) → read_pairs_by reading_table n bs t ≡ read_pairs n bs t
  -- hex digits are written as the format writes them
  pub hex_written : (n v : ℕ) → hex_text_by writing_table n v ≡ hex_text n v
  -- and so are lines of any kinds
  pub lines_written : (ks : List Kind) (vs : List ℕ) → lines_text_by writing_table ks vs ≡ lines_text ks vs

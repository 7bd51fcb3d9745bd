-- With the two tables, what is read and written by table is the format's. Assumes nothing.
use native.Mathlib.Omega.{arith}
use mathlib.Core.Path.{◌≡◌, refl, ap, ◌∙◌}
use mathlib.Core.List.{List, [], ◌∷◌, ◌++◌}
use mathlib.Core.Bool.{cond, ◌&&◌}
use Prim.Native.Nat.{ℕ, zero, suc, ◌+◌, ◌*◌, ◌/◌, ◌%◌}
use lib.Dec.{ltb, eqb}
use Rattle.format.specs.Line.{Form, decimal, hex, Kind, digit, hex_text, value_text, keyed_text, line_text, lines_text, Read, read, fault, hex_digit, newline, read_hex, read_value}
use Rattle.format.specs.Step.{read_pairs}
use Rattle.hex_tables.specs.Tables.{reading_table, writing_table, read_hex_by, read_value_by, read_pairs_by, hex_text_by, value_text_by, lines_text_by}
use Rattle.hex_tables.specs.ByTheTables.{ByTheTables}
use Rattle.hex_tables.proofs.Entries.{reading_length, writing_length, reading_entry, writing_entry}

-- ---- read

hex_read : (n v : ℕ) (t : List ℕ) → read_hex_by reading_table n v t ≡ read_hex n v t
unfolding read_hex_by read_hex
hex_read zero v t = refl
hex_read (suc n) v [] = refl
hex_read (suc n) v (b ∷ t) =
    rw (reading_entry b) (ap (λ (r : Read ℕ). cond (ltb (hex_digit b) 16) r fault) (hex_read n (v * 16 + hex_digit b) t))

value_read : (form : Form) (t : List ℕ) → read_value_by reading_table form t ≡ read_value form t
value_read (decimal largest) t = refl
value_read (hex n) t = hex_read n 0 t

pairs_read : (n : ℕ) (bs t : List ℕ) → read_pairs_by reading_table n bs t ≡ read_pairs n bs t
unfolding read_pairs_by read_pairs
pairs_read zero bs t = refl
pairs_read (suc n) bs [] = refl
pairs_read (suc n) bs (b ∷ []) = refl
pairs_read (suc n) bs (b ∷ c ∷ t) =
    rw (reading_entry b, reading_entry c)
    (ap (λ (r : Read (List ℕ)). cond (eqb b newline) (read bs (c ∷ t)) (cond (ltb (hex_digit b) 16 && ltb (hex_digit c) 16) r fault))
    (pairs_read n (bs ++ ((hex_digit b * 16 + hex_digit c) ∷ [])) t))

-- ---- written

hex_written : (n v : ℕ) → hex_text_by writing_table n v ≡ hex_text n v
unfolding hex_text_by hex_text
hex_written zero v = refl
hex_written (suc n) v =
    rw (writing_entry (v % 16) (omega arith)) (ap (λ (t : List ℕ). t ++ (digit (v % 16) ∷ [])) (hex_written n (v / 16)))

value_written : (form : Form) (v : ℕ) → value_text_by writing_table form v ≡ value_text form v
value_written (decimal largest) v = refl
value_written (hex n) v = hex_written n v

lines_written : (ks : List Kind) (vs : List ℕ) → lines_text_by writing_table ks vs ≡ lines_text ks vs
unfolding lines_text_by lines_text
lines_written [] vs = refl
lines_written (k ∷ ks) [] = refl
lines_written (k ∷ ks) (v ∷ vs) =
    ap (λ (t : List ℕ). keyed_text k.key t ++ lines_text_by writing_table ks vs) (value_written k.form v)
    ∙ ap (λ (t : List ℕ). line_text k v ++ t) (lines_written ks vs)

-- ---- all of it

pub by_the_tables : ByTheTables
by_the_tables =
    record {
      reading_length = reading_length;
      writing_length = writing_length;
      reading_entry = reading_entry;
      writing_entry = writing_entry;
      value_read = value_read;
      pairs_read = pairs_read;
      hex_written = hex_written;
      lines_written = lines_written;
    }

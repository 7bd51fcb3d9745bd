-- What is written by a table is as long as the format's, whatever the table. Assumes nothing.
use native.Mathlib.Omega.{arith}
use mathlib.Core.Path.{◌≡◌, refl, sym, ap, ◌∙◌}
use mathlib.Core.List.{List, [], ◌∷◌}
use Prim.Native.Nat.{ℕ, zero, suc, ◌+◌, ◌/◌, ◌%◌}
use lib.ListN.{length, length-append}
use Rattle.format.specs.Line.{Form, decimal, hex, Kind, value_text, line_text, lines_text}
use Rattle.format.proofs.Lengths.{length_hex, length_keyed}
use Rattle.hex_tables.specs.Tables.{digit_by, hex_text_by, value_text_by, line_text_by, lines_text_by}

module _ (table : List ℕ) where
  pub length_hex_by : (n v : ℕ) → length (hex_text_by table n v) ≡ n
  unfolding hex_text_by
  length_hex_by zero v = refl
  length_hex_by (suc n) v =
      length-append (hex_text_by table n (v / 16)) (digit_by table (v % 16) ∷ []) ∙ omega (arith, length_hex_by n (v / 16))

  length_value : (form : Form) (v : ℕ) → length (value_text_by table form v) ≡ length (value_text form v)
  length_value (decimal largest) v = refl
  length_value (hex n) v = length_hex_by n v ∙ sym (length_hex n v)

  length_line : (k : Kind) (v : ℕ) → length (line_text_by table k v) ≡ length (line_text k v)
  length_line k v =
      length_keyed k.key (value_text_by table k.form v)
      ∙ ap (λ (n : ℕ). length k.key + n + 1) (length_value k.form v)
      ∙ sym (length_keyed k.key (value_text k.form v))

  pub length_lines : (ks : List Kind) (vs : List ℕ) → length (lines_text_by table ks vs) ≡ length (lines_text ks vs)
  unfolding lines_text_by lines_text
  length_lines [] vs = refl
  length_lines (k ∷ ks) [] = refl
  length_lines (k ∷ ks) (v ∷ vs) =
      length-append (line_text_by table k v) (lines_text_by table ks vs)
      ∙ rw (length_line k v, length_lines ks vs) (sym (length-append (line_text k v) (lines_text ks vs)))

-- What the front of a text tells of the text as a whole sheet. Assumes nothing.
use native.Mathlib.Omega.{arith}
use mathlib.Core.Path.{◌≡◌, refl, sym, ap, subst, ◌∙◌}
use mathlib.Core.List.{List, ◌∷◌}
use Prim.Native.Nat.{ℕ, ◌<◌, ◌≤◌}
use lib.ListN.{length, drop, drop_of_length-le, length-append}
use lib.Seq.{drop-cons}
use Rattle.std.proofs.Common.{Result, Ok, Err, true, false}
use Rattle.credentials.specs.Validity.{valid}
use Rattle.credentials.specs.declared.Credentials.{Credentials}
use Rattle.format.specs.Line.{Kind, value_text, line_text, lines_text, Read, read, fault_at}
use Rattle.format.specs.Sheet.{id_kinds, uid_kinds, gid_kinds, set_kinds, flag_kinds, sheet_kinds, sheet_text, read_front, read_sheet}
use Rattle.format.specs.declared.SheetError.TheVariants.{Malformed, Invalid}
use Rattle.format.proofs.Sheets.{front_written}
use Rattle.hex_tables.specs.Tables.{reading_table}
use Rattle.line_reader.proofs.Answers.{rest_at, some_line}
use Rattle.line_reader.specs.declared.Fault.{Fault}
use Rattle.sheet_reader.specs.declared.Front.{Front}
use Rattle.sheet_reader.specs.Positions.{placed_front, front_of, front_by}
use Rattle.sheet_reader.proofs.Format.{front_by_the_table}

-- lines are not empty, and so no sheet is
lines_some : (k : Kind) (ks : List Kind) (v : ℕ) (vs : List ℕ) → 0 < length (lines_text (k ∷ ks) (v ∷ vs))
unfolding lines_text
lines_some k ks v vs = omega (arith, length-append (line_text k v) (lines_text ks vs), some_line k.key (value_text k.form v))

sheet_some : (c : Credentials) → 0 < length (sheet_text c)
unfolding sheet_text sheet_kinds id_kinds uid_kinds
sheet_some c = lines_some _ _ _ _

-- what the front of a text tells: what was read, up to the position
pub record Told (text : List ℕ) (f : Front) : Type 0 where
  pub is : read_front text ≡ read f.credentials (drop f.end text)
  pub within : f.end ≤ length text
  pub validity : valid f.credentials ≡ f.is_valid

-- what it tells, or the fault
abbrev pub Tells : List ℕ → Result Front Fault → Type 0
Tells text (Ok f) = Told text f
Tells text (Err e) = read_front text ≡ fault_at e.line

tells : (text : List ℕ) (r : Read Credentials) → read_front text ≡ r → Tells text (placed_front text r)
tells text (read c rest) e =
    let k = front_written c text rest e in
    let s = rest_at text (sheet_text c) rest 0 k.0 (sheet_some c) in
    record { is = e ∙ ap (read c) (sym s); within = omega arith; validity = refl }
tells text (fault_at line) e = e

-- by the table for reading
pub front_tells : (table text : List ℕ) (r : Result Front Fault) → table ≡ reading_table → r ≡ front_by table text → Tells text r
unfolding front_of
front_tells table text r e h =
    subst (Tells text) (sym (h ∙ ap (λ (t : List ℕ). front_by t text) e ∙ front_by_the_table text)) (tells text (read_front text) refl)

module _ (text : List ℕ) where
  pub sheet_fault : (e : Fault) → read_front text ≡ fault_at e.line → Err (Malformed e.line) ≡ read_sheet text
  unfolding read_sheet
  sheet_fault e h = rw h

  module _ (f : Front) (t : Told text f) where
    -- text past the sheet
    pub sheet_longer : f.end < length text → Err (Malformed 16) ≡ read_sheet text
    unfolding read_sheet sheet_kinds id_kinds uid_kinds gid_kinds set_kinds flag_kinds
    sheet_longer g = rw (t.is, drop-cons text f.end 0 g)

    pub sheet_whole : length text ≤ f.end → f.is_valid ≡ true → Ok f.credentials ≡ read_sheet text
    unfolding read_sheet
    sheet_whole g v = rw (t.is, drop_of_length-le text g, t.validity, v)

    pub sheet_invalid : length text ≤ f.end → f.is_valid ≡ false → Err Invalid ≡ read_sheet text
    unfolding read_sheet
    sheet_invalid g v = rw (t.is, drop_of_length-le text g, t.validity, v)

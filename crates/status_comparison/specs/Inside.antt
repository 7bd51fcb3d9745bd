-- The line of one key at a position of a buffer, as private functions write it; no public contract cites these. Assumes nothing.
use Rattle.std.specs.Prelude.{◌≡◌, cond, List, [], ◌++◌, ℕ, ◌+◌, eqb, length}
use Rattle.std.proofs.lemmas.List.Edits.{sets}
use Rattle.format.specs.Line as F
use Rattle.format.specs.Line.{bytes, value_text}
use Rattle.status.specs.Lines.{id_form, set_form}
use Rattle.status_comparison.specs.declared.line.Form.{Form}
use Rattle.status_comparison.specs.declared.line.Form.TheVariants.{Decimal, Hex}

-- how a line's values are written
abbrev pub form_of : Form → F.Form
form_of Decimal = id_form
form_of Hex = set_form

-- the line of a key, given with the space behind it, where its two values differ, and else nothing
abbrev pub line_of : List ℕ → F.Form → ℕ → ℕ → List ℕ
line_of key form predicted found =
    cond (eqb predicted found) [] (key ++ (value_text form predicted ++ (bytes " " ++ (value_text form found ++ bytes "\n"))))

-- a text stands in place of the bytes from a position on: the buffer before and after, and the position past the text
pub record Put (old : List ℕ) (at : ℕ) (t new : List ℕ) (past : ℕ) : Type 0 where
  pub position : past ≡ at + length t
  pub buffer : new ≡ sets old at t

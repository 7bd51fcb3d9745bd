-- What private functions compute on the way, here and in the crates above; no public contract cites these. Assumes nothing.
use Rattle.std.specs.Prelude.{ℕ, zero, suc, ◌+◌, ◌-◌, ◌*◌, cond, List, [], ◌∷◌, length, drop, nat_lt, Option, Some, None, Ok, Err}
use Rattle.format.specs.Line.{Read, read, fault_at, after_key}
use Rattle.hex_tables.specs.Tables.{hex_digit_by}
use Rattle.line_reader.specs.Positions.{past_line, at_fault, Reading}
use Rattle.line_reader.specs.declared.Place.{Place}

-- ---- one line

-- the number that the first n bytes of a text make as hex digits by a table after the number v
unfoldable pub hex_of : List ℕ → ℕ → ℕ → List ℕ → Option ℕ
hex_of table zero v t = Some v
hex_of table (suc n) v [] = None
hex_of table (suc n) v (b ∷ t) = cond (nat_lt (hex_digit_by table b) 16) (hex_of table n (v * 16 + hex_digit_by table b) t) None

-- what was read, with the position of the text after it
abbrev pub placed : {A : Type 0} → List ℕ → Read A → Option (A × ℕ)
placed text (read v rest) = Some (v, length text - length rest)
placed text (fault_at line) = None

-- the line of a key and a value, by the value's reader, at a position of a text; past the end there is none
unfoldable pub line_at : {A : Type 0} → List ℕ → (List ℕ → Read A) → List ℕ → ℕ → Option (A × ℕ)
line_at key value text at = placed text (after_key key value (drop at text))

-- a place and the line that stands there
abbrev pub onward : {A : Type 0} → Place → Option (A × ℕ) → Reading A
onward p (Some r) = Ok (r.0, past_line p r.1)
onward p None = Err (at_fault p)

-- ---- lines one after the other

-- what lines come to: their values and the text after them, or the line of the fault
abbrev pub seen : {A : Type 0} → List ℕ → Reading A → Read A
seen text (Ok r) = read r.0 (drop r.1.at text)
seen text (Err e) = fault_at e.line

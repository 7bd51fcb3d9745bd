-- Where a text is read to, and the line that stands there: what the readers of one line answer. Assumes nothing.
use Rattle.std.specs.Prelude.{ℕ, ◌+◌, ◌-◌, ◌%◌, ◌^◌, cond, leb, List, [], ◌∷◌, length, drop, Result, Ok, Err}
use Rattle.format.specs.Line.{Form, hex, Kind, Read, read, fault_at, read_value, after_key}
use Rattle.hex_tables.specs.Tables.{read_value_by, read_pairs_by}
use Rattle.line_reader.specs.declared.Place.{Place}
use Rattle.line_reader.specs.declared.Fault.{Fault}

-- a position, from which lines are counted
abbrev pub from : ℕ → Place
from at = record { at = at; lines = 0 }

-- the place past a line that was read, which ends at a position; lines are counted in 32 bits
abbrev pub past_line : Place → ℕ → Place
past_line p at = record { at = at; lines = (p.lines + 1) % 2 ^ 32 }

-- a fault at a place: its line is one more than the complete correct lines before it
abbrev pub at_fault : Place → Fault
at_fault p = record { line = (p.lines + 1) % 2 ^ 32 }

-- what lines say and the place past them, or the fault
abbrev pub Reading : Type 0 → Type 0
Reading A = Result (A × Place) Fault

-- what lines say, made into another value
abbrev pub valued : {A B : Type 0} → (A → B) → Reading A → Reading B
valued f (Ok r) = Ok (f r.0, r.1)
valued f (Err e) = Err e

-- what follows lines; after a fault nothing is read
abbrev pub followed : {A B : Type 0} → Reading A → (A → Place → Reading B) → Reading B
followed (Ok r) f = f r.0 r.1
followed (Err e) f = Err e

-- what a line says and the place past it, or the fault
abbrev pub place_read : {A : Type 0} → List ℕ → Place → Read A → Reading A
place_read text p (read v rest) = Ok (v, past_line p (length text - length rest))
place_read text p (fault_at line) = Err (at_fault p)

-- the line of a key and a value at a place, by the value's reader
unfoldable pub keyed_at : {A : Type 0} → List ℕ → (List ℕ → Read A) → List ℕ → Place → Reading A
keyed_at key value text p = place_read text p (after_key key value (drop p.at text))

-- a value of some form, as the format reads it
abbrev pub number_at : List ℕ → Form → List ℕ → Place → Reading ℕ
number_at key form text p = keyed_at key (read_value form) text p

-- and with its hex digits by a table; by that for reading it is number_at
abbrev pub number_by : List ℕ → List ℕ → Form → List ℕ → Place → Reading ℕ
number_by table key form text p = keyed_at key (read_value_by table form) text p

-- so many hex digits; a number of more than 16 has no 64 bits, and its line is at fault
abbrev pub hex_by : List ℕ → List ℕ → ℕ → List ℕ → Place → Reading ℕ
hex_by table key n text p = cond (leb n 16) (number_by table key (hex n) text p) (Err (at_fault p))

-- lines of these kinds from a place on, each at the place past the last, by a reader of values of each form: their values
unfoldable pub lines_at : (Form → List ℕ → Read ℕ) → List Kind → List ℕ → Place → Reading (List ℕ)
lines_at value [] text p = Ok ([], p)
lines_at value (k ∷ ks) text p = followed (keyed_at k.key (value k.form) text p) (λ v q. valued (λ vs. v ∷ vs) (lines_at value ks text q))

-- the same with hex digits by a table
abbrev pub lines_by : List ℕ → List Kind → List ℕ → Place → Reading (List ℕ)
lines_by table ks text p = lines_at (read_value_by table) ks text p

-- the line of a key and an attribute's bytes at a place, its hex digits by a table; by that for reading it is what the format reads
abbrev pub attribute_by : List ℕ → List ℕ → List ℕ → Place → Reading (List ℕ)
attribute_by table key text p = keyed_at key (read_pairs_by table 24 []) text p

-- The lines of a status text ("The roaster's own word"; proc(5)): how a text is parted into lines, and which of them are wanted. Assumes nothing.
use Rattle.std.specs.Prelude.{ℕ, List, [], ◌∷◌, ◌++◌, Bool, false, cond, ◌||◌, eqb}
use Prim.Native.String.{String}
use Rattle.format.specs.Line.{bytes, Form, decimal, hex, value_text, newline, starts_with}
use Rattle.format.specs.Sheet.{id_values}
use Rattle.rules.specs.Fields.{number}
use Rattle.status.specs.declared.Status.{Status}

-- a byte more at the front of the first line
abbrev pub longer : ℕ → List (List ℕ) → List (List ℕ)
longer b [] = (b ∷ []) ∷ []
longer b (l ∷ ls) = (b ∷ l) ∷ ls

-- the lines of a text, without their newlines: parted at newlines, and none begins after the last newline
unfoldable pub lines_of : List ℕ → List (List ℕ)
lines_of [] = []
lines_of (b ∷ t) = cond (eqb b newline) ([] ∷ lines_of t) (longer b (lines_of t))

-- lines as a text, a newline after each
unfoldable pub text_of : List (List ℕ) → List ℕ
text_of [] = []
text_of (l ∷ ls) = l ++ (bytes "\n" ++ text_of ls)

-- a wanted line: its name with the colon, and how each of its values is written
pub record Entry : Type 0 where
  pub name : List ℕ
  pub forms : List Form

abbrev pub entry : String → List Form → Entry
entry name forms = record { name = bytes name; forms = forms }

-- an ID, a capability set and a flag are written as in a sheet
abbrev pub id_form : Form
id_form = decimal 4294967295

abbrev pub set_form : Form
set_form = hex 16

abbrev pub flag_form : Form
flag_form = decimal 1

-- the line of the four user IDs, real, effective, saved, filesystem; that of a set; that of no-new-privs
abbrev pub ids_entry : Entry
ids_entry = entry "Uid:" (id_form ∷ id_form ∷ id_form ∷ id_form ∷ [])

abbrev pub set_entry : String → Entry
set_entry name = entry name (set_form ∷ [])

abbrev pub flag_entry : Entry
flag_entry = entry "NoNewPrivs:" (flag_form ∷ [])

-- the seven wanted lines, in the order in which they are due
unfoldable pub entries : List Entry
entries =
    ids_entry ∷
    set_entry "CapInh:" ∷
    set_entry "CapPrm:" ∷
    set_entry "CapEff:" ∷
    set_entry "CapBnd:" ∷
    set_entry "CapAmb:" ∷
    flag_entry ∷
    []

-- a line begins with the name of one of these, the colon included
unfoldable pub begins_one : List Entry → List ℕ → Bool
begins_one [] l = false
begins_one (e ∷ es) l = starts_with e.name l || begins_one es l

-- a line is wanted; every other is passed over, whatever it holds
unfoldable pub wanted : List ℕ → Bool
wanted l = begins_one entries l

-- the wanted ones of these lines
unfoldable pub wanted_of : List (List ℕ) → List (List ℕ)
wanted_of [] = []
wanted_of (l ∷ ls) = cond (wanted l) (l ∷ wanted_of ls) (wanted_of ls)

-- ---- written

-- each value after one tab
unfoldable pub values_text : List Form → List ℕ → List ℕ
values_text [] vs = []
values_text (f ∷ fs) [] = []
values_text (f ∷ fs) (v ∷ vs) = bytes "\t" ++ (value_text f v ++ values_text fs vs)

-- a wanted line, without its newline
abbrev pub entry_text : Entry → List ℕ → List ℕ
entry_text e vs = e.name ++ values_text e.forms vs

-- the seven lines of what a thread holds; the sets in the order of proc(5), inheritable before permitted
unfoldable pub status_lines : Status → List (List ℕ)
status_lines s =
    entry_text ids_entry (id_values s.uids) ∷
    entry_text (set_entry "CapInh:") (s.sets.inheritable ∷ []) ∷
    entry_text (set_entry "CapPrm:") (s.sets.permitted ∷ []) ∷
    entry_text (set_entry "CapEff:") (s.sets.effective ∷ []) ∷
    entry_text (set_entry "CapBnd:") (s.sets.bounding ∷ []) ∷
    entry_text (set_entry "CapAmb:") (s.sets.ambient ∷ []) ∷
    entry_text flag_entry (number s.nnp ∷ []) ∷
    []

-- the status text of what a thread holds: the seven lines
unfoldable pub status_text : Status → List ℕ
status_text s = text_of (status_lines s)

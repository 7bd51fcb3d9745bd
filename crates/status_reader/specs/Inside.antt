-- How the answers of private functions stand for what is read; no public contract cites these. Assumes nothing.
use Rattle.std.specs.Prelude.{◌≡◌, ℕ, ◌+◌, List, [], ◌∷◌, ◌++◌, Option, Some, None, Result, Ok, Err}
use Rattle.credentials.specs.declared.Ids.{Ids}
use Rattle.format.specs.Line.{Form, Read, read, fault_at, fault, below, next, mapped}
use Rattle.format.specs.Sheet.{id_values}
use Rattle.status.specs.declared.ReadError.{ReadError}
use Rattle.status.specs.declared.ReadError.TheVariants.{Malformed}
use Rattle.status.specs.Lines.{lines_of, Entry}
use Rattle.status.specs.Reading.{tab, up_to, since, value_of, read_values, read_entry, read_due, read_dues}

-- ---- one line

-- a value that a part of a line is, or none
abbrev pub value_read : Option ℕ → Read ℕ
value_read (Some v) = read v []
value_read None = fault

-- what is read of a line as a whole, by the values that it is
abbrev pub whole_read : {A : Type 0} → (A → List ℕ) → Option A → Read (List ℕ)
whole_read values (Some a) = read (values a) []
whole_read values None = fault

-- one value
abbrev pub one : ℕ → List ℕ
one v = v ∷ []

abbrev pub line_read : Option ℕ → Read (List ℕ)
line_read r = whole_read one r

-- four IDs
abbrev pub ids_read : Option Ids → Read (List ℕ)
ids_read r = whole_read id_values r

-- values behind a tab, of which the first has a form and the others have these
abbrev pub behind_tab : Form → List Form → List ℕ → Read (List ℕ)
behind_tab f fs t = next 0 (value_of f (up_to tab t)) (λ v rest. mapped (λ vs. v ∷ vs) (read_values fs (since tab t)))

-- a value, and the values behind the tab that ends it
abbrev pub first_read : ℕ → List ℕ → Form → List Form → Read (List ℕ)
first_read v t f fs = mapped (λ vs. v ∷ vs) (behind_tab f fs t)

-- ---- lines

-- what is read of a text, before which so many lines stand, while these are due
unfoldable pub from : List ℕ → ℕ → List Entry → Read (List ℕ)
from text lines es = below lines (read_dues es (lines_of text))

-- no wanted line is left in a text before which so many lines stand; with its lines they are so many
abbrev pub NoneLeft : List ℕ → ℕ → ℕ → Type 0
NoneLeft text lines all = (es : List Entry) → from text lines es ≡ below all (read_dues es [])

-- l is the next wanted line, the rest stands behind it, and with l and those passed over there are so many lines
abbrev pub NextIs : List ℕ → ℕ → List ℕ → List ℕ → ℕ → Type 0
NextIs text lines l rest passed =
    (n : ℕ) × (passed ≡ n + 1) × ((es : List Entry) → from text lines es ≡ below n (read_due es l (λ due. read_dues due (lines_of rest))))

-- what a reader returns of any line is what is read of it as this entry's
abbrev pub ReadsLine : {A : Type 0} → (List ℕ → Option A → Type 0) → (A → List ℕ) → Entry → Type 0
ReadsLine Returns values e = (l : List ℕ) (r : Option _) → Returns l r → whole_read values r ≡ read_entry e l

-- what was read of the line that is due, and what is read behind it; or the line of the fault
abbrev pub due_read : {A : Type 0} → (A → List ℕ) → Result A ReadError → List ℕ → ℕ → List Entry → Read (List ℕ)
due_read values (Ok a) rest passed es = mapped (λ vs. values a ++ vs) (from rest passed es)
due_read values (Err (Malformed line)) rest passed es = fault_at line

abbrev pub DueAhead : {A : Type 0} → (A → List ℕ) → Result A ReadError → List ℕ → ℕ → Entry → List ℕ → ℕ → Type 0
DueAhead values r text lines e rest passed = (es : List Entry) → from text lines (e ∷ es) ≡ due_read values r rest passed es

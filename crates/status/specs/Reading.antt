-- What a status text is read as, for any bytes ("The roaster's own word"): what it shows, or the line of its first fault. Assumes nothing.
use Rattle.std.specs.Prelude.{ℕ, List, [], ◌∷◌, ◌++◌, cond, eqb, get_or, Result, Ok, Err}
use Rattle.format.specs.Line.{bytes, Form, Read, read, fault_at, fault, below, next, mapped, read_value, after_key}
use Rattle.status.specs.declared.Status.{Status}
use Rattle.status.specs.declared.ReadError.{ReadError}
use Rattle.status.specs.declared.ReadError.TheVariants.{Malformed}
use Rattle.status.specs.Lines.{lines_of, Entry, entries, wanted}

-- ---- one line

-- the byte between values
abbrev pub tab : ℕ
tab = 9

-- what stands before the first of a byte, or all
unfoldable pub up_to : ℕ → List ℕ → List ℕ
up_to s [] = []
up_to s (b ∷ t) = cond (eqb b s) [] (b ∷ up_to s t)

-- what stands from the first of a byte on, or nothing
unfoldable pub since : ℕ → List ℕ → List ℕ
since s [] = []
since s (b ∷ t) = cond (eqb b s) (b ∷ t) (since s t)

-- what was read, and no text after it
abbrev pub ended : {A : Type 0} → Read A → Read A
ended (read v []) = read v []
ended (read v (b ∷ t)) = fault
ended (fault_at line) = fault_at line

-- a value in its form and nothing more: what the sheet's reader takes for it where a newline ends it
unfoldable pub value_of : Form → List ℕ → Read ℕ
value_of form t = ended (read_value form (t ++ bytes "\n"))

-- values in these forms, each after one tab and up to the next tab or the end; none missing and none further
unfoldable pub read_values : List Form → List ℕ → Read (List ℕ)
read_values [] [] = read [] []
read_values [] (b ∷ t) = fault
read_values (f ∷ fs) [] = fault
read_values (f ∷ fs) (b ∷ t) =
    cond (eqb b tab) (next 0 (value_of f (up_to tab t)) (λ v rest. mapped (λ vs. v ∷ vs) (read_values fs (since tab t)))) fault

-- the values of a wanted line, where it is the one due and well-formed
abbrev pub read_entry : Entry → List ℕ → Read (List ℕ)
read_entry e l = after_key e.name (read_values e.forms) l

-- ---- lines

-- a wanted line and what is read behind it: it is a fault where it is malformed, or not the next one due, or none is due
abbrev pub read_due : List Entry → List ℕ → (List Entry → Read (List ℕ)) → Read (List ℕ)
read_due [] l behind = fault
read_due (e ∷ es) l behind = next 1 (read_entry e l) (λ vs rest. mapped (λ ws. vs ++ ws) (behind es))

-- the values of lines while these are due: other lines are passed over, and what is due at the end is a fault at the line after the last
unfoldable pub read_dues : List Entry → List (List ℕ) → Read (List ℕ)
read_dues [] [] = read [] []
read_dues (e ∷ es) [] = fault
read_dues es (l ∷ ls) = cond (wanted l) (read_due es l (λ due. read_dues due ls)) (below 1 (read_dues es ls))

-- ---- the text

-- what the values of the seven lines are, in the order of the lines
abbrev pub status_of : List ℕ → Status
status_of vs =
    record {
      uids = record { real = get_or vs 0 0; effective = get_or vs 1 0; saved = get_or vs 2 0; filesystem = get_or vs 3 0 };
      sets = record { permitted = get_or vs 5 0; inheritable = get_or vs 4 0; effective = get_or vs 6 0; bounding = get_or vs 7 0; ambient = get_or vs 8 0 };
      nnp = eqb (get_or vs 9 0) 1;
    }

abbrev pub shown : Read (List ℕ) → Result Status ReadError
shown (read vs rest) = Ok (status_of vs)
shown (fault_at line) = Err (Malformed line)

-- the reader's answer
unfoldable pub read_status : List ℕ → Result Status ReadError
read_status t = shown (read_dues entries (lines_of t))

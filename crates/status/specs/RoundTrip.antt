-- Written and read, each from the other: the statement, which proofs/RoundTrip.antt proves. Assumes nothing.
use Rattle.std.specs.Prelude.{ℕ, ◌<◌, ◌^◌, ◌≡◌, true, false, List, [], ◌∷◌, ◌++◌, eqb, Ok}
use Rattle.credentials.specs.Validity.{valid}
use Rattle.credentials.specs.declared.Credentials.{Credentials}
use Rattle.format.specs.RoundTrip.{WritableIds}
use Rattle.format.specs.Line.{newline}
use Rattle.format.specs.Report.{report}
use Rattle.status.specs.declared.Status.{Status}
use Rattle.status.specs.Lines.{lines_of, text_of, wanted_of, status_lines, status_text}
use Rattle.status.specs.Reading.{read_status}
use Rattle.status.specs.Comparing.{shown_of, last_line, compared}

-- what a status text can show, valid or not: IDs up to 4294967295, sets of 64 bits
pub record Writable (s : Status) : Type 0 where
  pub uids : WritableIds s.uids
  pub permitted : s.sets.permitted < 2 ^ 64
  pub inheritable : s.sets.inheritable < 2 ^ 64
  pub effective : s.sets.effective < 2 ^ 64
  pub bounding : s.sets.bounding < 2 ^ 64
  pub ambient : s.sets.ambient < 2 ^ 64

-- a byte does not stand in a text
unfoldable pub Lacks : ℕ → List ℕ → Type 0
Lacks s [] = Unit
Lacks s (b ∷ t) = (eqb b s ≡ false) × Lacks s t

-- no newline stands in a line
unfoldable pub AreLines : List (List ℕ) → Type 0
AreLines [] = Unit
AreLines (l ∷ ls) = Lacks newline l × AreLines ls

pub record RoundTrip : Type 0 where
  -- a text whose wanted lines are those written for something is read as it, whatever other lines stand before, between and after them
  pub written_read : (text : List ℕ) (s : Status) → Writable s → wanted_of (lines_of text) ≡ status_lines s → read_status text ≡ Ok s
  -- the written text is one of these
  pub written_wanted : (s : Status) → wanted_of (lines_of (status_text s)) ≡ status_lines s
  -- and the wanted lines of a text that is read are those written for what it is read as
  pub read_written : (text : List ℕ) (s : Status) → read_status text ≡ Ok s → (wanted_of (lines_of text) ≡ status_lines s) × Writable s
  -- any lines, without newlines in them, are the lines of a text; and so they are where the newline after the last, which is not empty, is missing
  pub any_lines : (ls : List (List ℕ)) → AreLines ls → lines_of (text_of ls) ≡ ls
  pub any_last_line : (ls : List (List ℕ)) (b : ℕ) (l : List ℕ) → AreLines ls → Lacks newline (b ∷ l) → lines_of (text_of ls ++ (b ∷ l)) ≡ ls ++ ((b ∷ l) ∷ [])
  -- the text written for valid credentials, with any other lines, gives the last line alone
  pub nothing_differs : (text : List ℕ) (c : Credentials) → valid c ≡ true → wanted_of (lines_of text) ≡ status_lines (shown_of c)
      → compared text c ≡ report last_line

-- A status text laid beside predicted credentials ("The roaster's own word"): the list of what differs, the answer, the buffer. Assumes nothing.
use Rattle.std.specs.Prelude.{ℕ, List, [], ◌∷◌, ◌++◌, cond, eqb, leb, length, Result, Ok, Err}
use Rattle.credentials.specs.Validity.{valid}
use Rattle.credentials.specs.declared.Credentials.{Credentials}
use Rattle.rules.specs.Fields.{number}
use Rattle.format.specs.Line.{bytes, Kind, kind, value_text}
use Rattle.format.specs.Sheet.{id_values, set_values}
use Rattle.format.specs.Report.{Verdict, report, malformed, invalid}
use Rattle.status.specs.declared.Status.{Status}
use Rattle.status.specs.declared.ReadError.{ReadError}
use Rattle.status.specs.declared.ReadError.TheVariants as Unread
use Rattle.status.specs.declared.CompareError.{CompareError}
use Rattle.status.specs.declared.CompareError.TheVariants.{Malformed, Invalid, NoRoom}
use Rattle.status.specs.Lines.{id_form, set_form, flag_form}
use Rattle.status.specs.Reading.{read_status}

-- ---- what is compared

-- the user IDs, the capability sets and no-new-privs, by their keys in a sheet; Listed.antt says that the keys and forms are the sheet's
unfoldable pub id_keys : List Kind
id_keys = kind "ruid" id_form ∷ kind "euid" id_form ∷ kind "suid" id_form ∷ kind "fsuid" id_form ∷ []

unfoldable pub set_keys : List Kind
set_keys =
    kind "permitted" set_form ∷
    kind "inheritable" set_form ∷
    kind "effective" set_form ∷
    kind "bounding" set_form ∷
    kind "ambient" set_form ∷
    []

unfoldable pub flag_keys : List Kind
flag_keys = kind "nnp" flag_form ∷ []

-- the ten keys that are compared, in sheet order
unfoldable pub keys : List Kind
keys = id_keys ++ (set_keys ++ flag_keys)

-- their values
abbrev pub values_of : Status → List ℕ
values_of s = id_values s.uids ++ (set_values s.sets ++ (number s.nnp ∷ []))

-- what of credentials a status text shows
abbrev pub shown_of : Credentials → Status
shown_of c = record { uids = c.uids; sets = c.sets; nnp = c.nnp }

-- ---- the list

-- key, predicted value, found value, one space between, and a newline
unfoldable pub difference_text : Kind → ℕ → ℕ → List ℕ
difference_text k predicted found =
    k.key ++ (bytes " " ++ (value_text k.form predicted ++ (bytes " " ++ (value_text k.form found ++ bytes "\n"))))

-- a line for each of these keys whose values differ, in this order
unfoldable pub differences : List Kind → List ℕ → List ℕ → List ℕ
differences [] ps fs = []
differences (k ∷ ks) [] fs = []
differences (k ∷ ks) (p ∷ ps) [] = []
differences (k ∷ ks) (p ∷ ps) (f ∷ fs) = cond (eqb p f) (differences ks ps fs) (difference_text k p f ++ differences ks ps fs)

-- what differs between what is predicted and what is found
unfoldable pub differing : Status → Status → List ℕ
differing predicted found = differences keys (values_of predicted) (values_of found)

-- the last line, always
unfoldable pub last_line : List ℕ
last_line = bytes "not compared: securebits, group IDs\n"

-- the list as a whole
unfoldable pub list_text : Status → Status → List ℕ
list_text predicted found = differing predicted found ++ last_line

-- ---- the answer

-- what is found, laid beside credentials: 72 where these are not valid
unfoldable pub laid : Status → Credentials → Verdict
laid found c = cond (valid c) (report (list_text (shown_of c) found)) invalid

-- 70 comes before it
abbrev pub beside : Result Status ReadError → Credentials → Verdict
beside (Ok found) c = laid found c
beside (Err (Unread.Malformed line)) c = malformed line

-- what a status text and predicted credentials come to, before the buffer is looked at
unfoldable pub compared : List ℕ → Credentials → Verdict
compared text c = beside (read_status text) c

-- the list's length, or why there is none, with a buffer of some length: 28 comes last; the buffer afterwards is `buffer` of format/specs/Report.antt
abbrev pub comparison : Verdict → ℕ → Result ℕ CompareError
comparison (report t) room = cond (leb (length t) room) (Ok (length t)) (Err NoRoom)
comparison (malformed line) room = Err (Malformed line)
comparison invalid room = Err Invalid

-- the number of a refusal
abbrev pub code : CompareError → ℕ
code (Malformed line) = 70
code Invalid = 72
code NoRoom = 28

-- and the line of its fault, 0 but for 70
abbrev pub fault_line : CompareError → ℕ
fault_line (Malformed line) = line
fault_line Invalid = 0
fault_line NoRoom = 0

-- a text that is not read is refused at its line
abbrev pub unread : ReadError → CompareError
unread (Unread.Malformed line) = Malformed line

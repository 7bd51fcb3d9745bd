-- What the readers and writers of sheets, attributes and sets in names, and the comparison of a status text, give across the C interface: one number, and what a
-- lent buffer holds afterwards. Assumes nothing.
use Rattle.std.specs.Prelude.{ℕ, ◌+◌, ◌*◌, Bool, cond, ◌&&◌, List, [], ◌∷◌, ◌++◌, Option, Some, None, Result, Ok, Err, eqb, leb, ltb, length, get_or, drop}
use Rattle.attribute.specs.Reader.{read_code}
use Rattle.attribute.specs.Writer.{written, buffer_after}
use Rattle.attribute.specs.declared.FileCapabilities.{FileCapabilities}
use Rattle.attribute.specs.declared.ReadError.{ReadError}
use Rattle.attribute.specs.declared.WriteError.{WriteError}
use Rattle.attribute.specs.declared.WriteError.TheVariants.{OutOfRange}
use Rattle.credentials.specs.declared.Credentials.{Credentials}
use Rattle.rules.specs.Fields.{number}
use Rattle.names.specs.declared.Sets.{Sets}
use Rattle.names.specs.declared.ReadError.TheVariants as NV
use Rattle.names.specs.Reading as N
use Rattle.format.specs.declared.SheetError.{SheetError}
use Rattle.format.specs.declared.SheetError.TheVariants.{Malformed, Invalid}
use Rattle.format.specs.declared.SheetWriteError.{SheetWriteError}
use Rattle.format.specs.declared.SheetWriteError.TheVariants as unwritten
use Rattle.format.specs.Sheet.{sheet_kinds, sheet_values, credentials_of, sheet_answer, sheet_buffer}
use Rattle.format.specs.Report.{buffer}
use Rattle.status.specs.declared.Status.{Status}
use Rattle.status.specs.declared.ReadError as StatusError
use Rattle.status.specs.declared.ReadError.TheVariants as Unread
use Rattle.status.specs.declared.CompareError.{CompareError}
use Rattle.status.specs.Comparing.{laid, comparison, code}

-- the number that comes back: the code times 4294967296, and a line, a place, a length or a count
unfoldable pub joined : ℕ → ℕ → ℕ
joined code low = code * 4294967296 + low

-- an answer as that number: how much was written, or the refusal's code
abbrev pub answered : {E : Type 0} → (E → ℕ) → Result ℕ E → ℕ
answered code (Ok n) = joined 0 n
answered code (Err e) = joined (code e) 0

-- ---- what a reader gives: numbers at the front of a lent slice

-- 28 where there is no room for them, else how many there are
unfoldable pub given_number : List ℕ → ℕ → ℕ
given_number vs room = cond (leb (length vs) room) (joined 0 (length vs)) (joined 28 0)

-- the slice afterwards: the numbers and past them what was there; without room, as it was
unfoldable pub given_in : List ℕ → List ℕ → List ℕ
given_in vs old = cond (leb (length vs) (length old)) (vs ++ drop (length vs) old) old

-- ---- the sheet

-- the sheet reader: 70 with its line, 72, then 28; done, the values of the sheet's lines
abbrev pub sheet_number : Result Credentials SheetError → ℕ → ℕ
sheet_number (Ok c) room = given_number (sheet_values c) room
sheet_number (Err (Malformed line)) room = joined 70 line
sheet_number (Err Invalid) room = joined 72 0

abbrev pub sheet_given : Result Credentials SheetError → List ℕ → List ℕ
sheet_given (Ok c) old = given_in (sheet_values c) old
sheet_given (Err e) old = old

-- numbers are the values of credentials: one to each line of a sheet, and no-new-privs, the last, is 0 or 1
unfoldable pub are_values : List ℕ → Bool
are_values vs = eqb (length vs) (length sheet_kinds) && leb (get_or vs 14 0) 1

-- the credentials that they are the values of, valid or not
unfoldable pub given_credentials : List ℕ → Option Credentials
given_credentials vs = cond (are_values vs) (Some (credentials_of vs)) None

-- the sheet writer: 72 for numbers that are the values of no credentials, too; then as for their credentials
unfoldable pub values_written : List ℕ → ℕ → Result ℕ SheetWriteError
values_written vs room = cond (are_values vs) (sheet_answer (credentials_of vs) room) (Err unwritten.Invalid)

unfoldable pub values_buffer : List ℕ → List ℕ → List ℕ
values_buffer vs old = cond (are_values vs) (sheet_buffer (credentials_of vs) old) old

-- ---- the attribute

-- what a file's capabilities are as numbers: whether an attribute is attached, its two sets, its effective bit
abbrev pub file_values : FileCapabilities → List ℕ
file_values f = number f.attached ∷ f.permitted ∷ f.inheritable ∷ number f.effective ∷ []

-- the attribute reader: 60, then 28; done, those numbers
abbrev pub file_number : Result FileCapabilities ReadError → ℕ → ℕ
file_number (Ok f) room = given_number (file_values f) room
file_number (Err e) room = joined (read_code e) 0

abbrev pub file_given : Result FileCapabilities ReadError → List ℕ → List ℕ
file_given (Ok f) old = given_in (file_values f) old
file_given (Err e) old = old

-- the attribute writer: 22 for an effective bit that is neither 0 nor 1, too
unfoldable pub bit_written : ℕ → ℕ → ℕ → ℕ → Result ℕ WriteError
bit_written p i e room = cond (leb e 1) (written p i room) (Err OutOfRange)

unfoldable pub bit_buffer : ℕ → ℕ → ℕ → List ℕ → List ℕ
bit_buffer p i e old = cond (leb e 1) (buffer_after p i (eqb e 1) old) old

-- ---- sets in names

-- three sets of numbers, and the numbers of three sets: permitted, inheritable, effective
abbrev pub named_sets : ℕ → ℕ → ℕ → Sets
named_sets p i e = record { permitted = p; inheritable = i; effective = e }

abbrev pub named_values : Sets → List ℕ
named_values s = s.permitted ∷ s.inheritable ∷ s.effective ∷ []

-- a place or a line in the number's low half, which ends at 4294967295: that for any further one, too
unfoldable pub low_place : ℕ → ℕ
low_place place = cond (ltb place 4294967295) place 4294967295

-- the reader: 70 with its place, then 28; done, the three sets
abbrev pub names_number : N.Reading → ℕ → ℕ
names_number (Ok s) room = given_number (named_values s) room
names_number (Err (NV.Malformed place)) room = joined 70 (low_place place)

abbrev pub names_given : N.Reading → List ℕ → List ℕ
names_given (Ok s) old = given_in (named_values s) old
names_given (Err (NV.Malformed place)) old = old

-- ---- a status text beside a sheet

-- the comparison's code and length; where what was found is laid beside credentials there is no line
abbrev pub list_number : Result ℕ CompareError → ℕ
list_number (Ok n) = joined 0 n
list_number (Err refusal) = joined (code refusal) 0

-- 70 with the status text's line, which is at least 1; 70 with 0 for a sheet that is malformed; 72, then 28; done, the list's length
abbrev pub status_number : Result Status StatusError.ReadError → Result Credentials SheetError → ℕ → ℕ
status_number (Err (Unread.Malformed line)) sheet room = joined 70 (low_place line)
status_number (Ok found) (Err (Malformed line)) room = joined 70 0
status_number (Ok found) (Err Invalid) room = joined 72 0
status_number (Ok found) (Ok c) room = list_number (comparison (laid found c) room)

-- the buffer afterwards: the list and past it what was there; where it is refused, as it was
abbrev pub status_list : Result Status StatusError.ReadError → Result Credentials SheetError → List ℕ → List ℕ
status_list (Err (Unread.Malformed line)) sheet old = old
status_list (Ok found) (Err e) old = old
status_list (Ok found) (Ok c) old = buffer (laid found c) old

-- The credential sheet ("Sheet, plan and report"), and what its reader and its writer answer ("What comes back"). Assumes nothing.
use Rattle.std.specs.Prelude.{ℕ, ◌+◌, List, [], ◌∷◌, ◌++◌, Bool, cond, ◌&&◌, leb, eqb, length, get_or, drop, Result, Ok, Err}
use Prim.Native.String.{String}
use Rattle.credentials.specs.Validity.{valid}
use Rattle.credentials.specs.declared.Ids.{Ids}
use Rattle.credentials.specs.declared.Sets.{Sets}
use Rattle.credentials.specs.declared.Credentials.{Credentials}
use Rattle.rules.specs.Fields.{number}
use Rattle.format.specs.declared.SheetError.{SheetError}
use Rattle.format.specs.declared.SheetError.TheVariants.{Malformed, Invalid}
use Rattle.format.specs.declared.SheetWriteError.{SheetWriteError}
use Rattle.format.specs.declared.SheetWriteError.TheVariants as unwritten
use Rattle.format.specs.Line.{bytes, Kind, kind, decimal, hex, lines_text, Read, read, fault_at, mapped, read_lines}

-- an ID's line: decimal up to 4294967295; the letter in its key is that of users or of groups
abbrev id_kind : String → List ℕ → Kind
id_kind which letter = record { key = bytes which ++ (letter ++ bytes "id="); form = decimal 4294967295 }

-- a real, an effective, a saved and a filesystem ID
unfoldable pub id_kinds : List ℕ → List Kind
id_kinds letter = id_kind "r" letter ∷ id_kind "e" letter ∷ id_kind "s" letter ∷ id_kind "fs" letter ∷ []

-- the user IDs: ruid, euid, suid, fsuid
unfoldable pub uid_kinds : List Kind
uid_kinds = id_kinds (bytes "u")

-- the group IDs: rgid, egid, sgid, fsgid
unfoldable pub gid_kinds : List Kind
gid_kinds = id_kinds (bytes "g")

-- the capability sets: 16 hex digits
unfoldable pub set_kinds : List Kind
set_kinds =
    kind "permitted=" (hex 16) ∷
    kind "inheritable=" (hex 16) ∷
    kind "effective=" (hex 16) ∷
    kind "bounding=" (hex 16) ∷
    kind "ambient=" (hex 16) ∷
    []

-- securebits, 2 hex digits, and no-new-privs, 0 or 1
unfoldable pub flag_kinds : List Kind
flag_kinds = kind "securebits=" (hex 2) ∷ kind "nnp=" (decimal 1) ∷ []

-- the fifteen lines of a sheet, in order
unfoldable pub sheet_kinds : List Kind
sheet_kinds = uid_kinds ++ (gid_kinds ++ (set_kinds ++ flag_kinds))

-- ---- written

-- the values of a sheet's lines: user or group IDs, the capability sets, securebits and no-new-privs
abbrev pub id_values : Ids → List ℕ
id_values u = u.real ∷ u.effective ∷ u.saved ∷ u.filesystem ∷ []

abbrev pub set_values : Sets → List ℕ
set_values s = s.permitted ∷ s.inheritable ∷ s.effective ∷ s.bounding ∷ s.ambient ∷ []

abbrev pub flag_values : ℕ → Bool → List ℕ
flag_values securebits nnp = securebits ∷ number nnp ∷ []

abbrev pub sheet_values : Credentials → List ℕ
sheet_values c = id_values c.uids ++ (id_values c.gids ++ (set_values c.sets ++ flag_values c.securebits c.nnp))

-- the sheet of credentials
unfoldable pub sheet_text : Credentials → List ℕ
sheet_text c = lines_text sheet_kinds (sheet_values c)

-- ---- read

-- the credentials of a sheet's values
abbrev pub credentials_of : List ℕ → Credentials
credentials_of vs =
    record {
      uids = record { real = get_or vs 0 0; effective = get_or vs 1 0; saved = get_or vs 2 0; filesystem = get_or vs 3 0 };
      gids = record { real = get_or vs 4 0; effective = get_or vs 5 0; saved = get_or vs 6 0; filesystem = get_or vs 7 0 };
      sets = record { permitted = get_or vs 8 0; inheritable = get_or vs 9 0; effective = get_or vs 10 0; bounding = get_or vs 11 0; ambient = get_or vs 12 0 };
      securebits = get_or vs 13 0;
      nnp = eqb (get_or vs 14 0) 1;
    }

-- a text that begins with a sheet
unfoldable pub read_front : List ℕ → Read Credentials
read_front t = mapped credentials_of (read_lines sheet_kinds t)

-- text past the sheet is a fault at the next line; then 72 for credentials that are not valid
abbrev pub whole_sheet : Read Credentials → Result Credentials SheetError
whole_sheet (read c []) = cond (valid c) (Ok c) (Err Invalid)
whole_sheet (read c (b ∷ t)) = Err (Malformed (length sheet_kinds + 1))
whole_sheet (fault_at line) = Err (Malformed line)

-- the sheet reader's answer
unfoldable pub read_sheet : List ℕ → Result Credentials SheetError
read_sheet t = whole_sheet (read_front t)

-- "What comes back": the number of each refusal
abbrev pub sheet_read_code : SheetError → ℕ
sheet_read_code (Malformed line) = 70
sheet_read_code Invalid = 72

-- the number of each case, and its line, 0 but for 70
abbrev pub sheet_code : Result Credentials SheetError → ℕ
sheet_code (Ok c) = 0
sheet_code (Err e) = sheet_read_code e

abbrev pub sheet_line : Result Credentials SheetError → ℕ
sheet_line (Ok c) = 0
sheet_line (Err (Malformed line)) = line
sheet_line (Err Invalid) = 0

-- ---- the sheet writer

-- the number of each refusal
abbrev pub sheet_write_code : SheetWriteError → ℕ
sheet_write_code unwritten.Invalid = 72
sheet_write_code unwritten.NoRoom = 28

-- its answer in a buffer of some length: not valid, then no room; or the sheet's length
unfoldable pub sheet_answer : Credentials → ℕ → Result ℕ SheetWriteError
sheet_answer c room =
    cond (valid c) (cond (leb (length (sheet_text c)) room) (Ok (length (sheet_text c))) (Err unwritten.NoRoom)) (Err unwritten.Invalid)

-- the buffer afterwards: the sheet and past it what was there; where it is refused, as it was
unfoldable pub sheet_buffer : Credentials → List ℕ → List ℕ
sheet_buffer c old =
    cond (valid c && leb (length (sheet_text c)) (length old)) (sheet_text c ++ drop (length (sheet_text c)) old) old

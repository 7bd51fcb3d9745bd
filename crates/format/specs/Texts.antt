-- Whole texts and what they come to, where the paper says so: the report of case 2, faults with their lines, answers and buffers.
-- proofs/Computed.antt proves the statement at the end by computing both sides; host/tests/texts.py runs further texts. Assumes nothing.
use Rattle.std.specs.Prelude.{ℕ, zero, suc, ◌+◌, ◌*◌, ◌≡◌, false, List, [], ◌∷◌, ◌++◌, replicate, Err}
use Rattle.credentials.specs.declared.Credentials.{Credentials}
use Rattle.format.specs.declared.SheetError.TheVariants.{Malformed, Invalid}
use Rattle.format.specs.declared.SheetWriteError.TheVariants as unwritten
use Rattle.format.specs.Line.{bytes}
use Rattle.format.specs.Sheet.{read_sheet, sheet_read_code, sheet_write_code, sheet_answer, sheet_buffer}
use Rattle.format.specs.Report.{report, malformed, invalid, verdict, outcome, buffer, c_number}

-- ---- parts of the texts

-- the start of case 2: user and group IDs 1000, P = I = E = A = {13}, B full
abbrev pub start : List ℕ
start =
    bytes "ruid=1000\neuid=1000\nsuid=1000\nfsuid=1000\nrgid=1000\negid=1000\nsgid=1000\nfsgid=1000\n"
    ++ bytes "permitted=0000000000002000\ninheritable=0000000000002000\neffective=0000000000002000\n"
    ++ bytes "bounding=000001ffffffffff\nambient=0000000000002000\nsecurebits=00\nnnp=0\n"

-- the same with a real ID of 4294967295, which can be written and is not valid
abbrev pub no_id : List ℕ
no_id =
    bytes "ruid=4294967295\neuid=1000\nsuid=1000\nfsuid=1000\nrgid=1000\negid=1000\nsgid=1000\nfsgid=1000\n"
    ++ bytes "permitted=0000000000002000\ninheritable=0000000000002000\neffective=0000000000002000\n"
    ++ bytes "bounding=000001ffffffffff\nambient=0000000000002000\nsecurebits=00\nnnp=0\n"

-- a plain launch without its attribute's line
abbrev pub launch : List ℕ
launch = bytes "call=1\na=0000000000000000\nb=0000000000000000\nc=0000000000000000\n"

-- a plain launch
abbrev pub plain : List ℕ
plain = launch ++ bytes "attr=\n"

-- a text n times
unfoldable pub times : ℕ → List ℕ → List ℕ
times zero t = []
times (suc n) t = t ++ times n t

-- ---- the statement

-- credentials of case 2's start, but for the real ID
abbrev pub held : ℕ → Credentials
held real =
    record {
      uids = record { real = real; effective = 1000; saved = 1000; filesystem = 1000 };
      gids = record { real = 1000; effective = 1000; saved = 1000; filesystem = 1000 };
      sets = record { permitted = 0x2000; inheritable = 0x2000; effective = 0x2000; bounding = 0x1ffffffffff; ambient = 0x2000 };
      securebits = 0;
      nnp = false;
    }

-- a buffer of n bytes, each 7
abbrev pub sevens : ℕ → List ℕ
sevens n = replicate n 7

-- the C interface's number for a plan's text and a buffer of some length
abbrev pub number_of : List ℕ → ℕ → ℕ
number_of text room = c_number (outcome (verdict text) room)

pub record TextsHold : Type 0 where
  -- the whole report of case 2, as the paper prints it
  pub case_2 : verdict (start ++ plain)
      ≡ report
      (bytes "code=0\nvalue=0000000000000000\ncause=0\n"
      ++ bytes "ruid=1000\neuid=1000\nsuid=1000\nfsuid=1000\nrgid=1000\negid=1000\nsgid=1000\nfsgid=1000\n"
      ++ bytes "permitted=0000000000002000\ninheritable=0000000000002000\neffective=0000000000002000\n"
      ++ bytes "bounding=000001ffffffffff\nambient=0000000000002000\nsecurebits=00\nnnp=0\n")
  -- a refused step does not stop the plan: call 99 is none; then a launch under case 3's attribute
  pub refused_step : verdict
      (start
      ++ bytes "call=99\na=0000000000000000\nb=0000000000000000\nc=0000000000000000\nattr=\n"
      ++ launch ++ bytes "attr=0100000200040000000000000000000000000000\n")
      ≡ report
      (bytes "code=22\nvalue=0000000000000000\ncause=0\ncode=0\nvalue=0000000000000000\ncause=0\n"
      ++ bytes "ruid=1000\neuid=1000\nsuid=1000\nfsuid=1000\nrgid=1000\negid=1000\nsgid=1000\nfsgid=1000\n"
      ++ bytes "permitted=0000000000000400\ninheritable=0000000000002000\neffective=0000000000000400\n"
      ++ bytes "bounding=000001ffffffffff\nambient=0000000000000000\nsecurebits=00\nnnp=0\n")
  -- a refusal by the rules has a cause: setuid to another ID than the thread's own
  pub refused_with_a_cause : verdict (start ++ bytes "call=15\na=0000000000000000\nb=0000000000000000\nc=0000000000000000\nattr=\n")
      ≡ report (bytes "code=1\nvalue=0000000000000000\ncause=10\n" ++ start)
  -- empty text gives line 1
  pub empty : verdict [] ≡ malformed 1
  -- a 257th step gives line 1296
  pub step_257 : verdict (start ++ (times 256 plain ++ plain)) ≡ malformed 1296
  -- no leading zeros
  pub leading_zero : verdict (bytes "ruid=0\neuid=01\n") ≡ malformed 2
  -- the group IDs follow the user IDs: a sheet without them is at fault there
  pub group_ids_due : verdict (bytes "ruid=0\neuid=0\nsuid=0\nfsuid=0\npermitted=0000000000000000\n") ≡ malformed 5
  -- hex letters are lower case
  pub upper_case : verdict (bytes "ruid=0\neuid=0\nsuid=0\nfsuid=0\nrgid=0\negid=0\nsgid=0\nfsgid=0\npermitted=000000000000000A\n") ≡ malformed 9
  -- an even number of attribute digits
  pub odd_digits : verdict (start ++ launch ++ bytes "attr=0\n") ≡ malformed 20
  -- a decimal number is up to 4294967295, and an ID is valid up to 4294967294
  pub above_decimal : verdict (bytes "ruid=4294967296\n") ≡ malformed 1
  pub above_valid : verdict no_id ≡ invalid
  -- 70 comes before 72, wherever in the text the fault is
  pub fault_first : verdict (no_id ++ bytes "call=") ≡ malformed 16
  -- the sheet reader: text past the sheet is a fault at the next line, and that comes before 72
  pub past_the_sheet : read_sheet (no_id ++ bytes "\n") ≡ Err (Malformed 16)
  pub invalid_sheet : read_sheet no_id ≡ Err Invalid
  -- the sheet writer: 72 comes before 28, and bytes past the sheet stay
  pub invalid_first : sheet_answer (held 4294967295) 0 ≡ Err unwritten.Invalid
  -- their numbers, and those of the reader's refusals
  pub unwritten_told : (sheet_write_code unwritten.Invalid ≡ 72) × (sheet_write_code unwritten.NoRoom ≡ 28)
  pub unread_told : ((line : ℕ) → sheet_read_code (Malformed line) ≡ 70) × (sheet_read_code Invalid ≡ 72)
  pub written_sheet : sheet_buffer (held 1000) (sevens 238) ≡ start ++ (7 ∷ 7 ∷ [])
  -- the plan runner: bytes past the report stay
  pub written_report : buffer (verdict start) (sevens 238) ≡ start ++ (7 ∷ 7 ∷ [])
  -- the C interface's number, code times 4294967296 plus line or length: case 2 and its 274 bytes; a byte less room, 28; a fault at line 16; 72
  pub numbers : number_of (start ++ plain) 274 ∷ number_of (start ++ plain) 273 ∷ number_of (start ++ bytes "\n") 274 ∷ number_of no_id 274 ∷ []
      ≡ 274 ∷ (28 * 4294967296) ∷ (70 * 4294967296 + 16) ∷ (72 * 4294967296) ∷ []

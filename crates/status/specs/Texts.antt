-- Whole status texts and what they come to, as the request says ("The roaster's own word"): what is read, lines of faults, lists, answers and buffers.
-- proofs/Computed.antt proves the statement at the end by computing both sides. Assumes nothing.
use Rattle.std.specs.Prelude.{ℕ, ◌≡◌, true, false, List, [], ◌∷◌, ◌++◌, replicate, Ok, Err}
use Rattle.credentials.specs.declared.Credentials.{Credentials}
use Rattle.format.specs.Line.{bytes}
use Rattle.format.specs.Report.{report, malformed, buffer}
use Rattle.status.specs.declared.Status.{Status}
use Rattle.status.specs.declared.ReadError.TheVariants.{Malformed}
use Rattle.status.specs.declared.CompareError.TheVariants as Refused
use Rattle.status.specs.Reading.{read_status}
use Rattle.status.specs.Comparing.{compared, comparison, code, fault_line}

-- ---- parts of the texts

-- the seven wanted lines with others before, between and after them, and no newline after the last
abbrev pub captured : List ℕ
captured =
    bytes "Name:\tx\nUid\n Uid:\t0\nuid:\t0\nUid:\t1000\t1001\t1002\t1003\nCapInhX:\t0\n"
    ++ bytes "CapInh:\t0000000000000001\nCapPrm:\t0000000000000007\nCapEff:\t0000000000000003\nCapBnd:\t000001ffffffffff\nCapAmb:\t0000000000000000\n"
    ++ bytes "\nNoNewPrivs:\t1\nSeccomp:\t0"

-- what it shows: no two of the values that stand in one form are the same
abbrev pub found : Status
found =
    record {
      uids = record { real = 1000; effective = 1001; saved = 1002; filesystem = 1003 };
      sets = record { permitted = 7; inheritable = 1; effective = 3; bounding = 0x1ffffffffff; ambient = 0 };
      nnp = true;
    }

-- the ten compared keys, each with another value
abbrev pub other : Status
other =
    record {
      uids = record { real = 5; effective = 6; saved = 7; filesystem = 8 };
      sets = record { permitted = 0x3000; inheritable = 0x2000; effective = 0x1000; bounding = 0x1fffffffffe; ambient = 0x2000 };
      nnp = false;
    }

-- credentials that hold these, with the group IDs g and some securebits
abbrev pub holding : ℕ → Status → Credentials
holding g s =
    record {
      uids = s.uids;
      gids = record { real = g; effective = g; saved = g; filesystem = g };
      sets = s.sets;
      securebits = 0xff;
      nnp = s.nnp;
    }

-- the line of user IDs, the five of the sets, and these with that of no-new-privs
abbrev pub ids : List ℕ
ids = bytes "Uid:\t0\t0\t0\t0\n"

abbrev pub five : List ℕ
five =
    bytes "CapInh:\t0000000000000000\nCapPrm:\t0000000000000000\nCapEff:\t0000000000000000\nCapBnd:\t0000000000000000\nCapAmb:\t0000000000000000\n"

abbrev pub six : List ℕ
six = five ++ bytes "NoNewPrivs:\t0\n"

-- credentials of which all compared keys are 0
abbrev pub none : Credentials
none =
    holding 0
    record {
      uids = record { real = 0; effective = 0; saved = 0; filesystem = 0 };
      sets = record { permitted = 0; inheritable = 0; effective = 0; bounding = 0; ambient = 0 };
      nnp = false;
    }

-- a text whose values are not valid: 4294967295 as an ID, and sets with bits above 40
abbrev pub strange : List ℕ
strange =
    bytes "Uid:\t0\t0\t4294967295\t0\nCapInh:\t0000000000000000\nCapPrm:\tffffffffffffffff\nCapEff:\t0000000000000000\n"
    ++ bytes "CapBnd:\t0000020000000000\nCapAmb:\t0000000000000000\nNoNewPrivs:\t0\n"

-- a buffer of n bytes, each 7
abbrev pub sevens : ℕ → List ℕ
sevens n = replicate n 7

-- ---- the statement

pub record TextsHold : Type 0 where
  -- other lines are passed over, whatever they hold; the sets come in the file's order, and the last newline may be missing
  pub shown : read_status captured ≡ Ok found
  -- a line for each key that differs, in sheet order: key, predicted value, found value
  pub all_differ : compared captured (holding 0 other)
      ≡ report
      (bytes "ruid 5 1000\neuid 6 1001\nsuid 7 1002\nfsuid 8 1003\n"
      ++ bytes "permitted 0000000000003000 0000000000000007\ninheritable 0000000000002000 0000000000000001\n"
      ++ bytes "effective 0000000000001000 0000000000000003\nbounding 000001fffffffffe 000001ffffffffff\n"
      ++ bytes "ambient 0000000000002000 0000000000000000\nnnp 0 1\nnot compared: securebits, group IDs\n")
  -- nothing differs: the last line alone, whatever the group IDs and securebits
  pub none_differs : compared captured (holding 77 found) ≡ report (bytes "not compared: securebits, group IDs\n")
  -- a found value need not be valid
  pub not_valid : compared strange none
      ≡ report
      (bytes "suid 0 4294967295\npermitted 0000000000000000 ffffffffffffffff\nbounding 0000000000000000 0000020000000000\n"
      ++ bytes "not compared: securebits, group IDs\n")
  -- no number above 4294967295, no leading zero, no empty value
  pub above_largest : read_status (bytes "Uid:\t0\t4294967296\t0\t0\n" ++ six) ≡ Err (Malformed 1)
  pub leading_zero : read_status (bytes "Name:\tx\nUid:\t0\t0\t0\t00\n" ++ six) ≡ Err (Malformed 2)
  pub no_digit : read_status (bytes "Uid:\t0\t\t0\t0\n" ++ six) ≡ Err (Malformed 1)
  -- lower-case hex digits, 16 of them; a flag is 0 or 1
  pub upper_case : read_status (ids ++ bytes "CapInh:\t000000000000000A\n") ≡ Err (Malformed 2)
  pub fifteen_digits : read_status (ids ++ bytes "CapInh:\t000000000000000\n") ≡ Err (Malformed 2)
  pub seventeen_digits : read_status (ids ++ bytes "CapInh:\t00000000000000000\n") ≡ Err (Malformed 2)
  pub flag_of_two : read_status (ids ++ five ++ bytes "NoNewPrivs:\t2\n") ≡ Err (Malformed 7)
  -- no CR at the end, no space for a tab
  pub carriage_return : read_status (bytes "Uid:\t0\t0\t0\t0" ++ (13 ∷ bytes "\n") ++ six) ≡ Err (Malformed 1)
  pub first_space : read_status (bytes "Uid: 0\t0\t0\t0\n" ++ six) ≡ Err (Malformed 1)
  pub later_space : read_status (bytes "Uid:\t0\t0 0\t0\n" ++ six) ≡ Err (Malformed 1)
  -- no value missing and none further, not even an empty one
  pub missing : read_status (bytes "Uid:\t0\t0\t0\n" ++ six) ≡ Err (Malformed 1)
  pub further : read_status (bytes "Uid:\t0\t0\t0\t0\t0\n" ++ six) ≡ Err (Malformed 1)
  pub tab_at_the_end : read_status (bytes "Uid:\t0\t0\t0\t0\t\n" ++ six) ≡ Err (Malformed 1)
  -- a wanted name that comes again, at once or after all seven; one that is due later
  pub again : read_status (ids ++ ids ++ six) ≡ Err (Malformed 2)
  pub again_after_all : read_status (ids ++ six ++ bytes "x\n" ++ ids) ≡ Err (Malformed 9)
  pub too_early : read_status (ids ++ bytes "x\nCapPrm:\t0000000000000000\n") ≡ Err (Malformed 3)
  -- a line that is due at the end is a fault at the line after the last, and no line begins after the last newline
  pub empty : read_status [] ≡ Err (Malformed 1)
  pub one_line : read_status (bytes "x") ≡ Err (Malformed 2)
  pub one_line_ended : read_status (bytes "x\n") ≡ Err (Malformed 2)
  pub six_missing : read_status (bytes "x\n\n" ++ ids) ≡ Err (Malformed 4)
  -- the first fault decides, and no line counts twice
  pub first_fault : read_status (bytes "\nUid\nUid:\nCapInh:\n") ≡ Err (Malformed 3)
  -- 70 comes before 72, and 72 before 28
  pub malformed_first : compared (bytes "x\n") (holding 4294967295 found) ≡ malformed 2
  pub not_valid_first : comparison (compared captured (holding 4294967295 found)) 0 ≡ Err Refused.Invalid
  -- 28 for a buffer that is too short, and else the list's length
  pub no_room : comparison (compared captured (holding 0 found)) 35 ≡ Err Refused.NoRoom
  pub room : comparison (compared captured (holding 0 found)) 36 ≡ Ok 36
  pub with_its_line : comparison (compared (bytes "x\n") none) 36 ≡ Err (Refused.Malformed 2)
  -- a refusal's number and line
  pub malformed_told : (line : ℕ) → (code (Refused.Malformed line) ≡ 70) × (fault_line (Refused.Malformed line) ≡ line)
  pub not_valid_told : (code Refused.Invalid ≡ 72) × (fault_line Refused.Invalid ≡ 0)
  pub no_room_told : (code Refused.NoRoom ≡ 28) × (fault_line Refused.NoRoom ≡ 0)
  -- bytes past the list stay; where the comparison is refused, all bytes do
  pub list_written : buffer (compared (bytes "Uid:\t0\t0\t0\t12\n" ++ six) none) (sevens 49)
      ≡ bytes "fsuid 0 12\nnot compared: securebits, group IDs\n" ++ (7 ∷ 7 ∷ [])
  pub no_room_buffer : buffer (compared captured (holding 0 found)) (sevens 35) ≡ sevens 35
  pub not_valid_buffer : buffer (compared captured (holding 4294967295 found)) (sevens 36) ≡ sevens 36
  pub malformed_buffer : buffer (compared (bytes "x\n") none) (sevens 36) ≡ sevens 36

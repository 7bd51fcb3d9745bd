-- The texts come to what is said of them, by computation. Assumes nothing.
use mathlib.Core.Path.{◌≡◌, refl, sym, ap, ◌∙◌}
use mathlib.Core.Bool.{false}
use mathlib.Core.List.{List, [], ◌++◌, append_assoc, append-nil}
use Prim.Native.Nat.{ℕ}
use lib.Dec.{eqb}
use Rattle.credentials.specs.Validity.{valid}
use Rattle.rules.specs.Fields.{number}
use Rattle.format.specs.Line.{bytes, decimal, keyed_text, hex_text, decimal_of, decimal_text, read_hex, read_digits, read_decimal, starts_with, after_key}
use Rattle.format.specs.Report.{Verdict, report}
use Rattle.format.proofs.ReadWritten.{keyed_written}
use Rattle.status.specs.declared.Status.{Status}
use Rattle.status.specs.Lines.{lines_of, entries, begins_one, wanted}
use Rattle.status.specs.Reading.{up_to, since, value_of, read_values, read_dues, read_status}
use Rattle.status.specs.Comparing.{id_keys, set_keys, flag_keys, keys, difference_text, differences, differing, last_line, list_text, laid, compared}
use Rattle.status.specs.Texts.{captured, found, other, holding, none, strange, TextsHold}

-- ---- all keys agree, and all differ

none_differs : compared captured (holding 77 found) ≡ report (bytes "not compared: securebits, group IDs\n")
unfolding valid number hex_text decimal_of decimal_text read_hex read_digits read_decimal after_key lines_of entries starts_with begins_one wanted up_to since value_of read_values read_dues read_status id_keys set_keys flag_keys keys difference_text differences differing last_line list_text laid compared
none_differs = refl

all_differ : compared captured (holding 0 other)
    ≡ report
    (bytes "ruid 5 1000\neuid 6 1001\nsuid 7 1002\nfsuid 8 1003\n"
    ++ bytes "permitted 0000000000003000 0000000000000007\ninheritable 0000000000002000 0000000000000001\n"
    ++ bytes "effective 0000000000001000 0000000000000003\nbounding 000001fffffffffe 000001ffffffffff\n"
    ++ bytes "ambient 0000000000002000 0000000000000000\nnnp 0 1\nnot compared: securebits, group IDs\n")
unfolding valid number hex_text decimal_of decimal_text read_hex read_digits read_decimal after_key lines_of entries starts_with begins_one wanted up_to since value_of read_values read_dues read_status id_keys set_keys flag_keys keys difference_text differences differing last_line list_text laid compared
all_differ = refl

-- ---- 4294967295, listed: the definition of decimal digits is not one to compute a number of ten digits with

-- what the text shows, with a saved ID
abbrev shown : ℕ → Status
shown saved =
    record {
      uids = record { real = 0; effective = 0; saved = saved; filesystem = 0 };
      sets = record { permitted = 0xffffffffffffffff; inheritable = 0; effective = 0; bounding = 0x20000000000; ambient = 0 };
      nnp = false;
    }

strange_read : compared strange none ≡ laid (shown 4294967295) none
unfolding valid read_hex read_digits read_decimal after_key lines_of entries starts_with begins_one wanted up_to since value_of read_values read_dues read_status compared
strange_read = refl

-- the list, with the ID's line as the format's keyed line
abbrev listed : List ℕ → Verdict
listed line =
    report
    (line
    ++ (bytes "permitted 0000000000000000 ffffffffffffffff\nbounding 0000000000000000 0000020000000000\n"
    ++ bytes "not compared: securebits, group IDs\n"))

-- for any ID but 0
strange_laid : (v : ℕ) → eqb 0 v ≡ false → laid (shown v) none ≡ listed (keyed_text (bytes "suid 0 ") (decimal_text v))
unfolding valid number hex_text decimal_of decimal_text keyed_text id_keys set_keys flag_keys keys difference_text differences differing last_line list_text laid
strange_laid v h = simp (h, append_assoc)

largest_line : keyed_text (bytes "suid 0 ") (decimal_text 4294967295) ≡ bytes "suid 0 4294967295\n"
unfolding read_digits read_decimal after_key
largest_line = sym ((keyed_written (bytes "suid 0 ") (decimal 4294967295) 4294967295 (bytes "suid 0 4294967295\n") [] refl).0 ∙ append-nil _)

strange_listed : compared strange none ≡ listed (bytes "suid 0 4294967295\n")
strange_listed = strange_read ∙ strange_laid 4294967295 refl ∙ ap listed largest_line

-- ---- the others

pub texts_hold : TextsHold
unfolding valid number hex_text decimal_of decimal_text read_hex read_digits read_decimal after_key lines_of entries starts_with begins_one wanted up_to since value_of read_values read_dues read_status id_keys set_keys flag_keys keys difference_text differences differing last_line list_text laid compared
texts_hold =
    record {
      shown = refl;
      all_differ = all_differ;
      none_differs = none_differs;
      not_valid = strange_listed;
      above_largest = refl;
      leading_zero = refl;
      no_digit = refl;
      upper_case = refl;
      fifteen_digits = refl;
      seventeen_digits = refl;
      flag_of_two = refl;
      carriage_return = refl;
      first_space = refl;
      later_space = refl;
      missing = refl;
      further = refl;
      tab_at_the_end = refl;
      again = refl;
      again_after_all = refl;
      too_early = refl;
      empty = refl;
      one_line = refl;
      one_line_ended = refl;
      six_missing = refl;
      first_fault = refl;
      malformed_first = refl;
      not_valid_first = refl;
      no_room = refl;
      room = refl;
      with_its_line = refl;
      malformed_told = λ line. (refl, refl);
      not_valid_told = (refl, refl);
      no_room_told = (refl, refl);
      list_written = refl;
      no_room_buffer = refl;
      not_valid_buffer = refl;
      malformed_buffer = refl;
    }

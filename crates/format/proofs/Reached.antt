-- A sheet, a plan and its report that are as long as any. Assumes nothing.
use mathlib.Core.Path.{◌≡◌, refl, sym, ap, ◌∙◌}
use mathlib.Core.Bool.{false}
use mathlib.Core.List.{List, [], ◌++◌}
use Prim.Native.Nat.{ℕ}
use lib.ListN.{length, replicate, length-append}
use Rattle.credentials.specs.Validity.{valid}
use Rattle.credentials.specs.declared.Credentials.{Credentials}
use Rattle.rules.specs.Decoding.{decode}
use Rattle.rules.specs.Call.{answer}
use Rattle.rules.specs.Run.{Step, result, run, last_of, left}
use Rattle.std.proofs.Common.{Ok}
use Rattle.format.specs.Line.{bytes, read, hex_text, decimal_of, decimal_text, keyed_text, lines_text, read_hex, read_digits, read_decimal, after_key, read_lines}
use Rattle.format.specs.Sheet.{id_kinds, uid_kinds, gid_kinds, set_kinds, flag_kinds, sheet_kinds, sheet_text, read_front, read_sheet}
use Rattle.format.specs.Step.{step_kinds, read_pairs, read_step}
use Rattle.format.specs.Plan.{Plan, read_many, read_plan_by, read_plan}
use Rattle.format.specs.Report.{result_kinds, result_text, results_text, report_text, report, judged_by, verdict}
use Rattle.format.specs.Longest.{longest_sheet, longest_plan, longest_report}
use Rattle.format.specs.Texts.{times}
use Rattle.format.proofs.RoundTrip.{sheet_round_trip}

-- ---- the plan, and its text

-- IDs of ten digits, which are valid
abbrev pub start : Credentials
start =
    record {
      uids = record { real = 4294967294; effective = 4294967294; saved = 4294967294; filesystem = 4294967294 };
      gids = record { real = 4294967294; effective = 4294967294; saved = 4294967294; filesystem = 4294967294 };
      sets = record { permitted = 0; inheritable = 0; effective = 0; bounding = 0; ambient = 0 };
      securebits = 0;
      nnp = false;
    }

-- 99 is no call, and answers 22; an attribute of 48 digits
abbrev step : Step
step = record { number = 99; a = 0; b = 0; c = 0; attribute = replicate 24 0 }

abbrev pub plan : Plan
plan = record { start = start; steps = replicate 256 step }

abbrev pub sheet : List ℕ
sheet =
    bytes "ruid=4294967294\neuid=4294967294\nsuid=4294967294\nfsuid=4294967294\n"
    ++ bytes "rgid=4294967294\negid=4294967294\nsgid=4294967294\nfsgid=4294967294\n"
    ++ bytes "permitted=0000000000000000\ninheritable=0000000000000000\neffective=0000000000000000\n"
    ++ bytes "bounding=0000000000000000\nambient=0000000000000000\nsecurebits=00\nnnp=0\n"

abbrev pub text : List ℕ
text =
    sheet
    ++ times 256
    (bytes "call=99\na=0000000000000000\nb=0000000000000000\nc=0000000000000000\n"
    ++ bytes "attr=000000000000000000000000000000000000000000000000\n")

pub sheet_read : read_sheet sheet ≡ Ok start
unfolding valid read_hex read_digits read_decimal after_key read_lines id_kinds uid_kinds gid_kinds set_kinds flag_kinds sheet_kinds read_front read_sheet
sheet_read = refl

pub sheet_length : length sheet ≡ longest_sheet
sheet_length = refl

pub text_read : read_plan text ≡ read plan []
unfolding times read_hex read_digits read_decimal after_key read_lines id_kinds uid_kinds gid_kinds set_kinds flag_kinds sheet_kinds read_front step_kinds read_pairs read_step read_many read_plan_by
text_read = refl

pub text_length : length text ≡ longest_plan
unfolding times
text_length = refl

pub text_verdict : verdict text ≡ report (report_text plan)
unfolding valid verdict
text_verdict = ap (judged_by report_text) text_read

-- ---- its report

-- the sheet of the start, by its round trip: the definition of decimal digits is not one to compute a number of ten digits with
pub sheet_written : sheet_text start ≡ sheet
sheet_written = sym (sheet_round_trip.read_written sheet start sheet_read).0

-- 256 times 39 bytes
results_length : length (results_text (run start plan.steps)) ≡ 9984
unfolding valid decode answer result run hex_text decimal_of decimal_text keyed_text lines_text result_kinds result_text results_text
results_length = refl

-- and the start's sheet of 284, since nothing changes
start_left : left start plan.steps ≡ start
unfolding valid decode answer result run last_of
start_left = refl

pub report_length : length (report_text plan) ≡ longest_report
unfolding report_text
report_length =
    length-append (results_text (run start plan.steps)) (sheet_text (left start plan.steps))
    ∙ rw (results_length, start_left, sheet_written)

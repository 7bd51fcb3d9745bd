-- The texts come to what is said of them, by computation. Assumes nothing.
use mathlib.Core.Path.{refl}
use Rattle.capabilities.specs.Sets.{has, minus, outside}
use Rattle.attribute.specs.Words.{word_at}
use Rattle.attribute.specs.Reader.{file_of, length_of, reading, unreadable, version2}
use Rattle.credentials.specs.Validity.{valid}
use Rattle.rules.specs.Fields.{number}
use Rattle.rules.specs.Launching.{ignores_set_id, ignores_attribute, file_read, in_force, effective_id, launched_ids, root_counts, counted_set, counted, changes_effective, is_privileged, launched_ambient, gained, launched_effective, launched_sets, falls_short, launched, launch}
use Rattle.rules.specs.Ids.{setuid_allowed, setuid_ids, setuid_on, setuid}
use Rattle.rules.specs.Decoding.{uses_one, known, decode}
use Rattle.rules.specs.Call.{answer}
use Rattle.rules.specs.Run.{result, run, last_of}
use Rattle.format.specs.Line.{hex_text, decimal_of, decimal_text, keyed_text, lines_text, read_hex, read_digits, read_decimal, after_key, read_lines}
use Rattle.format.specs.Sheet.{id_kinds, uid_kinds, gid_kinds, set_kinds, flag_kinds, sheet_kinds, sheet_text, read_front, read_sheet, sheet_answer, sheet_buffer}
use Rattle.format.specs.Step.{step_kinds, read_pairs, read_step}
use Rattle.format.specs.Plan.{read_many, read_plan_by}
use Rattle.format.specs.Report.{result_kinds, result_text, results_text, report_text, verdict}
use Rattle.format.specs.Texts.{TextsHold, times}

pub texts_hold : TextsHold
unfolding read_sheet sheet_answer sheet_buffer has minus outside word_at file_of length_of reading unreadable version2 valid number ignores_set_id ignores_attribute file_read in_force effective_id launched_ids root_counts counted_set counted changes_effective is_privileged launched_ambient gained launched_effective launched_sets falls_short launched launch setuid_allowed setuid_ids setuid_on setuid uses_one known decode answer result run last_of hex_text decimal_of decimal_text keyed_text lines_text read_hex read_digits read_decimal after_key read_lines id_kinds uid_kinds gid_kinds set_kinds flag_kinds sheet_kinds sheet_text read_front step_kinds read_pairs read_step read_many read_plan_by result_kinds result_text results_text report_text verdict times
texts_hold =
    record {
      case_2 = refl;
      refused_step = refl;
      refused_with_a_cause = refl;
      empty = refl;
      step_257 = refl;
      leading_zero = refl;
      group_ids_due = refl;
      upper_case = refl;
      odd_digits = refl;
      above_decimal = refl;
      above_valid = refl;
      fault_first = refl;
      past_the_sheet = refl;
      invalid_sheet = refl;
      invalid_first = refl;
      unwritten_told = (refl, refl);
      unread_told = (λ line. refl, refl);
      written_sheet = refl;
      written_report = refl;
      numbers = refl;
    }

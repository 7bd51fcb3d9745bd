-- The slot plans come to what is said of them, by computation. Assumes nothing.
use mathlib.Core.Path.{refl}
use Rattle.capabilities.specs.Sets.{has, minus, outside}
use Rattle.attribute.specs.Words.{word_at}
use Rattle.attribute.specs.Reader.{file_of, length_of, reading, unreadable, version2}
use Rattle.credentials.specs.Validity.{valid}
use Rattle.rules.specs.Fields.{number}
use Rattle.rules.specs.Launching.{ignores_set_id, ignores_attribute, file_read, in_force, effective_id, launched_ids, root_counts, counted_set, counted, changes_effective, is_privileged, launched_ambient, gained, launched_effective, launched_sets, falls_short, launched, launch}
use Rattle.rules.specs.Ids.{setuid_allowed, setuid_ids, setuid_on, setuid}
use Rattle.rules.specs.Decoding.{uses_one, known, decode}
use Rattle.rules.specs.Call.{answer}
use Rattle.format.specs.Line.{hex_text, decimal_of, decimal_text, keyed_text, lines_text, read_hex, read_digits, read_decimal, after_key, read_lines}
use Rattle.format.specs.Sheet.{id_kinds, uid_kinds, gid_kinds, set_kinds, flag_kinds, sheet_kinds, sheet_text, read_front}
use Rattle.format.specs.Step.{step_kinds, read_pairs, read_step}
use Rattle.format.specs.Plan.{many_text, read_many, read_plan_by}
use Rattle.format.specs.Report.{result_kinds}
use Rattle.format.specs.Texts.{times}
use Rattle.threads.specs.Table.{lowest_free}
use Rattle.threads.specs.Step.{unless_refused, decided, forked, step_in, run_in, ends}
use Rattle.slot_format.specs.SlotPlan.{read_slot_step}
use Rattle.slot_format.specs.SlotReport.{slot_result_text, slot_text, slots_text, slot_report_text, slot_verdict}
use Rattle.slot_format.specs.Texts.{answers, SlotTextsHold}

pub slot_texts_hold : SlotTextsHold
unfolding has minus outside word_at file_of length_of reading unreadable version2 valid number ignores_set_id ignores_attribute file_read in_force effective_id launched_ids root_counts counted_set counted changes_effective is_privileged launched_ambient gained launched_effective launched_sets falls_short launched launch setuid_allowed setuid_ids setuid_on setuid uses_one known decode answer hex_text decimal_of decimal_text keyed_text lines_text read_hex read_digits read_decimal after_key read_lines id_kinds uid_kinds gid_kinds set_kinds flag_kinds sheet_kinds sheet_text read_front step_kinds read_pairs read_step read_many result_kinds times lowest_free unless_refused decided forked step_in run_in ends many_text read_slot_step read_plan_by slot_result_text slot_text slots_text slot_report_text slot_verdict answers
slot_texts_hold =
    record {
      no_steps = refl;
      family = refl;
      taken_again = refl;
      parent_exits = refl;
      none_left = refl;
      no_slot = refl;
      operands = refl;
      cause = refl;
      full = refl;
      empty = refl;
      sheet_fault = refl;
      slot_too_large = refl;
      slot_leading_zero = refl;
      slot_missing = refl;
      call_fault = refl;
      a_fault = refl;
      b_fault = refl;
      c_fault = refl;
      attr_fault = refl;
      second_step = refl;
      too_many = refl;
      a_byte_too_many = refl;
      not_valid = refl;
      malformed_first = refl;
      no_room = refl;
      room = refl;
      c_no_room = refl;
      c_done = refl;
      c_malformed = refl;
    }

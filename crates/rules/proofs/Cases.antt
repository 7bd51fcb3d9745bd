-- The table of cases holds, by computation. Assumes nothing.
use mathlib.Core.Path.{refl}
use Rattle.capabilities.specs.Sets.{has, lacks, minus, single, outside}
use Rattle.attribute.specs.Words.{word_at, word_bytes}
use Rattle.attribute.specs.Reader.{file_of, length_of, reading, unreadable, version1, version2}
use Rattle.attribute.specs.Writer.{first_word, version2_bytes}
use Rattle.credentials.specs.Validity.{valid}
use Rattle.rules.specs.Launching.{ignores_set_id, ignores_attribute, file_read, in_force, effective_id, launched_ids, root_counts, counted_set, counted, changes_effective, is_privileged, launched_ambient, gained, launched_effective, launched_sets, falls_short, launched, launch}
use Rattle.rules.specs.Ids.{given_or, one_of_three, setuid_allowed, setuid_ids, setuid_on, setresuid_ids, setresuid_allowed, setresuid_on, setfsuid_changes, setfsuid_on, root_left, effective_left, effective_taken, filesystem_left, filesystem_taken, sets_after, sets_after_filesystem, setuid, setresuid, setfsuid}
use Rattle.rules.specs.Decoding.{uses_one, known, decode}
use Rattle.rules.specs.Call.{answer}
use Rattle.rules.specs.Run.{result}
use Rattle.rules.specs.Cases.{CasesHold, table, found, wanted}

pub cases_hold : CasesHold
unfolding has lacks minus single outside word_at word_bytes file_of length_of reading unreadable version1 version2 first_word version2_bytes valid ignores_set_id ignores_attribute file_read in_force effective_id launched_ids root_counts counted_set counted changes_effective is_privileged launched_ambient gained launched_effective launched_sets falls_short launched launch given_or one_of_three setuid_allowed setuid_ids setuid_on setresuid_ids setresuid_allowed setresuid_on setfsuid_changes setfsuid_on root_left effective_left effective_taken filesystem_left filesystem_taken sets_after sets_after_filesystem setuid setresuid setfsuid uses_one known decode answer result table found wanted
cases_hold = refl

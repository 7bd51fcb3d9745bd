-- The definitions applied to texts: each comes to what is said of it, by computing both sides. Assumes nothing.
use mathlib.Core.Path.{refl}
use Rattle.capabilities.specs.Sets.{minus, single, has, outside}
use Rattle.names.specs.Names.{capability_names}
use Rattle.names.specs.Grammar.{names}
use Rattle.names.specs.Reading.{read_text, run, step, after, past, operator}
use Rattle.names.specs.Writing.{sets_text, spaced, preceded, clauses, flags_text, bits_above40, names_answer, names_buffer}
use Rattle.names.specs.Texts.{TextsHold}

pub texts_hold : TextsHold
unfolding read_text run step after past operator names minus single sets_text spaced preceded clauses flags_text capability_names has outside bits_above40 names_answer names_buffer
texts_hold =
    record {
      net_raw_read = refl;
      every_name_read = refl;
      empty = refl;
      only_blanks = refl;
      blanks = refl;
      either_case = refl;
      flags = refl;
      joined = refl;
      unnamed = refl;
      put = refl;
      take = refl;
      operators = refl;
      clauses = refl;
      plus_first = refl;
      dash_first = refl;
      all_joined = refl;
      joined_all = refl;
      no_operator = refl;
      within_a_name = refl;
      no_flag = refl;
      no_name = refl;
      flag_due = refl;
      flag_due_first = refl;
      upper_case_flag = refl;
      other_name = refl;
      number = refl;
      blank_within = refl;
      comma_behind = refl;
      carriage_return = refl;
      written = refl;
      every_name_written = refl;
      nothing_written = refl;
      above_permitted = refl;
      above_inheritable = refl;
      above_effective = refl;
      no_room = refl;
      refusals_told = (refl, refl);
      room = refl;
      buffer = refl;
      refused_buffer = refl;
    }

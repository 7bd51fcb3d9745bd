-- The worked examples hold, by computation. Assumes nothing.
use mathlib.Core.Path.{refl}
use Rattle.capabilities.specs.Sets.{outside, single}
use Rattle.attribute.specs.Words.{word_at, word_bytes}
use Rattle.attribute.specs.Reader.{file_of, length_of, reading, unreadable, version1, version2}
use Rattle.attribute.specs.Writer.{first_word, version2_bytes}
use Rattle.attribute.specs.Examples.{ExamplesHold}

pub examples_hold : ExamplesHold
unfolding outside single word_at word_bytes file_of length_of reading unreadable version1 version2 first_word version2_bytes
examples_hold =
    record {
      net_raw_read = refl;
      net_raw_written = refl;
      none_attached_read = refl;
      version_1 = refl;
      other_length = refl;
      other_revision = refl;
      length_of_another_revision = refl;
      other_bits = refl;
      bit_41 = refl;
    }

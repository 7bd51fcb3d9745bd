-- What an attribute's bytes stand for ("Attribute bytes"): the first word, the two layouts, what is unreadable, the answer.
-- Assumes nothing.
use Rattle.std.specs.Prelude.{ℕ, ◌/◌, ◌%◌, Bool, true, false, cond, not, ◌&&◌, ◌||◌, List, Result, Ok, Err, eqb, length}
use Rattle.capabilities.specs.Sets.{full, union, outside}
use Rattle.attribute.specs.Words.{word_at, set_of}
use Rattle.attribute.specs.declared.FileCapabilities.{FileCapabilities}
use Rattle.attribute.specs.declared.ReadError.{ReadError}
use Rattle.attribute.specs.declared.ReadError.TheVariants.{Unreadable}

-- first word: the revision is its top byte
abbrev pub revision : List ℕ → ℕ
revision s = word_at s 0 / 0x1000000

-- first word: the effective bit has the value 1
abbrev pub effective_bit : List ℕ → Bool
effective_bit s = eqb (word_at s 0 % 2) 1

-- version 1, 12 bytes: after the first word the permitted set's word, then the inheritable set's
unfoldable pub version1 : List ℕ → FileCapabilities
version1 s = record { attached = true; permitted = word_at s 4; inheritable = word_at s 8; effective = effective_bit s }

-- version 2, 20 bytes: after the first word the low words of the permitted and the inheritable set, then their high words
unfoldable pub version2 : List ℕ → FileCapabilities
version2 s =
    record {
      attached = true;
      permitted = set_of (word_at s 4) (word_at s 12);
      inheritable = set_of (word_at s 8) (word_at s 16);
      effective = effective_bit s;
    }

-- what the bytes hold, by their revision
unfoldable pub file_of : List ℕ → FileCapabilities
file_of s = cond (eqb (revision s) 1) (version1 s) (version2 s)

-- no bytes: none attached, which counts as empty sets and the bit off (Launching, c)
abbrev pub none_attached : FileCapabilities
none_attached = record { attached = false; permitted = 0; inheritable = 0; effective = false }

-- unreadable: a length other than 12 and 20
abbrev pub other_length : List ℕ → Bool
other_length s = not (eqb (length s) 12) && not (eqb (length s) 20)

-- unreadable: a revision other than 1 and 2
abbrev pub other_revision : List ℕ → Bool
other_revision s = not (eqb (revision s) 1) && not (eqb (revision s) 2)

-- the length of a revision: 12 bytes for 1, 20 for 2
unfoldable pub length_of : ℕ → ℕ
length_of version = cond (eqb version 1) 12 20

-- unreadable: a length that is not its revision's
abbrev pub length_of_another_revision : List ℕ → Bool
length_of_another_revision s = not (eqb (length s) (length_of (revision s)))

-- unreadable: a bit of the first word between the effective bit and the revision (house rule)
abbrev pub other_bits : List ℕ → Bool
other_bits s = not (eqb (word_at s 0 % 0x1000000 / 2) 0)

-- unreadable, and refused by the writer: a capability bit above 40 in either set (house rule)
abbrev pub bits_above40 : ℕ → ℕ → Bool
bits_above40 p i = outside (union p i) full

-- what is unreadable, where there are bytes at all
unfoldable pub unreadable : List ℕ → Bool
unreadable s =
    other_length s
    || other_revision s
    || length_of_another_revision s
    || other_bits s
    || bits_above40 (file_of s).permitted (file_of s).inheritable

-- the answer for any bytes
unfoldable pub reading : List ℕ → Result FileCapabilities ReadError
reading s = cond (eqb (length s) 0) (Ok none_attached) (cond (unreadable s) (Err Unreadable) (Ok (file_of s)))

-- "What comes back": the number of each case
abbrev pub read_code : ReadError → ℕ
read_code Unreadable = 60

abbrev pub reading_code : Result FileCapabilities ReadError → ℕ
reading_code (Ok f) = 0
reading_code (Err e) = read_code e

-- The written form of an attribute, version 2, and what the writer answers and leaves ("Attribute bytes", "What comes back").
-- A written form is of two sets and an effective bit: "none attached" has none. Assumes nothing.
use Rattle.std.specs.Prelude.{ℕ, ◌/◌, ◌%◌, Bool, cond, List, ◌++◌, Result, Ok, Err, ltb, length, drop}
use Rattle.attribute.specs.Words.{word_bytes}
use Rattle.attribute.specs.Reader.{bits_above40}
use Rattle.attribute.specs.declared.WriteError.{WriteError}
use Rattle.attribute.specs.declared.WriteError.TheVariants.{OutOfRange, NoRoom}

-- the first word of version 2: revision 2 in the top byte, and the effective bit
unfoldable pub first_word : Bool → ℕ
first_word e = cond e 0x2000001 0x2000000

-- the 20 bytes of two sets and an effective bit
unfoldable pub version2_bytes : ℕ → ℕ → Bool → List ℕ
version2_bytes p i e =
    word_bytes (first_word e)
    ++ word_bytes (p % 0x100000000)
    ++ word_bytes (i % 0x100000000)
    ++ word_bytes (p / 0x100000000)
    ++ word_bytes (i / 0x100000000)

-- "What comes back": the number of each refusal
abbrev pub write_code : WriteError → ℕ
write_code OutOfRange = 22
write_code NoRoom = 28

-- the answer: 22 for a bit above 40, then 28 for a buffer under 20 bytes, and no byte written; else done, and 20 bytes written
unfoldable pub written : ℕ → ℕ → ℕ → Result ℕ WriteError
written p i room = cond (bits_above40 p i) (Err OutOfRange) (cond (ltb room 20) (Err NoRoom) (Ok 20))

-- the buffer afterwards: the 20 bytes and past them what was there; refused, all of what was there
abbrev pub left_by : Result ℕ WriteError → List ℕ → List ℕ → List ℕ
left_by (Ok n) bytes old = bytes ++ drop n old
left_by (Err e) bytes old = old

unfoldable pub buffer_after : ℕ → ℕ → Bool → List ℕ → List ℕ
buffer_after p i e old = left_by (written p i (length old)) (version2_bytes p i e) old

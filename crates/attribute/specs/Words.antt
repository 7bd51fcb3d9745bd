-- Little-endian 32-bit words ("Attribute bytes"). Assumes nothing.
use Rattle.std.specs.Prelude.{ℕ, ◌+◌, ◌*◌, ◌/◌, ◌%◌, ◌<◌, List, [], ◌∷◌, get_or}

-- a list of bytes: each element is below 256
pub record Bytes (s : List ℕ) : Type 0 where
  pub small : (at : ℕ) → get_or s at 0 < 256

-- the byte at a place; past the end, 0
abbrev pub byte_at : List ℕ → ℕ → ℕ
byte_at s at = get_or s at 0

-- the word that starts at a place, lowest byte first
unfoldable pub word_at : List ℕ → ℕ → ℕ
word_at s at = byte_at s at + 0x100 * byte_at s (at + 1) + 0x10000 * byte_at s (at + 2) + 0x1000000 * byte_at s (at + 3)

-- a word's four bytes, lowest first
unfoldable pub word_bytes : ℕ → List ℕ
word_bytes w = w % 0x100 ∷ w / 0x100 % 0x100 ∷ w / 0x10000 % 0x100 ∷ w / 0x1000000 % 0x100 ∷ []

-- a set from its low and its high word
abbrev pub set_of : ℕ → ℕ → ℕ
set_of low high = low + 0x100000000 * high

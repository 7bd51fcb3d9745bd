-- Demand 2 on attributes, as one statement: they read back as written, and writing what was read gives the written form.
-- Proved in proofs/RoundTrip.antt. Assumes nothing.
use Rattle.std.specs.Prelude.{ℕ, ◌≤◌, ◌≡◌, Bool, true, List, [], ◌∷◌, ◌++◌, Ok, IsOk, length, take, drop, replicate}
use Rattle.attribute.specs.Words.{Bytes, byte_at}
use Rattle.attribute.specs.Reader.{reading}
use Rattle.attribute.specs.Writer.{written, buffer_after}
use Rattle.attribute.specs.declared.FileCapabilities.{FileCapabilities}

-- a version 1 attribute's bytes in the form of version 2: the same effective bit, revision 2, the same two words, and high words of 0
abbrev pub as_version2 : List ℕ → List ℕ
as_version2 s = (byte_at s 0 ∷ 0 ∷ 0 ∷ 2 ∷ []) ++ drop 4 s ++ replicate 8 0

-- the writer, handed what was read, is not refused by a buffer of 20 bytes or more, and leaves these 20 bytes there
pub record WritesAs (f : FileCapabilities) (bytes : List ℕ) : Type 0 where
  pub answers : (old : List ℕ) → 20 ≤ length old → written f.permitted f.inheritable (length old) ≡ Ok 20
  pub leaves : (old : List ℕ) → 20 ≤ length old → buffer_after f.permitted f.inheritable f.effective old ≡ bytes ++ drop 20 old

pub record RoundTrip : Type 0 where
  -- reading what was written gives the two sets and the bit back
  pub back : (p i : ℕ) (e : Bool) (old : List ℕ) → IsOk (written p i (length old))
      → reading (take 20 (buffer_after p i e old)) ≡ Ok (record { attached = true; permitted = p; inheritable = i; effective = e })
  -- writing what was read from version 2 gives the very bytes
  pub again : (s : List ℕ) (f : FileCapabilities) → Bytes s → length s ≡ 20 → reading s ≡ Ok f → WritesAs f s
  -- writing what was read from version 1 gives version 2
  pub raised : (s : List ℕ) (f : FileCapabilities) → Bytes s → length s ≡ 12 → reading s ≡ Ok f → WritesAs f (as_version2 s)

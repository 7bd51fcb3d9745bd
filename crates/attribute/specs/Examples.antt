-- Worked examples of "Attribute bytes", as one statement, which proofs/Examples.antt proves by computing both sides. Assumes nothing.
use Rattle.std.specs.Prelude.{ℕ, ◌≡◌, true, false, List, [], ◌∷◌, Ok, Err}
use Rattle.capabilities.specs.Header.{CAP_NET_RAW, CAP_SYS_RAWIO}
use Rattle.capabilities.specs.Sets.{single}
use Rattle.attribute.specs.Reader.{none_attached, reading}
use Rattle.attribute.specs.Writer.{version2_bytes}
use Rattle.attribute.specs.declared.ReadError.TheVariants.{Unreadable}

-- the paper's bytes, 0100000200200000000000000000000000000000
abbrev pub net_raw : List ℕ
net_raw =
    0x01 ∷ 0x00 ∷ 0x00 ∷ 0x02 ∷ 0x00 ∷ 0x20 ∷ 0x00 ∷ 0x00 ∷ 0x00 ∷ 0x00 ∷ 0x00 ∷ 0x00 ∷ 0x00 ∷ 0x00 ∷ 0x00 ∷ 0x00 ∷ 0x00 ∷ 0x00 ∷ 0x00 ∷ 0x00 ∷ []

pub record ExamplesHold : Type 0 where
  -- the paper's bytes are NET_RAW permitted, the effective bit on
  pub net_raw_read : reading net_raw ≡ Ok (record { attached = true; permitted = single CAP_NET_RAW; inheritable = 0; effective = true })
  -- and they are what is written for that
  pub net_raw_written : version2_bytes (single CAP_NET_RAW) 0 true ≡ net_raw
  -- no bytes: none attached
  pub none_attached_read : reading [] ≡ Ok none_attached
  -- version 1: SYS_RAWIO inheritable, the bit off
  pub version_1 : reading (0 ∷ 0 ∷ 0 ∷ 1 ∷ 0 ∷ 0 ∷ 0 ∷ 0 ∷ 0 ∷ 0 ∷ 2 ∷ 0 ∷ [])
      ≡ Ok (record { attached = true; permitted = 0; inheritable = single CAP_SYS_RAWIO; effective = false })
  -- unreadable: one byte short of version 1
  pub other_length : reading (0 ∷ 0 ∷ 0 ∷ 1 ∷ 0 ∷ 0 ∷ 0 ∷ 0 ∷ 0 ∷ 0 ∷ 0 ∷ []) ≡ Err Unreadable
  -- unreadable: revision 3, in version 2's 20 bytes
  pub other_revision : reading (0 ∷ 0 ∷ 0 ∷ 3 ∷ 0 ∷ 0 ∷ 0 ∷ 0 ∷ 0 ∷ 0 ∷ 0 ∷ 0 ∷ 0 ∷ 0 ∷ 0 ∷ 0 ∷ 0 ∷ 0 ∷ 0 ∷ 0 ∷ []) ≡ Err Unreadable
  -- unreadable: revision 2 with version 1's 12 bytes
  pub length_of_another_revision : reading (0 ∷ 0 ∷ 0 ∷ 2 ∷ 0 ∷ 0 ∷ 0 ∷ 0 ∷ 0 ∷ 0 ∷ 0 ∷ 0 ∷ []) ≡ Err Unreadable
  -- unreadable: bit 1 of the first word
  pub other_bits : reading (2 ∷ 0 ∷ 0 ∷ 1 ∷ 0 ∷ 0 ∷ 0 ∷ 0 ∷ 0 ∷ 0 ∷ 0 ∷ 0 ∷ []) ≡ Err Unreadable
  -- unreadable: capability bit 41 in the inheritable set
  pub bit_41 : reading (0 ∷ 0 ∷ 0 ∷ 2 ∷ 0 ∷ 0 ∷ 0 ∷ 0 ∷ 0 ∷ 0 ∷ 0 ∷ 0 ∷ 0 ∷ 0 ∷ 0 ∷ 0 ∷ 0 ∷ 2 ∷ 0 ∷ 0 ∷ []) ≡ Err Unreadable

-- Which credentials are valid ("What a thread carries", "Valid"), clause by clause. Assumes nothing.
use Rattle.std.specs.Prelude.{ℕ, Bool, ◌&&◌, leb}
use Rattle.capabilities.specs.Sets.{full, within}
use Rattle.credentials.specs.declared.Ids.{Ids}
use Rattle.credentials.specs.declared.Sets.{Sets}
use Rattle.credentials.specs.declared.Credentials.{Credentials}

-- E is within P
abbrev pub effective_permitted : Sets → Bool
effective_permitted s = within s.effective s.permitted

-- A is within P and within I
abbrev pub ambient_held : Sets → Bool
ambient_held s = within s.ambient s.permitted && within s.ambient s.inheritable

-- no set has a bit above 40
abbrev pub no_bit_above40 : Sets → Bool
no_bit_above40 s =
    within s.permitted full
    && within s.inheritable full
    && within s.effective full
    && within s.bounding full
    && within s.ambient full

-- an ID is at most 4294967294
abbrev pub id_in_range : ℕ → Bool
id_in_range n = leb n 4294967294

-- each of four user or group IDs is
abbrev pub ids_in_range : Ids → Bool
ids_in_range u = id_in_range u.real && id_in_range u.effective && id_in_range u.saved && id_in_range u.filesystem

-- securebits are at most 255
abbrev pub securebits_in_range : ℕ → Bool
securebits_in_range b = leb b 255

-- all of it
unfoldable pub valid : Credentials → Bool
valid c =
    effective_permitted c.sets
    && ambient_held c.sets
    && no_bit_above40 c.sets
    && ids_in_range c.uids
    && ids_in_range c.gids
    && securebits_in_range c.securebits

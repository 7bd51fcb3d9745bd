-- Credentials with one field changed, and flags by their values: what the rules are written with. Assumes nothing.
use Rattle.std.specs.Prelude.{ℕ, Bool, cond, not, eqb}
use Rattle.capabilities.specs.Sets.{inter}
use Rattle.credentials.specs.declared.Ids.{Ids}
use Rattle.credentials.specs.declared.Sets.{Sets}
use Rattle.credentials.specs.declared.Credentials.{Credentials}

-- a flag, by its value, is set among bits
abbrev pub is_set : ℕ → ℕ → Bool
is_set bits flag = not (eqb (inter bits flag) 0)

-- a flag as a number
unfoldable pub number : Bool → ℕ
number flag = cond flag 1 0

abbrev pub with_uids : Credentials → Ids → Credentials
with_uids c u = record { uids = u; gids = c.gids; sets = c.sets; securebits = c.securebits; nnp = c.nnp }

abbrev pub with_gids : Credentials → Ids → Credentials
with_gids c g = record { uids = c.uids; gids = g; sets = c.sets; securebits = c.securebits; nnp = c.nnp }

abbrev pub with_sets : Credentials → Sets → Credentials
with_sets c s = record { uids = c.uids; gids = c.gids; sets = s; securebits = c.securebits; nnp = c.nnp }

abbrev pub with_securebits : Credentials → ℕ → Credentials
with_securebits c b = record { uids = c.uids; gids = c.gids; sets = c.sets; securebits = b; nnp = c.nnp }

abbrev pub with_nnp : Credentials → Bool → Credentials
with_nnp c flag = record { uids = c.uids; gids = c.gids; sets = c.sets; securebits = c.securebits; nnp = flag }

abbrev pub with_permitted : Sets → ℕ → Sets
with_permitted s p = record { permitted = p; inheritable = s.inheritable; effective = s.effective; bounding = s.bounding; ambient = s.ambient }

abbrev pub with_effective : Sets → ℕ → Sets
with_effective s e = record { permitted = s.permitted; inheritable = s.inheritable; effective = e; bounding = s.bounding; ambient = s.ambient }

abbrev pub with_bounding : Sets → ℕ → Sets
with_bounding s b = record { permitted = s.permitted; inheritable = s.inheritable; effective = s.effective; bounding = b; ambient = s.ambient }

abbrev pub with_ambient : Sets → ℕ → Sets
with_ambient s a = record { permitted = s.permitted; inheritable = s.inheritable; effective = s.effective; bounding = s.bounding; ambient = a }

abbrev pub with_filesystem : Ids → ℕ → Ids
with_filesystem u id = record { real = u.real; effective = u.effective; saved = u.saved; filesystem = id }

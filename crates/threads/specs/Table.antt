-- A table of 96 threads ("The whole machine, not one thread"): what a slot holds, one slot changed, the lowest free one, the table at the start.
-- Assumes nothing.
use Rattle.std.specs.Prelude.{ℕ, suc, Bool, true, false, cond, List, [], ◌∷◌, get_or, set, replicate}
use Rattle.credentials.specs.declared.Credentials.{Credentials}
use Rattle.threads.specs.declared.Threads.{Threads}

-- how many slots there are: 0 to 95
abbrev pub SLOTS : ℕ
SLOTS = 96

-- the empty record
abbrev pub empty : Credentials
empty =
    record {
      uids = record { real = 0; effective = 0; saved = 0; filesystem = 0 };
      gids = record { real = 0; effective = 0; saved = 0; filesystem = 0 };
      sets = record { permitted = 0; inheritable = 0; effective = 0; bounding = 0; ambient = 0 };
      securebits = 0;
      nnp = false;
    }

-- the credentials that a slot holds
abbrev pub held : Threads → ℕ → Credentials
held table slot = get_or table.credentials slot empty

-- a slot is in use; none above 95 is
abbrev pub in_use : Threads → ℕ → Bool
in_use table slot = get_or table.used slot false

-- a slot's credentials changed
abbrev pub with_credentials : Threads → ℕ → Credentials → Threads
with_credentials table slot c = record { credentials = set table.credentials slot c; used = table.used }

-- a slot's use mark changed
abbrev pub with_mark : Threads → ℕ → Bool → Threads
with_mark table slot mark = record { credentials = table.credentials; used = set table.used slot mark }

-- the lowest free slot by the use marks; where none is free, how many there are
unfoldable pub lowest_free : List Bool → ℕ
lowest_free [] = 0
lowest_free (mark ∷ marks) = cond mark (suc (lowest_free marks)) 0

-- the table at the start: the empty record 96 times, none in use; then slot 0 in use, with the sheet's credentials
abbrev pub fresh : Credentials → Threads
fresh sheet = with_mark (with_credentials (record { credentials = replicate SLOTS empty; used = replicate SLOTS false }) 0 sheet) 0 true

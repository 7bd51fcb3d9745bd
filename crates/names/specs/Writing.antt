-- The one form in which sets are written in names, and what the writer answers and leaves ("Say it in names"). Assumes nothing.
use Rattle.std.specs.Prelude.{ℕ, suc, List, [], ◌∷◌, ◌++◌, Bool, cond, ◌||◌, leb, length, Result, Ok, Err}
use Prim.Native.String.{String}
use Rattle.attribute.specs.Writer.{left_by}
use Rattle.attribute.specs.declared.WriteError.{WriteError}
use Rattle.attribute.specs.declared.WriteError.TheVariants.{OutOfRange, NoRoom}
use Rattle.capabilities.specs.Sets.{full, union, has, outside}
use Rattle.format.specs.Line.{bytes}
use Rattle.names.specs.declared.Sets.{Sets}
use Rattle.names.specs.Names.{capability_names}

-- the flags of the capability n, in the order e, i, p
unfoldable pub flags_text : Sets → ℕ → List ℕ
flags_text s n =
    cond (has s.effective n) (bytes "e") []
    ++ (cond (has s.inheritable n) (bytes "i") []
    ++ cond (has s.permitted n) (bytes "p") [])

-- some set has the capability n
abbrev pub has_flag : Sets → ℕ → Bool
has_flag s n = has s.effective n || (has s.inheritable n || has s.permitted n)

-- a capability's clause: its name, `=` and its flags
abbrev pub clause_text : Sets → ℕ → String → List ℕ
clause_text s n name = bytes name ++ (bytes "=" ++ flags_text s n)

-- one clause to each capability that has any flag, by number, from n on, which have these names
unfoldable pub clauses : Sets → ℕ → List String → List (List ℕ)
clauses s n [] = []
clauses s n (name ∷ names) = cond (has_flag s n) (clause_text s n name ∷ clauses s (suc n) names) (clauses s (suc n) names)

-- texts with one space before each
unfoldable pub preceded : List (List ℕ) → List ℕ
preceded [] = []
preceded (t ∷ ts) = bytes " " ++ (t ++ preceded ts)

-- texts with one space between
unfoldable pub spaced : List (List ℕ) → List ℕ
spaced [] = []
spaced (t ∷ ts) = t ++ preceded ts

-- the sets in names; three empty sets are the empty text
unfoldable pub sets_text : Sets → List ℕ
sets_text s = spaced (clauses s 0 capability_names)

-- ---- the writer

-- a bit above 40 in any of the three
unfoldable pub bits_above40 : Sets → Bool
bits_above40 s = outside (union s.permitted (union s.inheritable s.effective)) full

-- its answer in a buffer of some length: 22 for such a bit, then 28 for a text that is longer; or done, and the text's length
unfoldable pub names_answer : Sets → ℕ → Result ℕ WriteError
names_answer s room =
    cond (bits_above40 s) (Err OutOfRange)
    (cond (leb (length (sets_text s)) room) (Ok (length (sets_text s))) (Err NoRoom))

-- the buffer afterwards: the text and past it what was there; refused, all of what was there
unfoldable pub names_buffer : Sets → List ℕ → List ℕ
names_buffer s old = left_by (names_answer s (length old)) (sets_text s) old

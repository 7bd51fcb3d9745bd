-- The grammar of capabilities in names ("Say it in names"): which texts are well-formed, and the three sets that each stands for.
-- Each family below is a part of a text; its indices are the sets before it, its bytes, and the sets after it. Assumes nothing.
use Rattle.std.specs.Prelude.{ℕ, suc, ◌+◌, ◌≡◌, ◌⊎◌, List, [], ◌∷◌, ◌++◌, Bool, true, false, cond, ◌||◌, ltb, eqb}
use Prim.Native.String.{String}
use Rattle.capabilities.specs.Sets.{full, union, minus, single}
use Rattle.format.specs.Line.{bytes}
use Rattle.names.specs.declared.Sets.{Sets}
use Rattle.names.specs.Names.{capability_names}

-- ---- bytes

-- `,` joins names
abbrev pub comma : ℕ
comma = 44

-- the operators: `=`, `+`, `-`
abbrev pub equals : ℕ
equals = 61

abbrev pub plus : ℕ
plus = 43

abbrev pub dash : ℕ
dash = 45

-- the flags: `e` for the effective set, `i` for the inheritable, `p` for the permitted; lower case only
abbrev pub flag_e : ℕ
flag_e = 101

abbrev pub flag_i : ℕ
flag_i = 105

abbrev pub flag_p : ℕ
flag_p = 112

abbrev pub flag : ℕ → Bool
flag b = eqb b flag_e || (eqb b flag_i || eqb b flag_p)

-- what parts clauses: a space, a tab, a newline
abbrev pub blank : ℕ → Bool
blank b = eqb b 32 || (eqb b 9 || eqb b 10)

-- `A` to `Z` in lower case, any other byte as it is
abbrev pub lower : ℕ → ℕ
lower b = cond (ltb b 65) b (cond (ltb b 91) (b + 32) b)

-- a text with each letter in lower case
unfoldable pub lowered : List ℕ → List ℕ
lowered [] = []
lowered (b ∷ t) = lower b ∷ lowered t

-- ---- names

-- a word: its text in lower case, the capabilities that it means, and whether it can be joined to others
pub data Word : Type 0 where
  spelt : List ℕ → ℕ → Bool → Word

-- the names of the capabilities from number n on: each means its capability alone, and can be joined
unfoldable pub words_from : ℕ → List String → List Word
words_from n [] = []
words_from n (name ∷ names) = spelt (bytes name) (single n) true ∷ words_from (suc n) names

-- the 41 names
unfoldable pub names : List Word
unfolding words_from capability_names
names = words_from 0 capability_names

-- x is one of these words
infix 25 ◌among◌
unfoldable pub ◌among◌ : Word → List Word → Type 0
◌among◌ x [] = ⊥
◌among◌ x (y ∷ ys) = (x ≡ y) ⊎ (x among ys)

-- a text is a name, in either case letter by letter, and m is the set of its capability
abbrev pub IsName : List ℕ → ℕ → Type 0
IsName t m = spelt (lowered t) m true among names

-- one name, or several joined by commas: the capabilities c before them, those named added to c behind them
pub data Names : ℕ → List ℕ → ℕ → Type 0 where
  name : {c : ℕ} {t : List ℕ} (m : ℕ) → IsName t m → Names c t (union c m)
  join : {c d : ℕ} {u : List ℕ} (t : List ℕ) (m : ℕ) → IsName t m → Names (union c m) u d → Names c (t ++ (comma ∷ u)) d

-- ---- operators and flags of a clause about the capabilities c

-- c given to a set, or taken out of it
abbrev pub changed : Bool → ℕ → ℕ → ℕ
changed true c set = union set c
changed false c set = minus set c

-- a flag: c is given to its set, or taken out of it
abbrev pub flagged : Bool → ℕ → ℕ → Sets → Sets
flagged gives c b s =
    cond (eqb b flag_e) (record { permitted = s.permitted; inheritable = s.inheritable; effective = changed gives c s.effective })
    (cond (eqb b flag_i) (record { permitted = s.permitted; inheritable = changed gives c s.inheritable; effective = s.effective })
    (record { permitted = changed gives c s.permitted; inheritable = s.inheritable; effective = s.effective }))

-- c taken out of all three sets
abbrev pub without : ℕ → Sets → Sets
without c s = record { permitted = minus s.permitted c; inheritable = minus s.inheritable c; effective = minus s.effective c }

-- flags, any number of them, in any order, also repeated
pub data Flags (gives : Bool) (c : ℕ) : Sets → List ℕ → Sets → Type 0 where
  none : {s : Sets} → Flags gives c s [] s
  one : {s v : Sets} {b : ℕ} {t : List ℕ} → flag b ≡ true → Flags gives c (flagged gives c b s) t v → Flags gives c s (b ∷ t) v

-- an operator and its flags: `=` takes c out of all three sets and then gives, `+` gives, `-` takes; only `=` can have no flag
pub data Operator (c : ℕ) : Sets → List ℕ → Sets → Type 0 where
  put : {s v : Sets} {t : List ℕ} → Flags true c (without c s) t v → Operator c s (equals ∷ t) v
  give : {s v : Sets} {b : ℕ} {t : List ℕ} → Flags true c s (b ∷ t) v → Operator c s (plus ∷ b ∷ t) v
  take : {s v : Sets} {b : ℕ} {t : List ℕ} → Flags false c s (b ∷ t) v → Operator c s (dash ∷ b ∷ t) v

-- one operator with its flags or several, from left to right
pub data Operators (c : ℕ) : Sets → List ℕ → Sets → Type 0 where
  last : {s v : Sets} {t : List ℕ} → Operator c s t v → Operators c s t v
  more : {s v w : Sets} {t u : List ℕ} → Operator c s t v → Operators c v u w → Operators c s (t ++ u) w

-- ---- clauses and texts

-- names, or `all` in either case by itself, or nothing, and then operators; with `all` or nothing, all 41 are meant; with nothing, the first operator is `=`
pub data Clause : Sets → List ℕ → Sets → Type 0 where
  named : {c : ℕ} {s v : Sets} {t u : List ℕ} → Names 0 t c → Operators c s u v → Clause s (t ++ u) v
  whole : {s v : Sets} {u : List ℕ} (t : List ℕ) → lowered t ≡ bytes "all" → Operators full s u v → Clause s (t ++ u) v
  unnamed : {s v : Sets} {t : List ℕ} → Operators full s (equals ∷ t) v → Clause s (equals ∷ t) v

-- nothing; a blank and a text; a clause; a clause, a blank and a text
pub data Text : Sets → List ℕ → Sets → Type 0 where
  empty : {s : Sets} → Text s [] s
  space : {s v : Sets} {b : ℕ} {t : List ℕ} → blank b ≡ true → Text s t v → Text s (b ∷ t) v
  final : {s v : Sets} {t : List ℕ} → Clause s t v → Text s t v
  clause : {s v w : Sets} {t u : List ℕ} (b : ℕ) → Clause s t v → blank b ≡ true → Text v u w → Text s (t ++ (b ∷ u)) w

-- the sets before a text: all three empty
abbrev pub no_sets : Sets
no_sets = record { permitted = 0; inheritable = 0; effective = 0 }

-- the text t is well-formed, and stands for the sets v
abbrev pub WellFormed : List ℕ → Sets → Type 0
WellFormed t v = Text no_sets t v

-- some bytes complete the text t to a well-formed one, in which no number can stand that is no byte
abbrev pub Beginning : List ℕ → Type 0
Beginning t = (more : List ℕ) × (v : Sets) × WellFormed (t ++ more) v

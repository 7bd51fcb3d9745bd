-- How the answers of private functions stand for the reading from a position, and the table that names are found by; no public contract cites these.
-- Assumes nothing.
use Rattle.std.specs.Prelude.{◌≡◌, ℕ, zero, suc, ◌+◌, ◌*◌, ◌%◌, max, ◌≤◌, ◌<◌, ◌⊎◌, List, [], ◌∷◌, Bool, true, cond, ◌&&◌, ◌||◌, eqb, leb, ltb, length, drop, get_or, Result, Ok, Err}
use denote.Ref.{Bor}
use Rattle.capabilities.specs.Sets.{single, union}
use Rattle.names.specs.declared.Sets.{Sets}
use Rattle.names.specs.declared.ReadError.{ReadError}
use Rattle.names.specs.declared.ReadError.TheVariants.{Malformed}
use Rattle.names.specs.Names.{capability_names}
use Prim.Native.String.{String}
use Rattle.format.specs.Line.{bytes}
use Rattle.names.specs.Grammar.{lower, equals, plus, dash, without, spelt, names}
use Rattle.names.specs.Reading.{Reading, every, State, gap, word, operated, run}

-- a part of a text that was read, and the position past it; or the place of a fault
abbrev pub Parsed : Type 0 → Type 0
Parsed A = Result (A × ℕ) ReadError

-- ---- reading from a position

-- what is read n bytes further on
abbrev pub from : ℕ → Reading → Reading
from n (Ok s) = Ok s
from n (Err (Malformed k)) = Err (Malformed (n + k))

-- a text read from a position, in a state
unfoldable pub read_at : List ℕ → ℕ → State → Reading
read_at text at s = from at (run s (drop at text))

-- an operator's byte
abbrev pub operates : ℕ → Bool
operates b = eqb b equals || (eqb b plus || eqb b dash)

-- what an operator does before its flags
abbrev pub begun : ℕ → ℕ → Sets → Sets
begun b c s = cond (eqb b equals) (without c s) s

-- what the text is read as behind a clause
abbrev pub clause_read : Parsed Sets → List ℕ → Reading
clause_read (Ok (s, next)) text = read_at text next (gap s)
clause_read (Err e) text = Err e

-- a clause ends further on
abbrev pub ClauseEnd : Parsed Sets → ℕ → Type 0
ClauseEnd (Ok (s, next)) at = at < next
ClauseEnd (Err e) at = Unit

-- so do operators, where the text goes on
abbrev pub OperatorsEnd : Parsed Sets → ℕ → List ℕ → Type 0
OperatorsEnd (Ok (s, next)) at text = at < length text → at < next
OperatorsEnd (Err e) at text = Unit

-- what the text is read as behind those whom a clause is about
abbrev pub subject_read : Parsed ℕ → List ℕ → Sets → Reading
subject_read (Ok (c, next)) text s = read_at text next (operated true true c s)
subject_read (Err e) text s = Err e

-- from the front of a clause
abbrev pub SubjectTold : Parsed ℕ → List ℕ → ℕ → Type 0
SubjectTold r text at = (s : Sets) → subject_read r text s ≡ read_at text at (gap s)

-- behind names that mean c
abbrev pub NamesTold : Parsed ℕ → List ℕ → ℕ → ℕ → Type 0
NamesTold r text at c = (s : Sets) (d m : ℕ) → union d m ≡ c → subject_read r text s ≡ read_at text at (word (spelt [] m true ∷ []) d s)

-- from the front of `all`
abbrev pub AllTold : Parsed ℕ → List ℕ → ℕ → Type 0
AllTold r text at = (s : Sets) → subject_read r text s ≡ read_at text at (word (every ∷ []) 0 s)

-- they end no further back, where the text goes on
abbrev pub SubjectEnd : Parsed ℕ → ℕ → List ℕ → Type 0
SubjectEnd (Ok (c, next)) at text = (at ≤ next) × (next < length text)
SubjectEnd (Err e) at text = Unit

-- what the text is read as behind a name
abbrev pub name_read : Parsed ℕ → List ℕ → ℕ → Sets → Reading
name_read (Ok (number, next)) text c s = read_at text next (word (spelt [] (single number) true ∷ []) c s)
name_read (Err e) text c s = Err e

-- from the front of the name, whatever was read before it
abbrev pub NameTold : Parsed ℕ → List ℕ → ℕ → Type 0
NameTold r text at = (c : ℕ) (s : Sets) → name_read r text c s ≡ read_at text at (word names c s)

-- it ends no further back, within the text
abbrev pub NameEnd : Parsed ℕ → ℕ → List ℕ → Type 0
NameEnd (Ok (number, next)) at text = (at ≤ next) × (next ≤ length text)
NameEnd (Err e) at text = Unit

-- ---- the table

-- a row: a name's bytes behind `cap_`, and its capability's number
pub data Row : Type 0 where
  row : List ℕ → ℕ → Row

-- the rows of the capabilities from number n on
unfoldable pub rows_from : ℕ → List String → List Row
rows_from n [] = []
rows_from n (name ∷ names) = row (drop 4 (bytes name)) n ∷ rows_from (suc n) names

-- a row's name behind `cap_`, how long that is, and its number
abbrev pub text_of : Row → List ℕ
text_of (row w n) = w

abbrev pub size : Row → ℕ
size x = length (text_of x)

abbrev pub number_of : Row → ℕ
number_of (row w n) = n

-- a row put before the first that is no shorter
unfoldable pub put_in : Row → List Row → List Row
put_in x [] = x ∷ []
put_in x (y ∷ ys) = cond (ltb (size y) (size x)) (y ∷ put_in x ys) (x ∷ y ∷ ys)

-- the shorter ones first
unfoldable pub by_length : List Row → List Row
by_length [] = []
by_length (x ∷ xs) = put_in x (by_length xs)

-- the rows of the table
unfoldable pub rows : List Row
unfolding by_length put_in rows_from capability_names
rows = by_length (rows_from 0 capability_names)

-- the row that an entry of the code's table is
abbrev pub row_of : Bor (List ℕ) × ℕ → Row
row_of x = row x.0.now x.1

-- x is one of these rows
unfoldable pub OneOf : Row → List Row → Type 0
OneOf x [] = ⊥
OneOf x (y ∷ ys) = (x ≡ y) ⊎ OneOf x ys

-- a number below 64 of four bytes
abbrev pub hashed : ℕ → ℕ → ℕ → ℕ → ℕ
hashed b0 b3 b4 b6 = (7 * b0 + 36 * b3 + 9 * b4 + 2 * b6) % 64

-- that of a name behind `cap_`: its bytes 0, 3, 4 and 6, and 0 where it has none
abbrev pub hash_of : List ℕ → ℕ
hash_of w = hashed (get_or w 0 0) (get_or w 3 0) (get_or w 4 0) (get_or w 6 0)

-- of these rows, the first of which has number k, the first that has six bytes or more and comes to h; ff where there is none
unfoldable pub row_for : ℕ → ℕ → List Row → ℕ
row_for h k [] = 0xff
row_for h k (x ∷ xs) = cond (leb 6 (size x) && eqb (hash_of (text_of x)) h) k (row_for h (suc k) xs)

-- the row for each of n numbers, from h on
unfoldable pub rows_for : ℕ → ℕ → List ℕ
rows_for zero h = []
rows_for (suc n) h = row_for h 0 rows ∷ rows_for n (suc h)

-- the index of the rows
unfoldable pub index : List ℕ
index = rows_for 64 0

-- each of these rows, the first of which has number k, that has six bytes or more is the row for its number; proofs/Rows.antt computes it for the table
unfoldable pub all_indexed : ℕ → List Row → Bool
all_indexed k [] = true
all_indexed k (x ∷ xs) = (ltb (size x) 6 || eqb (row_for (hash_of (text_of x)) 0 rows) k) && all_indexed (suc k) xs

-- how many bytes of a word stand at the front of a text, in either case
unfoldable pub common : List ℕ → List ℕ → ℕ
common [] t = 0
common (k ∷ ks) [] = 0
common (k ∷ ks) (b ∷ t) = cond (eqb (lower b) k) (suc (common ks t)) 0

-- the first of these rows at the front of a text, which stands at a position; or how far the text goes on as any does
unfoldable pub find : ℕ → ℕ → List Row → List ℕ → Parsed ℕ
find at best [] t = Err (Malformed (at + best))
find at best (row w n ∷ xs) t = cond (eqb (common w t) (length w)) (Ok (n, at + length w)) (find at (max best (common w t)) xs t)

-- what is found at the front of a text, which stands at a position: a row; or, where no row is there, how far the text goes on as any does
abbrev pub Found : Parsed ℕ → ℕ → List ℕ → Type 0
Found (Ok (n, next)) at t = (w : List ℕ) × OneOf (row w n) rows × (common w t ≡ length w) × (next ≡ at + length w)
Found (Err e) at t = find at 0 rows t ≡ Err e

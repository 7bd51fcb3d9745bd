-- What the reader answers for any bytes ("Say it in names"): read from the front, byte by byte, while some well-formed text can go on so. Assumes nothing.
-- That these are the grammar's texts and sets, and the place the length of the longest beginning, is the statement in ByTheGrammar.antt.
use Rattle.std.specs.Prelude.{ℕ, suc, List, [], ◌∷◌, Bool, true, false, cond, ◌&&◌, eqb, Result, Ok, Err}
use Rattle.capabilities.specs.Sets.{full, union}
use Rattle.format.specs.Line.{bytes}
use Rattle.names.specs.declared.Sets.{Sets}
use Rattle.names.specs.declared.ReadError.{ReadError}
use Rattle.names.specs.declared.ReadError.TheVariants.{Malformed}
use Rattle.names.specs.Grammar.{comma, equals, plus, dash, blank, flag, lower, Word, spelt, names, flagged, without, no_sets}

-- `all`: it means all 41, and stands by itself
abbrev pub every : Word
every = spelt (bytes "all") full false

-- what was read so far leaves the sets s, and the reading is
-- between clauses;
-- within a word, behind names that mean c: of the words that it can still be, the rests;
-- behind an operator about c, which gives or takes, and whether the clause can end here
pub data State : Type 0 where
  gap : Sets → State
  word : List Word → ℕ → Sets → State
  operated : Bool → Bool → ℕ → Sets → State

-- a byte can stand there, and what comes of it; or it cannot
pub data Step : Type 0 where
  go : State → Step
  stuck : Step

-- of the rests of words, those that go on with this byte, less that byte
unfoldable pub after : ℕ → List Word → List Word
after b [] = []
after b (spelt [] m j ∷ xs) = after b xs
after b (spelt (k ∷ ks) m j ∷ xs) = cond (eqb b k) (spelt ks m j ∷ after b xs) (after b xs)

-- an operator
unfoldable pub operator : ℕ → Sets → ℕ → Step
operator c s b =
    cond (eqb b equals) (go (operated true true c (without c s)))
    (cond (eqb b plus) (go (operated true false c s))
    (cond (eqb b dash) (go (operated false false c s)) stuck))

-- the byte behind a complete word: a comma, where names can be joined to it, or an operator
unfoldable pub past : List Word → ℕ → Sets → ℕ → Step
past [] c s b = stuck
past (spelt [] m j ∷ xs) c s b = cond (eqb b comma && j) (go (word names (union c m) s)) (operator (union c m) s b)
past (spelt (k ∷ ks) m j ∷ xs) c s b = stuck

-- more of a word, where one of them goes on so; or else
abbrev pub within : List Word → ℕ → Sets → Step → Step
within [] c s otherwise = otherwise
within (x ∷ xs) c s otherwise = go (word (x ∷ xs) c s)

-- one byte
unfoldable pub step : State → ℕ → Step
step (gap s) b =
    cond (blank b) (go (gap s))
    (cond (eqb b equals) (operator full s b)
    (within (after (lower b) (every ∷ names)) 0 s stuck))
step (word xs c s) b = within (after (lower b) xs) c s (past xs c s b)
step (operated gives ends c s) b =
    cond (flag b) (go (operated gives true c (flagged gives c b s)))
    (cond ends (cond (blank b) (go (gap s)) (operator c s b)) stuck)

-- what a text is read as: its sets, or the place at which it is malformed
abbrev pub Reading : Type 0
Reading = Result Sets ReadError

-- the end of the text: between clauses, or where a clause can end
abbrev pub finish : State → Reading
finish (gap s) = Ok s
finish (word xs c s) = Err (Malformed 0)
finish (operated gives true c s) = Ok s
finish (operated gives false c s) = Err (Malformed 0)

-- what is read behind one byte: a place is one further on
abbrev pub later : Reading → Reading
later (Ok s) = Ok s
later (Err (Malformed n)) = Err (Malformed (suc n))

-- what is read behind a byte that can stand there; one that cannot is at fault
abbrev pub told : Step → (State → Reading) → Reading
told (go s) f = later (f s)
told stuck f = Err (Malformed 0)

-- a text read from a state
unfoldable pub run : State → List ℕ → Reading
run s [] = finish s
run s (b ∷ t) = told (step s b) (λ next. run next t)

-- the reader's answer
unfoldable pub read_text : List ℕ → Reading
read_text t = run (gap no_sets) t

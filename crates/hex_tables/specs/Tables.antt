-- The two tables of hex digits, and what is read and written by whatever table: as the format has it, with an entry of the table for each hex digit.
-- Assumes nothing.
use Rattle.std.specs.Prelude.{ℕ, zero, suc, ◌+◌, ◌*◌, ◌/◌, ◌%◌, List, [], ◌∷◌, ◌++◌, cond, ◌&&◌, ltb, eqb, get_or}
use Rattle.format.specs.Line.{Form, decimal, hex, Kind, digit, decimal_text, keyed_text, Read, read, fault, hex_digit, newline, read_hex, read_decimal}
use Rattle.format.specs.Step.{read_pairs}

-- the values of a function at 0 to n - 1
unfoldable pub tabulated : (ℕ → ℕ) → ℕ → List ℕ
tabulated f zero = []
tabulated f (suc n) = f 0 ∷ tabulated (λ i. f (suc i)) n

-- the table for reading: what each of the 256 bytes is as a hex digit, or 16
unfoldable pub reading_table : List ℕ
reading_table = tabulated hex_digit 256

-- the table for writing: the digit of each of the 16 numbers
unfoldable pub writing_table : List ℕ
writing_table = tabulated digit 16

-- ---- read by a table

-- what a byte is as a hex digit by a table: an entry above 15 is no digit, and neither is what is no byte
abbrev pub hex_digit_by : List ℕ → ℕ → ℕ
hex_digit_by table b = cond (ltb b 256) (get_or table b 0) 16

-- n more hex digits and a newline, where the digits before them make the number v
unfoldable pub read_hex_by : List ℕ → ℕ → ℕ → List ℕ → Read ℕ
read_hex_by table zero v t = read_hex zero v t
read_hex_by table (suc n) v [] = fault
read_hex_by table (suc n) v (b ∷ t) = cond (ltb (hex_digit_by table b) 16) (read_hex_by table n (v * 16 + hex_digit_by table b) t) fault

-- a value in its form, and a newline; decimal digits have no table
abbrev pub read_value_by : List ℕ → Form → List ℕ → Read ℕ
read_value_by table (decimal largest) t = read_decimal largest t
read_value_by table (hex n) t = read_hex_by table n 0 t

-- up to n more bytes of two hex digits each after the bytes bs, and a newline
unfoldable pub read_pairs_by : List ℕ → ℕ → List ℕ → List ℕ → Read (List ℕ)
read_pairs_by table zero bs t = read_pairs zero bs t
read_pairs_by table (suc n) bs [] = fault
read_pairs_by table (suc n) bs (b ∷ []) = cond (eqb b newline) (read bs []) fault
read_pairs_by table (suc n) bs (b ∷ c ∷ t) =
    cond (eqb b newline) (read bs (c ∷ t))
    (cond (ltb (hex_digit_by table b) 16 && ltb (hex_digit_by table c) 16) (read_pairs_by table n (bs ++ ((hex_digit_by table b * 16 + hex_digit_by table c) ∷ [])) t) fault)

-- ---- written by a table

-- the digit of a number below 16 by a table
abbrev pub digit_by : List ℕ → ℕ → ℕ
digit_by table d = get_or table d 0

-- the last n hex digits of v
unfoldable pub hex_text_by : List ℕ → ℕ → ℕ → List ℕ
hex_text_by table zero v = []
hex_text_by table (suc n) v = hex_text_by table n (v / 16) ++ (digit_by table (v % 16) ∷ [])

-- a value in its form
abbrev pub value_text_by : List ℕ → Form → ℕ → List ℕ
value_text_by table (decimal largest) v = decimal_text v
value_text_by table (hex n) v = hex_text_by table n v

-- the line of a kind
abbrev pub line_text_by : List ℕ → Kind → ℕ → List ℕ
line_text_by table k v = keyed_text k.key (value_text_by table k.form v)

-- the lines of these kinds with these values, in this order
unfoldable pub lines_text_by : List ℕ → List Kind → List ℕ → List ℕ
lines_text_by table [] vs = []
lines_text_by table (k ∷ ks) [] = []
lines_text_by table (k ∷ ks) (v ∷ vs) = line_text_by table k v ++ lines_text_by table ks vs

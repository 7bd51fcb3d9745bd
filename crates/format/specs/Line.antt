-- How a line is written and read ("Sheet, plan and report"): a key, `=`, a value and a newline. Assumes nothing.
use Rattle.std.specs.Prelude.{ℕ, zero, suc, ◌+◌, ◌-◌, ◌*◌, ◌/◌, ◌%◌, List, [], ◌∷◌, ◌++◌, Bool, true, false, cond, ◌&&◌, ltb, leb, eqb}
use Prim.Native.String as S
use Prim.Native.String.{String}
use Prim.Native.Char.{code}

-- the bytes of a quoted text
abbrev pub bytes : String → List ℕ
bytes S.[] = []
bytes (S.◌∷◌ c t) = code c ∷ bytes t

-- how a value is written: a decimal number up to a largest one, with no leading zeros; or so many hex digits
pub data Form : Type 0 where
  decimal : ℕ → Form
  hex : ℕ → Form

-- a kind of line: its key with `=`, and its value's form
pub record Kind : Type 0 where
  pub key : List ℕ
  pub form : Form

abbrev pub kind : String → Form → Kind
kind key form = record { key = bytes key; form = form }

-- ---- written

-- the digit of a number below 16, by its byte: 48 is `0`, 97 is `a`; hex letters are lower case
abbrev pub digit : ℕ → ℕ
digit d = cond (ltb d 10) (48 + d) (87 + d)

-- the last n hex digits of v
unfoldable pub hex_text : ℕ → ℕ → List ℕ
hex_text zero v = []
hex_text (suc n) v = hex_text n (v / 16) ++ (digit (v % 16) ∷ [])

-- the decimal digits of v, no leading zeros, where v has at most n of them
unfoldable pub decimal_of : ℕ → ℕ → List ℕ
decimal_of zero v = []
decimal_of (suc n) v = cond (ltb v 10) (digit v ∷ []) (decimal_of n (v / 10) ++ (digit (v % 10) ∷ []))

-- the decimal digits of v: there are never more than v + 1
unfoldable pub decimal_text : ℕ → List ℕ
decimal_text v = decimal_of (suc v) v

-- a value in its form
abbrev pub value_text : Form → ℕ → List ℕ
value_text (decimal largest) v = decimal_text v
value_text (hex n) v = hex_text n v

-- a key with its `=`, a value's text and a newline
unfoldable pub keyed_text : List ℕ → List ℕ → List ℕ
keyed_text key value = key ++ (value ++ bytes "\n")

-- the line of a kind
abbrev pub line_text : Kind → ℕ → List ℕ
line_text k v = keyed_text k.key (value_text k.form v)

-- the lines of these kinds with these values, in this order
unfoldable pub lines_text : List Kind → List ℕ → List ℕ
lines_text [] vs = []
lines_text (k ∷ ks) [] = []
lines_text (k ∷ ks) (v ∷ vs) = line_text k v ++ lines_text ks vs

-- ---- read

-- what a text begins with and the text after that; or the line of the first fault, which is one more than the complete correct lines before it
pub data Read (A : Type 0) : Type 0 where
  read : A → List ℕ → Read A
  fault_at : ℕ → Read A

-- a fault in the line that is being read
abbrev pub fault : {A : Type 0} → Read A
fault = fault_at 1

-- what is read after n lines: a fault there is n lines further on
abbrev pub below : {A : Type 0} → ℕ → Read A → Read A
below n (read v t) = read v t
below n (fault_at line) = fault_at (n + line)

-- n lines are read, and what follows them depends on their value
abbrev pub next : {A B : Type 0} → ℕ → Read A → (A → List ℕ → Read B) → Read B
next n (read v t) f = below n (f v t)
next n (fault_at line) f = fault_at line

-- what was read, made into another value
abbrev pub mapped : {A B : Type 0} → (A → B) → Read A → Read B
mapped f (read v t) = read (f v) t
mapped f (fault_at line) = fault_at line

-- the number of a lower-case hex digit, and 16 for any other byte
abbrev pub hex_digit : ℕ → ℕ
hex_digit b = cond (ltb b 48) 16 (cond (ltb b 58) (b - 48) (cond (ltb b 97) 16 (cond (ltb b 103) (b - 87) 16)))

-- the number of a decimal digit, and 10 for any other byte
abbrev pub decimal_digit : ℕ → ℕ
decimal_digit b = cond (ltb b 48) 10 (cond (ltb b 58) (b - 48) 10)

-- the byte of a newline
abbrev pub newline : ℕ
newline = 10

-- n more hex digits and a newline, where the digits before them make the number v
unfoldable pub read_hex : ℕ → ℕ → List ℕ → Read ℕ
read_hex zero v [] = fault
read_hex zero v (b ∷ t) = cond (eqb b newline) (read v t) fault
read_hex (suc n) v [] = fault
read_hex (suc n) v (b ∷ t) = cond (ltb (hex_digit b) 16) (read_hex n (v * 16 + hex_digit b) t) fault

-- a newline, or more digits of a number up to the largest, where the digits before them make the number v; after a leading zero none can follow
unfoldable pub read_digits : ℕ → ℕ → List ℕ → Read ℕ
read_digits largest v [] = fault
read_digits largest v (b ∷ t) =
    cond (eqb b newline) (read v t)
    (cond (eqb v 0) fault
    (cond (ltb (decimal_digit b) 10 && leb (v * 10 + decimal_digit b) largest) (read_digits largest (v * 10 + decimal_digit b) t) fault))

-- a decimal number up to the largest, no leading zeros, and a newline
unfoldable pub read_decimal : ℕ → List ℕ → Read ℕ
read_decimal largest [] = fault
read_decimal largest (b ∷ t) =
    cond (ltb (decimal_digit b) 10 && leb (decimal_digit b) largest) (read_digits largest (decimal_digit b) t) fault

-- a value in its form, and a newline
abbrev pub read_value : Form → List ℕ → Read ℕ
read_value (decimal largest) t = read_decimal largest t
read_value (hex n) t = read_hex n 0 t

-- a text starts with a key
unfoldable pub starts_with : List ℕ → List ℕ → Bool
starts_with [] t = true
starts_with (k ∷ ks) [] = false
starts_with (k ∷ ks) (b ∷ t) = cond (eqb b k) (starts_with ks t) false

-- the bytes of a key, then what follows it
unfoldable pub after_key : {A : Type 0} → List ℕ → (List ℕ → Read A) → List ℕ → Read A
after_key [] f t = f t
after_key (k ∷ ks) f [] = fault
after_key (k ∷ ks) f (b ∷ t) = cond (eqb b k) (after_key ks f t) fault

-- a key with its `=`, a value and a newline
abbrev pub read_keyed : List ℕ → Form → List ℕ → Read ℕ
read_keyed key form t = after_key key (read_value form) t

-- a line of a kind
abbrev pub read_line : Kind → List ℕ → Read ℕ
read_line k t = read_keyed k.key k.form t

-- lines of these kinds, in this order: their values
unfoldable pub read_lines : List Kind → List ℕ → Read (List ℕ)
read_lines [] t = read [] t
read_lines (k ∷ ks) t = next 1 (read_line k t) (λ v rest. mapped (λ vs. v ∷ vs) (read_lines ks rest))

-- A step of a plan ("Sheet, plan and report"): five lines, call, a, b, c and attr. Assumes nothing.
use Rattle.std.specs.Prelude.{ℕ, zero, suc, ◌+◌, ◌*◌, List, [], ◌∷◌, ◌++◌, cond, ◌&&◌, ltb, eqb, length, get_or}
use Rattle.rules.specs.Run.{Step}
use Rattle.format.specs.Line.{bytes, Kind, kind, decimal, hex, hex_text, keyed_text, lines_text, Read, read, fault, next, mapped, hex_digit, newline, after_key, read_lines}

-- its first four lines: the call's number, 0 to 99, and the operands, 16 hex digits
unfoldable pub step_kinds : List Kind
step_kinds = kind "call=" (decimal 99) ∷ kind "a=" (hex 16) ∷ kind "b=" (hex 16) ∷ kind "c=" (hex 16) ∷ []

-- the key of its last line
abbrev pub attribute_key : List ℕ
attribute_key = bytes "attr="

-- ---- written

-- two hex digits a byte
unfoldable pub pairs_text : List ℕ → List ℕ
pairs_text [] = []
pairs_text (b ∷ bs) = hex_text 2 b ++ pairs_text bs

-- the line of an attribute's bytes
abbrev pub attribute_text : List ℕ → List ℕ
attribute_text bs = keyed_text attribute_key (pairs_text bs)

-- the five lines of a step
unfoldable pub step_text : Step → List ℕ
step_text s = lines_text step_kinds (s.number ∷ s.a ∷ s.b ∷ s.c ∷ []) ++ attribute_text s.attribute

-- ---- read

-- up to n more bytes of two hex digits each after the bytes bs, and a newline
unfoldable pub read_pairs : ℕ → List ℕ → List ℕ → Read (List ℕ)
read_pairs zero bs [] = fault
read_pairs zero bs (b ∷ t) = cond (eqb b newline) (read bs t) fault
read_pairs (suc n) bs [] = fault
read_pairs (suc n) bs (b ∷ []) = cond (eqb b newline) (read bs []) fault
read_pairs (suc n) bs (b ∷ c ∷ t) =
    cond (eqb b newline) (read bs (c ∷ t))
    (cond (ltb (hex_digit b) 16 && ltb (hex_digit c) 16) (read_pairs n (bs ++ ((hex_digit b * 16 + hex_digit c) ∷ [])) t) fault)

-- the line of an attribute, after its key: 0 to 48 hex digits, an even number, make 0 to 24 bytes
abbrev pub read_attribute : List ℕ → List ℕ → Read (List ℕ)
read_attribute key t = after_key key (read_pairs 24 []) t

-- the step of the first four lines' values and the attribute's bytes
abbrev pub step_of : List ℕ → List ℕ → Step
step_of vs attribute =
    record { number = get_or vs 0 0; a = get_or vs 1 0; b = get_or vs 2 0; c = get_or vs 3 0; attribute = attribute }

-- a step and the text after it, or the line of its first fault, 1 to 5
unfoldable pub read_step : List ℕ → Read Step
read_step t = next (length step_kinds) (read_lines step_kinds t) (λ vs rest. mapped (step_of vs) (read_attribute attribute_key rest))

-- What stands in the list: the statement, which proofs/Listed.antt proves. Assumes nothing.
use Rattle.std.specs.Prelude.{ℕ, suc, ◌<◌, ◌≡◌, Bool, true, false, cond, ◌&&◌, List, [], ◌∷◌, ◌++◌, eqb, get_or}
use Rattle.format.specs.Line.{bytes, Kind, kind, decimal}
use Rattle.format.specs.Sheet.{uid_kinds, set_kinds}
use Rattle.status.specs.declared.Status.{Status}
use Rattle.status.specs.Lines.{lines_of}
use Rattle.status.specs.Reading.{up_to}
use Rattle.status.specs.Comparing.{keys, values_of, last_line, list_text}

-- the lines of a text but the last
unfoldable pub but_last : List (List ℕ) → List (List ℕ)
but_last [] = []
but_last (l ∷ []) = []
but_last (l ∷ m ∷ ls) = l ∷ but_last (m ∷ ls)

-- the byte that ends a word
abbrev pub space : ℕ
space = 32

-- the first word of each line
unfoldable pub first_words : List (List ℕ) → List (List ℕ)
first_words [] = []
first_words (l ∷ ls) = up_to space l ∷ first_words ls

-- the keys that a list's text names, the last line left out
unfoldable pub listed_keys : List ℕ → List (List ℕ)
listed_keys text = first_words (but_last (lines_of text))

-- of these keys those whose values differ, in this order
unfoldable pub differing_keys : List Kind → List ℕ → List ℕ → List (List ℕ)
differing_keys [] ps fs = []
differing_keys (k ∷ ks) [] fs = []
differing_keys (k ∷ ks) (p ∷ ps) [] = []
differing_keys (k ∷ ks) (p ∷ ps) (f ∷ fs) = cond (eqb p f) (differing_keys ks ps fs) (k.key ∷ differing_keys ks ps fs)

-- two texts are the same
unfoldable pub same : List ℕ → List ℕ → Bool
same [] [] = true
same [] (c ∷ u) = false
same (b ∷ t) [] = false
same (b ∷ t) (c ∷ u) = eqb b c && same t u

-- how often a text stands among these
unfoldable pub times : List ℕ → List (List ℕ) → ℕ
times t [] = 0
times t (u ∷ us) = cond (same t u) (suc (times t us)) (times t us)

-- the key of a number from 0 on
abbrev pub key_of : ℕ → List ℕ
key_of i = (get_or keys i (kind "" (decimal 0))).key

-- the lines of these keys in a sheet: the same forms, and `=` behind each key
unfoldable pub sheet_kinds_of : List Kind → List Kind
sheet_kinds_of [] = []
sheet_kinds_of (k ∷ ks) = record { key = k.key ++ bytes "="; form = k.form } ∷ sheet_kinds_of ks

pub record Listed : Type 0 where
  -- the compared keys are the sheet's, in its order and with its forms, without group IDs and securebits
  pub sheet_order : sheet_kinds_of keys ≡ uid_kinds ++ (set_kinds ++ (kind "nnp=" (decimal 1) ∷ []))
  -- the list is empty, the last line standing alone, exactly if all ten keys agree
  pub empty : (predicted found : Status) → values_of predicted ≡ values_of found → list_text predicted found ≡ last_line
  pub all_agree : (predicted found : Status) → list_text predicted found ≡ last_line → values_of predicted ≡ values_of found
  -- the text names the keys whose values differ, in order, and then has the last line
  pub in_order : (predicted found : Status) → listed_keys (list_text predicted found) ≡ differing_keys keys (values_of predicted) (values_of found)
  -- each of the ten keys is named once if its values differ, and else not at all
  pub once : (predicted found : Status) (i : ℕ) → i < 10
      → times (key_of i) (listed_keys (list_text predicted found)) ≡ cond (eqb (get_or (values_of predicted) i 0) (get_or (values_of found) i 0)) 0 1

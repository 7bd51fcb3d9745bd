-- How long the written texts of digits and lines are. Assumes nothing.
use mathlib.Core.Path.{◌≡◌, refl, ap, ◌∙◌}
use mathlib.Core.List.{List, [], ◌∷◌, append-nil}
use mathlib.Core.Logic.{⊎_elim}
use Prim.Native.Nat.{ℕ, zero, suc, ◌+◌, ◌*◌, ◌/◌, ◌%◌, ◌^◌, ◌<◌, ◌≤◌}
use native.Mathlib.Nat.{pow-suc, not-suc-le-zero}
use native.Mathlib.Numerals.{add-one}
use native.Mathlib.Omega.{arith}
use lib.ListN.{length, length-append}
use Rattle.format.specs.Line.{Form, decimal, hex, Kind, digit, hex_text, decimal_text, value_text, keyed_text, line_text, lines_text}
use Rattle.format.specs.Step.{pairs_text}
use Rattle.format.specs.Report.{result_kinds}
use Rattle.format.proofs.Decimals.{below_or_not, decimal_one, decimal_more}
use Rattle.format.proofs.Fitting.{Fits, FitAll}

-- ---- digits

-- so many hex digits
pub length_hex : (n v : ℕ) → length (hex_text n v) ≡ n
unfolding hex_text
length_hex zero v = refl
length_hex (suc n) v = simp (length-append, length_hex n (v / 16), add-one)

-- a number from 10 on has one decimal digit more than its tenth
pub length_more : (v : ℕ) → 10 ≤ v → length (decimal_text v) ≡ length (decimal_text (v / 10)) + 1
length_more v h = ap length (decimal_more v h) ∙ length-append (decimal_text (v / 10)) (digit (v % 10) ∷ [])

-- a number below 10 has one
pub length_one : (v : ℕ) → v < 10 → length (decimal_text v) ≡ 1
length_one v h = ap length (decimal_one v h)

-- there is at least one
pub length_some : (v : ℕ) → 1 ≤ length (decimal_text v)
length_some v =
    ⊎_elim (λ (l : v < 10). omega (arith, length_one v l)) (λ (l : 10 ≤ v). omega (arith, length_more v l)) (below_or_not v 10)

-- a number below a power of ten has no more than its exponent
pub at_most : (n v : ℕ) → v < 10 ^ suc n → length (decimal_text v) ≤ suc n
at_most zero v h = omega (arith, length_one v h)
at_most (suc n) v h =
    let q : v < 10 ^ suc n * 10 = rw pow-suc at h in
    ⊎_elim
    (λ (l : v < 10). omega (arith, length_one v l))
    (λ (l : 10 ≤ v). omega (arith, length_more v l, at_most n (v / 10) (omega arith)))
    (below_or_not v 10)

-- by induction over a number above v
no_longer : (n v m : ℕ) → v < n → v ≤ m → length (decimal_text v) ≤ length (decimal_text m)
no_longer zero v m h g = absurd (not-suc-le-zero h)
no_longer (suc n) v m h g =
    ⊎_elim
    (λ (l : v < 10). omega (arith, length_one v l, length_some m))
    (λ (l : 10 ≤ v). omega (arith, length_more v l, length_more m (omega arith), no_longer n (v / 10) (m / 10) (omega arith) (omega arith)))
    (below_or_not v 10)

-- a larger number has no fewer
length_up_to : (v m : ℕ) → v ≤ m → length (decimal_text v) ≤ length (decimal_text m)
length_up_to v m h = no_longer (suc v) v m (omega arith) h

-- ---- lines

-- the most digits of a value in a form
abbrev most_digits : Form → ℕ
most_digits (decimal largest) = length (decimal_text largest)
most_digits (hex n) = n

-- the most bytes of a line with this key and form
abbrev pub most_keyed : List ℕ → Form → ℕ
most_keyed key form = length key + most_digits form + 1

-- the most bytes of lines of these kinds
unfoldable pub most_lines : List Kind → ℕ
most_lines [] = 0
most_lines (k ∷ ks) = most_keyed k.key k.form + most_lines ks

-- a value
length_value : (form : Form) (v : ℕ) → Fits form v → length (value_text form v) ≤ most_digits form
length_value (decimal largest) v h = length_up_to v largest h
length_value (hex n) v h = omega (arith, length_hex n v)

-- a key with its `=`, a value and a newline
pub length_keyed : (key value : List ℕ) → length (keyed_text key value) ≡ length key + length value + 1
unfolding keyed_text
length_keyed key value = simp (length-append) (omega arith)

-- a line
pub length_line : (key : List ℕ) (form : Form) (v : ℕ) → Fits form v → length (keyed_text key (value_text form v)) ≤ most_keyed key form
length_line key form v h = omega (arith, length_keyed key (value_text form v), length_value form v h)

-- lines
pub length_lines : (ks : List Kind) (vs : List ℕ) → FitAll ks vs → length (lines_text ks vs) ≤ most_lines ks
unfolding lines_text FitAll most_lines
length_lines [] vs h = omega arith
length_lines (k ∷ ks) [] h = absurd h
length_lines (k ∷ ks) (v ∷ vs) h =
    omega (arith, length-append (line_text k v) (lines_text ks vs), length_line k.key k.form v h.0, length_lines ks vs h.1)

-- a result's three lines
pub length_result_lines : (code value cause : ℕ)
    → length (lines_text result_kinds (code ∷ value ∷ cause ∷ [])) ≡ 36 + (length (decimal_text code) + length (decimal_text cause))
unfolding lines_text result_kinds
length_result_lines code value cause = simp (append-nil, length-append, length_keyed, length_hex) (omega arith)

-- the digits of an attribute
length_pairs : (bs : List ℕ) → length (pairs_text bs) ≡ 2 * length bs
unfolding pairs_text
length_pairs [] = refl
length_pairs (b ∷ bs) = omega (arith, length-append (hex_text 2 b) (pairs_text bs), length_hex 2 b, length_pairs bs)

-- an attribute's line
pub length_attribute : (key bs : List ℕ) → length bs ≤ 24 → length (keyed_text key (pairs_text bs)) ≤ length key + 49
length_attribute key bs h = omega (arith, length_keyed key (pairs_text bs), length_pairs bs)

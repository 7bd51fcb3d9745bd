-- What was written is read as what it was written for: digits, a value, a keyed line, lines. Assumes nothing.
use mathlib.Core.Path.{◌≡◌, refl, sym, ap, ◌∙◌}
use mathlib.Core.List.{List, [], ◌∷◌, ◌++◌, append_assoc}
use mathlib.Core.Logic.{⊎_elim}
use Prim.Native.Nat.{ℕ, zero, suc, ◌+◌, ◌*◌, ◌/◌, ◌%◌, ◌^◌, ◌<◌, ◌≤◌}
use native.Mathlib.Nat.{add-zero, zero-add, pow-suc, not-suc-le-zero}
use native.Mathlib.Omega.{arith}
use borrow.Author.Tests.{lt-ltb, le-leb, eq-eqb, ne_eqb}
use Rattle.format.specs.Line.{Form, decimal, hex, Kind, bytes, digit, hex_text, decimal_text, value_text, keyed_text, line_text, lines_text, Read, read, newline, read_hex, read_digits, read_decimal, read_value, after_key, read_keyed, read_lines}
use Rattle.format.proofs.Decimals.{below_or_not, decimal_one, decimal_more}
use Rattle.format.proofs.Digits.{hex_digit_read, decimal_digit_read, digit_no_newline}
use Rattle.format.proofs.Fitting.{Fits, FitAll}

-- ---- hex digits

hex_one : (n v d : ℕ) (t : List ℕ) → d < 16 → read_hex (suc n) v (digit d ∷ t) ≡ read_hex n (v * 16 + d) t
unfolding read_hex
hex_one n v d t h = rw (hex_digit_read d h, lt-ltb d 16 h)

-- of k digits the first n are read, m are to come
hex_digits : (n m k v : ℕ) (t : List ℕ) → k ≡ n + m → v < 16 ^ n → read_hex k 0 (hex_text n v ++ t) ≡ read_hex m v t
unfolding hex_text
hex_digits zero m k v t e h = let z : v ≡ 0 = omega arith in rw (z, e, zero-add m)
hex_digits (suc n) m k v t e h =
    let l : v < 16 ^ n * 16 = rw pow-suc at h in
    let whole : v / 16 * 16 + v % 16 ≡ v = omega arith in
    rw append_assoc
    (hex_digits n (suc m) k (v / 16) (digit (v % 16) ∷ t) (omega (arith, e)) (omega arith)
    ∙ hex_one m (v / 16) (v % 16) t (omega arith)
    ∙ rw whole)

hex_end : (v : ℕ) (t : List ℕ) → read_hex 0 v (newline ∷ t) ≡ read v t
unfolding read_hex
hex_end v t = refl

-- ---- decimal digits

decimal_first : (m d : ℕ) (t : List ℕ) → d < 10 → d ≤ m → read_decimal m (digit d ∷ t) ≡ read_digits m d t
unfolding read_decimal
decimal_first m d t h l = rw (decimal_digit_read d h, lt-ltb d 10 h, le-leb d m l)

decimal_next : (m v d : ℕ) (t : List ℕ) → 0 < v → d < 10 → v * 10 + d ≤ m → read_digits m v (digit d ∷ t) ≡ read_digits m (v * 10 + d) t
unfolding read_digits
decimal_next m v d t p h l =
    rw (ne_eqb (digit d) newline (digit_no_newline d), ne_eqb v 0 (λ e. omega (arith, e)), decimal_digit_read d h, lt-ltb d 10 h, le-leb _ m l)

-- all digits of v are read, by induction over a number above v
decimal_digits : (n m v : ℕ) (t : List ℕ) → v < n → v ≤ m → read_decimal m (decimal_text v ++ t) ≡ read_digits m v t
decimal_digits zero m v t h g = absurd (not-suc-le-zero h)
decimal_digits (suc n) m v t h g =
    ⊎_elim
    (λ (l : v < 10). rw (decimal_one v l) (decimal_first m v t l g))
    (λ (l : 10 ≤ v).
    let whole : v / 10 * 10 + v % 10 ≡ v = omega arith in
    rw (decimal_more v l, append_assoc)
    (decimal_digits n m (v / 10) (digit (v % 10) ∷ t) (omega arith) (omega arith)
    ∙ decimal_next m (v / 10) (v % 10) t (omega arith) (omega arith) (omega arith)
    ∙ ap (λ (w : ℕ). read_digits m w t) whole))
    (below_or_not v 10)

decimal_end : (m v : ℕ) (t : List ℕ) → read_digits m v (newline ∷ t) ≡ read v t
unfolding read_digits
decimal_end m v t = refl

-- ---- a value, a key, a line

-- a written value and a newline
value_read : (f : Form) (v : ℕ) (t : List ℕ) → Fits f v → read_value f (value_text f v ++ (newline ∷ t)) ≡ read v t
value_read (decimal m) v t h = decimal_digits (suc v) m v (newline ∷ t) (omega arith) h ∙ decimal_end m v t
value_read (hex n) v t h = hex_digits n 0 n v (newline ∷ t) (sym (add-zero n)) h ∙ hex_end v t

-- after a key comes what is read there
pub key_read : {A : Type 0} (key : List ℕ) (f : List ℕ → Read A) (t : List ℕ) → after_key key f (key ++ t) ≡ f t
unfolding after_key
key_read [] f t = refl
key_read (k ∷ ks) f t = rw (eq-eqb k k refl) (key_read ks f t)

-- the text after a line's newline, bracketed as it is read
pub line_then : (key middle t : List ℕ) → keyed_text key middle ++ t ≡ key ++ (middle ++ (newline ∷ t))
unfolding keyed_text
line_then key middle t =
    append_assoc key (middle ++ bytes "\n") t ∙ ap (λ (xs : List ℕ). key ++ xs) (append_assoc middle (bytes "\n") t)

-- a written line
pub keyed_read : (key : List ℕ) (f : Form) (v : ℕ) (t : List ℕ) → Fits f v → read_keyed key f (keyed_text key (value_text f v) ++ t) ≡ read v t
keyed_read key f v t h =
    ap (read_keyed key f) (line_then key (value_text f v) t)
    ∙ key_read key (read_value f) (value_text f v ++ (newline ∷ t))
    ∙ value_read f v t h

-- written lines
pub lines_read : (ks : List Kind) (vs t : List ℕ) → FitAll ks vs → read_lines ks (lines_text ks vs ++ t) ≡ read vs t
unfolding read_lines lines_text FitAll
lines_read [] [] t h = refl
lines_read [] (v ∷ vs) t h = absurd h
lines_read (k ∷ ks) [] t h = absurd h
lines_read (k ∷ ks) (v ∷ vs) t h =
    rw (append_assoc (line_text k v) (lines_text ks vs) t, keyed_read _ k.form v (lines_text ks vs ++ t) h.0, lines_read ks vs t h.1)

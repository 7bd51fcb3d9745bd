-- A text that is read is the one written for what it is read as: digits, a value, a keyed line, lines. Assumes nothing.
use mathlib.Core.Path.{◌≡◌, refl, sym, ap, ◌∙◌}
use mathlib.Core.List.{List, [], ◌∷◌, ◌++◌, append_assoc}
use mathlib.Core.Bool.{true, ◌&&◌}
use Prim.Native.Nat.{ℕ, zero, suc, ◌+◌, ◌*◌, ◌/◌, ◌%◌, ◌^◌, ◌<◌, ◌≤◌}
use native.Mathlib.Nat.{add-zero, zero-add, pow-suc}
use native.Mathlib.Omega.{arith}
use borrow.Author.Tests.{ltb-true, leb-true, eqb-true, eqb-false}
use lib.Dec.{ltb, leb, eqb}
use Rattle.capabilities.proofs.Inclusion.{and_l, and_r}
use Rattle.format.specs.Line.{Form, decimal, hex, Kind, hex_text, decimal_text, value_text, keyed_text, line_text, lines_text, Read, read, mapped, hex_digit, decimal_digit, newline, read_hex, read_digits, read_decimal, read_value, after_key, read_keyed, read_line, read_lines}
use Rattle.format.proofs.Decimals.{decimal_one, decimal_more}
use Rattle.format.proofs.Digits.{hex_digit_written, decimal_digit_written}
use Rattle.format.proofs.Reading.{fault_read, tested, tested_not, tested_cases, next_told, mapped_told}
use Rattle.format.proofs.Fitting.{Fits, FitAll}
use Rattle.format.proofs.WrittenRead.{line_then}

-- ---- one more digit makes a number's text longer by its byte

hex_grows : (n v b : ℕ) → hex_digit b < 16 → hex_text (suc n) (v * 16 + hex_digit b) ≡ hex_text n v ++ (b ∷ [])
unfolding hex_text
hex_grows n v b h =
    let x : (v * 16 + hex_digit b) / 16 ≡ v = omega arith in
    let y : (v * 16 + hex_digit b) % 16 ≡ hex_digit b = omega arith in
    rw (x, y) (ap (λ (c : ℕ). hex_text n v ++ (c ∷ [])) (hex_digit_written b h))

decimal_grows : (v b : ℕ) → 0 < v → decimal_digit b < 10 → decimal_text (v * 10 + decimal_digit b) ≡ decimal_text v ++ (b ∷ [])
decimal_grows v b p h =
    let x : (v * 10 + decimal_digit b) / 10 ≡ v = omega arith in
    let y : (v * 10 + decimal_digit b) % 10 ≡ decimal_digit b = omega arith in
    decimal_more (v * 10 + decimal_digit b) (omega arith) ∙ rw (x, y) (ap (λ (c : ℕ). decimal_text v ++ (c ∷ [])) (decimal_digit_written b h))

-- a byte moves from the text that is left to the digits before it
moved : (old new t : List ℕ) (b : ℕ) → new ≡ old ++ (b ∷ []) → old ++ (b ∷ t) ≡ new ++ t
moved old new t b e = sym (ap (λ (xs : List ℕ). xs ++ t) e ∙ append_assoc old (b ∷ []) t)

same_cons : {b c : ℕ} {t u : List ℕ} → b ≡ c → t ≡ u → b ∷ t ≡ c ∷ u
same_cons p q = rw (p, q)

-- a text whose newline was read
pub newline_told : {A : Type 0} (b : ℕ) (v w : A) (t rest : List ℕ) → eqb b newline ≡ true → read v t ≡ read w rest → b ∷ t ≡ newline ∷ rest
newline_told b v w t rest e h = same_cons (eqb-true b newline e) cc

-- ---- a value

hex_told : (m n v w : ℕ) (t rest : List ℕ) → read_hex m v t ≡ read w rest → v < 16 ^ n
    → (hex_text n v ++ t ≡ hex_text (n + m) w ++ (newline ∷ rest)) × (w < 16 ^ (n + m))
unfolding read_hex
hex_told zero n v w [] rest e h = fault_read w rest e
hex_told zero n v w (b ∷ t) rest e h =
    let r = tested w rest (eqb b newline) (read v t) e in
    let p : v ≡ w = cc r.1 in
    rw (add-zero n, ← p) (ap (λ (xs : List ℕ). hex_text n v ++ xs) (newline_told b v w t rest r.0 r.1), h)
hex_told (suc m) n v w [] rest e h = fault_read w rest e
hex_told (suc m) n v w (b ∷ t) rest e h =
    let r = tested w rest (ltb (hex_digit b) 16) (read_hex m (v * 16 + hex_digit b) t) e in
    let d : hex_digit b < 16 = ltb-true (hex_digit b) 16 r.0 in
    let sum : suc n + m ≡ n + suc m = omega arith in
    let i = hex_told m (suc n) (v * 16 + hex_digit b) w t rest r.1 (rw pow-suc (omega arith)) in
    rw (← sum) (moved (hex_text n v) _ t b (hex_grows n v b d) ∙ i.0, i.1)

-- where no digit was read before
hex_whole : (n w : ℕ) (t rest : List ℕ) → (hex_text 0 0 ++ t ≡ hex_text (0 + n) w ++ (newline ∷ rest)) × (w < 16 ^ (0 + n))
    → (t ≡ hex_text n w ++ (newline ∷ rest)) × (w < 16 ^ n)
unfolding hex_text
hex_whole n w t rest h = rw zero-add at h

positive : (n : ℕ) → (n ≡ 0 → ⊥) → 0 < n
positive zero g = absurd (g refl)
positive (suc n) g = omega arith

-- the byte after the digits of v is a newline, or one more digit
digits_told : (m v w : ℕ) (t rest : List ℕ) → read_digits m v t ≡ read w rest → v ≤ m
    → (decimal_text v ++ t ≡ decimal_text w ++ (newline ∷ rest)) × (w ≤ m)
unfolding read_digits
digits_told m v w [] rest e h = fault_read w rest e
digits_told m v w (b ∷ t) rest e h =
    tested_cases w rest (eqb b newline) (read v t) _ e
    (λ q g.
    let p : v ≡ w = cc g in
    rw (← p) (ap (λ (xs : List ℕ). decimal_text v ++ xs) (newline_told b v w t rest q g), h))
    (λ q g.
    let more = tested_not w rest _ _ g in
    let r = tested w rest _ _ more.1 in
    let d : decimal_digit b < 10 = ltb-true _ 10 (and_l (ltb (decimal_digit b) 10) (leb (v * 10 + decimal_digit b) m) r.0) in
    let l : v * 10 + decimal_digit b ≤ m = leb-true _ m (and_r (ltb (decimal_digit b) 10) (leb (v * 10 + decimal_digit b) m) r.0) in
    let i = digits_told m (v * 10 + decimal_digit b) w t rest r.1 l in
    (moved (decimal_text v) _ t b (decimal_grows v b (positive v (eqb-false v 0 more.0)) d) ∙ i.0, i.1))

decimal_told : (m w : ℕ) (t rest : List ℕ) → read_decimal m t ≡ read w rest → (t ≡ decimal_text w ++ (newline ∷ rest)) × (w ≤ m)
unfolding read_decimal
decimal_told m w [] rest e = fault_read w rest e
decimal_told m w (b ∷ t) rest e =
    let r = tested w rest (ltb (decimal_digit b) 10 && leb (decimal_digit b) m) (read_digits m (decimal_digit b) t) e in
    let d : decimal_digit b < 10 = ltb-true _ 10 (and_l (ltb (decimal_digit b) 10) (leb (decimal_digit b) m) r.0) in
    let l : decimal_digit b ≤ m = leb-true _ m (and_r (ltb (decimal_digit b) 10) (leb (decimal_digit b) m) r.0) in
    let i = digits_told m (decimal_digit b) w t rest r.1 l in
    let one : decimal_text (decimal_digit b) ≡ b ∷ [] = decimal_one (decimal_digit b) d ∙ ap (λ (c : ℕ). c ∷ []) (decimal_digit_written b d) in
    (moved [] _ t b one ∙ i.0, i.1)

-- a value that is read and its newline
value_written : (f : Form) (w : ℕ) (t rest : List ℕ) → read_value f t ≡ read w rest → (t ≡ value_text f w ++ (newline ∷ rest)) × Fits f w
value_written (decimal m) w t rest e = decimal_told m w t rest e
value_written (hex n) w t rest e = hex_whole n w t rest (hex_told n 0 0 w t rest e (omega arith))

-- ---- a key, a line, lines

-- a text that is read after a key begins with the key
pub key_written : {A : Type 0} (key : List ℕ) (f : List ℕ → Read A) (w : A) (t rest : List ℕ) → after_key key f t ≡ read w rest
    → (u : List ℕ) × (t ≡ key ++ u) × (f u ≡ read w rest)
unfolding after_key
key_written [] f w t rest e = (t, refl, e)
key_written (k ∷ ks) f w [] rest e = fault_read w rest e
key_written (k ∷ ks) f w (b ∷ t) rest e =
    let r = tested w rest (eqb b k) (after_key ks f t) e in
    let i = key_written ks f w t rest r.1 in
    let p : b ≡ k = eqb-true b k r.0 in
    (i.0, same_cons p i.1, i.2)

-- a line that is read
pub keyed_written : (key : List ℕ) (f : Form) (w : ℕ) (t rest : List ℕ) → read_keyed key f t ≡ read w rest
    → (t ≡ keyed_text key (value_text f w) ++ rest) × Fits f w
keyed_written key f w t rest e =
    let k = key_written key (read_value f) w t rest e in
    let v = value_written f w k.0 rest k.2 in
    (k.1 ∙ ap (λ (xs : List ℕ). key ++ xs) v.0 ∙ sym (line_then key (value_text f w) rest), v.1)

-- lines that are read
pub lines_written : (ks : List Kind) (vs t rest : List ℕ) → read_lines ks t ≡ read vs rest → (t ≡ lines_text ks vs ++ rest) × FitAll ks vs
unfolding read_lines lines_text FitAll
lines_written [] vs t rest e = let p : [] ≡ vs = cc in rw (← p) (cc, tt)
lines_written (k ∷ ks) vs t rest e =
    let n = next_told vs rest _ (read_line k t) (λ v u. mapped (λ ws. v ∷ ws) (read_lines ks u)) e in
    let v = n.0 in
    let m = mapped_told vs rest (λ ws. v ∷ ws) (read_lines ks n.1) n.3 in
    let ws = m.0 in
    let l = keyed_written k.key k.form v t n.1 n.2 in
    let i = lines_written ks ws n.1 rest m.1 in
    rw (← m.2)
    (l.0 ∙ ap (λ (xs : List ℕ). line_text k v ++ xs) i.0 ∙ sym (append_assoc (line_text k v) (lines_text ks ws) rest), (l.1, i.1))

-- Laws of reading at a position, for the readers' loops and answers. Assumes nothing.
use Rattle.std.proofs.Common.{◌≡◌, ℕ, zero, suc, ◌+◌, ◌-◌, ◌*◌, ◌<◌, ◌≤◌, Bool, true, false, cond, ◌&&◌, eqb, ltb, leb, List, [], ◌∷◌, length, get_or, drop, Option, Some, None, refl, ap, ◌∙◌, le_of_suc-le-suc, not-suc-le-zero, add-one, arith, length-drop, drop_of_length-le, get_or-drop, drop-cons, drop-drop}
use Rattle.format.specs.Line.{Read, read, fault, decimal_digit, newline, read_hex, read_digits, read_decimal, starts_with, after_key}
use Rattle.hex_tables.specs.Tables.{hex_digit_by, read_hex_by}
use Rattle.line_reader.specs.Inside.{hex_of, placed, line_at}
use Rattle.format.proofs.Keys.{key_there, key_missing}

cond_same : {A : Type 0} (t : Bool) (x : A) → cond t x x ≡ x
cond_same true x = refl
cond_same false x = refl

-- the position of what is left of a text
pub position : (text : List ℕ) (i : ℕ) → i ≤ length text → length text - length (drop i text) ≡ i
position text i h = omega (arith, length-drop i text)

-- ---- the key

-- a text too short for a key and m bytes more, without which there is no value
pub key_short : {A : Type 0} (m : ℕ) (key : List ℕ) (f : List ℕ → Read A) (t : List ℕ) → ((u : List ℕ) → length u < m → f u ≡ fault)
    → length t < length key + m → after_key key f t ≡ fault
unfolding after_key
key_short m [] f t g h = g t (omega arith)
key_short m (k ∷ ks) f [] g h = refl
key_short m (k ∷ ks) f (b ∷ t) g h = rw (key_short m ks f t g (omega arith)) (cond_same (eqb b k) fault)

-- ---- hex digits by a table

-- digits that make a number, then what the byte past them decides
abbrev made : Option ℕ → (ℕ → Read ℕ) → Read ℕ
made (Some v) f = f v
made None f = fault

made_if : (s : Bool) (x : Option ℕ) (r : Read ℕ) (f : ℕ → Read ℕ) → r ≡ made x f → cond s r fault ≡ made (cond s x None) f
made_if true x r f h = h
made_if false x r f h = refl

module _ (table : List ℕ) where
  pub hex_step : (n m v i j : ℕ) (text : List ℕ) → n ≡ m + 1 → j ≡ i + 1 → i < length text
      → hex_of table n v (drop i text) ≡ cond (ltb (hex_digit_by table (get_or text i 0)) 16) (hex_of table m (v * 16 + hex_digit_by table (get_or text i 0)) (drop j text)) None
  unfolding hex_of
  hex_step n m v i j text h e g = rw (drop-cons text i 0 g, e, h, add-one i, add-one m)

  pub hex_end : (n v : ℕ) (t : List ℕ) → n ≡ 0 → hex_of table n v t ≡ Some v
  unfolding hex_of
  hex_end n v t h = rw h

  hex_made : (n v : ℕ) (t : List ℕ) → n < length t
      → read_hex_by table n v t ≡ made (hex_of table n v t) (λ w. cond (eqb (get_or t n 0) newline) (read w (drop (suc n) t)) fault)
  unfolding read_hex_by read_hex hex_of
  hex_made n v [] h = absurd (not-suc-le-zero h)
  hex_made zero v (b ∷ t) h = refl
  hex_made (suc n) v (b ∷ t) h =
      let d = hex_digit_by table b in
      made_if (ltb d 16) (hex_of table n (v * 16 + d) t) (read_hex_by table n (v * 16 + d) t)
      (λ w. cond (eqb (get_or t n 0) newline) (read w (drop (suc n) t)) fault)
      (hex_made n (v * 16 + d) t (le_of_suc-le-suc h))

  hex_short : (n v : ℕ) (t : List ℕ) → length t < n + 1 → read_hex_by table n v t ≡ fault
  unfolding read_hex_by read_hex
  hex_short zero v [] h = refl
  hex_short zero v (b ∷ t) h = absurd (omega arith)
  hex_short (suc n) v [] h = refl
  hex_short (suc n) v (b ∷ t) h = rw (hex_short n (v * 16 + hex_digit_by table b) t (omega arith)) (cond_same (ltb (hex_digit_by table b) 16) fault)

-- ---- a line at a position

module _ {A : Type 0} (key : List ℕ) (value : List ℕ → Read A) (text : List ℕ) (at : ℕ) where
  pub line_missing : starts_with key (drop at text) ≡ false → line_at key value text at ≡ None
  unfolding line_at
  line_missing h = rw (key_missing key value (drop at text) h)

  pub line_there : starts_with key (drop at text) ≡ true → line_at key value text at ≡ placed text (value (drop (at + length key) text))
  unfolding line_at
  line_there h =
      ap (placed text) (key_there key value (drop at text) h ∙ ap value (drop-drop (length key) at text))

module _ (table key : List ℕ) (n : ℕ) (text : List ℕ) (at : ℕ) where
  -- too short for the key, n digits and a newline
  pub hex_line_short : length text < at + (length key + n + 1) → line_at key (read_hex_by table n 0) text at ≡ None
  unfolding line_at
  hex_line_short h =
      rw (key_short (n + 1) key (read_hex_by table n 0) (drop at text) (λ u g. hex_short table n 0 u g) (omega (arith, length-drop at text)))

  line_made : starts_with key (drop at text) ≡ true → at + length key + n < length text
      → line_at key (read_hex_by table n 0) text at
      ≡ placed text (made (hex_of table n 0 (drop (at + length key) text)) (λ w. cond (eqb (get_or text (at + length key + n) 0) newline) (read w (drop (at + length key + n + 1) text)) fault))
  line_made h g =
      let p = at + length key in
      let e : get_or (drop p text) n 0 ≡ get_or text (p + n) 0 = get_or-drop p text n 0 in
      let s : p + suc n ≡ p + n + 1 = omega arith in
      let f : drop (suc n) (drop p text) ≡ drop (p + n + 1) text = drop-drop (suc n) p text ∙ ap (λ (k : ℕ). drop k text) s in
      line_there key (read_hex_by table n 0) text at h
      ∙ ap (placed text) (hex_made table n 0 (drop p text) (omega (arith, length-drop p text)))
      ∙ ap (λ (k : ℕ). placed text (made (hex_of table n 0 (drop p text)) (λ w. cond (eqb k newline) (read w (drop (suc n) (drop p text))) fault))) e
      ∙ ap (λ (u : List ℕ). placed text (made (hex_of table n 0 (drop p text)) (λ w. cond (eqb (get_or text (p + n) 0) newline) (read w u) fault))) f

  -- a digit is none
  pub hex_line_no : starts_with key (drop at text) ≡ true → at + length key + n < length text → hex_of table n 0 (drop (at + length key) text) ≡ None
      → line_at key (read_hex_by table n 0) text at ≡ None
  hex_line_no h g e = line_made h g ∙ rw e

  -- the digits do not end in a newline
  pub hex_line_longer : (v : ℕ) → starts_with key (drop at text) ≡ true → at + length key + n < length text → hex_of table n 0 (drop (at + length key) text) ≡ Some v
      → eqb (get_or text (at + length key + n) 0) newline ≡ false → line_at key (read_hex_by table n 0) text at ≡ None
  hex_line_longer v h g e b = line_made h g ∙ rw (e, b)

  pub hex_line_is : (v : ℕ) → starts_with key (drop at text) ≡ true → at + length key + n < length text → hex_of table n 0 (drop (at + length key) text) ≡ Some v
      → eqb (get_or text (at + length key + n) 0) newline ≡ true → line_at key (read_hex_by table n 0) text at ≡ Some (v, at + length key + n + 1)
  hex_line_is v h g e b = line_made h g ∙ rw (e, b) (ap (λ i. Some (v, i)) (position text (at + length key + n + 1) (omega arith)))

-- ---- decimal numbers

decimal_none : (m : ℕ) (t : List ℕ) → length t < 1 → read_decimal m t ≡ fault
unfolding read_decimal
decimal_none m [] h = refl
decimal_none m (b ∷ t) h = absurd (omega arith)

-- too short for the key and a digit
pub decimal_line_short : (key : List ℕ) (m : ℕ) (text : List ℕ) (at : ℕ) → length text < at + (length key + 1) → line_at key (read_decimal m) text at ≡ None
unfolding line_at
decimal_line_short key m text at h =
    rw (key_short 1 key (read_decimal m) (drop at text) (decimal_none m) (omega (arith, length-drop at text)))

module _ (m i : ℕ) (text : List ℕ) (h : i < length text) where
  pub decimal_step : read_decimal m (drop i text)
      ≡ cond (ltb (decimal_digit (get_or text i 0)) 10 && leb (decimal_digit (get_or text i 0)) m) (read_digits m (decimal_digit (get_or text i 0)) (drop (i + 1) text)) fault
  unfolding read_decimal
  decimal_step = rw (drop-cons text i 0 h, add-one i)

  pub digits_step : (v : ℕ) → read_digits m v (drop i text)
      ≡ cond (eqb (get_or text i 0) newline) (read v (drop (i + 1) text))
      (cond (eqb v 0) fault
      (cond (ltb (decimal_digit (get_or text i 0)) 10 && leb (v * 10 + decimal_digit (get_or text i 0)) m) (read_digits m (v * 10 + decimal_digit (get_or text i 0)) (drop (i + 1) text)) fault))
  unfolding read_digits
  digits_step v = rw (drop-cons text i 0 h, add-one i)

pub digits_end : (m v : ℕ) (text : List ℕ) (i : ℕ) → length text ≤ i → read_digits m v (drop i text) ≡ fault
unfolding read_digits
digits_end m v text i h = rw (drop_of_length-le text h)

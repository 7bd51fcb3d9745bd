-- A text that is long enough is read as it is with more text behind it. Assumes nothing.
use mathlib.Core.Path.{◌≡◌, refl, sym, ap, ◌∙◌}
use mathlib.Core.List.{List, [], ◌∷◌, ◌++◌, append_assoc}
use Prim.Native.Nat.{ℕ, ◌+◌, ◌≤◌, zero, suc, ◌*◌}
use native.Mathlib.Nat.{not-suc-le-zero}
use native.Mathlib.Omega.{arith}
use lib.ListN.{length, length-append}
use Rattle.attribute.specs.Words.{Bytes}
use Rattle.format.specs.Line.{Form, Kind, value_text, keyed_text, Read, read, fault_at, fault, below, next, mapped, read_value, read_keyed, read_line, read_lines, decimal, hex, hex_digit, decimal_digit, newline, read_hex, read_digits, read_decimal, after_key}
use Rattle.format.specs.Step.{pairs_text, read_pairs, read_attribute}
use Rattle.format.proofs.Fitting.{Fits}
use Rattle.format.proofs.Lengths.{most_keyed, most_lines, length_line, length_attribute}
use Rattle.format.proofs.Pairs.{attribute_read, attribute_written}
use Rattle.format.proofs.ReadWritten.{keyed_written}
use Rattle.format.proofs.Reading.{fault_read}
use Rattle.format.proofs.WrittenRead.{keyed_read}
use mathlib.Core.Bool.{Bool, true, false, cond, ◌&&◌}
use lib.Dec.{ltb, leb, eqb}

-- ---- a fault within a line is at that line

-- what is read within a line
abbrev pub in_line : {A : Type 0} → Read A → Read A
in_line (read v t) = read v t
in_line (fault_at line) = fault

if_in_line : {A : Type 0} (s : Bool) (r : Read A) → r ≡ in_line r → cond s r fault ≡ in_line (cond s r fault)
if_in_line true r h = h
if_in_line false r h = refl

either_in_line : {A : Type 0} (s : Bool) (q r : Read A) → q ≡ in_line q → r ≡ in_line r → cond s q r ≡ in_line (cond s q r)
either_in_line true q r g h = g
either_in_line false q r g h = h

hex_in_line : (n v : ℕ) (t : List ℕ) → read_hex n v t ≡ in_line (read_hex n v t)
unfolding read_hex
hex_in_line zero v [] = refl
hex_in_line zero v (b ∷ t) = if_in_line (eqb b newline) (read v t) refl
hex_in_line (suc n) v [] = refl
hex_in_line (suc n) v (b ∷ t) = if_in_line (ltb (hex_digit b) 16) _ (hex_in_line n (v * 16 + hex_digit b) t)

digits_in_line : (m v : ℕ) (t : List ℕ) → read_digits m v t ≡ in_line (read_digits m v t)
unfolding read_digits
digits_in_line m v [] = refl
digits_in_line m v (b ∷ t) =
    let w = v * 10 + decimal_digit b in
    let more = cond (ltb (decimal_digit b) 10 && leb w m) (read_digits m w t) fault in
    either_in_line (eqb b newline) (read v t) (cond (eqb v 0) fault more) refl
    (either_in_line (eqb v 0) fault more refl
    (if_in_line (ltb (decimal_digit b) 10 && leb w m) (read_digits m w t) (digits_in_line m w t)))

decimal_in_line : (m : ℕ) (t : List ℕ) → read_decimal m t ≡ in_line (read_decimal m t)
unfolding read_decimal
decimal_in_line m [] = refl
decimal_in_line m (b ∷ t) =
    if_in_line (ltb (decimal_digit b) 10 && leb (decimal_digit b) m) _ (digits_in_line m (decimal_digit b) t)

-- a value
pub value_in_line : (form : Form) (t : List ℕ) → read_value form t ≡ in_line (read_value form t)
value_in_line (decimal m) t = decimal_in_line m t
value_in_line (hex n) t = hex_in_line n 0 t

-- an attribute's digits
pub pairs_in_line : (n : ℕ) (bs t : List ℕ) → read_pairs n bs t ≡ in_line (read_pairs n bs t)
unfolding read_pairs
pairs_in_line zero bs [] = refl
pairs_in_line zero bs (b ∷ t) = if_in_line (eqb b newline) (read bs t) refl
pairs_in_line (suc n) bs [] = refl
pairs_in_line (suc n) bs (b ∷ []) = if_in_line (eqb b newline) (read bs []) refl
pairs_in_line (suc n) bs (b ∷ c ∷ t) =
    let x = hex_digit b * 16 + hex_digit c in
    let s = ltb (hex_digit b) 16 && ltb (hex_digit c) 16 in
    let more = read_pairs n (bs ++ (x ∷ [])) t in
    either_in_line (eqb b newline) (read bs (c ∷ t)) (cond s more fault) refl
    (if_in_line s more (pairs_in_line n (bs ++ (x ∷ [])) t))

-- after a key what is read there
pub key_in_line : {A : Type 0} (key : List ℕ) (f : List ℕ → Read A) (t : List ℕ) → ((u : List ℕ) → f u ≡ in_line (f u))
    → after_key key f t ≡ in_line (after_key key f t)
unfolding after_key
key_in_line [] f t h = h t
key_in_line (k ∷ ks) f [] h = refl
key_in_line (k ∷ ks) f (b ∷ t) h = if_in_line (eqb b k) (after_key ks f t) (key_in_line ks f t h)

-- ---- texts that are read alike

-- both are faults at one line, or the same is read, the second with more left over, and of the first at least so many bytes are left
abbrev pub Alike : {A : Type 0} → List ℕ → ℕ → Read A → Read A → Type 0
Alike more left (read v t) (read w u) = (v ≡ w) × (u ≡ t ++ more) × (left ≤ length t)
Alike more left (read v t) (fault_at line) = ⊥
Alike more left (fault_at line) (read w u) = ⊥
Alike more left (fault_at line) (fault_at other) = line ≡ other

-- ---- one line

-- a text at least as long as the beginning of it and more has that beginning
begins : (xs u t more : List ℕ) → u ++ more ≡ xs ++ t → length xs ≤ length u → (r : List ℕ) × (u ≡ xs ++ r) × (t ≡ r ++ more)
begins [] u t more e h = (u, refl, sym e)
begins (x ∷ xs) [] t more e h = absurd (not-suc-le-zero h)
begins (x ∷ xs) (y ∷ u) t more e h =
    let p : y ≡ x = cc in
    let q : u ++ more ≡ xs ++ t = cc in
    let i = begins xs u t more q (omega (arith, h)) in
    (i.0, rw p (ap (λ (ys : List ℕ). x ∷ ys) i.1), i.2)

-- a reader of a line, what is written for it and what can be written, and the most bytes of that
pub record Line {A : Type 0} (reader : List ℕ → Read A) (text : A → List ℕ) (Fit : A → Type 0) (most : ℕ) : Type 0 where
  pub written : (v : A) (t rest : List ℕ) → reader t ≡ read v rest → (t ≡ text v ++ rest) × Fit v
  pub again : (v : A) (rest : List ℕ) → Fit v → reader (text v ++ rest) ≡ read v rest
  pub size : (v : A) → Fit v → length (text v) ≤ most
  pub in_line_lem : (t : List ℕ) → reader t ≡ in_line (reader t)

module _ {A : Type 0} {reader : List ℕ → Read A} {text : A → List ℕ} {Fit : A → Type 0} {most : ℕ} (l : Line reader text Fit most) where
  -- a line that is read is read with more behind it
  stays : (u more : List ℕ) (v : A) (r : List ℕ) → reader u ≡ read v r → reader (u ++ more) ≡ read v (r ++ more)
  stays u more v r e =
      let k = l.written v u r e in
      ap (λ (t : List ℕ). reader (t ++ more)) k.0 ∙ ap reader (append_assoc (text v) r more) ∙ l.again v (r ++ more) k.1

  by_cases : (u more : List ℕ) (left : ℕ) (p q : Read A) → most + left ≤ length u → reader u ≡ p → reader (u ++ more) ≡ q → Alike more left p q
  by_cases u more left (read v r) (read w t) h e g =
      let k = l.written v u r e in
      let same : read v (r ++ more) ≡ read w t = sym (stays u more v r e) ∙ g in
      let size : length u ≡ length (text v) + length r = ap length k.0 ∙ length-append (text v) r in
      (cc, cc, omega (arith, size, l.size v k.1))
  by_cases u more left (read v r) (fault_at line) h e g = fault_read v (r ++ more) (sym g ∙ stays u more v r e)
  by_cases u more left (fault_at line) (read w t) h e g =
      let k = l.written w (u ++ more) t g in
      let b = begins (text w) u t more k.0 (omega (arith, l.size w k.1)) in
      fault_read w b.0 (sym e ∙ ap reader b.1 ∙ l.again w b.0 k.1)
  by_cases u more left (fault_at line) (fault_at other) h e g =
      let p : fault_at line ≡ fault = sym e ∙ l.in_line_lem u ∙ ap in_line e in
      let q : fault_at other ≡ fault = sym g ∙ l.in_line_lem (u ++ more) ∙ ap in_line g in
      cc

  -- a text that is longer than the line by so many bytes
  pub line_alike : (u more : List ℕ) (left : ℕ) → most + left ≤ length u → Alike more left (reader u) (reader (u ++ more))
  line_alike u more left h = by_cases u more left (reader u) (reader (u ++ more)) h refl refl

-- a key, a value and a newline
pub keyed : (key : List ℕ) (form : Form) → Line (read_keyed key form) (λ v. keyed_text key (value_text form v)) (Fits form) (most_keyed key form)
keyed key form =
    record {
      written = keyed_written key form;
      again = keyed_read key form;
      size = length_line key form;
      in_line_lem = λ t. key_in_line key (read_value form) t (value_in_line form);
    }

-- an attribute's line
attribute : (key : List ℕ) → Line (read_attribute key) (λ bs. keyed_text key (pairs_text bs)) (λ bs. Bytes bs × (length bs ≤ 24)) (length key + 49)
attribute key =
    record {
      written = λ bs t rest e. let k = attribute_written key bs t rest e in (k.0, (k.1, k.2));
      again = λ bs rest h. attribute_read key bs rest h.0 h.1;
      size = λ bs h. length_attribute key bs h.1;
      in_line_lem = λ t. key_in_line key (read_pairs 24 []) t (pairs_in_line 24 []);
    }

-- ---- one after the other

below_alike : {B : Type 0} (more : List ℕ) (left n : ℕ) (r s : Read B) → Alike more left r s → Alike more left (below n r) (below n s)
below_alike more left n (read v t) (read w u) h = h
below_alike more left n (read v t) (fault_at line) h = absurd h
below_alike more left n (fault_at line) (read w u) h = absurd h
below_alike more left n (fault_at line) (fault_at other) h = ap (λ (m : ℕ). n + m) h

module _ {A B : Type 0} (more : List ℕ) (left : ℕ) where
  -- what was read, made into another value
  pub mapped_alike : (f : A → B) (r s : Read A) → Alike more left r s → Alike more left (mapped f r) (mapped f s)
  mapped_alike f (read v t) (read w u) h = (ap f h.0, h.1, h.2)
  mapped_alike f (read v t) (fault_at line) h = absurd h
  mapped_alike f (fault_at line) (read w u) h = absurd h
  mapped_alike f (fault_at line) (fault_at other) h = h

  -- lines and what follows them
  pub next_alike : (n between : ℕ) (r s : Read A) (f : A → List ℕ → Read B) → Alike more between r s
      → ((v : A) (t : List ℕ) → between ≤ length t → Alike more left (f v t) (f v (t ++ more)))
      → Alike more left (next n r f) (next n s f)
  next_alike n between (read v t) (read w u) f h g =
      rw (← h.0, h.1) (below_alike more left n (f v t) (f v (t ++ more)) (g v t h.2))
  next_alike n between (read v t) (fault_at line) f h g = absurd h
  next_alike n between (fault_at line) (read w u) f h g = absurd h
  next_alike n between (fault_at line) (fault_at other) f h g = h

-- lines of these kinds
pub lines_alike : (ks : List Kind) (u more : List ℕ) (left : ℕ) → most_lines ks + left ≤ length u
    → Alike more left (read_lines ks u) (read_lines ks (u ++ more))
unfolding read_lines most_lines
lines_alike [] u more left h = (refl, refl, omega (arith, h))
lines_alike (k ∷ ks) u more left h =
    next_alike more left 1 (most_lines ks + left) (read_line k u) (read_line k (u ++ more)) (λ v t. mapped (λ vs. v ∷ vs) (read_lines ks t))
    (line_alike (keyed k.key k.form) u more (most_lines ks + left) (omega (arith, h)))
    (λ v t g. mapped_alike more left (λ vs. v ∷ vs) (read_lines ks t) (read_lines ks (t ++ more)) (lines_alike ks t more left g))

-- an attribute
pub attribute_alike : (key u more : List ℕ) (left : ℕ) → length key + 49 + left ≤ length u
    → Alike more left (read_attribute key u) (read_attribute key (u ++ more))
attribute_alike key u more left h = line_alike (attribute key) u more left h

-- what does not depend on the text left over
pub value_alike : {A B : Type 0} (more : List ℕ) (f : Read A → B) → ((v : A) (t u : List ℕ) → f (read v t) ≡ f (read v u)) → (r s : Read A) → Alike more 0 r s
    → f r ≡ f s
value_alike more f same (read v t) (read w u) h = ap (λ x. f (read x t)) h.0 ∙ same w t u
value_alike more f same (read v t) (fault_at line) h = absurd h
value_alike more f same (fault_at line) (read w u) h = absurd h
value_alike more f same (fault_at line) (fault_at other) h = ap (λ (n : ℕ). f (fault_at n)) h

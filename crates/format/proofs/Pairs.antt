-- An attribute's line, two hex digits a byte: written and read, each from the other. Assumes nothing.
use mathlib.Core.Path.{◌≡◌, refl, sym, ap, ◌∙◌}
use mathlib.Core.List.{List, [], ◌∷◌, ◌++◌, append_assoc, append-nil}
use mathlib.Core.Bool.{true, ◌&&◌}
use Prim.Native.Nat.{ℕ, zero, suc, ◌+◌, ◌*◌, ◌/◌, ◌%◌, ◌<◌, ◌≤◌}
use native.Mathlib.Nat.{not-suc-le-zero}
use native.Mathlib.Omega.{arith}
use borrow.Author.Tests.{ltb-true, lt-ltb, ne_eqb}
use lib.Dec.{ltb, eqb}
use lib.ListN.{length}
use Rattle.capabilities.proofs.Inclusion.{and_l, and_r}
use Rattle.attribute.specs.Words.{Bytes}
use Rattle.attribute.proofs.Words.{no_bytes, one_more}
use Rattle.format.specs.Line.{keyed_text, digit, hex_text, read, hex_digit, newline}
use Rattle.format.specs.Step.{pairs_text, read_pairs, read_attribute}
use Rattle.format.proofs.Digits.{hex_digit_read, hex_digit_written, digit_no_newline}
use Rattle.format.proofs.Reading.{fault_read, tested, tested_cases}
use Rattle.format.proofs.WrittenRead.{key_read, line_then}
use Rattle.format.proofs.ReadWritten.{key_written, newline_told}

-- a byte's two digits
pair_text : (b : ℕ) → hex_text 2 b ≡ digit (b / 16 % 16) ∷ digit (b % 16) ∷ []
unfolding hex_text
pair_text b = refl

-- ---- what was written is read

-- a newline ends the bytes
pub newline_read : (n : ℕ) (front t : List ℕ) → read_pairs n front (newline ∷ t) ≡ read front t
unfolding read_pairs
newline_read zero front t = refl
newline_read (suc n) front [] = refl
newline_read (suc n) front (c ∷ t) = refl

pair_read : (n c d : ℕ) (front t : List ℕ) → c < 16 → d < 16
    → read_pairs (suc n) front (digit c ∷ digit d ∷ t) ≡ read_pairs n (front ++ ((c * 16 + d) ∷ [])) t
unfolding read_pairs
pair_read n c d front t h g =
    rw (ne_eqb (digit c) newline (digit_no_newline c), hex_digit_read c h, hex_digit_read d g, lt-ltb c 16 h, lt-ltb d 16 g)

rest_bytes : (b : ℕ) (bs : List ℕ) → Bytes (b ∷ bs) → Bytes bs
rest_bytes b bs h = record { small = λ at. h.small (suc at) }

pairs_read : (n : ℕ) (front bs t : List ℕ) → Bytes bs → length bs ≤ n → read_pairs n front (pairs_text bs ++ (newline ∷ t)) ≡ read (front ++ bs) t
unfolding pairs_text
pairs_read n front [] t h l = newline_read n front t ∙ ap (λ (xs : List ℕ). read xs t) (sym (append-nil front))
pairs_read zero front (b ∷ bs) t h l = absurd (not-suc-le-zero l)
pairs_read (suc n) front (b ∷ bs) t h l =
    let whole : b / 16 % 16 * 16 + b % 16 ≡ b = omega (arith, h.small 0) in
    let after = pairs_text bs ++ (newline ∷ t) in
    rw (append_assoc (hex_text 2 b) (pairs_text bs) (newline ∷ t), pair_text b)
    (pair_read n (b / 16 % 16) (b % 16) front after (omega arith) (omega arith)
    ∙ ap (λ (x : ℕ). read_pairs n (front ++ (x ∷ [])) after) whole
    ∙ pairs_read n (front ++ (b ∷ [])) bs t (rest_bytes b bs h) (omega (arith, l))
    ∙ ap (λ (xs : List ℕ). read xs t) (append_assoc front (b ∷ []) bs))

-- a written attribute
pub attribute_read : (key bs t : List ℕ) → Bytes bs → length bs ≤ 24 → read_attribute key (keyed_text key (pairs_text bs) ++ t) ≡ read bs t
attribute_read key bs t h l =
    ap (read_attribute key) (line_then key (pairs_text bs) t)
    ∙ key_read key _ (pairs_text bs ++ (newline ∷ t))
    ∙ pairs_read _ [] bs t h (omega (arith, l))

-- ---- a text that is read is the written one

pair_written : (b c : ℕ) → hex_digit b < 16 → hex_digit c < 16 → hex_text 2 (hex_digit b * 16 + hex_digit c) ≡ b ∷ c ∷ []
pair_written b c h g =
    let x : (hex_digit b * 16 + hex_digit c) / 16 % 16 ≡ hex_digit b = omega arith in
    let y : (hex_digit b * 16 + hex_digit c) % 16 ≡ hex_digit c = omega arith in
    pair_text (hex_digit b * 16 + hex_digit c) ∙ rw (x, y) (λ i. hex_digit_written b h i ∷ hex_digit_written c g i ∷ [])

-- the bytes w are those in front and up to n more, which the text begins with
record Told (n : ℕ) (front w t rest : List ℕ) : Type 0 where
  got : List ℕ
  all : w ≡ front ++ got
  text : t ≡ pairs_text got ++ (newline ∷ rest)
  small : Bytes got
  size : length got ≤ n

told_end : (n b : ℕ) (front w t rest : List ℕ) → eqb b newline ≡ true → read front t ≡ read w rest → Told n front w (b ∷ t) rest
unfolding pairs_text
told_end n b front w t rest q e =
    let p : front ≡ w = cc in
    record { got = []; all = sym p ∙ sym (append-nil front); text = newline_told b front w t rest q e; small = no_bytes; size = omega arith }

told_one : (n b c : ℕ) (front w t rest : List ℕ) → hex_digit b < 16 → hex_digit c < 16
    → Told n (front ++ ((hex_digit b * 16 + hex_digit c) ∷ [])) w t rest
    → Told (suc n) front w (b ∷ c ∷ t) rest
unfolding pairs_text
told_one n b c front w t rest h g i =
    let x = hex_digit b * 16 + hex_digit c in
    record {
      got = x ∷ i.got;
      all = i.all ∙ append_assoc front (x ∷ []) i.got;
      text =
          ap (λ (xs : List ℕ). b ∷ c ∷ xs) i.text
          ∙ sym (ap (λ (xs : List ℕ). xs ++ (pairs_text i.got ++ (newline ∷ rest))) (pair_written b c h g))
          ∙ sym (append_assoc (hex_text 2 x) (pairs_text i.got) (newline ∷ rest));
      small = one_more x i.got (omega arith) i.small;
      size = omega (arith, i.size);
    }

told : (n : ℕ) (front w t rest : List ℕ) → read_pairs n front t ≡ read w rest → Told n front w t rest
unfolding read_pairs
told zero front w [] rest e = fault_read w rest e
told zero front w (b ∷ t) rest e =
    let r = tested w rest (eqb b newline) (read front t) e in
    told_end zero b front w t rest r.0 r.1
told (suc n) front w [] rest e = fault_read w rest e
told (suc n) front w (b ∷ []) rest e =
    let r = tested w rest (eqb b newline) (read front []) e in
    told_end (suc n) b front w [] rest r.0 r.1
told (suc n) front w (b ∷ c ∷ t) rest e =
    tested_cases w rest (eqb b newline) (read front (c ∷ t)) _ e
    (λ q g. told_end (suc n) b front w (c ∷ t) rest q g)
    (λ q g.
    let r = tested w rest (ltb (hex_digit b) 16 && ltb (hex_digit c) 16) _ g in
    let h : hex_digit b < 16 = ltb-true _ 16 (and_l (ltb (hex_digit b) 16) (ltb (hex_digit c) 16) r.0) in
    let k : hex_digit c < 16 = ltb-true _ 16 (and_r (ltb (hex_digit b) 16) (ltb (hex_digit c) 16) r.0) in
    told_one n b c front w t rest h k (told n _ w t rest r.1))

-- an attribute that is read
pub attribute_written : (key bs t rest : List ℕ) → read_attribute key t ≡ read bs rest
    → (t ≡ keyed_text key (pairs_text bs) ++ rest) × Bytes bs × (length bs ≤ 24)
attribute_written key bs t rest e =
    let k = key_written key _ bs t rest e in
    let p = told _ [] bs k.0 rest k.2 in
    rw p.all (k.1 ∙ ap (λ (xs : List ℕ). key ++ xs) p.text ∙ sym (line_then key (pairs_text p.got) rest), p.small, omega (arith, p.size))

-- Laws of a value's digits, for the loops that read them. Assumes nothing.
use mathlib.Core.Path.{◌≡◌, refl, ap, ◌∙◌}
use mathlib.Core.List.{List, [], ◌∷◌, ◌++◌}
use mathlib.Core.Bool.{Bool, true, false, cond, ◌&&◌}
use Prim.Native.Nat.{ℕ, zero, suc, ◌+◌, ◌-◌, ◌*◌, ◌<◌, ◌≤◌}
use native.Mathlib.Numerals.{add-one}
use native.Mathlib.Omega.{arith}
use borrow.Author.Tests.{lt-ltb, le-leb, lt-leb, ne_eqb, ltb-true, ltb-false}
use lib.Dec.{ltb, leb, eqb}
use lib.ListN.{length, get_or, drop, drop_of_length-le}
use lib.Seq.{drop-cons}
use Rattle.format.specs.Line.{bytes, decimal, Read, read, fault, hex_digit, decimal_digit, newline, read_hex, read_digits, read_decimal}
use Rattle.status.specs.Lines.{set_form}
use Rattle.status.specs.Reading.{ended, value_of}

cond_same : {A : Type 0} (t : Bool) (x : A) → cond t x x ≡ x
cond_same true x = refl
cond_same false x = refl

-- what was read with a newline still to come is a fault
not_ended : {A : Type 0} (v : A) (t : List ℕ) → ended (read v (t ++ bytes "\n")) ≡ fault
not_ended v [] = refl
not_ended v (b ∷ t) = refl

ended_if : {A : Type 0} (q : Bool) (r : Read A) → ended (cond q r fault) ≡ cond q (ended r) fault
ended_if true r = refl
ended_if false r = refl

-- ---- hex

-- n more digits, and then the end
unfoldable pub hex_left : ℕ → ℕ → List ℕ → Read ℕ
hex_left n v t = ended (read_hex n v (t ++ bytes "\n"))

pub set_start : (t : List ℕ) → value_of set_form t ≡ hex_left 16 0 t
unfolding value_of hex_left
set_start t = refl

hex_one : (n v b : ℕ) (t : List ℕ) → hex_left (suc n) v (b ∷ t) ≡ cond (ltb (hex_digit b) 16) (hex_left n (v * 16 + hex_digit b) t) fault
unfolding hex_left read_hex
hex_one n v b t = ended_if (ltb (hex_digit b) 16) (read_hex n (v * 16 + hex_digit b) (t ++ bytes "\n"))

pub hex_step : (n m v k : ℕ) (t : List ℕ) → n ≡ m + 1 → k < length t
    → hex_left n v (drop k t) ≡ cond (ltb (hex_digit (get_or t k 0)) 16) (hex_left m (v * 16 + hex_digit (get_or t k 0)) (drop (k + 1) t)) fault
hex_step n m v k t e h =
    rw (drop-cons t k 0 h, e, add-one k, add-one m) (hex_one m v (get_or t k 0) (drop (suc k) t))

pub hex_end : (n v k : ℕ) (t : List ℕ) → n ≡ 0 → length t ≤ k → hex_left n v (drop k t) ≡ read v []
unfolding hex_left read_hex
hex_end n v k t e h = rw (e, drop_of_length-le t h)

-- another number of digits is a fault
pub hex_length : (n v : ℕ) (t : List ℕ) → (length t ≡ n → ⊥) → hex_left n v t ≡ fault
unfolding hex_left read_hex
hex_length zero v [] h = absurd (h refl)
hex_length zero v (b ∷ t) h = ended_if (eqb b newline) (read v (t ++ bytes "\n")) ∙ rw (not_ended v t) (cond_same (eqb b newline) fault)
hex_length (suc n) v [] h = refl
hex_length (suc n) v (b ∷ t) h =
    ended_if (ltb (hex_digit b) 16) (read_hex n (v * 16 + hex_digit b) (t ++ bytes "\n"))
    ∙ rw (hex_length n (v * 16 + hex_digit b) t (λ e. h (ap suc e))) (cond_same (ltb (hex_digit b) 16) fault)

-- ---- decimal

-- a byte is the same digit in decimal as in hex, where it is one below 10
by_test : (P : ℕ → ℕ → Type 0) (q : Bool) (x y u w : ℕ) → (q ≡ true → P x u) → (q ≡ false → P y w) → P (cond q x y) (cond q u w)
by_test P true x y u w f g = f refl
by_test P false x y u w f g = g refl

abbrev Same : ℕ → ℕ → Type 0
Same h d = (h < 10 → d ≡ h) × (10 ≤ h → d ≡ 10)

letters : (b : ℕ) → 58 ≤ b → 10 ≤ cond (ltb b 97) 16 (cond (ltb b 103) (b - 87) 16)
letters b h = cases (ltb b 97) refl
  where
    more : (q : Bool) → ltb b 97 ≡ false → 10 ≤ cond q (b - 87) 16
    more true e = omega (arith, ltb-false b 97 e)
    more false e = omega arith

    cases : (q : Bool) → ltb b 97 ≡ q → 10 ≤ cond q 16 (cond (ltb b 103) (b - 87) 16)
    cases true e = omega arith
    cases false e = more (ltb b 103) e

digit_same : (b : ℕ) → Same (hex_digit b) (decimal_digit b)
digit_same b =
    by_test Same (ltb b 48) 16 _ 10 _ (λ p. ((λ h. absurd (omega arith)), (λ h. refl))) λ p.
    by_test Same (ltb b 58) (b - 48) _ (b - 48) 10 (λ q. ((λ h. refl), (λ h. absurd (omega (arith, ltb-true b 58 q))))) λ q.
    ((λ h. absurd (omega (arith, letters b (ltb-false b 58 q)))), (λ h. refl))

-- more digits, and then the end
unfoldable pub decimal_left : ℕ → ℕ → List ℕ → Read ℕ
decimal_left m v t = ended (read_digits m v (t ++ bytes "\n"))

-- the first digit
first_digit : (m b : ℕ) (t : List ℕ) → value_of (decimal m) (b ∷ t) ≡ cond (ltb (decimal_digit b) 10 && leb (decimal_digit b) m) (decimal_left m (decimal_digit b) t) fault
unfolding value_of decimal_left read_decimal
first_digit m b t =
    ended_if (ltb (decimal_digit b) 10 && leb (decimal_digit b) m) (read_digits m (decimal_digit b) (t ++ bytes "\n"))

pub no_digits : (m : ℕ) (t : List ℕ) → length t ≡ 0 → value_of (decimal m) t ≡ fault
unfolding value_of read_decimal
no_digits m [] h = refl
no_digits m (b ∷ t) h = absurd (omega arith)

module _ (m b : ℕ) (t : List ℕ) where
  pub first_good : hex_digit b < 10 → hex_digit b ≤ m → value_of (decimal m) (b ∷ t) ≡ decimal_left m (hex_digit b) t
  first_good l g = first_digit m b t ∙ rw ((digit_same b).0 l, lt-ltb _ _ l, le-leb _ _ g)

  pub first_none : 10 ≤ hex_digit b → value_of (decimal m) (b ∷ t) ≡ fault
  first_none l = first_digit m b t ∙ rw ((digit_same b).1 l)

  pub first_above : hex_digit b < 10 → m < hex_digit b → value_of (decimal m) (b ∷ t) ≡ fault
  first_above l g = first_digit m b t ∙ rw ((digit_same b).0 l, lt-ltb _ _ l, lt-leb _ _ g)

-- a further byte: a newline cannot be one, and neither can any after a leading zero
further : (m v b : ℕ) (t : List ℕ)
    → decimal_left m v (b ∷ t)
    ≡ cond (eqb b newline) fault
    (cond (eqb v 0) fault
    (cond (ltb (decimal_digit b) 10 && leb (v * 10 + decimal_digit b) m) (decimal_left m (v * 10 + decimal_digit b) t) fault))
unfolding decimal_left read_digits
further m v b t =
    cases (eqb b newline) (eqb v 0) (ltb (decimal_digit b) 10 && leb (v * 10 + decimal_digit b) m) (read_digits m (v * 10 + decimal_digit b) (t ++ bytes "\n"))
  where
    cases : (p q s : Bool) (r : Read ℕ) → ended (cond p (read v (t ++ bytes "\n")) (cond q fault (cond s r fault))) ≡ cond p fault (cond q fault (cond s (ended r) fault))
    cases true q s r = not_ended v t
    cases false true s r = refl
    cases false false true r = refl
    cases false false false r = refl

-- a digit is no newline
digit_newline : (b : ℕ) → hex_digit b < 10 → b ≡ newline → ⊥
digit_newline b h e = let k : hex_digit newline < 10 = rw e at h in omega (arith, k)

module _ (m v k : ℕ) (t : List ℕ) (h : k < length t) where
  left : drop k t ≡ get_or t k 0 ∷ drop (k + 1) t
  left = rw (add-one k) (drop-cons t k 0 h)

  pub further_good : (v ≡ 0 → ⊥) → hex_digit (get_or t k 0) < 10 → v * 10 + hex_digit (get_or t k 0) ≤ m
      → decimal_left m v (drop k t) ≡ decimal_left m (v * 10 + hex_digit (get_or t k 0)) (drop (k + 1) t)
  further_good z l g =
      ap (decimal_left m v) left
      ∙ further m v (get_or t k 0) (drop (k + 1) t)
      ∙ rw (ne_eqb _ _ (digit_newline (get_or t k 0) l), ne_eqb _ _ z, (digit_same (get_or t k 0)).0 l, lt-ltb _ _ l, le-leb _ _ g)

  pub further_above : hex_digit (get_or t k 0) < 10 → m < v * 10 + hex_digit (get_or t k 0) → decimal_left m v (drop k t) ≡ fault
  further_above l g =
      ap (decimal_left m v) left
      ∙ further m v (get_or t k 0) (drop (k + 1) t)
      ∙ rw (ne_eqb _ _ (digit_newline (get_or t k 0) l), (digit_same (get_or t k 0)).0 l, lt-ltb _ _ l, lt-leb _ _ g) (cond_same (eqb v 0) fault)

  pub further_zero : v ≡ 0 → decimal_left m v (drop k t) ≡ fault
  further_zero z =
      ap (decimal_left m v) left ∙ further m v (get_or t k 0) (drop (k + 1) t) ∙ rw z (cond_same (eqb (get_or t k 0) newline) fault)

  pub further_none : 10 ≤ hex_digit (get_or t k 0) → decimal_left m v (drop k t) ≡ fault
  further_none l =
      ap (decimal_left m v) left
      ∙ further m v (get_or t k 0) (drop (k + 1) t)
      ∙ rw ((digit_same (get_or t k 0)).1 l, cond_same (eqb v 0) fault) (cond_same (eqb (get_or t k 0) newline) fault)

pub decimal_end : (m v k : ℕ) (t : List ℕ) → length t ≤ k → decimal_left m v (drop k t) ≡ read v []
unfolding decimal_left read_digits
decimal_end m v k t h = rw (drop_of_length-le t h)

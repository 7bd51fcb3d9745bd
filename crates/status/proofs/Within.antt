-- A fault within a wanted line is at that line. Assumes nothing.
use mathlib.Core.Path.{◌≡◌, refl, ap, ◌∙◌}
use mathlib.Core.List.{List, [], ◌∷◌, ◌++◌}
use mathlib.Core.Bool.{Bool, true, false, cond, ◌&&◌}
use Prim.Native.Nat.{ℕ, zero, suc, ◌+◌, ◌*◌}
use native.Mathlib.Nat.{zero-add}
use lib.Dec.{ltb, leb, eqb}
use Rattle.format.specs.Line.{bytes, Form, decimal, hex, Read, read, fault_at, fault, below, next, mapped, hex_digit, decimal_digit, newline, read_hex, read_digits, read_decimal, read_value, after_key}
use Rattle.status.specs.Lines.{Entry}
use Rattle.status.specs.Reading.{tab, up_to, since, ended, value_of, read_values, read_entry}

abbrev pub Within : {A : Type 0} → Read A → Type 0
Within (read v t) = Unit
Within (fault_at line) = line ≡ 1

-- ---- by the parts of what is read

within_if : {A : Type 0} (q : Bool) (r s : Read A) → Within r → Within s → Within (cond q r s)
within_if true r s h g = h
within_if false r s h g = g

ended_within : {A : Type 0} (r : Read A) → Within r → Within (ended r)
ended_within (read v []) h = tt
ended_within (read v (b ∷ t)) h = refl
ended_within (fault_at line) h = h

mapped_within : {A B : Type 0} (f : A → B) (r : Read A) → Within r → Within (mapped f r)
mapped_within f (read v t) h = tt
mapped_within f (fault_at line) h = h

below_within : {A : Type 0} (r : Read A) → Within r → Within (below 0 r)
below_within (read v t) h = tt
below_within (fault_at line) h = zero-add line ∙ h

next_within : {A B : Type 0} (r : Read A) (f : A → List ℕ → Read B) → Within r → ((v : A) (t : List ℕ) → Within (f v t)) → Within (next 0 r f)
next_within (read v t) f h g = below_within (f v t) (g v t)
next_within (fault_at line) f h g = h

-- ---- a value, values, a line

hex_within : (n v : ℕ) (t : List ℕ) → Within (read_hex n v t)
unfolding read_hex
hex_within zero v [] = refl
hex_within zero v (b ∷ t) = within_if (eqb b newline) (read v t) fault tt refl
hex_within (suc n) v [] = refl
hex_within (suc n) v (b ∷ t) = within_if (ltb (hex_digit b) 16) (read_hex n (v * 16 + hex_digit b) t) fault (hex_within n (v * 16 + hex_digit b) t) refl

digits_within : (m v : ℕ) (t : List ℕ) → Within (read_digits m v t)
unfolding read_digits
digits_within m v [] = refl
digits_within m v (b ∷ t) =
    within_if (eqb b newline) (read v t) _ tt
    (within_if (eqb v 0) fault _ refl
    (within_if (ltb (decimal_digit b) 10 && leb (v * 10 + decimal_digit b) m) (read_digits m (v * 10 + decimal_digit b) t) fault
    (digits_within m (v * 10 + decimal_digit b) t)
    refl))

form_within : (f : Form) (t : List ℕ) → Within (read_value f t)
unfolding read_decimal
form_within (decimal m) [] = refl
form_within (decimal m) (b ∷ t) =
    within_if (ltb (decimal_digit b) 10 && leb (decimal_digit b) m) (read_digits m (decimal_digit b) t) fault (digits_within m (decimal_digit b) t) refl
form_within (hex n) t = hex_within n 0 t

pub value_within : (f : Form) (t : List ℕ) → Within (value_of f t)
unfolding value_of
value_within f t = ended_within (read_value f (t ++ bytes "\n")) (form_within f (t ++ bytes "\n"))

values_within : (fs : List Form) (t : List ℕ) → Within (read_values fs t)
unfolding read_values
values_within [] [] = tt
values_within [] (b ∷ t) = refl
values_within (f ∷ fs) [] = refl
values_within (f ∷ fs) (b ∷ t) =
    within_if (eqb b tab) (next 0 (value_of f (up_to tab t)) (λ v rest. mapped (λ vs. v ∷ vs) (read_values fs (since tab t)))) fault
    (next_within (value_of f (up_to tab t)) (λ v rest. mapped (λ vs. v ∷ vs) (read_values fs (since tab t))) (value_within f (up_to tab t))
    (λ v rest. mapped_within (λ vs. v ∷ vs) (read_values fs (since tab t)) (values_within fs (since tab t))))
    refl

key_within : {A : Type 0} (key : List ℕ) (f : List ℕ → Read A) (t : List ℕ) → ((u : List ℕ) → Within (f u)) → Within (after_key key f t)
unfolding after_key
key_within [] f t h = h t
key_within (k ∷ ks) f [] h = refl
key_within (k ∷ ks) f (b ∷ t) h = within_if (eqb b k) (after_key ks f t) fault (key_within ks f t h) refl

pub entry_within : (e : Entry) (l : List ℕ) → Within (read_entry e l)
entry_within e l = key_within e.name (read_values e.forms) l (values_within e.forms)

-- what follows cannot be read
pub then_fault : {A : Type 0} (r : Read ℕ) → Within r → next {B = A} 0 r (λ v rest. fault) ≡ fault
then_fault (read v t) h = refl
then_fault (fault_at line) h = ap fault_at h

-- The values of a wanted line, written and read, each from the other. Assumes nothing.
use mathlib.Core.Path.{◌≡◌, refl, sym, ap, ◌∙◌}
use mathlib.Core.List.{List, [], ◌∷◌, ◌++◌, append_assoc, append-nil}
use Prim.Native.Nat.{ℕ}
use native.Mathlib.Omega.{arith}
use borrow.Author.Tests.{eqb-true}
use lib.Dec.{eqb}
use lib.ListN.{length, length-append}
use Rattle.format.specs.Line.{Form, value_text, Read, read, fault_at, mapped, newline, bytes, read_value, keyed_text, after_key}
use Rattle.format.proofs.Fitting.{Fits}
use Rattle.format.proofs.Reading.{fault_read, tested, next_told, mapped_told}
use Rattle.format.proofs.WrittenRead.{keyed_read, key_read}
use Rattle.format.proofs.ReadWritten.{keyed_written, key_written}
use Rattle.status.specs.Lines.{Entry, values_text, entry_text}
use Rattle.status.specs.Reading.{tab, up_to, since, ended, value_of, read_values, read_entry}
use Rattle.status.proofs.Lacking.{value_lacks, up_to_first, since_first, up_to_end, since_end, parted}

-- a value for each form, each one that it can hold
unfoldable pub FitForms : List Form → List ℕ → Type 0
FitForms [] [] = Unit
FitForms [] (v ∷ vs) = ⊥
FitForms (f ∷ fs) [] = ⊥
FitForms (f ∷ fs) (v ∷ vs) = Fits f v × FitForms fs vs

-- ---- one value

-- with no key before it, a line is a value and its newline
value_then : (f : Form) (v : ℕ) → keyed_text [] (value_text f v) ++ [] ≡ value_text f v ++ bytes "\n"
unfolding keyed_text
value_then f v = append_assoc (value_text f v) (bytes "\n") []

no_key : (f : Form) (t : List ℕ) → after_key [] (read_value f) t ≡ read_value f t
unfolding after_key
no_key f t = refl

-- a written value is read
pub value_read : (f : Form) (v : ℕ) → Fits f v → value_of f (value_text f v) ≡ read v []
unfolding value_of
value_read f v h =
    ap ended (ap (read_value f) (sym (value_then f v)) ∙ sym (no_key f _) ∙ keyed_read [] f v [] h)

-- what was read with no text after it
ended_told : {A : Type 0} (r : Read A) (v : A) (rest : List ℕ) → ended r ≡ read v rest → (r ≡ read v []) × (rest ≡ [])
ended_told (read w []) v rest e = let p : w ≡ v = cc in let q : [] ≡ rest = cc in (ap (λ x. read x []) p, sym q)
ended_told (read w (b ∷ t)) v rest e = fault_read v rest e
ended_told (fault_at line) v rest e = fault_read v rest e

-- texts with the same last byte
same_front : (c : ℕ) (t u : List ℕ) → t ++ (c ∷ []) ≡ u ++ (c ∷ []) → t ≡ u
same_front c [] [] e = refl
same_front c [] (b ∷ u) e = let n = ap length e in let m = length-append u (c ∷ []) in absurd (omega arith)
same_front c (b ∷ t) [] e = let n = ap length e in let m = length-append t (c ∷ []) in absurd (omega arith)
same_front c (b ∷ t) (d ∷ u) e =
    let p : b ≡ d = cc in
    let q : t ++ (c ∷ []) ≡ u ++ (c ∷ []) = cc in
    rw (p, same_front c t u q)

-- a value that is read is the written one
pub value_written : (f : Form) (v : ℕ) (t rest : List ℕ) → value_of f t ≡ read v rest → (t ≡ value_text f v) × Fits f v
unfolding value_of
value_written f v t rest e =
    let r = ended_told (read_value f (t ++ bytes "\n")) v rest e in
    let w = keyed_written [] f v (t ++ bytes "\n") [] (no_key f _ ∙ r.0) in
    (same_front newline t (value_text f v) (w.0 ∙ value_then f v), w.1)

-- ---- values, each after a tab

-- a value's text ends where the next one's tab begins, or the line
first_value : (f : Form) (v : ℕ) (fs : List Form) (vs : List ℕ) → FitForms fs vs
    → (up_to tab (value_text f v ++ values_text fs vs) ≡ value_text f v) × (since tab (value_text f v ++ values_text fs vs) ≡ values_text fs vs)
unfolding values_text FitForms
first_value f v [] [] h =
    let l = value_lacks tab f v (omega arith) in
    rw append-nil (up_to_end tab (value_text f v) l, since_end tab (value_text f v) l)
first_value f v [] (w ∷ vs) h = absurd h
first_value f v (g ∷ fs) [] h = absurd h
first_value f v (g ∷ fs) (w ∷ vs) h =
    let l = value_lacks tab f v (omega arith) in
    (up_to_first tab (value_text f v) _ l, since_first tab (value_text f v) _ l)

-- written values are read
pub values_read : (fs : List Form) (vs : List ℕ) → FitForms fs vs → read_values fs (values_text fs vs) ≡ read vs []
unfolding values_text FitForms read_values
values_read [] [] h = refl
values_read [] (v ∷ vs) h = absurd h
values_read (f ∷ fs) [] h = absurd h
values_read (f ∷ fs) (v ∷ vs) h =
    let p = first_value f v fs vs h.1 in
    rw (p.0, p.1, value_read f v h.0, values_read fs vs h.1)

-- a byte and two parts behind it
joined : {b c : ℕ} {t x y u w : List ℕ} → b ≡ c → t ≡ x ++ y → x ≡ u → y ≡ w → b ∷ t ≡ c ∷ (u ++ w)
joined p q r s = rw (p, q, r, s)

-- values that are read are the written ones
pub values_written : (fs : List Form) (vs t rest : List ℕ) → read_values fs t ≡ read vs rest → (t ≡ values_text fs vs) × FitForms fs vs
unfolding values_text FitForms read_values
values_written [] vs [] rest e = let p : [] ≡ vs = cc in rw (← p) (refl, tt)
values_written [] vs (b ∷ t) rest e = fault_read vs rest e
values_written (f ∷ fs) vs [] rest e = fault_read vs rest e
values_written (f ∷ fs) vs (b ∷ t) rest e =
    let r = tested vs rest (eqb b tab) _ e in
    let n = next_told vs rest 0 (value_of f (up_to tab t)) (λ v u. mapped (λ ws. v ∷ ws) (read_values fs (since tab t))) r.1 in
    let v = n.0 in
    let m = mapped_told vs rest (λ ws. v ∷ ws) (read_values fs (since tab t)) n.3 in
    let x = value_written f v (up_to tab t) n.1 n.2 in
    let y = values_written fs m.0 (since tab t) rest m.1 in
    let p : b ≡ tab = eqb-true b tab r.0 in
    rw (← m.2) (joined p (parted tab t) x.0 y.0, (x.1, y.1))

-- ---- a wanted line

pub entry_read : (e : Entry) (vs : List ℕ) → FitForms e.forms vs → read_entry e (entry_text e vs) ≡ read vs []
entry_read e vs h = key_read e.name (read_values e.forms) (values_text e.forms vs) ∙ values_read e.forms vs h

pub entry_written : (e : Entry) (vs l rest : List ℕ) → read_entry e l ≡ read vs rest → (l ≡ entry_text e vs) × FitForms e.forms vs
entry_written e vs l rest h =
    let k = key_written e.name (read_values e.forms) vs l rest h in
    let v = values_written e.forms vs k.0 rest k.2 in
    (k.1 ∙ ap (λ (xs : List ℕ). e.name ++ xs) v.0, v.1)

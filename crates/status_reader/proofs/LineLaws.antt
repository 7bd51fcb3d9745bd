-- Laws of a line: its name, and its values behind tabs. Assumes nothing.
use mathlib.Core.Path.{◌≡◌, refl, sym, ap, ◌∙◌}
use mathlib.Core.List.{List, [], ◌∷◌, ◌++◌, append-nil}
use mathlib.Core.Bool.{Bool, true, false, cond, ◌&&◌, ◌||◌, false≢true, true≢false}
use Prim.Native.Nat.{ℕ, suc, ◌+◌, ◌-◌, ◌<◌, ◌≤◌}
use native.Mathlib.Nat.{zero-add}
use native.Mathlib.Numerals.{add-one}
use native.Mathlib.Omega.{arith}
use borrow.Author.Tests.{eq-eqb, ne_eqb, eqb-true, ltb-true, ltb-false}
use lib.Dec.{eqb, ltb}
use lib.Pointwise.{pointwise}
use lib.ListN.{length, get_or, take, drop, length-append, length-drop, drop_of_length-le}
use lib.Seq.{drop-cons, take_all, take-append_seam, drop-append_seam}
use Rattle.std.specs.Prelude.{Option, Some, None, MatchOption, position, slice_get}
use Rattle.std.specs.Option.{unwrap_or}
use Rattle.std.proofs.Common.{Bor, lt-ltb, le-ltb}
use Rattle.std.specs.List.{position_or_len}
use Rattle.std.specs.List as C
use Rattle.std.proofs.lemmas.List.Recursion.{is_position_or_len}
use Rattle.format.specs.Line.{bytes, Form, Read, read, fault_at, fault, below, next, mapped, newline, starts_with}
use Rattle.format.proofs.Keys.{key_there, key_missing}
use Rattle.status.specs.Lines.{lines_of, Entry, entries, begins_one, wanted}
use Rattle.status.specs.Reading.{tab, up_to, since, value_of, read_values, read_entry}
use Rattle.status.specs.RoundTrip.{Lacks}
use Rattle.status.proofs.Lacking.{parted, value_lacks, up_to_end, since_end}
use Rattle.status.proofs.Lines.{first_line}
use Rattle.status.proofs.Values.{value_written}
use Rattle.status.proofs.Within.{value_within, then_fault}
use Rattle.status_reader.specs.Inside.{value_read, line_read, behind_tab}

pub below_none : {A : Type 0} (r : Read A) → below 0 r ≡ r
below_none (read v t) = refl
below_none (fault_at line) = ap fault_at (zero-add line)

-- ---- the first of a byte

-- what stands from the first of a byte on begins with it
first_of : (s : ℕ) (t : List ℕ) (b : ℕ) (u : List ℕ) → since s t ≡ b ∷ u → b ≡ s
unfolding since
first_of s [] b u e = let n = ap length e in absurd (omega arith)
first_of s (c ∷ t) b u e = by_test (eqb c s) refl e (first_of s t b u)
  where
    by_test : (q : Bool) → eqb c s ≡ q → cond q (c ∷ t) (since s t) ≡ b ∷ u → (since s t ≡ b ∷ u → b ≡ s) → b ≡ s
    by_test true p x f = let y : c ≡ b = cc in sym y ∙ eqb-true c s p
    by_test false p x f = f x

-- how many bytes stand before it
up_to_length : (s : ℕ) (t : List ℕ) → length (up_to s t) ≡ position_or_len (λ x. eqb x s) t
unfolding up_to
up_to_length s t = is_position_or_len (λ (u : List ℕ). length (up_to s u)) (λ x. eqb x s) refl (λ x u. by_test (eqb x s) x u) t
  where
    by_test : (q : Bool) (x : ℕ) (u : List ℕ) → length (cond q [] (x ∷ up_to s u)) ≡ cond q 0 (1 + length (up_to s u))
    by_test true x u = refl
    by_test false x u = omega arith

-- up to it, and from it on, by how many they are
module _ (s n : ℕ) (t : List ℕ) (e : n ≡ length (up_to s t)) where
  up_to_part : take n t ≡ up_to s t
  up_to_part =
      ap (λ (k : ℕ). take k t) e
      ∙ ap (take (length (up_to s t))) (parted s t)
      ∙ take-append_seam (up_to s t) (since s t)

  since_part : drop n t ≡ since s t
  since_part =
      ap (λ (k : ℕ). drop k t) e
      ∙ ap (drop (length (up_to s t))) (parted s t)
      ∙ drop-append_seam (up_to s t) (since s t)

  -- from it on it is the byte
  one_left : n < length t → since s t ≡ s ∷ drop (n + 1) t
  one_left h =
      let cons : since s t ≡ get_or t n 0 ∷ drop (suc n) t = sym since_part ∙ drop-cons t n 0 h in
      cons ∙ rw (first_of s t (get_or t n 0) (drop (suc n) t) cons, add-one n)

-- from a position on: none stands before it where it stands there, else one more than from the next
module _ (s i : ℕ) (t : List ℕ) where
  pub found_here : i < length t → get_or t i 0 ≡ s → length (up_to s (drop i t)) ≡ 0
  unfolding up_to
  found_here h e = rw (drop-cons t i 0 h, eq-eqb _ _ e)

  pub found_further : i < length t → (get_or t i 0 ≡ s → ⊥) → length (up_to s (drop i t)) ≡ suc (length (up_to s (drop (i + 1) t)))
  unfolding up_to
  found_further h e = rw (drop-cons t i 0 h, ne_eqb _ _ e, add-one i)

  -- its position
  pub position_here : length (up_to s t) ≡ i → i < length t → position (λ x. eqb x s) t ≡ Some i
  position_here e h = rw (sym (up_to_length s t) ∙ e, lt-ltb i (length t) h)

pub position_nowhere : (s : ℕ) (t : List ℕ) → length t ≤ length (up_to s t) → position (λ x. eqb x s) t ≡ None
position_nowhere s t h = rw (sym (up_to_length s t), le-ltb (length (up_to s t)) (length t) h)

-- by its position
pub at_first : (s : ℕ) (t : List ℕ)
    → MatchOption (position (λ x. eqb x s) t) (since s t ≡ []) (λ i. (up_to s t ≡ take i t) × (since s t ≡ s ∷ drop (i + 1) t))
at_first s t = by_test (ltb n (length t)) refl
  where
    n : ℕ
    n = position_or_len (λ x. eqb x s) t

    e : n ≡ length (up_to s t)
    e = sym (up_to_length s t)

    by_test : (q : Bool) → ltb n (length t) ≡ q
        → MatchOption (cond q (Some n) None) (since s t ≡ []) (λ i. (up_to s t ≡ take i t) × (since s t ≡ s ∷ drop (i + 1) t))
    by_test true h = (sym (up_to_part s n t e), one_left s n t e (ltb-true n (length t) h))
    by_test false h = sym (since_part s n t e) ∙ drop_of_length-le t (ltb-false n (length t) h)

-- a text that is not empty has a first line, up to its first newline, and behind that its other lines
pub no_lines : (t : List ℕ) → length t ≡ 0 → lines_of t ≡ []
unfolding lines_of
no_lines [] h = refl
no_lines (b ∷ t) h = absurd (omega arith)

line_first : (t : List ℕ) → 0 < length t → lines_of t ≡ up_to newline t ∷ lines_of (drop 1 (since newline t))
line_first [] h = absurd (omega arith)
line_first (b ∷ t) h = first_line b t

pub first_of_lines : (t : List ℕ) (r : Option (Bor (List ℕ) × Bor (List ℕ))) (d : Bor (List ℕ) × Bor (List ℕ)) → 0 < length t
    → MatchOption r (since newline t ≡ []) (λ p. (up_to newline t ≡ p.0.now) × (since newline t ≡ newline ∷ p.1.now))
    → d.0.now ≡ t → d.1.now ≡ []
    → (lines_of t ≡ (unwrap_or r d).0.now ∷ lines_of (unwrap_or r d).1.now) × (length (unwrap_or r d).1.now < length t)
first_of_lines t None d h e a b =
    let p : up_to newline t ≡ t = sym (parted newline t ∙ ap (λ (xs : List ℕ). up_to newline t ++ xs) e ∙ append-nil (up_to newline t)) in
    (rw (a, b) (line_first t h ∙ rw (e, p)), rw b h)
first_of_lines t (Some p) d h e a b =
    (line_first t h ∙ rw (e.1, e.0), omega (arith, ap length (parted newline t), length-append (up_to newline t) (since newline t), ap length e.1))

-- from a position to the end
pub rest_of : (p : ℕ) (t : List ℕ) → take (length t - p) (drop p t) ≡ drop p t
rest_of p t = take_all (length t - p) (drop p t) (omega (arith, length-drop p t))

-- ---- the name

-- the library's words for a text that starts with another
same_if : (q x y : Bool) → x ≡ y → q && x ≡ cond q y false
same_if true x y e = e
same_if false x y e = refl

eqb_turned : (m n : ℕ) → eqb m n ≡ eqb n m
eqb_turned m n = by_test (eqb m n) refl
  where
    by_test : (q : Bool) → eqb m n ≡ q → q ≡ eqb n m
    by_test true h = sym (eq-eqb n m (sym (eqb-true m n h)))
    by_test false h = sym (ne_eqb n m (λ e. true≢false (sym (eq-eqb m n (sym e)) ∙ h)))

pub same_start : (name t : List ℕ) → C.starts_with eqb t name ≡ starts_with name t
unfolding starts_with
same_start [] t = refl
same_start (k ∷ ks) [] = refl
same_start (k ∷ ks) (b ∷ t) = rw (eqb_turned k b) (same_if (eqb b k) _ _ (same_start ks t))

same_front : (name t : List ℕ) → pointwise eqb (take (length name) t) name ≡ starts_with name t
unfolding starts_with
same_front [] t = refl
same_front (k ∷ ks) [] = refl
same_front (k ∷ ks) (b ∷ t) = same_if (eqb b k) _ _ (same_front ks t)

and_true : (q : Bool) → q && true ≡ q
and_true true = refl
and_true false = refl

or_false : (q : Bool) → q || false ≡ q
or_false true = refl
or_false false = refl

-- the first byte tells which names a line can begin with: C, U, N or none
pub wanted_set : (t : List ℕ) (b : ℕ) → Some b ≡ slice_get t 0 → b ≡ 67
    → wanted t
    ≡ starts_with (bytes "CapInh:") t
    || (starts_with (bytes "CapPrm:") t || (starts_with (bytes "CapEff:") t || (starts_with (bytes "CapBnd:") t || starts_with (bytes "CapAmb:") t)))
unfolding wanted begins_one entries starts_with
wanted_set [] b h e = cc
wanted_set (c ∷ t) b h e = let p : c ≡ 67 = cc in rw (p, or_false (starts_with (bytes "CapAmb:") (67 ∷ t)))

pub wanted_ids : (t : List ℕ) (b : ℕ) → Some b ≡ slice_get t 0 → b ≡ 85 → wanted t ≡ starts_with (bytes "Uid:") t
unfolding wanted begins_one entries starts_with
wanted_ids [] b h e = cc
wanted_ids (c ∷ t) b h e = let p : c ≡ 85 = cc in rw (p, or_false (starts_with (bytes "Uid:") (85 ∷ t)))

pub wanted_flag : (t : List ℕ) (b : ℕ) → Some b ≡ slice_get t 0 → b ≡ 78 → wanted t ≡ starts_with (bytes "NoNewPrivs:") t
unfolding wanted begins_one entries starts_with
wanted_flag [] b h e = cc
wanted_flag (c ∷ t) b h e = let p : c ≡ 78 = cc in rw (p, or_false (starts_with (bytes "NoNewPrivs:") (78 ∷ t)))

pub wanted_other : (t : List ℕ) (b : ℕ) → Some b ≡ slice_get t 0 → (b ≡ 67 → ⊥) → (b ≡ 85 → ⊥) → (b ≡ 78 → ⊥) → wanted t ≡ false
unfolding wanted begins_one entries starts_with
wanted_other [] b h p u n = cc
wanted_other (c ∷ t) b h p u n =
    let e : c ≡ b = cc in
    rw (e, ne_eqb b 67 p, ne_eqb b 85 u, ne_eqb b 78 n)

pub empty_line : (t : List ℕ) → None ≡ slice_get t 0 → wanted t ≡ false
unfolding wanted begins_one entries starts_with
empty_line [] h = refl
empty_line (c ∷ t) h = cc

-- what is known of an option, told otherwise
pub by_option : {A : Type 0} (r : Option A) {P Q : Type 0} {F G : A → Type 0} → (P → Q) → ((a : A) → F a → G a) → MatchOption r P F → MatchOption r Q G
by_option None p f h = p h
by_option (Some a) p f h = f a h

-- values behind a tab, which the library's word finds, or not
values_missing : (f : Form) (fs : List Form) (t : List ℕ) → pointwise eqb (take 1 t) (tab ∷ []) ≡ false → fault ≡ read_values (f ∷ fs) t
unfolding read_values
values_missing f fs [] h = refl
values_missing f fs (b ∷ t) h = rw (sym (and_true (eqb b tab)) ∙ h)

values_there : (f : Form) (fs : List Form) (t : List ℕ) → pointwise eqb (take 1 t) (tab ∷ []) ≡ true → behind_tab f fs (drop 1 t) ≡ read_values (f ∷ fs) t
unfolding read_values
values_there f fs [] h = absurd (false≢true h)
values_there f fs (b ∷ t) h = rw (sym (and_true (eqb b tab)) ∙ h)

module _ (t name : List ℕ) (f : Form) (fs : List Form) where
  abbrev e : Entry
  e = record { name = name; forms = f ∷ fs }

  -- a line that does not begin with the name
  pub name_missing : pointwise eqb (take (length name) t) name ≡ false → fault ≡ read_entry e t
  name_missing h = sym (key_missing name (read_values (f ∷ fs)) t (sym (same_front name t) ∙ h))

  module _ (h : pointwise eqb (take (length name) t) name ≡ true) where
    named : read_values (f ∷ fs) (drop (length name) t) ≡ read_entry e t
    named = sym (key_there name (read_values (f ∷ fs)) t (sym (same_front name t) ∙ h))

    -- the name, and no tab behind it
    pub tab_missing : pointwise eqb (take 1 (drop (length name) t)) (tab ∷ []) ≡ false → fault ≡ read_entry e t
    tab_missing p = values_missing f fs (drop (length name) t) p ∙ named

    -- or one
    pub tab_there : pointwise eqb (take 1 (drop (length name) t)) (tab ∷ []) ≡ true → behind_tab f fs (drop 1 (drop (length name) t)) ≡ read_entry e t
    tab_there p = values_there f fs (drop (length name) t) p ∙ named

-- ---- values

-- a value behind which nothing can be read
value_then_fault : {A : Type 0} (f : Form) (t : List ℕ) → next {B = A} 0 (value_of f t) (λ v rest. fault) ≡ fault
value_then_fault f t = then_fault (value_of f t) (value_within f t)

-- the last value: all that is left, for there is no tab in it
last_found : (f : Form) (t : List ℕ) (v : ℕ) → read v [] ≡ value_of f t → read (v ∷ []) [] ≡ behind_tab f [] t
unfolding read_values
last_found f t v h =
    let w = value_written f v t [] (sym h) in
    let l : Lacks tab t = rw w.0 (value_lacks tab f v (omega arith)) in
    rw (up_to_end tab t l, since_end tab t l, ← h)

last_missing : (f : Form) (t u : List ℕ) → fault ≡ value_of f t → since tab t ≡ u → fault ≡ behind_tab f [] t
unfolding read_values
last_missing f t [] h e =
    let p : up_to tab t ≡ t = sym (parted tab t ∙ ap (λ (xs : List ℕ). up_to tab t ++ xs) e ∙ append-nil (up_to tab t)) in
    rw (e, p, ← h)
last_missing f t (b ∷ u) h e = rw e (sym (value_then_fault f (up_to tab t)))

pub last_value : (f : Form) (t : List ℕ) (r : Option ℕ) → value_read r ≡ value_of f t → line_read r ≡ behind_tab f [] t
last_value f t (Some v) h = last_found f t v h
last_value f t None h = last_missing f t (since tab t) h refl

-- a value that another has to follow
module _ (f g : Form) (gs : List Form) (t : List ℕ) where
  -- no tab is left
  pub none_follows : since tab t ≡ [] → fault ≡ behind_tab f (g ∷ gs) t
  unfolding read_values
  none_follows e = rw e (sym (value_then_fault f (up_to tab t)))

  -- a tab is, and the value before it is one
  pub followed : (u : List ℕ) (v : ℕ) → since tab t ≡ tab ∷ u → read v [] ≡ value_of f (up_to tab t)
      → mapped (λ vs. v ∷ vs) (behind_tab g gs u) ≡ behind_tab f (g ∷ gs) t
  unfolding read_values
  followed u v e h = rw (e, ← h) (sym (below_none (mapped (λ vs. v ∷ vs) (behind_tab g gs u))))

-- Laws of a run of stores, and of the texts that the writers write. Assumes nothing.
use mathlib.Core.Path.{◌≡◌, refl, sym, ap, ◌∙◌}
use mathlib.Core.Logic.{⊎_elim}
use mathlib.Core.List.{List, [], ◌∷◌, ◌++◌}
use Prim.Native.Nat.{ℕ, suc, ◌+◌, ◌/◌, ◌%◌, ◌^◌, ◌<◌, ◌≤◌}
use native.Mathlib.Nat.{add-zero, add-suc, suc-add, add_assoc}
use native.Mathlib.Numerals.{add-one}
use native.Mathlib.Omega.{arith}
use borrow.Author.Tests.{le-leb}
use lib.ListN.{length, get_or, set, drop, length-append, drop_of_length-le}
use lib.Dec.{leb}
use mathlib.Core.Bool.{Bool, true, false}
use lib.Seq.{sets, set_comm, drop-cons, length-sets}
use Rattle.format.specs.Line.{bytes, Kind, digit, decimal_text, keyed_text}
use Rattle.format.proofs.Decimals.{below_or_not, decimal_one, decimal_more}
use Rattle.format.proofs.Lengths.{at_most, length_more, length_one, length_some, length_keyed}
use Rattle.hex_tables.specs.Tables.{digit_by, hex_text_by, line_text_by, lines_text_by}
use Rattle.hex_tables.proofs.Lengths.{length_hex_by}
use Rattle.line_writer.specs.Positions.{fits, written, written_to}
use Rattle.line_writer.specs.Inside.{lines_put}

pub sets_append : (xs ys l : List ℕ) (i : ℕ) → sets l i (xs ++ ys) ≡ sets (sets l i xs) (i + length xs) ys
sets_append [] ys l i = rw (add-zero i)
sets_append (x ∷ xs) ys l i = sets_append xs ys (set l i x) (suc i) ∙ rw (suc-add i (length xs), add-suc i (length xs))

-- the last one first
sets_last : (xs : List ℕ) (y : ℕ) (l : List ℕ) (i : ℕ) → sets l i (xs ++ (y ∷ [])) ≡ sets (set l (i + length xs) y) i xs
sets_last [] y l i = rw (add-zero i)
sets_last (x ∷ xs) y l i =
    sets_last xs y (set l i x) (suc i)
    ∙ rw (suc-add i (length xs), add-suc i (length xs), set_comm l i (suc (i + length xs)) x y (λ e. omega (arith, e)))

-- ---- bytes

pub put_byte : (src l : List ℕ) (k i j : ℕ) → k < length src → j ≡ i + 1
    → sets l i (drop k src) ≡ sets (set l i (get_or src k 0)) j (drop (k + 1) src)
put_byte src l k i j h e = rw (drop-cons src k 0 h, e, add-one i, add-one k)

pub put_no_byte : (src l : List ℕ) (k i : ℕ) → length src ≤ k → sets l i (drop k src) ≡ l
put_no_byte src l k i h = rw (drop_of_length-le src h)

-- ---- hex digits

module _ (table : List ℕ) where
  pub put_hex_digit : (n m v : ℕ) (l : List ℕ) (i : ℕ) → n ≡ m + 1
      → sets l i (hex_text_by table n v) ≡ sets (set l (i + m) (digit_by table (v % 16))) i (hex_text_by table m (v / 16))
  unfolding hex_text_by
  put_hex_digit n m v l i h =
      rw (h, add-one m) (sets_last (hex_text_by table m (v / 16)) (digit_by table (v % 16)) l i ∙ rw (length_hex_by table m (v / 16)))

  pub put_no_hex : (m v : ℕ) (l : List ℕ) (i : ℕ) → m ≡ 0 → sets l i (hex_text_by table m v) ≡ l
  unfolding hex_text_by
  put_no_hex m v l i h = rw h

-- ---- decimal digits

-- a number of 64 bits has at most 20 digits
pub length_64 : (v : ℕ) → v < 2 ^ 64 → length (decimal_text v) ≤ 20
length_64 v h = at_most 19 v (omega arith)

pub put_decimal_digit : (v m : ℕ) (l : List ℕ) (i : ℕ) → 10 ≤ v → length (decimal_text v) ≡ m + 1
    → sets l i (decimal_text v) ≡ sets (set l (i + m) (digit (v % 10))) i (decimal_text (v / 10))
put_decimal_digit v m l i h e =
    let q : length (decimal_text (v / 10)) ≡ m = omega (arith, length_more v h, e) in
    rw (decimal_more v h) (sets_last (decimal_text (v / 10)) (digit (v % 10)) l i ∙ rw q)

-- how many it has tells whether it is below ten
pub one_digit : (v : ℕ) → length (decimal_text v) ≤ 1 → v < 10
one_digit v h = ⊎_elim (λ (l : v < 10). l) (λ (l : 10 ≤ v). absurd (omega (arith, h, length_more v l, length_some (v / 10)))) (below_or_not v 10)

pub two_digits : (v : ℕ) → 2 ≤ length (decimal_text v) → 10 ≤ v
two_digits v h = ⊎_elim (λ (l : v < 10). absurd (omega (arith, h, length_one v l))) (λ (l : 10 ≤ v). l) (below_or_not v 10)

pub put_first_digit : (v : ℕ) (l : List ℕ) (i : ℕ) → v < 10 → sets l i (decimal_text v) ≡ set l i (digit v)
put_first_digit v l i h = rw (decimal_one v h)

-- ---- a line

put_keyed : (key value l : List ℕ) (at p q : ℕ) → p ≡ at + length key → q ≡ p + length value
    → set (sets (sets l at key) p value) q 10 ≡ sets l at (keyed_text key value)
unfolding keyed_text
put_keyed key value l at p q hp hq =
    sym (sets_append key (value ++ bytes "\n") l at ∙ rw (← hp) (sets_append value (bytes "\n") (sets l at key) p ∙ rw (← hq)))

-- a text, by whether it fits
pub text_refused : (t old : List ℕ) (at : ℕ) → fits old at t ≡ false → (at ≡ written_to old at t) × (old ≡ written old at t)
unfolding written written_to
text_refused t old at h = rw h (refl, refl)

pub text_written : (t old : List ℕ) (at : ℕ) → fits old at t ≡ true → (at + length t ≡ written_to old at t) × (sets old at t ≡ written old at t)
unfolding written written_to
text_written t old at h = rw h (refl, refl)

-- a line, by whether there is room for so many bytes
module _ (key value old : List ℕ) (at n : ℕ) (size : n ≡ length key + length value + 1) where
  keyed_fits : (t : Bool) → leb (at + n) (length old) ≡ t → fits old at (keyed_text key value) ≡ t
  keyed_fits t h = ap (λ (k : ℕ). leb (at + k) (length old)) (length_keyed key value ∙ sym size) ∙ h

  pub keyed_refused : leb (at + n) (length old) ≡ false → (at ≡ written_to old at (keyed_text key value)) × (old ≡ written old at (keyed_text key value))
  keyed_refused h = text_refused (keyed_text key value) old at (keyed_fits false h)

  pub keyed_written : (p q : ℕ) → p ≡ at + length key → q ≡ p + length value → leb (at + n) (length old) ≡ true
      → (q + 1 ≡ written_to old at (keyed_text key value)) × (set (sets (sets old at key) p value) q 10 ≡ written old at (keyed_text key value))
  keyed_written p q hp hq h =
      let w = text_written (keyed_text key value) old at (keyed_fits true h) in
      let e : q + 1 ≡ at + length (keyed_text key value) = omega (arith, hp, hq, length_keyed key value) in
      (e ∙ w.0, put_keyed key value old at p q hp hq ∙ w.1)

-- ---- lines one after the other

module _ (t old : List ℕ) (at : ℕ) where
  -- a text that fits
  pub text_put : at + length t ≤ length old → (written_to old at t ≡ at + length t) × (written old at t ≡ sets old at t)
  unfolding written written_to
  text_put h = let e = le-leb (at + length t) (length old) h in (rw e, rw e)

module _ (table : List ℕ) where
  -- lines that fit are the text of all of them
  pub lines_put_lem : (ks : List Kind) (vs old : List ℕ) (at : ℕ) → at + length (lines_text_by table ks vs) ≤ length old
      → lines_put table ks vs old at ≡ record { buffer = sets old at (lines_text_by table ks vs); at = at + length (lines_text_by table ks vs) }
  unfolding lines_put lines_text_by
  lines_put_lem [] vs old at h = ap (λ (n : ℕ). record { buffer = old; at = n }) (sym (add-zero at))
  lines_put_lem (k ∷ ks) [] old at h = ap (λ (n : ℕ). record { buffer = old; at = n }) (sym (add-zero at))
  lines_put_lem (k ∷ ks) (v ∷ vs) old at h =
      let t = line_text_by table k v in
      let u = lines_text_by table ks vs in
      let n : length (t ++ u) ≡ length t + length u = length-append t u in
      let one = text_put t old at (omega (arith, h, n)) in
      let rest = lines_put_lem ks vs (sets old at t) (at + length t) (omega (arith, h, n, length-sets old at t)) in
      ap (λ (b : List ℕ). lines_put table ks vs b (written_to old at t)) one.1
      ∙ ap (lines_put table ks vs (sets old at t)) one.0
      ∙ rest
      ∙ ap (λ (b : List ℕ). record { buffer = b; at = at + length t + length u }) (sym (sets_append t u old at))
      ∙ ap (λ (m : ℕ). record { buffer = sets old at (t ++ u); at = m }) (add_assoc at (length t) (length u) ∙ ap (λ (m : ℕ). at + m) (sym n))

  -- lines of two groups
  pub lines_grouped : (ks ls : List Kind) (vs ws old : List ℕ) (at : ℕ) → length ks ≡ length vs
      → lines_put table (ks ++ ls) (vs ++ ws) old at ≡ lines_put table ls ws (lines_put table ks vs old at).buffer (lines_put table ks vs old at).at
  unfolding lines_put
  lines_grouped [] ls [] ws old at e = refl
  lines_grouped [] ls (v ∷ vs) ws old at e = absurd (omega (arith, e))
  lines_grouped (k ∷ ks) ls [] ws old at e = absurd (omega (arith, e))
  lines_grouped (k ∷ ks) ls (v ∷ vs) ws old at e = lines_grouped ks ls vs ws (written old at (line_text_by table k v)) (written_to old at (line_text_by table k v)) (omega (arith, e))

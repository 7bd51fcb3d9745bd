-- The rows of the table: sorted and searched. Assumes nothing.
use mathlib.Core.Path.{◌≡◌, refl, sym, ap, ◌∙◌}
use mathlib.Core.Logic.{◌⊎◌, inl, inr}
use mathlib.Core.List.{List, [], ◌∷◌, map}
use mathlib.Core.Bool.{Bool, true, false, cond}
use Prim.Native.Nat.{ℕ, zero, suc, ◌+◌, ◌<◌, max}
use native.Mathlib.Numerals.{add-one}
use native.Mathlib.Omega.{arith}
use borrow.Author.Tests.{eqb-true, eqb-false, ltb-true}
use lib.Dec.{eqb, ltb}
use lib.ListN.{length, length-map, drop, get_or}
use lib.Seq.{drop-cons}
use denote.Ref.{Bor}
use Rattle.std.specs.Prelude.{Option, Some, None, is_some, IfSome, Ok, Err}
use Rattle.names.specs.declared.ReadError.TheVariants.{Malformed}
use Rattle.names_reader.specs.Inside.{Row, row, Parsed, size, text_of, number_of, put_in, by_length, rows, row_of, OneOf, row_for, all_indexed, common, find, Found}

-- ---- the table

pub rows_length : length rows ≡ 41
unfolding rows
rows_length = refl

-- the index has every name of six bytes or more
pub rows_indexed : all_indexed 0 rows ≡ true
unfolding all_indexed row_for rows
rows_indexed = refl

pub names_length : (ns : List (Bor (List ℕ) × ℕ)) → map row_of ns ≡ rows → length ns ≡ 41
names_length ns e = sym (length-map ns row_of) ∙ ap length e ∙ rows_length

-- an entry of the code's table, at an index
module _ (ns : List (Bor (List ℕ) × ℕ)) (k : ℕ) (d : Bor (List ℕ) × ℕ) (h : k < length ns) where
  pub row_next : map row_of (drop k ns) ≡ row_of (get_or ns k d) ∷ map row_of (drop (k + 1) ns)
  row_next = ap (map row_of) (drop-cons ns k d h ∙ ap (λ (i : ℕ). get_or ns k d ∷ drop i ns) (sym (add-one k)))

pub row_among : (ns : List (Bor (List ℕ) × ℕ)) (k : ℕ) (x : Bor (List ℕ) × ℕ) → k < length ns → get_or ns k x ≡ x → OneOf (row_of x) (map row_of ns)
unfolding OneOf
row_among [] k x h e = absurd (omega arith)
row_among (y ∷ ns) zero x h e = inl (ap row_of (sym e))
row_among (y ∷ ns) (suc k) x h e = inr (row_among ns k x (omega arith) e)

-- what the slice's `get` answers is one of the rows
pub got : (ns : List (Bor (List ℕ) × ℕ)) (i : ℕ) (r : Option (Bor (Bor (List ℕ) × ℕ))) → is_some r ≡ ltb i (length ns) → IfSome r (λ x. x.now ≡ get_or ns i x.now) → map row_of ns ≡ rows
    → IfSome r (λ x. OneOf (row_of x.now) rows)
got ns i None a b e = tt
got ns i (Some x) a b e = rw e at (row_among ns i x.now (ltb-true i (length ns) (sym a)) (sym b))

-- ---- searched

pub find_is : (at best : ℕ) (t : List ℕ) (x : Row) (xs : List Row) → eqb (common (text_of x) t) (size x) ≡ true → find at best (x ∷ xs) t ≡ Ok (number_of x, at + size x)
unfolding find
find_is at best t (row w n) xs h = rw h

pub find_next : (at best : ℕ) (t : List ℕ) (x : Row) (xs : List Row) → eqb (common (text_of x) t) (size x) ≡ false
    → find at best (x ∷ xs) t ≡ find at (max best (common (text_of x) t)) xs t
unfolding find
find_next at best t (row w n) xs h = rw h

pub find_end : (at best : ℕ) (t : List ℕ) (xs : List Row) → xs ≡ [] → find at best xs t ≡ Err (Malformed (at + best))
unfolding find
find_end at best t xs e = rw e

-- ---- what the search tells of all rows, in whatever order

-- how far a text goes on as any of them does
unfoldable pub furthest : List Row → List ℕ → ℕ
furthest [] t = 0
furthest (row w n ∷ xs) t = max (common w t) (furthest xs t)

-- none of them stands at its front whole
unfoldable pub NoneAt : List Row → List ℕ → Type 0
NoneAt [] t = Unit
NoneAt (row w n ∷ xs) t = (common w t ≡ length w → ⊥) × NoneAt xs t

find_missing : (at best : ℕ) (xs : List Row) (t : List ℕ) (p : ℕ) → find at best xs t ≡ Err (Malformed p) → NoneAt xs t × (p ≡ at + max best (furthest xs t))
unfolding find NoneAt furthest
find_missing at best [] t p h = (tt, let e : at + best ≡ p = cc in omega arith)
find_missing at best (row w n ∷ xs) t p h =
    by_test (eqb (common w t) (length w)) refl h (λ g. find_missing at (max best (common w t)) xs t p g)
  where
    by_test : (q : Bool) → eqb (common w t) (length w) ≡ q → cond q (Ok (n, at + length w)) (find at (max best (common w t)) xs t) ≡ Err (Malformed p)
        → (find at (max best (common w t)) xs t ≡ Err (Malformed p) → NoneAt xs t × (p ≡ at + max (max best (common w t)) (furthest xs t)))
        → ((common w t ≡ length w → ⊥) × NoneAt xs t) × (p ≡ at + max best (max (common w t) (furthest xs t)))
    by_test true e g f = let z : ◌≡◌ {A = ℕ} 0 1 = cc in absurd (omega arith)
    by_test false e g f = let i = f g in let k = i.1 in ((eqb-false (common w t) (length w) e, i.0), omega arith)

find_found : (at best : ℕ) (xs : List Row) (t : List ℕ) (n next : ℕ) → find at best xs t ≡ Ok (n, next)
    → (w : List ℕ) × OneOf (row w n) xs × (common w t ≡ length w) × (next ≡ at + length w)
unfolding find OneOf
find_found at best [] t n next h = let z : ◌≡◌ {A = ℕ} 0 1 = cc in absurd (omega arith)
find_found at best (row w m ∷ xs) t n next h =
    by_test (eqb (common w t) (length w)) refl h (λ g. find_found at (max best (common w t)) xs t n next g)
  where
    by_test : (q : Bool) → eqb (common w t) (length w) ≡ q → cond q (Ok (m, at + length w)) (find at (max best (common w t)) xs t) ≡ Ok (n, next)
        → (find at (max best (common w t)) xs t ≡ Ok (n, next) → (v : List ℕ) × OneOf (row v n) xs × (common v t ≡ length v) × (next ≡ at + length v))
        → (v : List ℕ) × ((row v n ≡ row w m) ⊎ OneOf (row v n) xs) × (common v t ≡ length v) × (next ≡ at + length v)
    by_test true e g f = let p : ◌≡◌ {A = ℕ × ℕ} (m, at + length w) (n, next) = cc in let q : m ≡ n = ap (λ (z : ℕ × ℕ). z.0) p in (w, inl (rw q), eqb-true (common w t) (length w) e, sym (ap (λ (z : ℕ × ℕ). z.1) p))
    by_test false e g f = let (v, o, a, b) = f g in (v, inr o, a, b)

-- ---- sorted: the same rows

furthest_in : (x : Row) (xs : List Row) (t : List ℕ) → furthest (put_in x xs) t ≡ furthest (x ∷ xs) t
unfolding put_in furthest
furthest_in (row w n) [] t = refl
furthest_in (row w n) (row v m ∷ xs) t = by_test (ltb (length v) (length w)) (furthest_in (row w n) xs t)
  where
    by_test : (q : Bool) → furthest (put_in (row w n) xs) t ≡ max (common w t) (furthest xs t)
        → furthest (cond q (row v m ∷ put_in (row w n) xs) (row w n ∷ row v m ∷ xs)) t ≡ max (common w t) (max (common v t) (furthest xs t))
    by_test true e = omega arith
    by_test false e = refl

furthest_sorted : (xs : List Row) (t : List ℕ) → furthest (by_length xs) t ≡ furthest xs t
unfolding by_length furthest
furthest_sorted [] t = refl
furthest_sorted (row w n ∷ xs) t = furthest_in (row w n) (by_length xs) t ∙ ap (λ (k : ℕ). max (common w t) k) (furthest_sorted xs t)

none_in : (x : Row) (xs : List Row) (t : List ℕ) → NoneAt (put_in x xs) t → NoneAt (x ∷ xs) t
unfolding put_in NoneAt
none_in (row w n) [] t h = h
none_in (row w n) (row v m ∷ xs) t h = by_test (ltb (length v) (length w)) (none_in (row w n) xs t) h
  where
    by_test : (q : Bool) → (NoneAt (put_in (row w n) xs) t → (common w t ≡ length w → ⊥) × NoneAt xs t)
        → NoneAt (cond q (row v m ∷ put_in (row w n) xs) (row w n ∷ row v m ∷ xs)) t → (common w t ≡ length w → ⊥) × ((common v t ≡ length v → ⊥) × NoneAt xs t)
    by_test true f g = let i = f g.1 in (i.0, (g.0, i.1))
    by_test false f g = g

none_sorted : (xs : List Row) (t : List ℕ) → NoneAt (by_length xs) t → NoneAt xs t
unfolding by_length NoneAt
none_sorted [] t h = h
none_sorted (row w n ∷ xs) t h = let i = none_in (row w n) (by_length xs) t h in (i.0, none_sorted xs t i.1)

one_in : (x y : Row) (xs : List Row) → OneOf y (put_in x xs) → OneOf y (x ∷ xs)
unfolding put_in OneOf
one_in x y [] h = h
one_in x y (z ∷ xs) h = by_test (ltb (size z) (size x)) (one_in x y xs) h
  where
    by_test : (q : Bool) → (OneOf y (put_in x xs) → (y ≡ x) ⊎ OneOf y xs) → OneOf y (cond q (z ∷ put_in x xs) (x ∷ z ∷ xs)) → (y ≡ x) ⊎ ((y ≡ z) ⊎ OneOf y xs)
    by_test true f (inl e) = inr (inl e)
    by_test true f (inr g) = deeper (f g)
      where
        deeper : (y ≡ x) ⊎ OneOf y xs → (y ≡ x) ⊎ ((y ≡ z) ⊎ OneOf y xs)
        deeper (inl e) = inl e
        deeper (inr o) = inr (inr o)
    by_test false f g = g

pub one_sorted : (y : Row) (xs : List Row) → OneOf y (by_length xs) → OneOf y xs
unfolding by_length OneOf
one_sorted y [] h = h
one_sorted y (x ∷ xs) h = by_case (one_in x y (by_length xs) h) (one_sorted y xs)
  where
    by_case : (y ≡ x) ⊎ OneOf y (by_length xs) → (OneOf y (by_length xs) → OneOf y xs) → (y ≡ x) ⊎ OneOf y xs
    by_case (inl e) f = inl e
    by_case (inr o) f = inr (f o)

-- what the search gives is found
pub searched : (at : ℕ) (t : List ℕ) (x : Parsed ℕ) → x ≡ find at 0 rows t → Found x at t
searched at t (Ok (n, next)) h = find_found at 0 rows t n next (sym h)
searched at t (Err (Malformed p)) h = sym h

-- what is found tells of the rows as they were before they were sorted
pub sorted_missing : (at : ℕ) (xs : List Row) (t : List ℕ) (p : ℕ) → find at 0 (by_length xs) t ≡ Err (Malformed p) → NoneAt xs t × (p ≡ at + furthest xs t)
sorted_missing at xs t p h =
    let (a, b) = find_missing at 0 (by_length xs) t p h in
    let e = furthest_sorted xs t in
    (none_sorted xs t a, omega arith)

-- the steps of the loop over the rows
pub ruleset row_by_row = (names_length, row_next, find_is)

-- The words: what is left of them byte by byte, and that each is left alone by its own text. Assumes nothing.
use mathlib.Core.Path.{◌≡◌, refl, ap, ◌∙◌}
use mathlib.Core.Logic.{◌⊎◌, inl, inr}
use mathlib.Core.List.{List, [], ◌∷◌}
use mathlib.Core.Bool.{Bool, true, false, cond, not, ◌&&◌}
use Prim.Native.Nat.{ℕ, suc, ◌≤◌, ◌<◌}
use Prim.Native.String.{String}
use native.Mathlib.Omega.{arith}
use borrow.Author.Tests.{le-ltb, eq-eqb, ne_eqb, eqb-true, leb-true}
use lib.Dec.{leb, eqb}
use Rattle.capabilities.proofs.Inclusion.{and_l, and_r, and_i}
use Rattle.capabilities.specs.Sets.{full, single}
use Rattle.format.specs.Line.{bytes}
use Rattle.names.specs.Names.{capability_names, begins, apart_from_all, all_apart, NamesApart}
use Rattle.names.specs.Grammar.{lower, lowered, Word, spelt, words_from, names, ◌among◌}
use Rattle.names.specs.Reading.{every, after}

-- ---- the names are apart

pub names_apart : NamesApart
unfolding begins apart_from_all all_apart capability_names
names_apart = record { count = refl; names = refl; all = refl }

-- ---- a test that every word meets

unfoldable pub all_of : (Word → Bool) → List Word → Bool
all_of f [] = true
all_of f (x ∷ xs) = f x && all_of f xs

pub all_at : (f : Word → Bool) (x : Word) (xs : List Word) → all_of f xs ≡ true → x among xs → f x ≡ true
unfolding all_of ◌among◌
all_at f x [] a h = absurd h
all_at f x (y ∷ ys) a (inl e) = ap f e ∙ and_l (f y) (all_of f ys) a
all_at f x (y ∷ ys) a (inr h) = all_at f x ys (and_r (f y) (all_of f ys) a) h

-- ---- bytes of words are 95 and above: no operator, no comma, no blank, no upper case letter

unfoldable pub high : List ℕ → Bool
high [] = true
high (k ∷ ks) = leb 95 k && high ks

unfoldable pub tidy : List Word → Bool
tidy [] = true
tidy (spelt w m j ∷ xs) = high w && tidy xs

pub names_tidy : tidy names ≡ true
unfolding tidy high names
names_tidy = refl

pub first_tidy : tidy (every ∷ names) ≡ true
unfolding tidy high names
first_tidy = refl

after_tidy_if : (c : Bool) (ks : List ℕ) (m : ℕ) (j : Bool) (xs : List Word) → high ks ≡ true → tidy xs ≡ true
    → tidy (cond c (spelt ks m j ∷ xs) xs) ≡ true
unfolding tidy
after_tidy_if true ks m j xs p q = and_i (high ks) (tidy xs) p q
after_tidy_if false ks m j xs p q = q

pub after_tidy : (b : ℕ) (xs : List Word) → tidy xs ≡ true → tidy (after b xs) ≡ true
unfolding tidy high after
after_tidy b [] h = refl
after_tidy b (spelt [] m j ∷ xs) h = after_tidy b xs h
after_tidy b (spelt (k ∷ ks) m j ∷ xs) h =
    after_tidy_if (eqb b k) ks m j (after b xs)
    (and_r (leb 95 k) (high ks) (and_l (leb 95 k && high ks) (tidy xs) h))
    (after_tidy b xs (and_r (leb 95 k && high ks) (tidy xs) h))

-- no word goes on with a byte below 95
pub after_low : (b : ℕ) (xs : List Word) → tidy xs ≡ true → b < 95 → after b xs ≡ []
unfolding tidy high after
after_low b [] h l = refl
after_low b (spelt [] m j ∷ xs) h l = after_low b xs h l
after_low b (spelt (k ∷ ks) m j ∷ xs) h l =
    let g : 95 ≤ k = leb-true 95 k (and_l (leb 95 k) (high ks) (and_l (leb 95 k && high ks) (tidy xs) h)) in
    rw (ne_eqb b k (omega arith)) (after_low b xs (and_r (leb 95 k && high ks) (tidy xs) h) l)

-- the bytes of words are their own lower case
pub lower_high : (k : ℕ) → 95 ≤ k → lower k ≡ k
lower_high k h = rw (le-ltb k 65 (omega arith), le-ltb k 91 (omega arith))

pub lowered_high : (ks : List ℕ) → high ks ≡ true → lowered ks ≡ ks
unfolding high lowered
lowered_high [] h = refl
lowered_high (k ∷ ks) h = rw (lower_high k (leb-true 95 k (and_l (leb 95 k) (high ks) h)), lowered_high ks (and_r (leb 95 k) (high ks) h))

-- ---- a word among those that are left

among_if : (c : Bool) (x y : Word) (xs : List Word) → x among xs → x among (cond c (y ∷ xs) xs)
unfolding ◌among◌
among_if true x y xs h = inr h
among_if false x y xs h = h

pub among_after : (b : ℕ) (w : List ℕ) (m : ℕ) (j : Bool) (xs : List Word) → spelt (b ∷ w) m j among xs → spelt w m j among (after b xs)
unfolding after ◌among◌
among_after b w m j [] h = absurd h
among_after b w m j (spelt [] n i ∷ xs) (inl e) = let z : ◌≡◌ {A = ℕ} 0 1 = cc in absurd (omega arith)
among_after b w m j (spelt [] n i ∷ xs) (inr h) = among_after b w m j xs h
among_after b w m j (spelt (k ∷ ks) n i ∷ xs) (inl e) =
    let p : b ≡ k = cc in
    let q : spelt w m j ≡ spelt ks n i = cc in
    rw (eq-eqb b k p) (inl q)
among_after b w m j (spelt (k ∷ ks) n i ∷ xs) (inr h) = among_if (eqb b k) (spelt w m j) (spelt ks n i) (after b xs) (among_after b w m j xs h)

among_if_cases : (c : Bool) (x y : Word) (xs : List Word) → x among (cond c (y ∷ xs) xs) → ((c ≡ true) × (x ≡ y)) ⊎ (x among xs)
unfolding ◌among◌
among_if_cases true x y xs (inl e) = inl (refl, e)
among_if_cases true x y xs (inr h) = inr h
among_if_cases false x y xs h = inr h

pub among_before : (b : ℕ) (w : List ℕ) (m : ℕ) (j : Bool) (xs : List Word) → spelt w m j among (after b xs) → spelt (b ∷ w) m j among xs
unfolding after ◌among◌
among_before b w m j [] h = absurd h
among_before b w m j (spelt [] n i ∷ xs) h = inr (among_before b w m j xs h)
among_before b w m j (spelt (k ∷ ks) n i ∷ xs) h =
    before_if (among_if_cases (eqb b k) (spelt w m j) (spelt ks n i) (after b xs) h) (λ g. among_before b w m j xs g)
  where
    before_if : ((eqb b k ≡ true) × (spelt w m j ≡ spelt ks n i)) ⊎ (spelt w m j among (after b xs))
        → (spelt w m j among (after b xs) → spelt (b ∷ w) m j among xs)
        → (spelt (b ∷ w) m j ≡ spelt (k ∷ ks) n i) ⊎ (spelt (b ∷ w) m j among xs)
    before_if (inl q) f = let p : b ≡ k = eqb-true b k q.0 in let r = q.1 in inl (cc)
    before_if (inr g) f = inr (f g)

-- ---- what is left of the words after some bytes

unfoldable pub afters : List ℕ → List Word → List Word
afters [] xs = xs
afters (b ∷ t) xs = afters t (after b xs)

afters_none : (t : List ℕ) → afters t [] ≡ []
unfolding afters after
afters_none [] = refl
afters_none (b ∷ t) = afters_none t

-- a word that they do not begin is gone
afters_gone : (t w : List ℕ) (m : ℕ) (j : Bool) (xs : List Word) → begins t w ≡ false → afters t (spelt w m j ∷ xs) ≡ afters t xs
unfolding afters after begins
afters_gone [] w m j xs h = let z : ◌≡◌ {A = ℕ} 0 1 = cc in absurd (omega arith)
afters_gone (b ∷ t) [] m j xs h = refl
afters_gone (b ∷ t) (k ∷ w) m j xs h = by_test (eqb b k) h (λ g. afters_gone t w m j (after b xs) g)
  where
    by_test : (q : Bool) → q && begins t w ≡ false → (begins t w ≡ false → afters t (spelt w m j ∷ after b xs) ≡ afters t (after b xs))
        → afters t (cond q (spelt w m j ∷ after b xs) (after b xs)) ≡ afters t (after b xs)
    by_test true g f = f g
    by_test false g f = refl

-- a word that they are is left at its end
afters_left : (t : List ℕ) (m : ℕ) (j : Bool) (xs : List Word) → afters t (spelt t m j ∷ xs) ≡ spelt [] m j ∷ afters t xs
unfolding afters after
afters_left [] m j xs = refl
afters_left (b ∷ t) m j xs = rw (eq-eqb b b refl) (afters_left t m j (after b xs))

-- ---- a word by itself: after its text nothing is left but its end

not_true : (q : Bool) → not q ≡ true → q ≡ false
not_true false h = refl
not_true true h = let z : ◌≡◌ {A = ℕ} 0 1 = cc in absurd (omega arith)

none_left : (t : List ℕ) (n : ℕ) (l : List String) → apart_from_all t l ≡ true → afters t (words_from n l) ≡ []
unfolding apart_from_all words_from
none_left t n [] h = afters_none t
none_left t n (x ∷ l) h =
    let a = and_l (not (begins t (bytes x)) && not (begins (bytes x) t)) (apart_from_all t l) h in
    let b = and_r (not (begins t (bytes x)) && not (begins (bytes x) t)) (apart_from_all t l) h in
    afters_gone t (bytes x) (single n) true (words_from (suc n) l) (not_true (begins t (bytes x)) (and_l (not (begins t (bytes x))) (not (begins (bytes x) t)) a))
    ∙ none_left t (suc n) l b

-- a name does not begin a text that is apart from it
not_begun : (t : List ℕ) (n : ℕ) (l : List String) (w : List ℕ) (m : ℕ) (j : Bool) → apart_from_all t l ≡ true → spelt w m j among words_from n l → begins w t ≡ false
unfolding apart_from_all words_from ◌among◌
not_begun t n [] w m j h g = absurd g
not_begun t n (x ∷ l) w m j h (inl e) =
    let p : w ≡ bytes x = cc in
    let a = and_l (not (begins t (bytes x)) && not (begins (bytes x) t)) (apart_from_all t l) h in
    rw p (not_true (begins (bytes x) t) (and_r (not (begins t (bytes x))) (not (begins (bytes x) t)) a))
not_begun t n (x ∷ l) w m j h (inr g) =
    not_begun t (suc n) l w m j (and_r (not (begins t (bytes x)) && not (begins (bytes x) t)) (apart_from_all t l) h) g

alone_from : (n : ℕ) (l : List String) (w : List ℕ) (m : ℕ) (j : Bool) → all_apart l ≡ true → spelt w m j among words_from n l
    → afters w (words_from n l) ≡ spelt [] m j ∷ []
unfolding all_apart words_from ◌among◌
alone_from n [] w m j h g = absurd g
alone_from n (x ∷ l) w m j h (inl e) =
    let p : w ≡ bytes x = cc in
    let q : m ≡ single n = cc in
    let r : j ≡ true = cc in
    rw (p, q, r)
    (afters_left (bytes x) (single n) true (words_from (suc n) l)
    ∙ ap (λ (ys : List Word). spelt [] (single n) true ∷ ys) (none_left (bytes x) (suc n) l (and_l (apart_from_all (bytes x) l) (all_apart l) h)))
alone_from n (x ∷ l) w m j h (inr g) =
    afters_gone w (bytes x) (single n) true (words_from (suc n) l) (not_begun (bytes x) (suc n) l w m j (and_l (apart_from_all (bytes x) l) (all_apart l) h) g)
    ∙ alone_from (suc n) l w m j (and_r (apart_from_all (bytes x) l) (all_apart l) h) g

pub alone_names : (w : List ℕ) (m : ℕ) (j : Bool) → spelt w m j among names → afters w names ≡ spelt [] m j ∷ []
unfolding names
alone_names w m j h = alone_from 0 capability_names w m j names_apart.names h

pub alone_first : (w : List ℕ) (m : ℕ) (j : Bool) → spelt w m j among (every ∷ names) → afters w (every ∷ names) ≡ spelt [] m j ∷ []
unfolding names ◌among◌
alone_first w m j (inl e) =
    let p : w ≡ bytes "all" = cc in
    let q : m ≡ full = cc in
    let r : j ≡ false = cc in
    rw (p, q, r)
    (afters_left (bytes "all") full false (words_from 0 capability_names)
    ∙ ap (λ (ys : List Word). spelt [] full false ∷ ys) (none_left (bytes "all") 0 capability_names names_apart.all))
alone_first w m j (inr h) =
    afters_gone w (bytes "all") full false (words_from 0 capability_names) (not_begun (bytes "all") 0 capability_names w m j names_apart.all h)
    ∙ alone_names w m j h

-- every name can be joined
joins_from : (n : ℕ) (l : List String) (w : List ℕ) (m : ℕ) (j : Bool) → spelt w m j among words_from n l → j ≡ true
unfolding words_from ◌among◌
joins_from n [] w m j h = absurd h
joins_from n (x ∷ l) w m j (inl e) = cc
joins_from n (x ∷ l) w m j (inr h) = joins_from (suc n) l w m j h

pub names_join : (w : List ℕ) (m : ℕ) (j : Bool) → spelt w m j among names → j ≡ true
unfolding names
names_join w m j h = joins_from 0 capability_names w m j h

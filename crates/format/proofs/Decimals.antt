-- Laws of the decimal digits of a number: one below 10 is its digit, any other ends in its last digit. Assumes nothing.
use mathlib.Core.Path.{◌≡◌, refl, ap, ◌∙◌}
use mathlib.Core.List.{List, [], ◌∷◌, ◌++◌}
use mathlib.Core.Logic.{⊎_elim, ◌⊎◌, inl, inr}
use mathlib.Core.Bool.{Bool, true, false}
use Prim.Native.Nat.{ℕ, zero, suc, ◌/◌, ◌%◌, ◌<◌, ◌≤◌}
use native.Mathlib.Nat.{not-suc-le-zero}
use native.Mathlib.Omega.{arith}
use borrow.Author.Tests.{ltb-true, ltb-false, lt-ltb, le-ltb}
use lib.Dec.{ltb}
use Rattle.format.specs.Line.{digit, decimal_of, decimal_text}

or_by : (a b : ℕ) (t : Bool) → ltb a b ≡ t → (a < b) ⊎ (b ≤ a)
or_by a b true e = inl (ltb-true a b e)
or_by a b false e = inr (ltb-false a b e)

pub below_or_not : (a b : ℕ) → (a < b) ⊎ (b ≤ a)
below_or_not a b = or_by a b (ltb a b) refl

-- any two counts that suffice give the same digits
enough : (n m v : ℕ) → v < n → v < m → decimal_of n v ≡ decimal_of m v
unfolding decimal_of
enough zero m v h g = absurd (not-suc-le-zero h)
enough (suc n) zero v h g = absurd (not-suc-le-zero g)
enough (suc n) (suc m) v h g =
    ⊎_elim
    (λ (l : v < 10). simp (lt-ltb v 10 l))
    (λ (l : 10 ≤ v). rw (le-ltb v 10 l) (ap (λ (xs : List ℕ). xs ++ (digit (v % 10) ∷ [])) (enough n m (v / 10) (omega arith) (omega arith))))
    (below_or_not v 10)

pub decimal_one : (v : ℕ) → v < 10 → decimal_text v ≡ digit v ∷ []
unfolding decimal_text decimal_of
decimal_one v h = rw (lt-ltb v 10 h)

more : (v : ℕ) → 10 ≤ v → decimal_of (suc v) v ≡ decimal_of v (v / 10) ++ (digit (v % 10) ∷ [])
unfolding decimal_of
more v h = rw (le-ltb v 10 h)

pub decimal_more : (v : ℕ) → 10 ≤ v → decimal_text v ≡ decimal_text (v / 10) ++ (digit (v % 10) ∷ [])
unfolding decimal_text
decimal_more v h = more v h ∙ ap (λ (xs : List ℕ). xs ++ (digit (v % 10) ∷ [])) (enough v (suc (v / 10)) (v / 10) (omega arith) (omega arith))

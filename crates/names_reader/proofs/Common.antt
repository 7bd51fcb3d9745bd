-- How far a word and a text agree. Assumes nothing.
use mathlib.Core.Path.{◌≡◌, refl, sym, ap, ◌∙◌}
use mathlib.Core.List.{List, [], ◌∷◌}
use mathlib.Core.Bool.{Bool, true, false, cond}
use Prim.Native.Nat.{ℕ, suc, ◌-◌, ◌≤◌}
use native.Mathlib.Omega.{arith}
use lib.Dec.{eqb}
use lib.ListN.{length, take, drop, length-drop}
use lib.Seq.{take-length}
use borrow.Author.Tests.{eqb-true}
use Rattle.std.specs.Prelude.{◌==◌}
use Rattle.std.specs.List.{zip, take_while}
use Rattle.std.proofs.lemmas.List.Sums.{take_while-cons}
use Rattle.names.specs.Grammar.{lower, lowered}
use Rattle.names_reader.specs.Inside.{common}

-- what `&text[at..]` is
pub rest : (at : ℕ) (t : List ℕ) → take (length t - at) (drop at t) ≡ drop at t
rest at t = ap (λ (n : ℕ). take n (drop at t)) (sym (length-drop at t)) ∙ take-length (drop at t)

pub common_nil : (ks : List ℕ) → common ks [] ≡ 0
unfolding common
common_nil [] = refl
common_nil (k ∷ ks) = refl

-- how many pairs from the front agree
pub common_pairs : (key t : List ℕ) → length (take_while (λ (p : ℕ × ℕ). lower p.0 == p.1) (zip t key)) ≡ common key t
unfolding common
common_pairs [] [] = refl
common_pairs [] (b ∷ t) = refl
common_pairs (k ∷ key) [] = refl
common_pairs (k ∷ key) (b ∷ t) = rw take_while-cons (by_test (eqb (lower b) k) (common_pairs key t))
  where
    by_test : (p : Bool) → length (take_while (λ (q : ℕ × ℕ). lower q.0 == q.1) (zip t key)) ≡ common key t
        → length (cond p ((b, k) ∷ take_while (λ (q : ℕ × ℕ). lower q.0 == q.1) (zip t key)) []) ≡ cond p (suc (common key t)) 0
    by_test true e = ap suc e
    by_test false e = refl

pub common_le : (w t : List ℕ) → (common w t ≤ length w) × (common w t ≤ length t)
unfolding common
common_le [] t = (omega arith, omega arith)
common_le (k ∷ ks) [] = (omega arith, omega arith)
common_le (k ∷ ks) (b ∷ t) = by_test (eqb (lower b) k) (common_le ks t)
  where
    by_test : (p : Bool) → (common ks t ≤ length ks) × (common ks t ≤ length t) → (cond p (suc (common ks t)) 0 ≤ length (k ∷ ks)) × (cond p (suc (common ks t)) 0 ≤ length (b ∷ t))
    by_test true h = (omega arith, omega arith)
    by_test false h = (omega arith, omega arith)

-- a word that agrees in all of its bytes
pub common_whole : (w t : List ℕ) → common w t ≡ length w → lowered (take (length w) t) ≡ w
unfolding common lowered
common_whole [] t h = refl
common_whole (k ∷ ks) [] h = absurd (omega arith)
common_whole (k ∷ ks) (b ∷ t) h = by_test (eqb (lower b) k) refl h (common_whole ks t)
  where
    by_test : (p : Bool) → eqb (lower b) k ≡ p → cond p (suc (common ks t)) 0 ≡ suc (length ks) → (common ks t ≡ length ks → lowered (take (length ks) t) ≡ ks)
        → lower b ∷ lowered (take (length ks) t) ≡ k ∷ ks
    by_test true e g f = rw (eqb-true (lower b) k e, f (omega arith))
    by_test false e g f = absurd (omega arith)

-- The lowest free slot. Assumes nothing.
use Prim.Native.Nat.{ℕ, zero, suc, ◌<◌}
use native.Mathlib.Omega.{arith}
use native.Mathlib.Nat.{le_of_suc-le-suc}
use mathlib.Core.Path.{◌≡◌, refl, sym, ap}
use mathlib.Core.Bool.{Bool, true, false, true≢false}
use mathlib.Core.List.{List, [], ◌∷◌}
use lib.ListN.{get_or}
use Rattle.threads.specs.Table.{lowest_free}

-- where there is one, it is free
pub lowest_free_lem : (marks : List Bool) → get_or marks (lowest_free marks) false ≡ false
unfolding lowest_free
lowest_free_lem [] = refl
lowest_free_lem (true ∷ marks) = lowest_free_lem marks
lowest_free_lem (false ∷ marks) = refl

-- all below it are in use
pub lowest_below : (marks : List Bool) (i : ℕ) → i < lowest_free marks → get_or marks i false ≡ true
unfolding lowest_free
lowest_below [] i h = absurd (omega (arith, h))
lowest_below (true ∷ marks) zero h = refl
lowest_below (true ∷ marks) (suc i) h = lowest_below marks i (le_of_suc-le-suc h)
lowest_below (false ∷ marks) i h = absurd (omega (arith, h))

-- it depends on which are in use and on nothing else
pub lowest_same : (marks others : List Bool) → ((i : ℕ) → get_or marks i false ≡ get_or others i false) → lowest_free marks ≡ lowest_free others
unfolding lowest_free
lowest_same [] [] h = refl
lowest_same [] (true ∷ others) h = absurd (true≢false (sym (h zero)))
lowest_same [] (false ∷ others) h = refl
lowest_same (true ∷ marks) [] h = absurd (true≢false (h zero))
lowest_same (true ∷ marks) (true ∷ others) h = ap suc (lowest_same marks others (λ i. h (suc i)))
lowest_same (true ∷ marks) (false ∷ others) h = absurd (true≢false (h zero))
lowest_same (false ∷ marks) [] h = refl
lowest_same (false ∷ marks) (true ∷ others) h = absurd (true≢false (sym (h zero)))
lowest_same (false ∷ marks) (false ∷ others) h = refl

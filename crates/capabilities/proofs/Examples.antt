-- How the laws are used: an inclusion by `search`, an equation and an inclusion from others by their truth tables. Assumes nothing.
use Prim.Native.Nat.{ℕ}
use mathlib.Core.Path.{◌≡◌, refl}
use mathlib.Core.List.{[], ◌∷◌}
use Rattle.capabilities.specs.Sets.{union, inter, minus, Within}
use Rattle.capabilities.proofs.Inclusion.{inclusions}
use Rattle.capabilities.proofs.Solve.{var, ◌∪◌, ◌∩◌, ◌∖◌, ◌⊑◌, solve, follows}

-- what a launch permits is within the inheritable, the bounding and the ambient set together
launched : (i b a f g : ℕ) → Within (union (union (inter i f) (inter g b)) a) (union (union i b) a)
launched i b a f g = search inclusions depth 8

-- what is in neither of two sets
de_morgan : (a b c : ℕ) → minus a (union b c) ≡ inter (minus a b) (minus a c)
de_morgan a b c = solve (a ∷ b ∷ c ∷ []) (var 0 ∖ (var 1 ∪ var 2)) ((var 0 ∖ var 1) ∩ (var 0 ∖ var 2)) refl

-- what is left of a set within another is left of that other
left_over : (a b c : ℕ) → Within a b → Within (minus a c) (minus b c)
left_over a b c h =
    follows (a ∷ b ∷ c ∷ []) ((var 0 ⊑ var 1) ∷ []) (var 0 ∖ var 2) (var 1 ∖ var 2) refl (record { fact = h; more = tt })

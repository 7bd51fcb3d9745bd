-- The values that forms and kinds of lines can hold. Assumes nothing.
use mathlib.Core.Path.{◌≡◌, refl, ap}
use mathlib.Core.List.{List, [], ◌∷◌}
use Prim.Native.Nat.{ℕ, suc, ◌^◌, ◌<◌, ◌≤◌}
use lib.ListN.{get_or}
use Rattle.format.specs.Line.{Form, decimal, hex, Kind}

-- the values that a form can hold
abbrev pub Fits : Form → ℕ → Type 0
Fits (decimal largest) v = v ≤ largest
Fits (hex n) v = v < 16 ^ n

-- a value for each kind, each one that its form can hold
unfoldable pub FitAll : List Kind → List ℕ → Type 0
FitAll [] [] = Unit
FitAll [] (v ∷ vs) = ⊥
FitAll (k ∷ ks) [] = ⊥
FitAll (k ∷ ks) (v ∷ vs) = Fits k.form v × FitAll ks vs

-- a value for each kind, by its place
unfoldable pub placed : List Kind → (ℕ → ℕ) → List ℕ
placed [] f = []
placed (k ∷ ks) f = f 0 ∷ placed ks (λ i. f (suc i))

-- values for these kinds are the ones at their places
pub placed_same : (ks : List Kind) (vs : List ℕ) → FitAll ks vs → vs ≡ placed ks (λ i. get_or vs i 0)
unfolding placed FitAll
placed_same [] [] h = refl
placed_same [] (v ∷ vs) h = absurd h
placed_same (k ∷ ks) [] h = absurd h
placed_same (k ∷ ks) (v ∷ vs) h = ap (λ (ws : List ℕ). v ∷ ws) (placed_same ks vs h.1)

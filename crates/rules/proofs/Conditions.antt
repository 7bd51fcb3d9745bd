-- What holds of a value that a test chooses. Assumes nothing.
use mathlib.Core.Path.{◌≡◌, refl}
use mathlib.Core.Bool.{Bool, true, false, cond}

-- it holds if it holds of each side where the test leads there
pub cond_cases : {A : Type 0} (P : A → Type 0) (t : Bool) (x y : A) → (t ≡ true → P x) → (t ≡ false → P y) → P (cond t x y)
cond_cases P true x y f g = f refl
cond_cases P false x y f g = g refl

-- and where the claim is about the test too
pub cond_with : {A : Type 0} (P : Bool → A → Type 0) (t : Bool) (x y : A) → P true x → P false y → P t (cond t x y)
cond_with P true x y f g = f
cond_with P false x y f g = g

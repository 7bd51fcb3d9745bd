-- Reading and its place, whatever the grammar: what follows from the steps alone. Assumes nothing.
use mathlib.Core.Path.{◌≡◌, refl, ap, ◌∙◌}
use mathlib.Core.List.{List, ◌∷◌}
use Prim.Native.Nat.{ℕ}
use native.Mathlib.Omega.{arith}
use Rattle.names.specs.declared.Sets.{Sets}
use Rattle.std.specs.Prelude.{Ok, Err}
use Rattle.names.specs.declared.ReadError.TheVariants.{Malformed}
use Rattle.names.specs.Reading.{Reading, State, Step, go, stuck, later, told, step, run}

-- sets are not a place
pub not_both : {B : Type 0} {v : Sets} {n : ℕ} → Err (Malformed n) ≡ Ok v → B
not_both e = let z : ◌≡◌ {A = ℕ} 0 1 = cc in absurd (omega arith)

pub later_means : (r : Reading) (v : Sets) → later r ≡ Ok v → r ≡ Ok v
later_means (Ok s) v e = e
later_means (Err (Malformed n)) v e = not_both e

-- where sets were read, the byte could stand there
pub told_means : (x : Step) (f : State → Reading) (v : Sets) → told x f ≡ Ok v → (s : State) × (x ≡ go s) × (f s ≡ Ok v)
told_means (go s) f v e = (s, refl, later_means (f s) v e)
told_means stuck f v e = not_both e

-- a byte that can stand there, before a text that is read as sets
pub runs : (s next : State) (b : ℕ) (t : List ℕ) (v : Sets) → step s b ≡ go next → run next t ≡ Ok v → run s (b ∷ t) ≡ Ok v
unfolding run
runs s next b t v e h = ap (λ (x : Step). told x (λ n. run n t)) e ∙ ap later h

-- and the other way round
pub ran : (s : State) (b : ℕ) (t : List ℕ) (v : Sets) → run s (b ∷ t) ≡ Ok v → (next : State) × (step s b ≡ go next) × (run next t ≡ Ok v)
unfolding run
ran s b t v e = told_means (step s b) (λ n. run n t) v e

-- Tests on numbers. Assumes nothing.
use Prim.Native.Nat.{ℕ}
use mathlib.Core.Path.{◌≡◌, refl, sym, ap, ◌∙◌}
use mathlib.Core.Logic.{◌≢◌, ◌⊎◌, inl, inr}
use mathlib.Core.Bool.{Bool, true, false, ◌||◌, true≢false}
use lib.Dec.{eqb}
use borrow.Author.Tests.{eq-eqb, eqb-true}
use Rattle.threads.specs.Step.{FORK, EXIT}

-- neither of two tests holds
pub or_left_false : (a b : Bool) → a || b ≡ false → a ≡ false
or_left_false true b h = absurd (true≢false h)
or_left_false false b h = refl

pub or_right_false : (a b : Bool) → a || b ≡ false → b ≡ false
or_right_false true b h = absurd (true≢false h)
or_right_false false b h = h

-- 30 is not 31
pub fork_no_exit : (n : ℕ) → eqb n EXIT ≡ true → eqb n FORK ≡ false
fork_no_exit n h = ap (λ (m : ℕ). eqb m FORK) (eqb-true n EXIT h)

-- a number is not another one
pub not_other : (n m : ℕ) → n ≡ m → eqb n m ≡ false → ⊥
not_other n m e h = true≢false (sym (eq-eqb n m e) ∙ h)

-- two numbers are equal or not
pub equal_or_not : (a b : ℕ) → (a ≡ b) ⊎ (eqb a b ≡ false)
equal_or_not a b = by (eqb a b) refl
  where
    by : (t : Bool) → eqb a b ≡ t → (a ≡ b) ⊎ (eqb a b ≡ false)
    by true h = inl (eqb-true a b h)
    by false h = inr h

pub different : (a b : ℕ) → eqb a b ≡ false → a ≢ b
different a b h e = not_other a b e h

-- What it tells that something was read, every step of the reading having gone well, or that there was a fault. Assumes nothing.
use mathlib.Core.Path.{◌≡◌, refl, ap}
use mathlib.Core.List.{List}
use mathlib.Core.Bool.{Bool, true, false, cond}
use Prim.Native.Nat.{ℕ}
use native.Mathlib.Omega.{arith}
use Rattle.format.specs.Line.{Read, read, fault_at, fault, below, next, mapped}

module _ {A : Type 0} (w : A) (rest : List ℕ) where
  -- a fault is not read
  pub fault_read : {B : Type 0} {line : ℕ} → fault_at line ≡ read w rest → B
  fault_read e = let z : ◌≡◌ {A = ℕ} 0 1 = cc in absurd (omega arith)

  -- a test that must hold
  pub tested : (t : Bool) (r : Read A) → cond t r fault ≡ read w rest → (t ≡ true) × (r ≡ read w rest)
  tested true r e = (refl, e)
  tested false r e = fault_read e

  -- a test that must fail
  pub tested_not : (t : Bool) (r : Read A) → cond t fault r ≡ read w rest → (t ≡ false) × (r ≡ read w rest)
  tested_not true r e = fault_read e
  tested_not false r e = (refl, e)

  -- a test on which it depends how the reading went on
  pub tested_cases : {B : Type 0} (t : Bool) (r s : Read A) → cond t r s ≡ read w rest → (t ≡ true → r ≡ read w rest → B)
      → (t ≡ false → s ≡ read w rest → B)
      → B
  tested_cases true r s e f g = f refl e
  tested_cases false r s e f g = g refl e

  below_told : (n : ℕ) (r : Read A) → below n r ≡ read w rest → r ≡ read w rest
  below_told n (read v t) e = e
  below_told n (fault_at line) e = fault_read e

  -- lines and what follows them
  pub next_told : {B : Type 0} (n : ℕ) (r : Read B) (f : B → List ℕ → Read A) → next n r f ≡ read w rest
      → (v : B) × (t : List ℕ) × (r ≡ read v t) × (f v t ≡ read w rest)
  next_told n (read v t) f e = (v, t, refl, below_told n (f v t) e)
  next_told n (fault_at line) f e = fault_read e

  -- a value made of what was read
  pub mapped_told : {B : Type 0} (f : B → A) (r : Read B) → mapped f r ≡ read w rest → (v : B) × (r ≡ read v rest) × (f v ≡ w)
  mapped_told f (read v t) e = let p : t ≡ rest = cc in (v, rw p, cc)
  mapped_told f (fault_at line) e = fault_read e

-- a fault, where a value would have been made of what was read
pub mapped_fault : {A B : Type 0} (f : A → B) (r : Read A) (line : ℕ) → mapped f r ≡ fault_at line → r ≡ fault_at line
mapped_fault f (read v t) line e = let z : ◌≡◌ {A = ℕ} 0 1 = cc in absurd (omega arith)
mapped_fault f (fault_at n) line e = let p : n ≡ line = cc in ap fault_at p

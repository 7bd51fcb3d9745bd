-- A text that starts with a key, and one that does not. Assumes nothing.
use native.Mathlib.Omega.{arith}
use mathlib.Core.Path.{◌≡◌, refl}
use mathlib.Core.List.{List, [], ◌∷◌}
use mathlib.Core.Bool.{Bool, true, false, cond}
use Prim.Native.Nat.{ℕ}
use lib.Dec.{eqb}
use lib.ListN.{length, drop}
use Rattle.format.specs.Line.{Read, fault, starts_with, after_key}

both_true : (s x : Bool) → cond s x false ≡ true → (s ≡ true) × (x ≡ true)
both_true true x h = (refl, h)
both_true false x h = let z : ◌≡◌ {A = ℕ} 0 1 = cc in absurd (omega arith)

pub key_there : {A : Type 0} (key : List ℕ) (f : List ℕ → Read A) (t : List ℕ) → starts_with key t ≡ true → after_key key f t ≡ f (drop (length key) t)
unfolding starts_with after_key
key_there [] f t h = refl
key_there (k ∷ ks) f [] h = let z : ◌≡◌ {A = ℕ} 0 1 = cc in absurd (omega arith)
key_there (k ∷ ks) f (b ∷ t) h =
    let e = both_true (eqb b k) (starts_with ks t) h in
    rw e.0 (key_there ks f t e.1)

by_byte : {A : Type 0} (s x : Bool) (r : Read A) → cond s x false ≡ false → (x ≡ false → r ≡ fault) → cond s r fault ≡ fault
by_byte true x r h f = f h
by_byte false x r h f = refl

pub key_missing : {A : Type 0} (key : List ℕ) (f : List ℕ → Read A) (t : List ℕ) → starts_with key t ≡ false → after_key key f t ≡ fault
unfolding starts_with after_key
key_missing [] f t h = let z : ◌≡◌ {A = ℕ} 0 1 = cc in absurd (omega arith)
key_missing (k ∷ ks) f [] h = refl
key_missing (k ∷ ks) f (b ∷ t) h = by_byte (eqb b k) (starts_with ks t) (after_key ks f t) h (λ g. key_missing ks f t g)

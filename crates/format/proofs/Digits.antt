-- A digit and its number, each from the other. Assumes nothing.
use mathlib.Core.Path.{◌≡◌, refl}
use mathlib.Core.Logic.{⊎_elim}
use mathlib.Core.Bool.{Bool, true, false, cond}
use Prim.Native.Nat.{ℕ, ◌+◌, ◌-◌, ◌*◌, ◌<◌, ◌≤◌, ◌^◌}
use native.Mathlib.Numerals.{add-one}
use native.Mathlib.Nat.{le_of_suc-le-suc, pow-suc, pow-le-pow_right}
use native.Mathlib.Omega.{arith}
use borrow.Author.Tests.{ltb-true, ltb-false, lt-ltb, le-ltb}
use lib.Dec.{ltb}
use Rattle.format.specs.Line.{digit, hex_digit, decimal_digit, newline}
use Rattle.format.proofs.Decimals.{below_or_not}

-- ---- a number's digit is read as the number

-- in hex
pub hex_digit_read : (d : ℕ) → d < 16 → hex_digit (digit d) ≡ d
hex_digit_read d h =
    ⊎_elim
    (λ (l : d < 10). simp (lt-ltb d 10 l, le-ltb (48 + d) 48 (omega arith), lt-ltb (48 + d) 58 (omega arith)) (omega arith))
    (λ (l : 10 ≤ d).
    simp (
      le-ltb d 10 l,
      le-ltb (87 + d) 48 (omega arith),
      le-ltb (87 + d) 58 (omega arith),
      le-ltb (87 + d) 97 (omega arith),
      lt-ltb (87 + d) 103 (omega arith),
    )
    (omega arith))
    (below_or_not d 10)

-- in decimal
pub decimal_digit_read : (d : ℕ) → d < 10 → decimal_digit (digit d) ≡ d
decimal_digit_read d h = simp (lt-ltb d 10 h, le-ltb (48 + d) 48 (omega arith), lt-ltb (48 + d) 58 (omega arith)) (omega arith)

-- no digit is a newline
pub digit_no_newline : (d : ℕ) → digit d ≡ newline → ⊥
digit_no_newline d e =
    ⊎_elim
    (λ (l : d < 10). omega (arith, simp (lt-ltb d 10 l) at e))
    (λ (l : 10 ≤ d). omega (arith, simp (le-ltb d 10 l) at e))
    (below_or_not d 10)

-- ---- a byte that is read as a digit is the digit of its number

-- by the test that a number depends on
by_test : (P : ℕ → Type 0) (t : Bool) (x y : ℕ) → (t ≡ true → P x) → (t ≡ false → P y) → P (cond t x y)
by_test P true x y f g = f refl
by_test P false x y f g = g refl

-- what is to hold of the number d that a byte is read as
abbrev Written : ℕ → ℕ → ℕ → Type 0
Written base b d = d < base → digit d ≡ b

-- in hex
pub hex_digit_written : (b : ℕ) → hex_digit b < 16 → digit (hex_digit b) ≡ b
hex_digit_written b =
    by_test (Written 16 b) (ltb b 48) _ _ (λ p h. absurd (omega arith)) λ p.
    by_test (Written 16 b) (ltb b 58) _ _ (λ q h. simp (lt-ltb (b - 48) 10 (omega (arith, ltb-true b 58 q))) (omega (arith, ltb-false b 48 p))) λ q.
    by_test (Written 16 b) (ltb b 97) _ _ (λ r h. absurd (omega arith)) λ r.
    by_test (Written 16 b) (ltb b 103) _ _ (λ s h. simp (le-ltb (b - 87) 10 (omega (arith, ltb-false b 97 r))) (omega (arith, ltb-false b 97 r))) λ s h.
    absurd (omega arith)

-- in decimal
pub decimal_digit_written : (b : ℕ) → decimal_digit b < 10 → digit (decimal_digit b) ≡ b
decimal_digit_written b =
    by_test (Written 10 b) (ltb b 48) _ _ (λ p h. absurd (omega arith)) λ p.
    by_test (Written 10 b) (ltb b 58) _ _ (λ q h. simp (lt-ltb (b - 48) 10 (omega (arith, ltb-true b 58 q))) (omega (arith, ltb-false b 48 p))) λ q h.
    absurd (omega arith)

-- ---- so many hex digits make a number so large

-- fewer than 16 digits leave room for one more in 64 bits
pub hex_room : (k v : ℕ) → k < 16 → v < 16 ^ k → v < 1152921504606846976
hex_room k v h g = omega (arith, pow-le-pow_right {n = 16} (omega arith) {i = k} {j = 15} (le_of_suc-le-suc h))

pub hex_grows : (k v d : ℕ) → v < 16 ^ k → d < 16 → v * 16 + d < 16 ^ (k + 1)
hex_grows k v d h g = rw (add-one k, pow-suc 16 k) (omega arith)

-- Texts that a byte does not stand in: digits, and what stands before and from the first of a byte on. Assumes nothing.
use mathlib.Core.Path.{◌≡◌, refl, ap}
use mathlib.Core.List.{List, [], ◌∷◌, ◌++◌}
use mathlib.Core.Logic.{⊎_elim}
use mathlib.Core.Bool.{Bool, true, false, cond, false≢true}
use Prim.Native.Nat.{ℕ, zero, suc, ◌/◌, ◌%◌, ◌<◌, ◌≤◌}
use native.Mathlib.Nat.{not-suc-le-zero}
use native.Mathlib.Omega.{arith}
use borrow.Author.Tests.{lt-ltb, le-ltb, ne_eqb, eq-eqb}
use lib.Dec.{eqb}
use Rattle.format.specs.Line.{Form, decimal, hex, digit, hex_text, decimal_text, value_text}
use Rattle.format.proofs.Decimals.{below_or_not, decimal_one, decimal_more}
use Rattle.status.specs.Reading.{up_to, since}
use Rattle.status.specs.RoundTrip.{Lacks}

-- two texts one behind the other
pub both_lack : (s : ℕ) (t u : List ℕ) → Lacks s t → Lacks s u → Lacks s (t ++ u)
unfolding Lacks
both_lack s [] u h g = g
both_lack s (b ∷ t) u h g = (h.0, both_lack s t u h.1 g)

-- of a quoted text it is found by computation
unfoldable pub lacking : ℕ → List ℕ → Bool
lacking s [] = true
lacking s (b ∷ t) = cond (eqb b s) false (lacking s t)

pub lacks_by : (s : ℕ) (t : List ℕ) → lacking s t ≡ true → Lacks s t
unfolding Lacks lacking
lacks_by s [] h = tt
lacks_by s (b ∷ t) h = by_test (eqb b s) refl h (lacks_by s t)
  where
    by_test : (q : Bool) → eqb b s ≡ q → cond q false (lacking s t) ≡ true → (lacking s t ≡ true → Lacks s t) → (eqb b s ≡ false) × Lacks s t
    by_test true e g f = absurd (false≢true g)
    by_test false e g f = (e, f g)

-- ---- digits lack every byte below that of `0`: a tab, a newline, a space

digit_high : (d : ℕ) → 48 ≤ digit d
digit_high d =
    ⊎_elim (λ (l : d < 10). simp (lt-ltb d 10 l) (omega arith)) (λ (l : 10 ≤ d). simp (le-ltb d 10 l) (omega arith)) (below_or_not d 10)

digit_lacks : (s d : ℕ) → s < 48 → Lacks s (digit d ∷ [])
unfolding Lacks
digit_lacks s d h = (ne_eqb (digit d) s (λ e. omega (arith, digit_high d, e)), tt)

hex_lacks : (s n v : ℕ) → s < 48 → Lacks s (hex_text n v)
unfolding hex_text Lacks
hex_lacks s zero v h = tt
hex_lacks s (suc n) v h = both_lack s (hex_text n (v / 16)) (digit (v % 16) ∷ []) (hex_lacks s n (v / 16) h) (digit_lacks s (v % 16) h)

-- by induction over a number above v
decimals_lack : (s n v : ℕ) → v < n → s < 48 → Lacks s (decimal_text v)
decimals_lack s zero v l h = absurd (not-suc-le-zero l)
decimals_lack s (suc n) v l h =
    ⊎_elim
    (λ (q : v < 10). rw (decimal_one v q) (digit_lacks s v h))
    (λ (q : 10 ≤ v).
    rw (decimal_more v q)
    (both_lack s (decimal_text (v / 10)) (digit (v % 10) ∷ []) (decimals_lack s n (v / 10) (omega arith) h) (digit_lacks s (v % 10) h)))
    (below_or_not v 10)

-- a value's text
pub value_lacks : (s : ℕ) (f : Form) (v : ℕ) → s < 48 → Lacks s (value_text f v)
value_lacks s (decimal largest) v h = decimals_lack s (suc v) v (omega arith) h
value_lacks s (hex n) v h = hex_lacks s n v h

-- ---- before the first of a byte, and from it on

-- a text that lacks the byte, and then one that begins with it
pub up_to_first : (s : ℕ) (t u : List ℕ) → Lacks s t → up_to s (t ++ (s ∷ u)) ≡ t
unfolding Lacks up_to
up_to_first s [] u h = rw (eq-eqb s s refl)
up_to_first s (b ∷ t) u h = rw h.0 (ap (λ (xs : List ℕ). b ∷ xs) (up_to_first s t u h.1))

pub since_first : (s : ℕ) (t u : List ℕ) → Lacks s t → since s (t ++ (s ∷ u)) ≡ s ∷ u
unfolding Lacks since
since_first s [] u h = rw (eq-eqb s s refl)
since_first s (b ∷ t) u h = rw h.0 (since_first s t u h.1)

-- a text that lacks the byte
pub up_to_end : (s : ℕ) (t : List ℕ) → Lacks s t → up_to s t ≡ t
unfolding Lacks up_to
up_to_end s [] h = refl
up_to_end s (b ∷ t) h = rw h.0 (ap (λ (xs : List ℕ). b ∷ xs) (up_to_end s t h.1))

pub since_end : (s : ℕ) (t : List ℕ) → Lacks s t → since s t ≡ []
unfolding Lacks since
since_end s [] h = refl
since_end s (b ∷ t) h = rw h.0 (since_end s t h.1)

-- any text is what stands before the byte, and then what stands from it on
pub parted : (s : ℕ) (t : List ℕ) → t ≡ up_to s t ++ since s t
unfolding up_to since
parted s [] = refl
parted s (b ∷ t) = by_test (eqb b s) (parted s t)
  where
    by_test : (q : Bool) → t ≡ up_to s t ++ since s t → b ∷ t ≡ cond q [] (b ∷ up_to s t) ++ cond q (b ∷ t) (since s t)
    by_test true h = refl
    by_test false h = ap (λ (xs : List ℕ). b ∷ xs) h

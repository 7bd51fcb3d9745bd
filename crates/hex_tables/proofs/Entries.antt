-- A table of a function's values has, at each entry, that function's value. Assumes nothing.
use native.Mathlib.Nat.{le_of_suc-le-suc, not-suc-le-zero}
use native.Mathlib.Omega.{arith}
use mathlib.Core.Path.{◌≡◌, refl, sym, ap}
use mathlib.Core.Bool.{Bool, true, false}
use Prim.Native.Nat.{ℕ, zero, suc, ◌<◌, ◌≤◌}
use borrow.Author.Tests.{le-ltb, ltb-true, ltb-false}
use lib.Dec.{ltb}
use lib.ListN.{length, get_or}
use Rattle.format.specs.Line.{digit, hex_digit}
use Rattle.hex_tables.specs.Tables.{tabulated, reading_table, writing_table, hex_digit_by, digit_by}

length_tabulated : (f : ℕ → ℕ) (n : ℕ) → length (tabulated f n) ≡ n
unfolding tabulated
length_tabulated f zero = refl
length_tabulated f (suc n) = ap suc (length_tabulated (λ i. f (suc i)) n)

entry : (f : ℕ → ℕ) (n i d : ℕ) → i < n → get_or (tabulated f n) i d ≡ f i
unfolding tabulated
entry f zero i d h = absurd (not-suc-le-zero h)
entry f (suc n) zero d h = refl
entry f (suc n) (suc i) d h = entry (λ j. f (suc j)) n i d (le_of_suc-le-suc h)

-- what is no byte is no digit
no_digit : (b : ℕ) → 256 ≤ b → hex_digit b ≡ 16
no_digit b h = simp (le-ltb b 48 (omega arith), le-ltb b 58 (omega arith), le-ltb b 97 (omega arith), le-ltb b 103 (omega arith))

reading_at : (b : ℕ) (t : Bool) → ltb b 256 ≡ t → hex_digit_by reading_table b ≡ hex_digit b
unfolding reading_table
reading_at b true h = rw h (entry hex_digit 256 b 0 (ltb-true b 256 h))
reading_at b false h = rw h (sym (no_digit b (ltb-false b 256 h)))

pub reading_entry : (b : ℕ) → hex_digit_by reading_table b ≡ hex_digit b
reading_entry b = reading_at b (ltb b 256) refl

pub writing_entry : (d : ℕ) → d < 16 → digit_by writing_table d ≡ digit d
unfolding writing_table
writing_entry d h = entry digit 16 d 0 h

pub reading_length : length reading_table ≡ 256
unfolding reading_table
reading_length = length_tabulated hex_digit 256

pub writing_length : length writing_table ≡ 16
unfolding writing_table
writing_length = length_tabulated digit 16

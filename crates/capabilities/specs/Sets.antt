-- Capability sets ("What a thread carries"): a set is a number, and capability n is a member where bit n is 1.
-- Every definition here computes on numerals. That union, inter, minus, single and within mean what their names say, member by member,
-- is proved in proofs/Membership.antt and proofs/Inclusion.antt. Assumes nothing.
use Rattle.std.specs.Prelude.{ℕ, zero, ◌-◌, ◌/◌, ◌%◌, ◌^◌, ◌≡◌, Bool, true, cond, not, eqb, ltb}
use Rattle.std.specs.Int.Bits.{bitwise, bit_and, bit_or}

-- every capability there is, 0 to 40
abbrev pub full : ℕ
full = 0x1ffffffffff

-- capability n is a member of a
unfoldable pub has : ℕ → ℕ → Bool
has a n = eqb (a / 2 ^ n % 2) 1

-- capability n is no member of a
unfoldable pub lacks : ℕ → ℕ → Bool
lacks a n = not (has a n)

-- what is in a or in b; code writes a | b
abbrev pub union : ℕ → ℕ → ℕ
union a b = bit_or a b

-- what is in a and in b; code writes a & b
abbrev pub inter : ℕ → ℕ → ℕ
inter a b = bit_and a b

-- what is in a and not in b: bit by bit, x less y
unfoldable pub minus : ℕ → ℕ → ℕ
minus a b = bitwise (λ y. zero) (λ x y. x - y) a b

-- capability n alone; nothing from 64 on, where a word has no bit
unfoldable pub single : ℕ → ℕ
single n = cond (ltb n 64) (2 ^ n) 0

-- every member of a is one of b: joined to b, a adds nothing
abbrev pub within : ℕ → ℕ → Bool
within a b = eqb (union a b) b

-- some member of a is none of b
unfoldable pub outside : ℕ → ℕ → Bool
outside a b = not (within a b)

-- the fact that capability n is a member of a
pub record Has (a n : ℕ) : Type 0 where
  pub is! : has a n ≡ true

-- the fact that every member of a is one of b
pub record Within (a b : ℕ) : Type 0 where
  pub all! : (n : ℕ) → Has a n → Has b n

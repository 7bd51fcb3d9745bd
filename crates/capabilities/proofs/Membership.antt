-- Membership in each operation's result, and equality by members. No law has a side condition that it does not state.
-- Assumes nothing.
use mathlib.Core.Path.{◌≡◌, refl, sym, ap, ap₂, ◌∙◌}
use mathlib.Core.Bool.{Bool, false, not, ◌&&◌, ◌||◌, cond}
use Prim.Native.Nat.{ℕ, zero, suc, ◌+◌, ◌-◌, ◌*◌, ◌/◌, ◌%◌, ◌^◌, ◌≤◌, ◌<◌, min, max, zero-le, suc-le-suc}
use native.Mathlib.Nat.{le_of_suc-le-suc, not-suc-le-zero, zero-lt-suc, mod-lt, pow-suc, div-div-eq-div-mul, div-one, div-eq_of_lt, mul_comm, lt_of_lt_of_le, lt_of_le_of_lt, le-add_right, one-mul, lt-suc_self}
use native.Mathlib.Omega.{arith}
use lib.Dec.{eqb, eqb-suc-suc, eqb-zero-suc, eqb-suc-zero}
use lib.Arith.{digits_div, digits_mod, lt-one}
use lib.Pow.{pow_mono, pow-lt}
use lib.Bits.{bitwise_step, bit_and, bit_or, and_step, or_step, shifted_half, shifted_even}
use borrow.Author.Tests.{eqb-false, lt-ltb}
use Rattle.capabilities.specs.Sets.{has, union, inter, minus, single}

-- ---- bits

abbrev bit : ℕ → ℕ → ℕ
bit a n = a / 2 ^ n % 2

two_pos : zero < 2
two_pos = zero-lt-suc 1

bit_zero : (a : ℕ) → bit a zero ≡ a % 2
bit_zero a = ap (λ (x : ℕ). x % 2) (div-one a)

bit_suc : (a n : ℕ) → bit a (suc n) ≡ bit (a / 2) n
bit_suc a n =
    ap (λ (x : ℕ). a / x % 2) (pow-suc 2 n ∙ mul_comm (2 ^ n) 2) ∙ ap (λ (x : ℕ). x % 2) (sym (div-div-eq-div-mul a 2 (2 ^ n)))

-- an operation that goes bit by bit
module _ (op f : ℕ → ℕ → ℕ) (step : (a b : ℕ) → op a b ≡ op (a / 2) (b / 2) * 2 + f (a % 2) (b % 2))
    (small : (x y : ℕ) → x < 2 → y < 2 → f x y < 2) where
  bit_op : (a b n : ℕ) → bit (op a b) n ≡ f (bit a n) (bit b n)
  bit_op a b zero =
      bit_zero (op a b) ∙ ap (λ (x : ℕ). x % 2) (step a b)
      ∙ digits_mod (op (a / 2) (b / 2)) (small (a % 2) (b % 2) (mod-lt a two_pos) (mod-lt b two_pos))
      ∙ sym (ap₂ f (bit_zero a) (bit_zero b))
  bit_op a b (suc n) =
      bit_suc (op a b) n ∙ ap (λ (x : ℕ). bit (x / 2) n) (step a b)
      ∙ ap (λ (x : ℕ). bit x n) (digits_div (op (a / 2) (b / 2)) (small (a % 2) (b % 2) (mod-lt a two_pos) (mod-lt b two_pos)))
      ∙ bit_op (a / 2) (b / 2) n
      ∙ sym (ap₂ f (bit_suc a n) (bit_suc b n))

  -- its truth table gives its law of membership
  has_op : (g : Bool → Bool → Bool) → ((x y : ℕ) → x < 2 → y < 2 → eqb (f x y) 1 ≡ g (eqb x 1) (eqb y 1))
      → (a b n : ℕ) → has (op a b) n ≡ g (has a n) (has b n)
  unfolding has
  has_op g table a b n =
      ap (λ (x : ℕ). eqb x 1) (bit_op a b n)
      ∙ table (bit a n) (bit b n) (mod-lt (a / 2 ^ n) two_pos) (mod-lt (b / 2 ^ n) two_pos)

abbrev past : {x : ℕ} → suc (suc x) < 2 → ⊥
past h = not-suc-le-zero (le_of_suc-le-suc (le_of_suc-le-suc h))

-- a statement about two bits holds where it does at the four rows of their table
two_bits : (P : ℕ → ℕ → Type 0) → P 0 0 → P 0 1 → P 1 0 → P 1 1 → (x y : ℕ) → x < 2 → y < 2 → P x y
two_bits P p q r s zero zero h k = p
two_bits P p q r s zero (suc zero) h k = q
two_bits P p q r s zero (suc (suc y)) h k = absurd (past k)
two_bits P p q r s (suc zero) zero h k = r
two_bits P p q r s (suc zero) (suc zero) h k = s
two_bits P p q r s (suc zero) (suc (suc y)) h k = absurd (past k)
two_bits P p q r s (suc (suc x)) y h k = absurd (past h)

-- ---- the recursion and the table of each operation

none_less : (b : ℕ) → zero ≡ zero * 2 + (zero - b % 2)
none_less b = omega arith

pub minus_step : (a b : ℕ) → minus a b ≡ minus (a / 2) (b / 2) * 2 + (a % 2 - b % 2)
unfolding minus
minus_step = bitwise_step (λ b. zero) (λ x y. x - y) none_less

or_small : (x y : ℕ) → x < 2 → y < 2 → max x y < 2
or_small x y h k = omega arith

and_small : (x y : ℕ) → x < 2 → y < 2 → min x y < 2
and_small x y h k = omega arith

less_small : (x y : ℕ) → x < 2 → y < 2 → x - y < 2
less_small x y h k = omega arith

or_table : (x y : ℕ) → x < 2 → y < 2 → eqb (max x y) 1 ≡ eqb x 1 || eqb y 1
or_table = two_bits (λ x y. eqb (max x y) 1 ≡ eqb x 1 || eqb y 1) refl refl refl refl

and_table : (x y : ℕ) → x < 2 → y < 2 → eqb (min x y) 1 ≡ eqb x 1 && eqb y 1
and_table = two_bits (λ x y. eqb (min x y) 1 ≡ eqb x 1 && eqb y 1) refl refl refl refl

less_table : (x y : ℕ) → x < 2 → y < 2 → eqb (x - y) 1 ≡ eqb x 1 && not (eqb y 1)
less_table = two_bits (λ x y. eqb (x - y) 1 ≡ eqb x 1 && not (eqb y 1)) refl refl refl refl

-- ---- membership in each operation's result

pub has_union : (a b n : ℕ) → has (union a b) n ≡ has a n || has b n
has_union = has_op bit_or max or_step or_small ◌||◌ or_table

pub has_inter : (a b n : ℕ) → has (inter a b) n ≡ has a n && has b n
has_inter = has_op bit_and min and_step and_small ◌&&◌ and_table

pub has_minus : (a b n : ℕ) → has (minus a b) n ≡ has a n && not (has b n)
has_minus = has_op minus (λ x y. x - y) minus_step less_small (λ x y. x && not y) less_table

-- ---- membership bit by bit

has_low : (a : ℕ) → has a zero ≡ eqb (a % 2) 1
unfolding has
has_low a = ap (λ (x : ℕ). eqb x 1) (bit_zero a)

pub has_suc : (a n : ℕ) → has a (suc n) ≡ has (a / 2) n
unfolding has
has_suc a n = ap (λ (x : ℕ). eqb x 1) (bit_suc a n)

-- a number below 2 ^ k has no member from k on, and 0 has none at all
pub has_above : (k a n : ℕ) → a < 2 ^ k → k ≤ n → has a n ≡ false
unfolding has
has_above k a n h l = ap (λ (x : ℕ). eqb (x % 2) 1) (div-eq_of_lt (lt_of_lt_of_le h (pow_mono l)))

pub has_none : (n : ℕ) → has 0 n ≡ false
has_none n = has_above zero 0 n (zero-lt-suc zero) zero-le

-- ---- two sets with the same members are the same number

same_bit : (x y : ℕ) → x < 2 → y < 2 → eqb x 1 ≡ eqb y 1 → x ≡ y
same_bit =
    two_bits (λ x y. eqb x 1 ≡ eqb y 1 → x ≡ y) (λ e. refl) (λ e. absurd (eqb-false 1 1 (sym e) refl)) (λ e. absurd (eqb-false 1 1 e refl)) (λ e. refl)

pub half_lt : (k a : ℕ) → a < 2 ^ suc k → a / 2 < 2 ^ k
half_lt k a h = let p : 2 ^ suc k ≡ 2 ^ k * 2 = pow-suc 2 k in omega arith

ext_below : (k a b : ℕ) → a < 2 ^ k → b < 2 ^ k → ((n : ℕ) → n < k → has a n ≡ has b n) → a ≡ b
ext_below zero a b ha hb e = lt-one ha ∙ sym (lt-one hb)
ext_below (suc k) a b ha hb e =
    let lows : a % 2 ≡ b % 2 = same_bit (a % 2) (b % 2) (mod-lt a two_pos) (mod-lt b two_pos) (sym (has_low a) ∙ e zero (zero-lt-suc k) ∙ has_low b) in
    let highs : a / 2 ≡ b / 2 =
    ext_below k (a / 2) (b / 2) (half_lt k a ha) (half_lt k b hb) (λ n h. sym (has_suc a n) ∙ e (suc n) (suc-le-suc h) ∙ has_suc b n) in
    omega arith

lt_pow_self : (k : ℕ) → k < 2 ^ k
lt_pow_self zero = zero-lt-suc zero
lt_pow_self (suc k) = lt_of_le_of_lt (lt_pow_self k) (pow-lt (lt-suc_self k))

pub ext : (a b : ℕ) → ((n : ℕ) → has a n ≡ has b n) → a ≡ b
ext a b e =
    ext_below (a + b) a b (lt_of_lt_of_le (lt_pow_self a) (pow_mono (le-add_right a b)))
    (lt_of_lt_of_le (lt_pow_self b) (pow_mono (omega arith))) (λ n h. e n)

-- ---- one capability

has_power : (m n : ℕ) → has (2 ^ m) n ≡ eqb n m
unfolding has
has_power zero zero = refl
has_power (suc m) zero =
    has_low (2 ^ suc m) ∙ ap (λ (x : ℕ). eqb (x % 2) 1) (sym (one-mul (2 ^ suc m))) ∙ ap (λ (x : ℕ). eqb x 1) (shifted_even 1 m) ∙ sym (eqb-zero-suc m)
has_power zero (suc n) = has_suc 1 n ∙ has_none n ∙ sym (eqb-suc-zero n)
has_power (suc m) (suc n) =
    has_suc (2 ^ suc m) n ∙ ap (λ (x : ℕ). has (x / 2) n) (sym (one-mul (2 ^ suc m))) ∙ ap (λ (x : ℕ). has x n) (shifted_half 1 m ∙ one-mul (2 ^ m))
    ∙ has_power m n ∙ sym (eqb-suc-suc n m)

-- below 64, where `single` is what its name says
pub single_power : (m : ℕ) → m < 64 → single m ≡ 2 ^ m
unfolding single
single_power m h = ap (λ (t : Bool). cond t (2 ^ m) 0) (lt-ltb m 64 h)

pub has_single : (m n : ℕ) → m < 64 → has (single m) n ≡ eqb n m
has_single m n h = ap (λ (x : ℕ). has x n) (single_power m h) ∙ has_power m n

-- What the code's operators on words come to. Assumes nothing.
use mathlib.Core.Path.{◌≡◌, sym, ap, ap₂, ◌∙◌}
use Prim.Native.Nat.{ℕ, zero, suc, ◌+◌, ◌-◌, ◌*◌, ◌/◌, ◌%◌, ◌^◌, ◌<◌, min}
use native.Mathlib.Nat.{mod-lt, pow-suc, zero-lt-suc, le_refl, one-mul}
use native.Mathlib.Omega.{arith}
use lib.Dec.{eqb}
use lib.Arith.{lt-one}
use lib.Pow.{shl_exact}
use lib.Bits.{bit_and, and_step, and_mask}
use Rattle.capabilities.specs.Sets.{has, minus, single}
use Rattle.capabilities.proofs.Membership.{half_lt, minus_step, single_power}

min_not : (x y : ℕ) → x < 2 → y < 2 → min x (1 - y) ≡ x - y
min_not x y h k = omega arith

-- `a & !b` at k bits
pub minus_code : (k a b : ℕ) → a < 2 ^ k → b < 2 ^ k → bit_and a ((2 ^ k - 1) - b) ≡ minus a b
unfolding minus
minus_code zero a b ha hb = ap₂ (λ (x y : ℕ). bit_and x (0 - y)) (lt-one ha) (lt-one hb) ∙ sym (ap₂ minus (lt-one ha) (lt-one hb))
minus_code (suc k) a b ha hb =
    let p : 2 ^ suc k ≡ 2 ^ k * 2 = pow-suc 2 k in
    let half : ((2 ^ suc k - 1) - b) / 2 ≡ (2 ^ k - 1) - b / 2 = omega arith in
    let low : ((2 ^ suc k - 1) - b) % 2 ≡ 1 - b % 2 = omega arith in
    and_step a ((2 ^ suc k - 1) - b)
    ∙ ap₂ (λ (x y : ℕ). bit_and (a / 2) x * 2 + min (a % 2) y) half low
    ∙ ap₂ (λ (x y : ℕ). x * 2 + y) (minus_code k (a / 2) (b / 2) (half_lt k a ha) (half_lt k b hb))
    (min_not (a % 2) (b % 2) (mod-lt a (zero-lt-suc 1)) (mod-lt b (zero-lt-suc 1)))
    ∙ sym (minus_step a b)

-- `1 << n` at 64 bits
pub single_code : (n : ℕ) → n < 64 → (1 * 2 ^ n) % 2 ^ 64 ≡ single n
single_code n h = shl_exact 1 n 64 (le_refl 2) (omega arith) ∙ one-mul (2 ^ n) ∙ sym (single_power n h)

-- `(a >> n) & 1 == 1`
pub has_code : (a n : ℕ) → eqb (bit_and (a / 2 ^ n) 1) 1 ≡ has a n
unfolding has
has_code a n = ap (λ (x : ℕ). eqb x 1) (and_mask (a / 2 ^ n) 1)

-- Members and inclusion as facts: what follows from what, the order, the tests that decide it, and bounds.
-- An inclusion of one expression in another is `search inclusions`, with `depth 8` behind it where they nest deep. Assumes nothing.
use mathlib.Core.Path.{◌≡◌, refl, sym, ap, ◌∙◌, subst}
use mathlib.Core.Bool.{Bool, true, false, not, ◌&&◌, ◌||◌, and-true, true≢false, false≢true}
use Prim.Native.Nat.{ℕ, ◌+◌, ◌-◌, ◌*◌, ◌/◌, ◌%◌, ◌^◌, ◌≤◌, ◌<◌}
use native.Mathlib.Nat.{lt_of_le_of_lt, le_of_eq}
use native.Mathlib.Omega.{arith}
use lib.Arith.{bin_ind}
use lib.Pow.{ones_lt}
use lib.Bits.{or_lt, and_le_r}
use borrow.Author.Tests.{eqb-true, eq-eqb, not-false}
use Rattle.capabilities.specs.Sets.{full, has, lacks, union, inter, minus, single, within, outside, Has, Within}
use Rattle.capabilities.proofs.Membership.{has_union, has_inter, has_minus, has_none, has_single, ext, minus_step}

-- ---- connectives

false_true : {A : Type 0} (x : Bool) → x ≡ false → x ≡ true → A
false_true x p q = absurd (true≢false (sym q ∙ p))

same_truth : (x y : Bool) → (x ≡ true → y ≡ true) → (y ≡ true → x ≡ true) → x ≡ y
same_truth true y f g = sym (f refl)
same_truth false true f g = g refl
same_truth false false f g = refl

or_l : (x y : Bool) → x ≡ true → x || y ≡ true
or_l true y h = refl
or_l false y h = absurd (false≢true h)

or_r : (x y : Bool) → y ≡ true → x || y ≡ true
or_r true y h = refl
or_r false y h = h

or_both : {A : Type 0} (x y : Bool) → x || y ≡ true → (x ≡ true → A) → (y ≡ true → A) → A
or_both true y h f g = f refl
or_both false y h f g = g h

-- a disjunction that fails, on each side
pub or_false_l : (x y : Bool) → x || y ≡ false → x ≡ false
or_false_l true y h = absurd (true≢false h)
or_false_l false y h = refl

pub or_false_r : (x y : Bool) → x || y ≡ false → y ≡ false
or_false_r true y h = absurd (true≢false h)
or_false_r false y h = h

pub and_l : (x y : Bool) → x && y ≡ true → x ≡ true
and_l true y h = refl
and_l false y h = h

pub and_r : (x y : Bool) → x && y ≡ true → y ≡ true
and_r true y h = h
and_r false y h = absurd (false≢true h)

pub and_i : (x y : Bool) → x ≡ true → y ≡ true → x && y ≡ true
and_i true y h k = k
and_i false y h k = h

-- ---- members of each operation's result

pub in_is : {n a : ℕ} → has a n ≡ true → Has a n
in_is h = record { is! = h }

in_none : {A : Type 0} {n : ℕ} → Has 0 n → A
in_none {n = n} h = false_true (has 0 n) (has_none n) h.is!

pub in_union_l : {n a : ℕ} (b : ℕ) → Has a n → Has (union a b) n
in_union_l {n} {a} b h = record { is! = has_union a b n ∙ or_l (has a n) (has b n) h.is! }

pub in_union_r : {n b : ℕ} (a : ℕ) → Has b n → Has (union a b) n
in_union_r {n} {b} a h = record { is! = has_union a b n ∙ or_r (has a n) (has b n) h.is! }

pub union_cases : {A : Type 0} {n : ℕ} (a b : ℕ) → Has (union a b) n → (Has a n → A) → (Has b n → A) → A
union_cases {n = n} a b h f g =
    or_both (has a n) (has b n) (sym (has_union a b n) ∙ h.is!) (λ m. f (record { is! = m })) (λ m. g (record { is! = m }))

pub in_inter : {n a b : ℕ} → Has a n → Has b n → Has (inter a b) n
in_inter {n} {a} {b} h k = record { is! = has_inter a b n ∙ and_i (has a n) (has b n) h.is! k.is! }

pub inter_l : {n : ℕ} (a b : ℕ) → Has (inter a b) n → Has a n
inter_l {n} a b h = record { is! = and_l (has a n) (has b n) (sym (has_inter a b n) ∙ h.is!) }

pub inter_r : {n : ℕ} (a b : ℕ) → Has (inter a b) n → Has b n
inter_r {n} a b h = record { is! = and_r (has a n) (has b n) (sym (has_inter a b n) ∙ h.is!) }

minus_in : {n : ℕ} (a b : ℕ) → Has (minus a b) n → Has a n
minus_in {n} a b h = record { is! = and_l (has a n) (not (has b n)) (sym (has_minus a b n) ∙ h.is!) }

pub in_single : {n : ℕ} → n < 64 → Has (single n) n
in_single {n} h = record { is! = has_single n n h ∙ eq-eqb n n refl }

pub single_is : (m n : ℕ) → m < 64 → Has (single m) n → n ≡ m
single_is m n l h = eqb-true n m (sym (has_single m n l) ∙ h.is!)

-- ---- the order

pub sub_in : {a b n : ℕ} → Within a b → Has a n → Has b n
sub_in {n = n} h m = h.all! n m

pub sub_refl : {a : ℕ} → Within a a
sub_refl = record { all! = λ n h. h }

pub sub_trans : {a b c : ℕ} → Within a b → Within b c → Within a c
sub_trans h k = record { all! = λ n m. sub_in k (sub_in h m) }

pub sub_antisymm : {a b : ℕ} → Within a b → Within b a → a ≡ b
sub_antisymm {a} {b} h k =
    ext a b (λ n. same_truth (has a n) (has b n) (λ m. (sub_in h (in_is m)).is!) (λ m. (sub_in k (in_is m)).is!))

pub none_sub : {a : ℕ} → Within 0 a
none_sub = record { all! = λ n h. in_none h }

pub union_sub : {a b c : ℕ} → Within a c → Within b c → Within (union a b) c
union_sub {a} {b} h k = record { all! = λ n m. union_cases a b m (sub_in h) (sub_in k) }

pub sub_union_l : {a b : ℕ} (c : ℕ) → Within a b → Within a (union b c)
sub_union_l c h = record { all! = λ n m. in_union_l c (sub_in h m) }

pub sub_union_r : {a c : ℕ} (b : ℕ) → Within a c → Within a (union b c)
sub_union_r b h = record { all! = λ n m. in_union_r b (sub_in h m) }

pub inter_sub_l : {a c : ℕ} (b : ℕ) → Within a c → Within (inter a b) c
inter_sub_l {a} b h = record { all! = λ n m. sub_in h (inter_l a b m) }

pub inter_sub_r : {b c : ℕ} (a : ℕ) → Within b c → Within (inter a b) c
inter_sub_r {b} a h = record { all! = λ n m. sub_in h (inter_r a b m) }

pub sub_inter : {a b c : ℕ} → Within a b → Within a c → Within a (inter b c)
sub_inter h k = record { all! = λ n m. in_inter (sub_in h m) (sub_in k m) }

pub minus_sub : {a c : ℕ} (b : ℕ) → Within a c → Within (minus a b) c
minus_sub {a} b h = record { all! = λ n m. sub_in h (minus_in a b m) }

-- what `search` is handed for an inclusion of one expression in another
pub ruleset inclusions = (sub_refl, none_sub, union_sub, sub_union_l, sub_union_r, inter_sub_l, inter_sub_r, sub_inter, minus_sub)

-- the parts of a union that is within a set
pub union_sub_l : {c : ℕ} (a b : ℕ) → Within (union a b) c → Within a c
union_sub_l a b h = sub_trans (sub_union_l b sub_refl) h

pub union_sub_r : {c : ℕ} (a b : ℕ) → Within (union a b) c → Within b c
union_sub_r a b h = sub_trans (sub_union_r a sub_refl) h

pub single_sub : {n a : ℕ} → n < 64 → Has a n → Within (single n) a
single_sub {n} {a} l h = record { all! = λ m k. subst (λ (x : ℕ). Has a x) (sym (single_is n m l k)) h }

-- ---- the test and the fact

union_absorb : {a b : ℕ} → Within a b → union a b ≡ b
union_absorb {a} {b} h = sub_antisymm (union_sub h sub_refl) (sub_union_r a sub_refl)

inter_absorb : {a b : ℕ} → Within a b → inter a b ≡ a
inter_absorb {a} {b} h = sub_antisymm (inter_sub_l b sub_refl) (sub_inter sub_refl h)

pub within_sub : (a b : ℕ) → within a b ≡ true → Within a b
within_sub a b h = subst (λ (x : ℕ). Within a x) (eqb-true (union a b) b h) (sub_union_l b sub_refl)

pub sub_within : {a b : ℕ} → Within a b → within a b ≡ true
sub_within {a} {b} h = eq-eqb (union a b) b (union_absorb h)

pub not_outside : (a b : ℕ) → outside a b ≡ false → Within a b
unfolding outside
not_outside a b h = within_sub a b (not-false (within a b) h)

pub sub_not_outside : {a b : ℕ} → Within a b → outside a b ≡ false
unfolding outside
sub_not_outside h = ap not (sub_within h)

pub not_lacks : (a n : ℕ) → lacks a n ≡ false → Has a n
unfolding lacks
not_lacks a n h = in_is (not-false (has a n) h)

-- ---- bounds

pub union_lt : (k a b : ℕ) → a < 2 ^ k → b < 2 ^ k → union a b < 2 ^ k
union_lt = or_lt

inter_le_r : (a b : ℕ) → inter a b ≤ b
inter_le_r = and_le_r

none_minus : (b : ℕ) → minus 0 b ≡ 0
unfolding minus
none_minus b = refl

pub minus_le : (a b : ℕ) → minus a b ≤ a
minus_le a = bin_ind (λ (x : ℕ). (b : ℕ) → minus x b ≤ x) (λ b. le_of_eq (none_minus b)) (λ x ih b. step x b (ih (b / 2))) a
  where
    step : (x b : ℕ) → minus (x / 2) (b / 2) ≤ x / 2 → minus x b ≤ x
    step x b h = let e : minus x b ≡ minus (x / 2) (b / 2) * 2 + (x % 2 - b % 2) = minus_step x b in omega arith

-- a set within another is no larger a number
pub sub_le : {a b : ℕ} → Within a b → a ≤ b
sub_le {a} {b} h = subst (λ (x : ℕ). x ≤ b) (inter_absorb h) (inter_le_r a b)

-- no capability above 40, as a bound
pub full_lt : {a : ℕ} → Within a full → a < 2 ^ 41
full_lt h = lt_of_le_of_lt (sub_le h) (ones_lt 41)

-- ---- two sets that agree on a third

and_under : (x y m : Bool) → (m ≡ true → x ≡ y) → x && m ≡ y && m
and_under x y true h = ap (λ (z : Bool). z && true) (h refl)
and_under true true false h = refl
and_under true false false h = refl
and_under false true false h = refl
and_under false false false h = refl

pub agree : (a b m : ℕ) → ((n : ℕ) → Has m n → has a n ≡ has b n) → inter a m ≡ inter b m
agree a b m h =
    ext (inter a m) (inter b m)
    (λ n. has_inter a m n ∙ and_under (has a n) (has b n) (has m n) (λ p. h n (in_is p)) ∙ sym (has_inter b m n))

pub agrees : (a b m : ℕ) → inter a m ≡ inter b m → (n : ℕ) → Has m n → has a n ≡ has b n
agrees a b m e n h =
    let t : (x : Bool) → x && has m n ≡ x = λ x. ap (λ (z : Bool). x && z) h.is! ∙ and-true x in
    sym (t (has a n)) ∙ sym (has_inter a m n) ∙ ap (λ (x : ℕ). has x n) e ∙ has_inter b m n ∙ t (has b n)

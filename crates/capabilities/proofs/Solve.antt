-- Set equations and inclusions by their truth tables: a law between expressions over n sets is one test of 2 ^ n rows that antt computes.
-- `solve` proves an equation and `follows` an inclusion from inclusions that are given. Assumes nothing.
use mathlib.Core.Path.{◌≡◌, refl, sym, ap₂, ◌∙◌}
use mathlib.Core.Bool.{Bool, true, false, not, ◌&&◌, ◌||◌, beq, false≢true}
use mathlib.Core.List.{List, [], ◌∷◌}
use Prim.Native.Nat.{ℕ, zero, suc}
use Rattle.capabilities.specs.Sets.{has, union, inter, minus, Within}
use Rattle.capabilities.proofs.Membership.{has_union, has_inter, has_minus, has_none, ext}
use Rattle.capabilities.proofs.Inclusion.{in_is, and_l, and_r, and_i}

-- ---- expressions

infixl 40 ◌∪◌
infixl 45 ◌∩◌
infixl 45 ◌∖◌
pub data Ex : Type 0 where
  var : ℕ → Ex
  none : Ex
  ◌∪◌ ◌∩◌ ◌∖◌ : Ex → Ex → Ex

-- the entry at a place, or d past the end
abbrev at : {A : Type 0} → A → List A → ℕ → A
at d [] n = d
at d (x ∷ xs) zero = x
at d (x ∷ xs) (suc n) = at d xs n

-- an expression's set, over the sets of ρ
abbrev sets : List ℕ → Ex → ℕ
sets ρ (var n) = at 0 ρ n
sets ρ none = 0
sets ρ (e ∪ f) = union (sets ρ e) (sets ρ f)
sets ρ (e ∩ f) = inter (sets ρ e) (sets ρ f)
sets ρ (e ∖ f) = minus (sets ρ e) (sets ρ f)

-- its truth at one capability, over that capability's membership in each set
abbrev truth : List Bool → Ex → Bool
truth l (var n) = at false l n
truth l none = false
truth l (e ∪ f) = truth l e || truth l f
truth l (e ∩ f) = truth l e && truth l f
truth l (e ∖ f) = truth l e && not (truth l f)

-- the membership of capability c in each set
members : ℕ → List ℕ → List Bool
members c [] = []
members c (x ∷ xs) = has x c ∷ members c xs

member_is : (c : ℕ) (ρ : List ℕ) (n : ℕ) → has (at 0 ρ n) c ≡ at false (members c ρ) n
unfolding members
member_is c [] n = has_none c
member_is c (x ∷ xs) zero = refl
member_is c (x ∷ xs) (suc n) = member_is c xs n

truth_is : (c : ℕ) (ρ : List ℕ) (e : Ex) → has (sets ρ e) c ≡ truth (members c ρ) e
truth_is c ρ (var n) = member_is c ρ n
truth_is c ρ none = has_none c
truth_is c ρ (e ∪ f) = has_union (sets ρ e) (sets ρ f) c ∙ ap₂ ◌||◌ (truth_is c ρ e) (truth_is c ρ f)
truth_is c ρ (e ∩ f) = has_inter (sets ρ e) (sets ρ f) c ∙ ap₂ ◌&&◌ (truth_is c ρ e) (truth_is c ρ f)
truth_is c ρ (e ∖ f) = has_minus (sets ρ e) (sets ρ f) c ∙ ap₂ (λ (x y : Bool). x && not y) (truth_is c ρ e) (truth_is c ρ f)

-- ---- tables

-- p holds at every row, one mark for each set of ρ
abbrev rows : List ℕ → (List Bool → Bool) → Bool
rows [] p = p []
rows (x ∷ xs) p = rows xs (λ l. p (true ∷ l)) && rows xs (λ l. p (false ∷ l))

at_row : (c : ℕ) (ρ : List ℕ) (p : List Bool → Bool) → rows ρ p ≡ true → p (members c ρ) ≡ true
unfolding members
at_row c [] p h = h
at_row c (x ∷ xs) p h =
    by (has x c) (at_row c xs (λ l. p (true ∷ l)) (and_l (rows xs (λ l. p (true ∷ l))) (rows xs (λ l. p (false ∷ l))) h))
    (at_row c xs (λ l. p (false ∷ l)) (and_r (rows xs (λ l. p (true ∷ l))) (rows xs (λ l. p (false ∷ l))) h))
  where
    by : (b : Bool) → p (true ∷ members c xs) ≡ true → p (false ∷ members c xs) ≡ true → p (b ∷ members c xs) ≡ true
    by true f g = f
    by false f g = g

-- ---- equations

beq_eq : (x y : Bool) → beq x y ≡ true → x ≡ y
beq_eq true true h = refl
beq_eq true false h = sym h
beq_eq false true h = h
beq_eq false false h = refl

-- `solve (a ∷ b ∷ []) e f refl` proves that the two sets are equal
pub solve : (ρ : List ℕ) (e f : Ex) → rows ρ (λ l. beq (truth l e) (truth l f)) ≡ true → sets ρ e ≡ sets ρ f
solve ρ e f h =
    ext (sets ρ e) (sets ρ f)
    (λ c. truth_is c ρ e ∙ beq_eq (truth (members c ρ) e) (truth (members c ρ) f) (at_row c ρ (λ l. beq (truth l e) (truth l f)) h)
    ∙ sym (truth_is c ρ f))

-- ---- inclusions that follow from others

infix 30 ◌⊑◌
pub data Claim : Type 0 where
  ◌⊑◌ : Ex → Ex → Claim

abbrev holds : List ℕ → Claim → Type 0
holds ρ (e ⊑ f) = Within (sets ρ e) (sets ρ f)

abbrev test : List Bool → Claim → Bool
test l (e ⊑ f) = not (truth l e) || truth l f

abbrev Given : List ℕ → List Claim → Type 0
Given ρ [] = Unit {0}
Given ρ (x ∷ xs) = record { fact : holds ρ x; more : Given ρ xs }

abbrev tests : List Bool → List Claim → Bool
tests l [] = true
tests l (x ∷ xs) = test l x && tests l xs

imp : (x y : Bool) → not x || y ≡ true → x ≡ true → y ≡ true
imp true y h p = h
imp false y h p = absurd (false≢true p)

imp_i : (x y : Bool) → (x ≡ true → y ≡ true) → not x || y ≡ true
imp_i true y h = h refl
imp_i false y h = refl

test_of : (c : ℕ) (ρ : List ℕ) (x : Claim) → holds ρ x → test (members c ρ) x ≡ true
test_of c ρ (e ⊑ f) h =
    imp_i (truth (members c ρ) e) (truth (members c ρ) f) (λ m. sym (truth_is c ρ f) ∙ (h.all! c (in_is (truth_is c ρ e ∙ m))).is!)

tests_of : (c : ℕ) (ρ : List ℕ) (xs : List Claim) → Given ρ xs → tests (members c ρ) xs ≡ true
tests_of c ρ [] g = refl
tests_of c ρ (x ∷ xs) g = and_i (test (members c ρ) x) (tests (members c ρ) xs) (test_of c ρ x g.fact) (tests_of c ρ xs g.more)

-- `follows ρ xs e f refl g` proves that e is within f from the inclusions xs, which g holds
pub follows : (ρ : List ℕ) (xs : List Claim) (e f : Ex) → rows ρ (λ l. not (tests l xs) || test l (e ⊑ f)) ≡ true → Given ρ xs → Within (sets ρ e) (sets ρ f)
follows ρ xs e f h g = record {
  all! = λ c m. in_is (truth_is c ρ f
      ∙ imp (truth (members c ρ) e) (truth (members c ρ) f)
      (imp (tests (members c ρ) xs) (test (members c ρ) (e ⊑ f)) (at_row c ρ (λ l. not (tests l xs) || test l (e ⊑ f)) h) (tests_of c ρ xs g))
      (sym (truth_is c ρ e) ∙ m.is!));
}

-- Reading from a position, byte by byte. Assumes nothing.
use mathlib.Core.Path.{◌≡◌, refl, sym, ap, ◌∙◌}
use mathlib.Core.List.{List, [], ◌∷◌}
use mathlib.Core.Bool.{Bool, true, false, cond, not, ◌||◌, ◌&&◌}
use Prim.Native.Nat.{ℕ, suc, ◌+◌, ◌≤◌, ◌<◌}
use native.Mathlib.Nat.{add-zero}
use native.Mathlib.Numerals.{add-one}
use native.Mathlib.Omega.{arith}
use lib.Dec.{eqb}
use lib.ListN.{length, drop, get_or}
use lib.Seq.{drop-cons}
use lib.ListN.{drop_of_length-le}
use borrow.Author.Tests.{ne_eqb, eqb-true}
use Rattle.capabilities.specs.Sets.{union, full}
use Rattle.names.specs.declared.Sets.{Sets}
use Rattle.std.specs.Prelude.{Ok, Err}
use Rattle.names.specs.declared.ReadError.TheVariants.{Malformed}
use Rattle.names.specs.Grammar.{lower, blank, flag, equals, plus, dash, flagged, Word, spelt, names}
use Rattle.names.specs.Reading.{Reading, every, after, State, gap, word, operated, Step, go, stuck, finish, later, told, operator, past, within, step, run}
use Rattle.names_reader.specs.Inside.{from, read_at, operates, begun}

from_later : (i : ℕ) (r : Reading) → from i (later r) ≡ from (i + 1) r
from_later i (Ok s) = refl
from_later i (Err (Malformed n)) = let e : i + suc n ≡ i + 1 + n = omega arith in rw e

module _ (text : List ℕ) (i : ℕ) where
  read_told : (x : State) → i < length text → read_at text i x ≡ from i (told (step x (get_or text i 0)) (λ next. run next (drop (suc i) text)))
  unfolding read_at run
  read_told x h = rw (drop-cons text i 0 h)

  pub read_go : (x next : State) → i < length text → step x (get_or text i 0) ≡ go next → read_at text i x ≡ read_at text (i + 1) next
  unfolding read_at
  read_go x next h e =
      read_told x h ∙ ap (λ (y : Step). from i (told y (λ n. run n (drop (suc i) text)))) e ∙ from_later i (run next (drop (suc i) text))
      ∙ ap (λ (k : ℕ). from (i + 1) (run next (drop k text))) (sym (add-one i))

  pub read_stuck : (x : State) → i < length text → step x (get_or text i 0) ≡ stuck → read_at text i x ≡ Err (Malformed i)
  read_stuck x h e = read_told x h ∙ ap (λ (y : Step). from i (told y (λ n. run n (drop (suc i) text)))) e ∙ ap (λ (n : ℕ). Err (Malformed n)) (add-zero i)

  pub read_end : (x : State) → length text ≤ i → read_at text i x ≡ from i (finish x)
  unfolding read_at run
  read_end x h = rw (drop_of_length-le text h)

-- ---- within flags and operators

module _ (g e : Bool) (c : ℕ) (s : Sets) (b : ℕ) where
  pub operated_flag : flag b ≡ true → step (operated g e c s) b ≡ go (operated g true c (flagged g c b s))
  unfolding step
  operated_flag h = rw h

  pub operated_stuck : flag b ≡ false → e ≡ false → step (operated g e c s) b ≡ stuck
  unfolding step
  operated_stuck h k = rw (h, k)

  pub operated_blank : flag b ≡ false → e ≡ true → blank b ≡ true → step (operated g e c s) b ≡ go (gap s)
  unfolding step
  operated_blank h k q = rw (h, k, q)

  pub operated_operator : flag b ≡ false → e ≡ true → blank b ≡ false → step (operated g e c s) b ≡ operator c s b
  unfolding step
  operated_operator h k q = rw (h, k, q)

-- ---- an operator

operates_is : (P : ℕ → Type 0) → P 61 → P 43 → P 45 → (b : ℕ) → operates b ≡ true → P b
operates_is P x y z b h = by_first (eqb b 61) (eqb b 43) (eqb b 45) refl refl refl h
  where
    by_first : (p q r : Bool) → eqb b 61 ≡ p → eqb b 43 ≡ q → eqb b 45 ≡ r → p || (q || r) ≡ true → P b
    by_first true q r e f g k = rw (eqb-true b 61 e) x
    by_first false true r e f g k = rw (eqb-true b 43 f) y
    by_first false false true e f g k = rw (eqb-true b 45 g) z
    by_first false false false e f g k = let n : ◌≡◌ {A = ℕ} 0 1 = cc in absurd (omega arith)

not_operator : (b : ℕ) → operates b ≡ false → (b ≡ 61 → ⊥) × (b ≡ 43 → ⊥) × (b ≡ 45 → ⊥)
not_operator b h = (λ e. no_way (rw e at h), λ e. no_way (rw e at h), λ e. no_way (rw e at h))
  where
    no_way : true ≡ false → ⊥
    no_way z = let n : ◌≡◌ {A = ℕ} 0 1 = cc in absurd (omega arith)

module _ (c : ℕ) (s : Sets) (b : ℕ) where
  pub operator_begun : operates b ≡ true → operator c s b ≡ go (operated (not (eqb b dash)) (eqb b equals) c (begun b c s))
  unfolding operator
  operator_begun h = operates_is (λ k. operator c s k ≡ go (operated (not (eqb k dash)) (eqb k equals) c (begun k c s))) refl refl refl b h

  pub operator_stuck : operates b ≡ false → operator c s b ≡ stuck
  unfolding operator
  operator_stuck h = let o = not_operator b h in rw (ne_eqb b equals o.0, ne_eqb b plus o.1, ne_eqb b dash o.2)

-- ---- after a complete word, and between clauses

module _ (text : List ℕ) (i : ℕ) where
  -- states that take the next byte alike are read alike
  pub read_same : (x y : State) → i < length text → step x (get_or text i 0) ≡ step y (get_or text i 0) → read_at text i x ≡ read_at text i y
  read_same x y h e =
      read_told text i x h ∙ ap (λ (z : Step). from i (told z (λ n. run n (drop (suc i) text)))) e ∙ sym (read_told text i y h)

module _ (d m : ℕ) (j : Bool) (s : Sets) (b : ℕ) where
  -- an operator behind a complete word is read as behind flags
  pub done_operator : operates b ≡ true → step (word (spelt [] m j ∷ []) d s) b ≡ step (operated true true (union d m) s) b
  unfolding step operator past after
  done_operator h = operates_is (λ k. step (word (spelt [] m j ∷ []) d s) k ≡ step (operated true true (union d m) s) k) refl refl refl b h

  pub done_comma : b ≡ 44 → step (word (spelt [] m true ∷ []) d s) b ≡ go (word names (union d m) s)
  unfolding step past after
  done_comma e = rw e

  pub done_stuck : operates b ≡ false → (b ≡ 44 → ⊥) → step (word (spelt [] m j ∷ []) d s) b ≡ stuck
  unfolding step past after
  done_stuck h n = rw (ne_eqb b 44 n) (operator_stuck (union d m) s b h)

  pub alone_stuck : operates b ≡ false → step (word (spelt [] m false ∷ []) d s) b ≡ stuck
  unfolding step past after
  alone_stuck h = by_comma (eqb b 44) (operator_stuck (union d m) s b h)
    where
      by_comma : (q : Bool) → operator (union d m) s b ≡ stuck → cond (q && false) (go (word names (union d m) s)) (operator (union d m) s b) ≡ stuck
      by_comma true e = e
      by_comma false e = e

gap_first : (s : Sets) (b : ℕ) → blank b ≡ false → (b ≡ 61 → ⊥) → step (gap s) b ≡ within (after (lower b) (every ∷ names)) 0 s stuck
unfolding step
gap_first s b h n = rw (h, ne_eqb b 61 n)

first_name : (k : ℕ) → (k ≡ 97 → ⊥) → after k (every ∷ names) ≡ after k names
unfolding after
first_name k e = rw (ne_eqb k 97 e)

all_names : after 97 (every ∷ names) ≡ spelt (108 ∷ 108 ∷ []) full false ∷ []
unfolding after names
all_names = refl

all_step : (s : Sets) (b : ℕ) → lower b ≡ 97 → step (word (every ∷ []) 0 s) b ≡ go (word (spelt (108 ∷ 108 ∷ []) full false ∷ []) 0 s)
unfolding step after
all_step s b e = ap (λ (k : ℕ). within (after k (every ∷ [])) 0 s (past (every ∷ []) 0 s b)) e

names_first : (s : Sets) (b : ℕ) → step (word names 0 s) b ≡ within (after (lower b) names) 0 s stuck
unfolding step past names
names_first s b = refl

module _ (s : Sets) (b : ℕ) where
  pub gap_blank : blank b ≡ true → step (gap s) b ≡ go (gap s)
  unfolding step
  gap_blank h = rw h

  pub gap_put : b ≡ 61 → step (gap s) b ≡ step (operated true true full s) b
  unfolding step
  gap_put e = rw e

  pub gap_all : blank b ≡ false → (b ≡ 61 → ⊥) → lower b ≡ 97 → step (gap s) b ≡ step (word (every ∷ []) 0 s) b
  gap_all h n e = gap_first s b h n ∙ ap (λ (k : ℕ). within (after k (every ∷ names)) 0 s stuck) e ∙ ap (λ (xs : List Word). within xs 0 s stuck) all_names ∙ sym (all_step s b e)

  pub gap_name : blank b ≡ false → (b ≡ 61 → ⊥) → (lower b ≡ 97 → ⊥) → step (gap s) b ≡ step (word names 0 s) b
  gap_name h n e = gap_first s b h n ∙ ap (λ (xs : List Word). within xs 0 s stuck) (first_name (lower b) e) ∙ sym (names_first s b)

-- ---- what a loop or a function goes by

pub ruleset operators = (read_go, read_stuck, read_end, operated_flag, operated_stuck, operated_blank, operated_operator, operator_begun, operator_stuck)

pub ruleset first_byte = (read_same, gap_put, gap_all)

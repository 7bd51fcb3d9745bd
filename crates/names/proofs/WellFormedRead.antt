-- A well-formed text is read as what it means. Assumes nothing.
use mathlib.Core.Path.{◌≡◌, refl}
use mathlib.Core.Logic.{inl, inr}
use mathlib.Core.List.{List, [], ◌∷◌, ◌++◌, append_assoc, append-nil}
use mathlib.Core.Bool.{Bool, true, false, ◌||◌}
use Prim.Native.Nat.{ℕ, ◌≤◌, ◌<◌}
use native.Mathlib.Omega.{arith}
use native.Mathlib.Decide.{dec_lt}
use borrow.Author.Tests.{ne_eqb, eqb-true, lt-ltb}
use lib.Dec.{eqb}
use Rattle.capabilities.specs.Sets.{union, full}
use Rattle.format.specs.Line.{bytes}
use Rattle.names.specs.declared.Sets.{Sets}
use Rattle.std.specs.Prelude.{Ok}
use Rattle.names.specs.Grammar.{lower, lowered, blank, equals, comma, plus, dash, flagged, without, Word, spelt, names, ◌among◌}
use Rattle.names.specs.Grammar.{Names, name, join, Flags, none, one, Operator, put, give, take, Operators, last, more, Clause, named, whole, unnamed, Text, empty, space, final, clause}
use Rattle.names.specs.Reading.{every, after, State, gap, word, operated, Step, go, stuck, operator, past, within, step, run}
use Rattle.names.proofs.Run.{runs, ran, not_both}
use Rattle.names.proofs.Words.{first_tidy, after_low, afters, among_after, alone_names, alone_first}

-- ---- a word

within_some : (x : Word) (xs : List Word) (c : ℕ) (s : Sets) (o : Step) → x among xs → within xs c s o ≡ go (word xs c s)
unfolding ◌among◌
within_some x [] c s o h = absurd h
within_some x (y ∷ ys) c s o h = refl

-- reading a word that is among those expected leads to what is left after it
word_run : (t : List ℕ) (m : ℕ) (j : Bool) (xs : List Word) (c : ℕ) (s : Sets) (u : List ℕ) (v : Sets) → spelt (lowered t) m j among xs
    → run (word (afters (lowered t) xs) c s) u ≡ Ok v → run (word xs c s) (t ++ u) ≡ Ok v
unfolding lowered afters
word_run [] m j xs c s u v h r = r
word_run (b ∷ t) m j xs c s u v h r =
    let g = among_after (lower b) (lowered t) m j xs h in
    runs (word xs c s) (word (after (lower b) xs) c s) b (t ++ u) v
    (unfold step in within_some (spelt (lowered t) m j) (after (lower b) xs) c s (past xs c s b) g)
    (word_run t m j (after (lower b) xs) c s u v g r)

-- ---- operators and flags

flags_run : (g e : Bool) (c : ℕ) (s v : Sets) (t u : List ℕ) (w : Sets) → Flags g c s t v → run (operated g true c v) u ≡ Ok w → run (operated g true c s) (t ++ u) ≡ Ok w
flags_run g e c s v t u w none r = r
flags_run g e c s v t u w (one {b = b} {t = t'} f fs) r =
    runs (operated g true c s) (operated g true c (flagged g c b s)) b (t' ++ u) w (unfold step in rw f) (flags_run g e c (flagged g c b s) v t' u w fs r)

some_run : (g : Bool) (c : ℕ) (s v : Sets) (b : ℕ) (t u : List ℕ) (w : Sets) → Flags g c s (b ∷ t) v → run (operated g true c v) u ≡ Ok w
    → run (operated g false c s) ((b ∷ t) ++ u) ≡ Ok w
some_run g c s v b t u w (one f fs) r =
    runs (operated g false c s) (operated g true c (flagged g c b s)) b (t ++ u) w (unfold step in rw f) (flags_run g true c (flagged g c b s) v t u w fs r)

-- a state from which an operator is read
abbrev Operates : State → ℕ → Sets → Type 0
Operates x c s =
    (step x equals ≡ go (operated true true c (without c s))) × (step x plus ≡ go (operated true false c s)) × (step x dash ≡ go (operated false false c s))

operated_operates : (g : Bool) (c : ℕ) (s : Sets) → Operates (operated g true c s) c s
unfolding step operator
operated_operates g c s = (refl, refl, refl)

word_operates : (m : ℕ) (j : Bool) (c : ℕ) (s : Sets) → Operates (word (spelt [] m j ∷ []) c s) (union c m) s
unfolding step operator past after
word_operates m j c s = (refl, refl, refl)

operator_run : (x : State) (c : ℕ) (s v : Sets) (t u : List ℕ) (w : Sets) → Operates x c s → Operator c s t v
    → ((g : Bool) → run (operated g true c v) u ≡ Ok w) → run x (t ++ u) ≡ Ok w
operator_run x c s v t u w o (put {t = t'} fs) r =
    runs x (operated true true c (without c s)) equals (t' ++ u) w o.0 (flags_run true true c (without c s) v t' u w fs (r true))
operator_run x c s v t u w o (give {b = b} {t = t'} fs) r =
    runs x (operated true false c s) plus ((b ∷ t') ++ u) w o.1 (some_run true c s v b t' u w fs (r true))
operator_run x c s v t u w o (take {b = b} {t = t'} fs) r =
    runs x (operated false false c s) dash ((b ∷ t') ++ u) w o.2 (some_run false c s v b t' u w fs (r false))

operators_run : (c : ℕ) (x : State) (s v : Sets) (t u : List ℕ) (w : Sets) → Operates x c s → Operators c s t v
    → ((g : Bool) → run (operated g true c v) u ≡ Ok w) → run x (t ++ u) ≡ Ok w
operators_run c x s v t u w o (last a) r = operator_run x c s v t u w o a r
operators_run c x s v t u w o (more {v = mid} {t = t'} {u = u'} a rest) r =
    rw (append_assoc t' u' u) (operator_run x c s mid t' (u' ++ u) w o a (λ g. operators_run c (operated g true c mid) mid v u' u w (operated_operates g c mid) rest r))

-- ---- names

names_run : (xs : List Word) → ((x : Word) → x among names → x among xs)
    → ((w : List ℕ) (m : ℕ) (j : Bool) → spelt w m j among xs → afters w xs ≡ spelt [] m j ∷ [])
    → (c d : ℕ) (s : Sets) (t u : List ℕ) (w : Sets) → Names c t d → ((x : State) → Operates x d s → run x u ≡ Ok w)
    → run (word xs c s) (t ++ u) ≡ Ok w
names_run xs into alone c d s t u w (name m h) k =
    word_run t m true xs c s u w (into _ h)
    (rw (alone (lowered t) m true (into _ h)) (k (word (spelt [] m true ∷ []) c s) (word_operates m true c s)))
names_run xs into alone c d s t u w (join {u = u'} t' m h ns) k =
    rw (append_assoc t' (comma ∷ u') u)
    (word_run t' m true xs c s (comma ∷ (u' ++ u)) w (into _ h)
    (rw (alone (lowered t') m true (into _ h))
    (runs (word (spelt [] m true ∷ []) c s) (word names (union c m) s) comma (u' ++ u) w (unfold step past after in refl)
    (names_run names (λ x g. g) alone_names (union c m) d s u' u w ns k))))

-- ---- between clauses a word begins as one of the names, or `all`

letter_not : (b : ℕ) → 95 ≤ lower b → Dec (b < 65) → (blank b ≡ false) × (eqb b equals ≡ false)
letter_not b h (yes l) = let e : lower b ≡ b = rw (lt-ltb b 65 l) in absurd (omega arith)
letter_not b h (no g) = (rw (ne_eqb b 32 (omega arith), ne_eqb b 9 (omega arith), ne_eqb b 10 (omega arith)), ne_eqb b equals (omega arith))

gap_step : (s : Sets) (b : ℕ) (next : State) → step (word (every ∷ names) 0 s) b ≡ go next → Dec (lower b < 95) → step (gap s) b ≡ go next
unfolding step past
gap_step s b next e (yes l) =
    let q = after_low (lower b) (every ∷ names) first_tidy l in
    let r : stuck ≡ go next = rw q at e in
    let z : ◌≡◌ {A = ℕ} 0 1 = cc in
    absurd (omega arith)
gap_step s b next e (no g) =
    let h = letter_not b (omega arith) (dec_lt b 65) in
    rw (h.0, h.1) e

pub gap_as_word : (s : Sets) (t : List ℕ) (v : Sets) → run (word (every ∷ names) 0 s) t ≡ Ok v → run (gap s) t ≡ Ok v
unfolding run
gap_as_word s [] v e = not_both e
gap_as_word s (b ∷ t) v e =
    let r = ran (word (every ∷ names) 0 s) b t v e in
    runs (gap s) r.0 b t v (gap_step s b r.0 r.1 (dec_lt (lower b) 95)) r.2

-- ---- clauses and texts

put_run : (s : Sets) (t : List ℕ) (v : Sets) → run (operated true true full s) (equals ∷ t) ≡ Ok v → run (gap s) (equals ∷ t) ≡ Ok v
unfolding run step operator
put_run s t v e = e

same_word : (t : List ℕ) → lowered t ≡ bytes "all" → spelt (lowered t) full false ≡ every
same_word t e = rw e

pub clause_run : (s v : Sets) (t u : List ℕ) (w : Sets) → Clause s t v → ((g : Bool) (c : ℕ) → run (operated g true c v) u ≡ Ok w) → run (gap s) (t ++ u) ≡ Ok w
clause_run s v t u w (named {c = c} {t = t'} {u = u'} ns operating) k =
    rw (append_assoc t' u' u)
    (gap_as_word s (t' ++ (u' ++ u)) w
    (names_run (every ∷ names) (λ x g. unfold ◌among◌ in inr g) alone_first 0 c s t' (u' ++ u) w ns
    (λ x o. operators_run c x s v u' u w o operating (λ g. k g c))))
clause_run s v t u w (whole {u = u'} t' e operating) k =
    let h : spelt (lowered t') full false among (every ∷ names) = unfold ◌among◌ in inl (same_word t' e) in
    rw (append_assoc t' u' u)
    (gap_as_word s (t' ++ (u' ++ u)) w
    (word_run t' full false (every ∷ names) 0 s (u' ++ u) w h
    (rw (alone_first (lowered t') full false h)
    (operators_run full (word (spelt [] full false ∷ []) 0 s) s v u' u w (word_operates full false 0 s) operating (λ g. k g full)))))
clause_run s v t u w (unnamed {t = t'} operating) k =
    put_run s (t' ++ u) w (operators_run full (operated true true full s) s v (equals ∷ t') u w (operated_operates true full s) operating (λ g. k g full))

-- a blank is one of three bytes
pub blank_is : (P : ℕ → Type 0) → P 32 → P 9 → P 10 → (b : ℕ) → blank b ≡ true → P b
blank_is P x y z b h = by_first (eqb b 32) (eqb b 9) (eqb b 10) refl refl refl h
  where
    by_first : (p q r : Bool) → eqb b 32 ≡ p → eqb b 9 ≡ q → eqb b 10 ≡ r → p || (q || r) ≡ true → P b
    by_first true q r e f g k = rw (eqb-true b 32 e) x
    by_first false true r e f g k = rw (eqb-true b 9 f) y
    by_first false false true e f g k = rw (eqb-true b 10 g) z
    by_first false false false e f g k = let n : ◌≡◌ {A = ℕ} 0 1 = cc in absurd (omega arith)

pub blank_ends : (g : Bool) (c : ℕ) (s : Sets) (b : ℕ) → blank b ≡ true → step (operated g true c s) b ≡ go (gap s)
unfolding step
blank_ends g c s b h = blank_is (λ d. step (operated g true c s) d ≡ go (gap s)) refl refl refl b h

blank_stays : (s : Sets) (b : ℕ) → blank b ≡ true → step (gap s) b ≡ go (gap s)
unfolding step
blank_stays s b h = rw h

pub text_run : (s v : Sets) (t : List ℕ) → Text s t v → run (gap s) t ≡ Ok v
unfolding run
text_run s v t empty = refl
text_run s v t (space {b = b} {t = t'} h rest) = runs (gap s) (gap s) b t' v (blank_stays s b h) (text_run s v t' rest)
text_run s v t (final c) = rw (append-nil t) at (clause_run s v t [] v c (λ g d. refl))
text_run s v t (clause {v = mid} {t = t'} {u = u} b c h rest) =
    clause_run s mid t' (b ∷ u) v c (λ g d. runs (operated g true d mid) (gap mid) b u v (blank_ends g d mid b h) (text_run mid v u rest))

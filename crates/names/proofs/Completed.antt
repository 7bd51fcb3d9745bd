-- Every state of the reading can be completed, and so the place is that of the longest beginning. Assumes nothing.
use mathlib.Core.Path.{◌≡◌, refl, ap}
use mathlib.Core.List.{List, [], ◌∷◌, ◌++◌}
use mathlib.Core.Bool.{Bool, true, false, cond, ◌&&◌}
use Prim.Native.Nat.{ℕ, zero, suc, ◌≤◌, ◌<◌}
use native.Mathlib.Omega.{arith}
use borrow.Author.Tests.{eq-eqb, leb-true}
use lib.Dec.{leb, eqb}
use lib.ListN.{length, take}
use Rattle.capabilities.proofs.Inclusion.{and_l, and_r}
use Rattle.capabilities.specs.Sets.{union, full}
use Rattle.names.specs.declared.Sets.{Sets}
use Rattle.std.specs.Prelude.{Ok, Err}
use Rattle.names.specs.declared.ReadError.TheVariants.{Malformed}
use Rattle.names.specs.Grammar.{lower, blank, flag, equals, comma, plus, dash, flagged, without, Word, spelt, names}
use Rattle.names.specs.Reading.{Reading, every, after, State, gap, word, operated, Step, go, stuck, finish, later, told, operator, past, within, step, run}
use Rattle.names.proofs.Run.{runs, ran}
use Rattle.names.proofs.Words.{high, tidy, names_tidy, first_tidy, after_tidy, after_low, lower_high}

-- ---- a state in which some word is left, and all that are left have bytes of words only

unfoldable pub Good : State → Type 0
Good (gap s) = Unit
Good (word [] c s) = ⊥
Good (word (x ∷ xs) c s) = tidy (x ∷ xs) ≡ true
Good (operated g e c s) = Unit

-- a step into such a state, or none
unfoldable pub GoodStep : Step → Type 0
unfolding Good
GoodStep (go s) = Good s
GoodStep stuck = Unit

if_good : (t : Bool) (x y : Step) → GoodStep x → GoodStep y → GoodStep (cond t x y)
if_good true x y p q = p
if_good false x y p q = q

operator_good : (c : ℕ) (s : Sets) (b : ℕ) → GoodStep (operator c s b)
unfolding operator GoodStep
operator_good c s b =
    if_good (eqb b equals) (go (operated true true c (without c s))) _ tt
    (if_good (eqb b plus) (go (operated true false c s)) _ tt
    (if_good (eqb b dash) (go (operated false false c s)) stuck tt tt))

names_good : (c : ℕ) (s : Sets) → Good (word names c s)
unfolding Good names
names_good c s = names_tidy

past_good : (xs : List Word) (c : ℕ) (s : Sets) (b : ℕ) → GoodStep (past xs c s b)
unfolding past GoodStep
past_good [] c s b = tt
past_good (spelt [] m j ∷ xs) c s b =
    if_good (eqb b comma && j) (go (word names (union c m) s)) (operator (union c m) s b) (names_good (union c m) s) (operator_good (union c m) s b)
past_good (spelt (k ∷ ks) m j ∷ xs) c s b = tt

within_good : (xs : List Word) (c : ℕ) (s : Sets) (x : Step) → tidy xs ≡ true → GoodStep x → GoodStep (within xs c s x)
unfolding GoodStep
within_good [] c s x h p = p
within_good (y ∷ ys) c s x h p = h

step_good : (s : State) (b : ℕ) → Good s → GoodStep (step s b)
unfolding step GoodStep Good
step_good (gap s) b h =
    if_good (blank b) (go (gap s)) _ tt
    (if_good (eqb b equals) (operator full s b) _ (operator_good full s b)
    (within_good (after (lower b) (every ∷ names)) 0 s stuck (after_tidy (lower b) (every ∷ names) first_tidy) tt))
step_good (word [] c s) b h = absurd h
step_good (word (x ∷ xs) c s) b h =
    within_good (after (lower b) (x ∷ xs)) c s (past (x ∷ xs) c s b) (after_tidy (lower b) (x ∷ xs) h) (past_good (x ∷ xs) c s b)
step_good (operated g e c s) b h =
    if_good (flag b) (go (operated g true c (flagged g c b s))) _ tt
    (if_good e _ stuck (if_good (blank b) (go (gap s)) (operator c s b) tt (operator_good c s b)) tt)

next_good : (s next : State) (b : ℕ) → Good s → step s b ≡ go next → Good next
unfolding GoodStep
next_good s next b h e = rw e at (step_good s b h)

-- ---- some bytes complete it

complete : (k : ℕ) (ks : List ℕ) (m : ℕ) (j : Bool) (xs : List Word) (c : ℕ) (s : Sets) → tidy (spelt (k ∷ ks) m j ∷ xs) ≡ true
    → step (word (spelt (k ∷ ks) m j ∷ xs) c s) k ≡ go (word (spelt ks m j ∷ after k xs) c s)
unfolding step after tidy high
complete k ks m j xs c s h =
    let g : 95 ≤ k = leb-true 95 k (and_l (leb 95 k) (high ks) (and_l (leb 95 k && high ks) (tidy xs) h)) in
    rw (lower_high k g, eq-eqb k k refl) (ap (λ (b : ℕ). go (word (spelt ks m j ∷ after b xs) c s)) (lower_high k g))

complete_end : (m : ℕ) (j : Bool) (xs : List Word) (c : ℕ) (s : Sets) → tidy xs ≡ true
    → step (word (spelt [] m j ∷ xs) c s) equals ≡ go (operated true true (union c m) (without (union c m) s))
unfolding step after past operator
complete_end m j xs c s h = rw (after_low equals xs h (omega arith))

tidy_rest : (k : ℕ) (ks : List ℕ) (m : ℕ) (j : Bool) (xs : List Word) → tidy (spelt (k ∷ ks) m j ∷ xs) ≡ true → tidy (spelt ks m j ∷ after k xs) ≡ true
unfolding after tidy high
tidy_rest k ks m j xs h =
    rw (and_r (leb 95 k) (high ks) (and_l (leb 95 k && high ks) (tidy xs) h), after_tidy k xs (and_r (leb 95 k && high ks) (tidy xs) h))

word_completes : (ks : List ℕ) (m : ℕ) (j : Bool) (xs : List Word) (c : ℕ) (s : Sets) → tidy (spelt ks m j ∷ xs) ≡ true
    → run (word (spelt ks m j ∷ xs) c s) (ks ++ (equals ∷ [])) ≡ Ok (without (union c m) s)
unfolding tidy high
word_completes [] m j xs c s h = runs _ _ equals [] _ (complete_end m j xs c s h) (unfold run in refl)
word_completes (k ∷ ks) m j xs c s h =
    runs _ _ k (ks ++ (equals ∷ [])) _ (complete k ks m j xs c s h) (word_completes ks m j (after k xs) c s (tidy_rest k ks m j xs h))

pub completes : (s : State) → Good s → (more : List ℕ) × (v : Sets) × (run s more ≡ Ok v)
unfolding run step Good
completes (gap s) h = ([], s, refl)
completes (word [] c s) h = absurd h
completes (word (spelt ks m j ∷ xs) c s) h = (ks ++ (equals ∷ []), without (union c m) s, word_completes ks m j xs c s h)
completes (operated g true c s) h = ([], s, refl)
completes (operated g false c s) h = (101 ∷ [], flagged g c 101 s, refl)

-- ---- the place

-- what can be told of a place n in a text t that is read from the state s
pub record Place (s : State) (t : List ℕ) (n : ℕ) : Type 0 where
  pub inside : n ≤ length t
  -- some bytes complete what stands before it
  pub begins : (more : List ℕ) × (v : Sets) × (run s (take n t ++ more) ≡ Ok v)
  -- nothing longer is read as sets, whatever follows
  pub longest : (m : ℕ) → n < m → m ≤ length t → (more : List ℕ) (v : Sets) → run s (take m t ++ more) ≡ Ok v → ⊥

stuck_means : {B : Type 0} (s next : State) (b : ℕ) → step s b ≡ stuck → step s b ≡ go next → B
stuck_means s next b e h = let z : ◌≡◌ {A = ℕ} 0 1 = cc in absurd (omega arith)

never : (s : State) (b : ℕ) (t : List ℕ) → step s b ≡ stuck → (m : ℕ) → 0 < m → (more : List ℕ) (v : Sets) → run s (take m (b ∷ t) ++ more) ≡ Ok v → ⊥
never s b t e zero l more v h = absurd (omega arith)
never s b t e (suc m) l more v h =
    let r = ran s b (take m t ++ more) v h in
    stuck_means s r.0 b e r.1

at_stuck : (s : State) (b : ℕ) (t : List ℕ) → Good s → step s b ≡ stuck → Place s (b ∷ t) zero
at_stuck s b t g e = record { inside = omega arith; begins = completes s g; longest = λ m l u more v h. never s b t e m l more v h }

at_end : (s : State) → Good s → Place s [] zero
at_end s g = record { inside = omega arith; begins = completes s g; longest = λ m l u more v h. absurd (omega arith) }

later_longest : (s next : State) (b : ℕ) (t : List ℕ) (n : ℕ) → step s b ≡ go next → Place next t n
    → (m : ℕ) → suc n < m → m ≤ length (b ∷ t) → (more : List ℕ) (v : Sets) → run s (take m (b ∷ t) ++ more) ≡ Ok v → ⊥
later_longest s next b t n e p zero l u more v h = absurd (omega arith)
later_longest s next b t n e p (suc m) l u more v h =
    let r = ran s b (take m t ++ more) v h in
    let q : next ≡ r.0 = cc r.1 in
    p.longest m (omega arith) (omega arith) more v (rw q r.2)

at_next : (s next : State) (b : ℕ) (t : List ℕ) (n : ℕ) → step s b ≡ go next → Place next t n → Place s (b ∷ t) (suc n)
at_next s next b t n e p =
    let (more, v, h) = p.begins in
    record {
      inside = omega (arith, p.inside);
      begins = (more, v, runs s next b (take n t ++ more) v e h);
      longest = later_longest s next b t n e p;
    }

place_next : (s next : State) (b : ℕ) (t : List ℕ) (n : ℕ) → step s b ≡ go next → (r : Reading) → later r ≡ Err (Malformed n)
    → ((k : ℕ) → r ≡ Err (Malformed k) → Place next t k) → Place s (b ∷ t) n
place_next s next b t n e (Ok v) h f = let z : ◌≡◌ {A = ℕ} 0 1 = cc in absurd (omega arith)
place_next s next b t n e (Err (Malformed k)) h f = let q : suc k ≡ n = cc in rw (← q) (at_next s next b t k e (f k refl))

place_step : (s : State) (b : ℕ) (t : List ℕ) (n : ℕ) (x : Step) → Good s → step s b ≡ x → told x (λ next. run next t) ≡ Err (Malformed n)
    → ((next : State) (k : ℕ) → Good next → run next t ≡ Err (Malformed k) → Place next t k) → Place s (b ∷ t) n
place_step s b t n (go next) g e h f = place_next s next b t n e (run next t) h (λ k q. f next k (next_good s next b g e) q)
place_step s b t n stuck g e h f = let q : 0 ≡ n = cc in rw (← q) (at_stuck s b t g e)

place_end : (s : State) (n : ℕ) → Good s → finish s ≡ Err (Malformed n) → Place s [] n
place_end (gap s) n g h = let z : ◌≡◌ {A = ℕ} 0 1 = cc in absurd (omega arith)
place_end (word xs c s) n g h = let q : 0 ≡ n = cc in rw (← q) (at_end (word xs c s) g)
place_end (operated a true c s) n g h = let z : ◌≡◌ {A = ℕ} 0 1 = cc in absurd (omega arith)
place_end (operated a false c s) n g h = let q : 0 ≡ n = cc in rw (← q) (at_end (operated a false c s) g)

pub place : (s : State) (t : List ℕ) (n : ℕ) → Good s → run s t ≡ Err (Malformed n) → Place s t n
unfolding run
place s [] n g h = place_end s n g h
place s (b ∷ t) n g h = place_step s b t n (step s b) g refl h (λ next k q r. place next t k q r)

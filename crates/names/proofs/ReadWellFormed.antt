-- A text that is read as sets is well-formed, and means them. Assumes nothing.
use mathlib.Core.Path.{◌≡◌, refl, sym, ap, ◌∙◌}
use mathlib.Core.Logic.{◌⊎◌, inl, inr}
use mathlib.Core.List.{List, [], ◌∷◌, ◌++◌, append_assoc, append-nil}
use mathlib.Core.Bool.{Bool, true, false, cond, ◌&&◌}
use Prim.Native.Nat.{ℕ}
use native.Mathlib.Omega.{arith}
use borrow.Author.Tests.{eqb-true}
use lib.Dec.{eqb}
use Rattle.capabilities.proofs.Inclusion.{and_l, and_r}
use Rattle.capabilities.specs.Sets.{union, full}
use Rattle.format.specs.Line.{bytes}
use Rattle.names.specs.declared.Sets.{Sets}
use Rattle.std.specs.Prelude.{Ok}
use Rattle.names.specs.Grammar.{lower, lowered, blank, flag, equals, comma, plus, dash, flagged, without, Word, spelt, names, ◌among◌}
use Rattle.names.specs.Grammar.{Names, name, join, Flags, none, one, Operator, put, give, take, Operators, last, more, Clause, named, whole, unnamed, Text, empty, space, final, clause}
use Rattle.names.specs.Reading.{every, after, State, gap, word, operated, Step, go, stuck, finish, operator, past, within, step, run}
use Rattle.names.proofs.Run.{ran, not_both}
use Rattle.names.proofs.Words.{among_before, names_join}

-- ---- what a text read from a state is, by the grammar

-- after a clause: the end, or a blank and a text
data Follows : Sets → List ℕ → Sets → Type 0 where
  ends : {s : Sets} → Follows s [] s
  goes : {s v : Sets} {t : List ℕ} (b : ℕ) → blank b ≡ true → Text s t v → Follows s (b ∷ t) v

-- operators for c, and what follows the clause
record Operating (c : ℕ) (s : Sets) (t : List ℕ) (v : Sets) : Type 0 where
  front : List ℕ
  rest : List ℕ
  mid : Sets
  split : t ≡ front ++ rest
  operators : Operators c s front mid
  follows : Follows mid rest v

-- after an operator with its flags: what follows the clause, or more operators
data Onward (c : ℕ) (s : Sets) (t : List ℕ) (v : Sets) : Type 0 where
  closed : Follows s t v → Onward c s t v
  again : Operating c s t v → Onward c s t v

-- flags were read, or there is one
data Some : Bool → List ℕ → Type 0 where
  before : {t : List ℕ} → Some true t
  now : {e : Bool} {b : ℕ} {t : List ℕ} → Some e (b ∷ t)

record Flagging (g e : Bool) (c : ℕ) (s : Sets) (t : List ℕ) (v : Sets) : Type 0 where
  front : List ℕ
  rest : List ℕ
  mid : Sets
  split : t ≡ front ++ rest
  flags : Flags g c s front mid
  enough : Some e front
  onward : Onward c mid rest v

-- names after those that mean c, then operators
record Listing (c : ℕ) (s : Sets) (t : List ℕ) (v : Sets) : Type 0 where
  front : List ℕ
  rest : List ℕ
  all : ℕ
  split : t ≡ front ++ rest
  listed : Names c front all
  operating : Operating all s rest v

-- after a word: operators, or a comma and names
data Worded (j : Bool) (c : ℕ) (s : Sets) : List ℕ → Sets → Type 0 where
  operating : {t : List ℕ} {v : Sets} → Operating c s t v → Worded j c s t v
  joined : {t : List ℕ} {v : Sets} → j ≡ true → Listing c s t v → Worded j c s (comma ∷ t) v

-- the rest of one of these words
record Wording (xs : List Word) (c : ℕ) (s : Sets) (t : List ℕ) (v : Sets) : Type 0 where
  front : List ℕ
  rest : List ℕ
  means : ℕ
  joins : Bool
  split : t ≡ front ++ rest
  listed : spelt (lowered front) means joins among xs
  worded : Worded joins (union c means) s rest v

unfoldable After : State → List ℕ → Sets → Type 0
After (gap s) t v = Text s t v
After (word xs c s) t v = Wording xs c s t v
After (operated g e c s) t v = Flagging g e c s t v

-- the same of a step and the text behind its byte
unfoldable AfterStep : Step → List ℕ → Sets → Type 0
unfolding After
AfterStep (go s) t v = After s t v
AfterStep stuck t v = ⊥

if_after : {B : Type 0} (p : Bool) (x y : Step) (t : List ℕ) (v : Sets) → AfterStep (cond p x y) t v → (p ≡ true → AfterStep x t v → B) → (p ≡ false → AfterStep y t v → B) → B
if_after true x y t v h f g = f refl h
if_after false x y t v h f g = g refl h

-- ---- operators

operate : (c : ℕ) (s mid : Sets) (a rest t : List ℕ) (v : Sets) → t ≡ a ++ rest → Operator c s a mid → Onward c mid rest v → Operating c s t v
operate c s mid a rest t v e x (closed f) = record { front = a; rest = rest; mid = mid; split = e; operators = last x; follows = f }
operate c s mid a rest t v e x (again r) =
    record {
      front = a ++ r.front;
      rest = r.rest;
      mid = r.mid;
      split = e ∙ ap (λ (l : List ℕ). a ++ l) r.split ∙ sym (append_assoc a r.front r.rest);
      operators = more x r.operators;
      follows = r.follows;
    }

operate_put : (c : ℕ) (s : Sets) (t : List ℕ) (v : Sets) → Flagging true true c (without c s) t v → Operating c s (equals ∷ t) v
operate_put c s t v f = operate c s f.mid (equals ∷ f.front) f.rest (equals ∷ t) v (ap (λ (l : List ℕ). equals ∷ l) f.split) (put f.flags) f.onward

operate_give : (c : ℕ) (s mid : Sets) (front rest t : List ℕ) (v : Sets) → t ≡ front ++ rest → Flags true c s front mid → Some false front → Onward c mid rest v → Operating c s (plus ∷ t) v
operate_give c s mid [] rest t v e f n a = elim n [ ]
operate_give c s mid (b ∷ front) rest t v e f n a = operate c s mid (plus ∷ b ∷ front) rest (plus ∷ t) v (ap (λ (l : List ℕ). plus ∷ l) e) (give f) a

operate_take : (c : ℕ) (s mid : Sets) (front rest t : List ℕ) (v : Sets) → t ≡ front ++ rest → Flags false c s front mid → Some false front → Onward c mid rest v → Operating c s (dash ∷ t) v
operate_take c s mid [] rest t v e f n a = elim n [ ]
operate_take c s mid (b ∷ front) rest t v e f n a = operate c s mid (dash ∷ b ∷ front) rest (dash ∷ t) v (ap (λ (l : List ℕ). dash ∷ l) e) (take f) a

operator_after : (c : ℕ) (s : Sets) (b : ℕ) (t : List ℕ) (v : Sets) → AfterStep (operator c s b) t v → Operating c s (b ∷ t) v
unfolding operator AfterStep
operator_after c s b t v h =
    if_after (eqb b equals) (go (operated true true c (without c s))) _ t v h
    (λ e f. rw (eqb-true b equals e) (operate_put c s t v f))
    (λ _ h'. if_after (eqb b plus) (go (operated true false c s)) _ t v h'
    (λ e f. rw (eqb-true b plus e) (operate_give c s f.mid f.front f.rest t v f.split f.flags f.enough f.onward))
    (λ _ h''. if_after (eqb b dash) (go (operated false false c s)) stuck t v h''
    (λ e f. rw (eqb-true b dash e) (operate_take c s f.mid f.front f.rest t v f.split f.flags f.enough f.onward))
    (λ _ z. absurd z)))

operated_after : (g e : Bool) (c : ℕ) (s : Sets) (b : ℕ) (t : List ℕ) (v : Sets) → AfterStep (step (operated g e c s) b) t v → Flagging g e c s (b ∷ t) v
unfolding step AfterStep
operated_after g e c s b t v h =
    if_after (flag b) (go (operated g true c (flagged g c b s))) _ t v h
    (λ q f. record { front = b ∷ f.front; rest = f.rest; mid = f.mid; split = ap (λ (l : List ℕ). b ∷ l) f.split; flags = one q f.flags; enough = now; onward = f.onward })
    (λ _ h'. if_after e _ stuck t v h'
    (λ q h''. rw q
    (if_after (blank b) (go (gap s)) (operator c s b) t v h''
    (λ p x. record { front = []; rest = b ∷ t; mid = s; split = refl; flags = none; enough = before; onward = closed (goes b p x) })
    (λ _ x. record { front = []; rest = b ∷ t; mid = s; split = refl; flags = none; enough = before; onward = again (operator_after c s b t v x) })))
    (λ _ z. absurd z))

-- ---- words

-- the rest of a name, and what follows it, are names
listing : (c : ℕ) (s : Sets) (means : ℕ) (joins : Bool) (front rest t : List ℕ) (v : Sets) → t ≡ front ++ rest
    → spelt (lowered front) means joins among names → Worded joins (union c means) s rest v → Listing c s t v
listing c s means joins front rest t v e h (operating a) =
    let q : joins ≡ true = names_join (lowered front) means joins h in
    record { front = front; rest = rest; all = union c means; split = e; listed = name means (rw q at h); operating = a }
listing c s means joins front rest t v e h (joined {t = t'} q l) =
    record {
      front = front ++ (comma ∷ l.front);
      rest = l.rest;
      all = l.all;
      split = e ∙ ap (λ (k : List ℕ). front ++ (comma ∷ k)) l.split ∙ sym (append_assoc front (comma ∷ l.front) l.rest);
      listed = join front means (rw q at h) l.listed;
      operating = l.operating;
    }

past_after : (xs : List Word) (c : ℕ) (s : Sets) (b : ℕ) (t : List ℕ) (v : Sets) → AfterStep (past xs c s b) t v → Wording xs c s (b ∷ t) v
unfolding past AfterStep ◌among◌ lowered
past_after [] c s b t v h = absurd h
past_after (spelt [] m j ∷ xs) c s b t v h =
    if_after (eqb b comma && j) (go (word names (union c m) s)) (operator (union c m) s b) t v h
    (λ q w. rw (eqb-true b comma (and_l (eqb b comma) j q))
    (record {
      front = [];
      rest = comma ∷ t;
      means = m;
      joins = j;
      split = refl;
      listed = inl refl;
      worded = joined (and_r (eqb b comma) j q) (listing (union c m) s w.means w.joins w.front w.rest t v w.split w.listed w.worded);
    }))
    (λ _ x. record { front = []; rest = b ∷ t; means = m; joins = j; split = refl; listed = inl refl; worded = operating (operator_after (union c m) s b t v x) })
past_after (spelt (k ∷ ks) m j ∷ xs) c s b t v h = absurd h

within_after : (xs ys : List Word) (c : ℕ) (s : Sets) (b : ℕ) (t : List ℕ) (v : Sets) → after (lower b) xs ≡ ys
    → AfterStep (within ys c s (past xs c s b)) t v → Wording xs c s (b ∷ t) v
unfolding AfterStep lowered
within_after xs [] c s b t v e h = past_after xs c s b t v h
within_after xs (y ∷ ys) c s b t v e h =
    record {
      front = b ∷ h.front;
      rest = h.rest;
      means = h.means;
      joins = h.joins;
      split = ap (λ (l : List ℕ). b ∷ l) h.split;
      listed = among_before (lower b) (lowered h.front) h.means h.joins xs (rw e h.listed);
      worded = h.worded;
    }

word_after : (xs : List Word) (c : ℕ) (s : Sets) (b : ℕ) (t : List ℕ) (v : Sets) → AfterStep (step (word xs c s) b) t v → Wording xs c s (b ∷ t) v
unfolding step
word_after xs c s b t v h = within_after xs (after (lower b) xs) c s b t v refl h

-- ---- clauses and texts

clause_text : (s mid : Sets) (front rest t : List ℕ) (v : Sets) → t ≡ front ++ rest → Clause s front mid → Follows mid rest v → Text s t v
clause_text s mid front rest t v e c ends = rw (e, append-nil front) (final c)
clause_text s mid front rest t v e c (goes b q x) = rw e (clause b c q x)

listing_text : (s : Sets) (t : List ℕ) (v : Sets) → Listing 0 s t v → Text s t v
listing_text s t v l =
    let a = l.operating in
    clause_text s a.mid (l.front ++ a.front) a.rest t v
    (l.split ∙ ap (λ (k : List ℕ). l.front ++ k) a.split ∙ sym (append_assoc l.front a.front a.rest))
    (named l.listed a.operators) a.follows

all_text : (s : Sets) (means : ℕ) (joins : Bool) (front rest t : List ℕ) (v : Sets) → t ≡ front ++ rest → lowered front ≡ bytes "all" → means ≡ full → joins ≡ false
    → Worded joins (union 0 means) s rest v → Text s t v
all_text s means joins front rest t v e l m j (operating a) =
    let b : Operators full s a.front a.mid = rw m at a.operators in
    clause_text s a.mid (front ++ a.front) a.rest t v
    (e ∙ ap (λ (k : List ℕ). front ++ k) a.split ∙ sym (append_assoc front a.front a.rest))
    (whole front l b) a.follows
all_text s means joins front rest t v e l m j (joined q _) = let z : ◌≡◌ {A = ℕ} 0 1 = cc in absurd (omega arith)

first_text : (s : Sets) (means : ℕ) (joins : Bool) (front rest t : List ℕ) (v : Sets) → t ≡ front ++ rest
    → (spelt (lowered front) means joins ≡ every) ⊎ (spelt (lowered front) means joins among names) → Worded joins (union 0 means) s rest v → Text s t v
first_text s means joins front rest t v e (inl q) w = all_text s means joins front rest t v e (cc) (cc) (cc) w
first_text s means joins front rest t v e (inr h) w = listing_text s t v (listing 0 s means joins front rest t v e h w)

word_text : (s : Sets) (t : List ℕ) (v : Sets) → Wording (every ∷ names) 0 s t v → Text s t v
unfolding ◌among◌
word_text s t v w = first_text s w.means w.joins w.front w.rest t v w.split w.listed w.worded

put_text : (s mid : Sets) (front rest t : List ℕ) (v : Sets) → t ≡ front ++ rest → Flags true full (without full s) front mid → Onward full mid rest v → Text s (equals ∷ t) v
put_text s mid front rest t v e f (closed x) =
    clause_text s mid (equals ∷ front) rest (equals ∷ t) v (ap (λ (l : List ℕ). equals ∷ l) e) (unnamed (last (put f))) x
put_text s mid front rest t v e f (again a) =
    clause_text s a.mid (equals ∷ (front ++ a.front)) a.rest (equals ∷ t) v
    (ap (λ (l : List ℕ). equals ∷ l) (e ∙ ap (λ (l : List ℕ). front ++ l) a.split ∙ sym (append_assoc front a.front a.rest)))
    (unnamed (more (put f) a.operators)) a.follows

-- between clauses a word is read as among the names and `all`
gap_word : (xs : List Word) (s : Sets) (t : List ℕ) (v : Sets) (o : Step) → AfterStep (within xs 0 s stuck) t v → AfterStep (within xs 0 s o) t v
unfolding AfterStep
gap_word [] s t v o h = absurd h
gap_word (x ∷ xs) s t v o h = h

put_step : (s : Sets) (t : List ℕ) (v : Sets) → AfterStep (operator full s equals) t v → Flagging true true full (without full s) t v
unfolding operator AfterStep
put_step s t v h = h

gap_after : (s : Sets) (b : ℕ) (t : List ℕ) (v : Sets) → AfterStep (step (gap s) b) t v → Text s (b ∷ t) v
unfolding step AfterStep
gap_after s b t v h =
    if_after (blank b) (go (gap s)) _ t v h
    (λ q x. space q x)
    (λ _ h'. if_after (eqb b equals) (operator full s b) _ t v h'
    (λ q x.
    let e : b ≡ equals = eqb-true b equals q in
    let f : Flagging true true full (without full s) t v = put_step s t v (rw e at x) in
    rw e (put_text s f.mid f.front f.rest t v f.split f.flags f.onward))
    (λ _ x. word_text s (b ∷ t) v (within_after (every ∷ names) (after (lower b) (every ∷ names)) 0 s b t v refl (gap_word (after (lower b) (every ∷ names)) s t v (past (every ∷ names) 0 s b) x))))

-- ---- the whole

step_after : (s : State) (b : ℕ) (t : List ℕ) (v : Sets) → AfterStep (step s b) t v → After s (b ∷ t) v
unfolding After
step_after (gap s) b t v h = gap_after s b t v h
step_after (word xs c s) b t v h = word_after xs c s b t v h
step_after (operated g e c s) b t v h = operated_after g e c s b t v h

end_after : (s : State) (v : Sets) → finish s ≡ Ok v → After s [] v
unfolding After
end_after (gap s) v h = let q : s ≡ v = cc in rw q empty
end_after (word xs c s) v h = not_both h
end_after (operated g true c s) v h = let q : s ≡ v = cc in rw (← q) (record { front = []; rest = []; mid = s; split = refl; flags = none; enough = before; onward = closed ends })
end_after (operated g false c s) v h = not_both h

go_after : (s next : State) (b : ℕ) (t : List ℕ) (v : Sets) → step s b ≡ go next → After next t v → AfterStep (step s b) t v
unfolding AfterStep
go_after s next b t v e h = rw e h

run_after : (s : State) (t : List ℕ) (v : Sets) → run s t ≡ Ok v → After s t v
run_after s [] v h = end_after s v (unfold run in h)
run_after s (b ∷ t) v h =
    let r = ran s b t v h in
    step_after s b t v (go_after s r.0 b t v r.1 (run_after r.0 t v r.2))

pub run_text : (s : Sets) (t : List ℕ) (v : Sets) → run (gap s) t ≡ Ok v → Text s t v
unfolding After
run_text s t v h = run_after (gap s) t v h

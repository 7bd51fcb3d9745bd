-- Laws of steps read and taken one after the other, whatever a step is and whatever state it leaves. Assumes nothing.
use native.Mathlib.Omega.{arith}
use native.Mathlib.Numerals.{add-one}
use mathlib.Core.Path.{◌≡◌, refl, sym, ap, ◌∙◌}
use mathlib.Core.Bool.{Bool, true, false, not}
use mathlib.Core.List.{List, [], ◌∷◌, ◌++◌, append_assoc, append-nil}
use Prim.Native.Nat.{ℕ, zero, suc, ◌+◌, ◌<◌, ◌≤◌}
use lib.ListN.{length, get_or, drop, drop_of_length-le}
use lib.Seq.{drop-cons}
use Rattle.credentials.specs.declared.Credentials.{Credentials}
use Rattle.format.specs.Line.{Read, read, fault_at, below, next, mapped}
use Rattle.format.specs.Plan.{read_many}
use Rattle.format.specs.Report.{malformed}
use Rattle.format.specs.Sheet.{read_front}
use Rattle.format.proofs.Reading.{fault_read}
use Rattle.plan.specs.declared.state.StepAnswer.{StepAnswer}
use Rattle.plan.specs.Inside.{Taken, PlanKind, Ran, ran_none, before, ran_by, ran_verdict, verdict_by}

-- so many lines and these answers before the steps to come
abbrev pub grown : {S : Type 0} → ℕ → List StepAnswer → Read (Ran S) → Read (Ran S)
grown lines rs (read x t) = read (record { answers = rs ++ x.answers; last = x.last }) t
grown lines rs (fault_at line) = fault_at (lines + line)

module _ {S : Type 0} where
  grown_one : (lines more : ℕ) (rs : List StepAnswer) (r : StepAnswer) (x : Read (Ran S))
      → grown lines rs (below more (mapped (before r) x)) ≡ grown (lines + more) (rs ++ (r ∷ [])) x
  grown_one lines more rs r (read x t) = ap (λ (xs : List StepAnswer). read (record { answers = xs; last = x.last }) t) (sym (append_assoc rs (r ∷ []) x.answers))
  grown_one lines more rs r (fault_at line) = let e : lines + (more + line) ≡ (lines + more) + line = omega arith in ap fault_at e

  -- no answers before
  pub grown_none : (lines : ℕ) (rs : List StepAnswer) (x : Read (Ran S)) → rs ≡ [] → below lines x ≡ grown lines rs x
  grown_none lines rs (read x t) e = rw e
  grown_none lines rs (fault_at line) e = refl

  -- nothing to come
  pub grown_all : (lines : ℕ) (rs : List StepAnswer) (s : S) → grown lines rs (read (ran_none s) []) ≡ read (record { answers = rs; last = s }) []
  grown_all lines rs s = ap (λ (xs : List StepAnswer). read (record { answers = xs; last = s }) []) (append-nil rs)

-- what is read after so many lines
pub below_read : {A : Type 0} (lines : ℕ) (r : Read A) (x : A) (t : List ℕ) → below lines r ≡ read x t → r ≡ read x t
below_read lines (read y u) x t e = e
below_read lines (fault_at line) x t e = fault_read x t e

pub below_mapped : {A B : Type 0} (lines : ℕ) (f : A → B) (r : Read A) → below lines (mapped f r) ≡ mapped f (below lines r)
below_mapped lines f (read x t) = refl
below_mapped lines f (fault_at line) = refl

module _ {S : Type 0} (k : PlanKind S) (i : ℕ) (text : List ℕ) (s : S) where
  -- the text is at its end
  pub ran_end : (n : ℕ) → length text ≤ i → ran_by k n s (drop i text) ≡ read (ran_none s) []
  unfolding ran_by
  ran_end zero h = rw (drop_of_length-le text h)
  ran_end (suc n) h = rw (drop_of_length-le text h)

  -- there are as many steps as there can be
  pub ran_full : (n : ℕ) → n ≡ 0 → i < length text → ran_by k n s (drop i text) ≡ fault_at 1
  unfolding ran_by
  ran_full n e h = rw (e, drop-cons text i 0 h)

  -- a step that is at fault, after so many lines
  pub ran_fault : (n m lines line : ℕ) (rs : List StepAnswer) → n ≡ m + 1 → i < length text → fault_at line ≡ below lines (k.taken s (drop i text))
      → fault_at line ≡ grown lines rs (ran_by k n s (drop i text))
  unfolding ran_by
  ran_fault n m lines line rs e h g =
      let d = drop-cons text i 0 h in
      rw (e, add-one m, d) (by_fault (k.taken s (get_or text i 0 ∷ drop (suc i) text)) (rw d at g))
    where
      by_fault : (r : Read (Taken S)) → fault_at line ≡ below lines r
          → fault_at line ≡ grown lines rs (next k.lines r (λ x rest. mapped (before x.answer) (ran_by k m x.state rest)))
      by_fault (read x t) c = fault_read x t c
      by_fault (fault_at l) c = let p : line ≡ lines + l = cc in ap fault_at p

  one_step : (n m : ℕ) (x : Taken S) (rest : List ℕ) → n ≡ m + 1 → i < length text → k.taken s (drop i text) ≡ read x rest
      → ran_by k n s (drop i text) ≡ below k.lines (mapped (before x.answer) (ran_by k m x.state rest))
  unfolding ran_by
  one_step n m x rest e h g =
      let d = drop-cons text i 0 h in
      let f = rw d at g in
      rw (e, add-one m, d, f)

  -- a step more
  pub ran_step : (n m lines : ℕ) (rs : List StepAnswer) (x : Taken S) (rest : List ℕ) → n ≡ m + 1 → i < length text → read x rest ≡ below lines (k.taken s (drop i text))
      → grown lines rs (ran_by k n s (drop i text)) ≡ grown (lines + k.lines) (rs ++ (x.answer ∷ [])) (ran_by k m x.state rest)
  ran_step n m lines rs x rest e h g =
      ap (grown lines rs) (one_step n m x rest e h (below_read lines (k.taken s (drop i text)) x rest (sym g))) ∙ grown_one lines k.lines rs x.answer (ran_by k m x.state rest)

-- read first and run then, or each taken as it is read: steps of so many lines by their reader, what one does to a state, and what they do together
module _ {A S : Type 0} (k : PlanKind S) (one : List ℕ → Read A) (does : S → A → Taken S) (ran : S → List A → Ran S)
    (taken : (s : S) (t : List ℕ) → k.taken s t ≡ mapped (does s) (one t))
    (none : (s : S) → ran s [] ≡ ran_none s)
    (some : (s : S) (x : A) (xs : List A) → ran s (x ∷ xs) ≡ before (does s x).answer (ran (does s x).state xs)) where
  one_more : (s : S) (x : A) (r : Read (List A))
      → mapped (ran s) (below k.lines (mapped (λ xs. x ∷ xs) r)) ≡ below k.lines (mapped (before (does s x).answer) (mapped (ran (does s x).state) r))
  one_more s x (read xs t) = ap (λ (y : Ran S). read y t) (some s x xs)
  one_more s x (fault_at line) = refl

  pub read_and_ran : (n : ℕ) (s : S) (t : List ℕ) → ran_by k n s t ≡ mapped (ran s) (read_many k.lines one n t)
  unfolding ran_by read_many
  read_and_ran zero s [] = ap (λ (y : Ran S). read y []) (sym (none s))
  read_and_ran zero s (b ∷ t) = refl
  read_and_ran (suc n) s [] = ap (λ (y : Ran S). read y []) (sym (none s))
  read_and_ran (suc n) s (b ∷ t) = rw (taken s (b ∷ t)) (by_step (read_and_ran n) (one (b ∷ t)))
    where
      by_step : ((u : S) (rest : List ℕ) → ran_by k n u rest ≡ mapped (ran u) (read_many k.lines one n rest)) → (r : Read A)
          → next k.lines (mapped (does s) r) (λ x rest. mapped (before x.answer) (ran_by k n x.state rest))
          ≡ mapped (ran s) (next k.lines r (λ x rest. mapped (λ xs. x ∷ xs) (read_many k.lines one n rest)))
      by_step same (read x rest) =
          ap (λ (y : Read (Ran S)). below k.lines (mapped (before (does s x).answer) y)) (same (does s x).state rest) ∙ sym (one_more s x (read_many k.lines one n rest))
      by_step same (fault_at line) = refl

-- ---- the plan as a whole

pub not_true : (b : Bool) → not b ≡ true → b ≡ false
not_true true h = sym h
not_true false h = refl

pub not_false : (b : Bool) → not b ≡ false → b ≡ true
not_false true h = refl
not_false false h = sym h

module _ {S : Type 0} (k : PlanKind S) (text : List ℕ) where
  pub front_at_fault : (line : ℕ) → read_front text ≡ fault_at line → verdict_by k text ≡ malformed line
  unfolding verdict_by
  front_at_fault line h = rw h

  -- what its steps come to
  pub steps_after : (c : Credentials) (rest : List ℕ) (s : S) (r : Read (Ran S)) → read_front text ≡ read c rest → s ≡ k.start c → r ≡ below 15 (ran_by k 256 s rest)
      → verdict_by k text ≡ ran_verdict k c r
  unfolding verdict_by
  steps_after c rest s r h e is = rw (h, ← e, ← is)

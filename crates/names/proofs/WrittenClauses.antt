-- The written text, clause by clause: with one space between, and with what stands before each. Assumes nothing.
use mathlib.Core.Path.{◌≡◌, refl, ap}
use mathlib.Core.List.{List, [], ◌∷◌, ◌++◌}
use mathlib.Core.Bool.{Bool, true, false, cond}
use Prim.Native.Nat.{ℕ, suc}
use Prim.Native.String.{String}
use Rattle.format.specs.Line.{bytes}
use Rattle.names.specs.declared.Sets.{Sets}
use Rattle.names.specs.Names.{capability_names}
use Rattle.names.specs.Writing.{has_flag, clause_text, clauses, preceded, spaced, sets_text}
use Rattle.names.specs.Inside.{clauses_text}

module _ (s : Sets) where
  preceded_text : (n : ℕ) (l : List String) → preceded (clauses s n l) ≡ clauses_text false s n l
  unfolding preceded clauses clauses_text
  preceded_text n [] = refl
  preceded_text n (x ∷ l) = by_test (has_flag s n) (preceded_text (suc n) l)
    where
      by_test : (q : Bool) → preceded (clauses s (suc n) l) ≡ clauses_text false s (suc n) l
          → preceded (cond q (clause_text s n x ∷ clauses s (suc n) l) (clauses s (suc n) l))
          ≡ cond q (bytes " " ++ (clause_text s n x ++ clauses_text false s (suc n) l)) (clauses_text false s (suc n) l)
      by_test true e = ap (λ (t : List ℕ). bytes " " ++ (clause_text s n x ++ t)) e
      by_test false e = e

  spaced_text : (n : ℕ) (l : List String) → spaced (clauses s n l) ≡ clauses_text true s n l
  unfolding spaced clauses clauses_text
  spaced_text n [] = refl
  spaced_text n (x ∷ l) = by_test (has_flag s n) (spaced_text (suc n) l)
    where
      by_test : (q : Bool) → spaced (clauses s (suc n) l) ≡ clauses_text true s (suc n) l
          → spaced (cond q (clause_text s n x ∷ clauses s (suc n) l) (clauses s (suc n) l))
          ≡ cond q (clause_text s n x ++ clauses_text false s (suc n) l) (clauses_text true s (suc n) l)
      by_test true e = ap (λ (t : List ℕ). clause_text s n x ++ t) (preceded_text (suc n) l)
      by_test false e = e

  -- the whole text, none of whose clauses was written yet
  pub whole_text : sets_text s ≡ clauses_text true s 0 capability_names
  unfolding sets_text
  whole_text = spaced_text 0 capability_names

-- The clauses one behind the other, for private functions of `names_writer`; no public contract cites these. Assumes nothing.
use Rattle.std.specs.Prelude.{ℕ, suc, List, [], ◌∷◌, ◌++◌, Bool, false, cond}
use Prim.Native.String.{String}
use Rattle.format.specs.Line.{bytes}
use Rattle.names.specs.declared.Sets.{Sets}
use Rattle.names.specs.Writing.{has_flag, clause_text}

-- what stands before a clause: nothing before the first, one space before any other
abbrev pub separator : Bool → List ℕ
separator first = cond first [] (bytes " ")

-- the clauses of the capabilities from number n on, which have these names; `first` where none was written yet
unfoldable pub clauses_text : Bool → Sets → ℕ → List String → List ℕ
clauses_text first s n [] = []
clauses_text first s n (name ∷ names) =
    cond (has_flag s n)
    (separator first ++ (clause_text s n name ++ clauses_text false s (suc n) names))
    (clauses_text first s (suc n) names)

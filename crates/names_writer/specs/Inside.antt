-- The clauses of the names one behind the other, each at a position, as private functions write them; no public contract cites these. Assumes nothing.
use Rattle.std.specs.Prelude.{◌≡◌, Bool, cond, List, [], ◌∷◌, ◌++◌, ℕ, suc, ◌+◌, eqb, length}
use Rattle.std.proofs.lemmas.List.Edits.{sets}
use Rattle.format.specs.Line.{bytes}
use Rattle.names.specs.declared.Sets.{Sets}
use Rattle.names.specs.Writing.{flags_text, has_flag}
use Rattle.names.specs.Inside.{separator}
use Rattle.capabilities.specs.Sets.{has}
use Rattle.names_writer.specs.declared.clause.Flags.{Flags}

-- a text stands in place of the bytes from a position on: the buffer before and after, and the position past the text
abbrev pub Put : List ℕ → ℕ → List ℕ → List ℕ → ℕ → Type 0
Put old at t new past = (past ≡ at + length t) × (new ≡ sets old at t)

-- the flags of the capability n
abbrev pub flags_of : Sets → ℕ → Flags
flags_of s n = record { effective = has s.effective n; inheritable = has s.inheritable n; permitted = has s.permitted n }

-- flags in the order e, i, p
abbrev pub flags_put : Flags → List ℕ
flags_put f = cond f.effective (bytes "e") [] ++ (cond f.inheritable (bytes "i") [] ++ cond f.permitted (bytes "p") [])

-- the clause of the capability n, which has this name, and what stands before it; nothing where the capability has no flag
abbrev pub clause_at : Bool → Sets → ℕ → List ℕ → List ℕ
clause_at first s n name = cond (has_flag s n) (separator first ++ (name ++ (bytes "=" ++ flags_text s n))) []

-- the clauses of the capabilities from number n on, which have these names, from a position on; at 0 none was written yet
unfoldable pub clauses_from : ℕ → Sets → ℕ → List (List ℕ) → List ℕ
clauses_from at s n [] = []
clauses_from at s n (name ∷ names) = clause_at (eqb at 0) s n name ++ clauses_from (at + length (clause_at (eqb at 0) s n name)) s (suc n) names

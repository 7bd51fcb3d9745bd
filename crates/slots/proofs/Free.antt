-- The lowest free slot is the first whose use mark is clear. Assumes nothing.
use Rattle.std.proofs.Common.{◌≡◌, ℕ, zero, suc, ◌<◌, Bool, true, false, cond, List, [], ◌∷◌, length, ltb, refl, ap, arith}
use Rattle.std.specs.Prelude.{Option, Some, None, MatchOption}
use borrow.Author.Tests.{le-ltb, lt-ltb}
use mathlib.Core.Bool.{false≢true, true≢false}
use Rattle.std.specs.List.{AllWithin, HoldsAt}
use Rattle.threads.specs.Table.{lowest_free}

abbrev pub Free : Bool → Type 0
Free mark = mark ≡ false

abbrev pub Used : Bool → Type 0
Used mark = mark ≡ true

-- the rest of slots in use is in use
used_rest : (mark : Bool) (marks : List Bool) (i : ℕ) → AllWithin Used (mark ∷ marks) 0 (suc i) → AllWithin Used marks 0 i
used_rest mark marks i u k d l h = u (suc k) d (omega arith) (omega arith)

-- a free slot with none free below it
pub free_found : (marks : List Bool) (i : ℕ) → i < length marks → HoldsAt Free marks i → AllWithin Used marks 0 i → lowest_free marks ≡ i
unfolding lowest_free
free_found [] i h f u = absurd (omega arith)
free_found (true ∷ marks) zero h f u = absurd (true≢false (f true))
free_found (false ∷ marks) zero h f u = refl
free_found (true ∷ marks) (suc i) h f u = ap suc (free_found marks i (omega arith) (λ d. f d) (used_rest true marks i u))
free_found (false ∷ marks) (suc i) h f u = absurd (false≢true (u zero true (omega arith) (omega arith)))

-- none is free
pub free_none : (marks : List Bool) → AllWithin Used marks 0 (length marks) → lowest_free marks ≡ length marks
unfolding lowest_free
free_none [] u = refl
free_none (true ∷ marks) u = ap suc (free_none marks (used_rest true marks (length marks) u))
free_none (false ∷ marks) u = absurd (false≢true (u zero true (omega arith) (omega arith)))

-- so the position of the first clear mark, if there is one, is the lowest free slot, if one is free
pub free_position : (r : Option ℕ) (marks : List Bool) (n : ℕ) → length marks ≡ n
    → MatchOption r (AllWithin Used marks 0 (length marks)) (λ (i : ℕ). (i < length marks) × HoldsAt Free marks i × AllWithin Used marks 0 i)
    → r ≡ cond (ltb (lowest_free marks) n) (Some (lowest_free marks)) None
free_position None marks n e u = rw (free_none marks u, le-ltb (length marks) n (omega arith))
free_position (Some i) marks n e f = rw (free_found marks i f.0 f.1 f.2, lt-ltb i n (omega (arith, f.0)))

-- The lines of a text: the first and those behind it. Assumes nothing.
use mathlib.Core.Path.{◌≡◌, refl, ap, ◌∙◌}
use mathlib.Core.List.{List, [], ◌∷◌, ◌++◌, append_assoc}
use mathlib.Core.Bool.{Bool, true, false, cond}
use Prim.Native.Nat.{ℕ}
use lib.Dec.{eqb}
use lib.ListN.{drop}
use Rattle.format.specs.Line.{bytes, newline}
use Rattle.status.specs.Lines.{longer, lines_of, text_of}
use Rattle.status.specs.Reading.{up_to, since}
use Rattle.status.specs.RoundTrip.{Lacks, AreLines}
use Rattle.status.proofs.Lacking.{up_to_first, since_first, up_to_end, since_end}

-- a text that is not empty has a first line, up to the first newline, and then the lines of what stands behind that newline
pub first_line : (b : ℕ) (t : List ℕ) → lines_of (b ∷ t) ≡ up_to newline (b ∷ t) ∷ lines_of (drop 1 (since newline (b ∷ t)))
unfolding lines_of up_to since
first_line b [] = by_test (eqb b newline)
  where
    by_test : (q : Bool) → cond q ([] ∷ []) ((b ∷ []) ∷ []) ≡ cond q [] (b ∷ []) ∷ lines_of (drop 1 (cond q (b ∷ []) []))
    by_test true = refl
    by_test false = refl
first_line b (c ∷ t) = by_test (eqb b newline) (first_line c t)
  where
    by_test : (q : Bool) → lines_of (c ∷ t) ≡ up_to newline (c ∷ t) ∷ lines_of (drop 1 (since newline (c ∷ t)))
        → cond q ([] ∷ lines_of (c ∷ t)) (longer b (lines_of (c ∷ t))) ≡ cond q [] (b ∷ up_to newline (c ∷ t)) ∷ lines_of (drop 1 (cond q (b ∷ c ∷ t) (since newline (c ∷ t))))
    by_test true h = refl
    by_test false h = ap (longer b) h

-- the front of a text up to a newline is a line
pub line_then : (l t : List ℕ) → Lacks newline l → lines_of (l ++ (newline ∷ t)) ≡ l ∷ lines_of t
unfolding lines_of
line_then [] t h = refl
line_then (b ∷ l) t h =
    first_line b (l ++ (newline ∷ t))
    ∙ rw (up_to_first newline (b ∷ l) t h, since_first newline (b ∷ l) t h)

-- and so is what no newline ends
pub last_line_lem : (b : ℕ) (l : List ℕ) → Lacks newline (b ∷ l) → lines_of (b ∷ l) ≡ (b ∷ l) ∷ []
unfolding lines_of
last_line_lem b l h = first_line b l ∙ rw (up_to_end newline (b ∷ l) h, since_end newline (b ∷ l) h)

-- lines and the text behind them
pub lines_then : (ls : List (List ℕ)) (t : List ℕ) → AreLines ls → lines_of (text_of ls ++ t) ≡ ls ++ lines_of t
unfolding text_of AreLines
lines_then [] t h = refl
lines_then (l ∷ ls) t h =
    ap lines_of (append_assoc l (bytes "\n" ++ text_of ls) t)
    ∙ line_then l (text_of ls ++ t) h.0
    ∙ ap (λ (ms : List (List ℕ)). l ∷ ms) (lines_then ls t h.1)

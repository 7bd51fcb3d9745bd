-- A text at a position of a buffer: what the writers of one line answer and leave. Assumes nothing.
use Rattle.std.specs.Prelude.{ℕ, ◌+◌, List, Bool, cond, leb, length}
use Rattle.std.proofs.lemmas.List.Edits.{sets}

-- a text fits a buffer from a position on
abbrev pub fits : List ℕ → ℕ → List ℕ → Bool
fits buffer at t = leb (at + length t) (length buffer)

-- the buffer with the text t in place of the bytes from the position at on; as it was where t does not fit
unfoldable pub written : List ℕ → ℕ → List ℕ → List ℕ
written buffer at t = cond (fits buffer at t) (sets buffer at t) buffer

-- the position past t; at itself where t does not fit
unfoldable pub written_to : List ℕ → ℕ → List ℕ → ℕ
written_to buffer at t = cond (fits buffer at t) (at + length t) at

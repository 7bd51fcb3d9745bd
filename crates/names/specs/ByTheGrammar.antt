-- What the reader's answer says of a text, by the grammar alone ("Say it in names"): its sets, or the length of its longest beginning. Assumes nothing.
-- proofs/ByTheGrammar.antt proves it.
use Rattle.std.specs.Prelude.{ℕ, ◌≤◌, ◌<◌, ◌≡◌, List, length, take, Ok, Err}
use Rattle.names.specs.declared.Sets.{Sets}
use Rattle.names.specs.declared.ReadError.TheVariants.{Malformed}
use Rattle.names.specs.Grammar.{WellFormed, Beginning}
use Rattle.names.specs.Reading.{read_text}

pub record ByTheGrammar : Type 0 where
  -- a well-formed text is read as the sets that it stands for
  pub well_formed_read : (t : List ℕ) (v : Sets) → WellFormed t v → read_text t ≡ Ok v
  -- a text that is read as sets is well-formed, and stands for them
  pub read_well_formed : (t : List ℕ) (v : Sets) → read_text t ≡ Ok v → WellFormed t v
  -- a malformed text's place is at most its length
  pub place_within : (t : List ℕ) (n : ℕ) → read_text t ≡ Err (Malformed n) → n ≤ length t
  -- so many bytes from its front are a beginning
  pub place_begins : (t : List ℕ) (n : ℕ) → read_text t ≡ Err (Malformed n) → Beginning (take n t)
  -- and no longer part from its front is one
  pub place_longest : (t : List ℕ) (n m : ℕ) → read_text t ≡ Err (Malformed n) → n < m → m ≤ length t → ¬ (Beginning (take m t))

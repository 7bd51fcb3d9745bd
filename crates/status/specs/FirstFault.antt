-- Which line a malformed text is refused at: the statement, which proofs/FirstFault.antt proves. Assumes nothing.
use Rattle.std.specs.Prelude.{ℕ, ◌+◌, ◌-◌, ◌≤◌, ◌≡◌, List, ◌++◌, length, take, Err}
use Rattle.status.specs.declared.Status.{Status}
use Rattle.status.specs.declared.ReadError.TheVariants.{Malformed}
use Rattle.status.specs.Lines.{lines_of, wanted_of, status_lines}
use Rattle.status.specs.Reading.{read_status}
use Rattle.status.specs.RoundTrip.{Writable}

-- lines can begin a status text: with some others behind them, the wanted ones are those written for something
pub record CanBegin (ls : List (List ℕ)) : Type 0 where
  pub others : List (List ℕ)
  pub status : Status
  pub writable : Writable status
  pub completed : wanted_of (ls ++ others) ≡ status_lines status

pub record FirstFault : Type 0 where
  -- it is a line of the text, or the line after the last
  pub in_range : (text : List ℕ) (n : ℕ) → read_status text ≡ Err (Malformed n) → (1 ≤ n) × (n ≤ length (lines_of text) + 1)
  -- the lines before it can begin a status text
  pub before_it : (text : List ℕ) (n : ℕ) → read_status text ≡ Err (Malformed n) → CanBegin (take (n - 1) (lines_of text))
  -- with it, where it is a line of the text, they cannot
  pub with_it : (text : List ℕ) (n : ℕ) → read_status text ≡ Err (Malformed n) → n ≤ length (lines_of text) → CanBegin (take n (lines_of text)) → ⊥

-- How long a list can be; proofs/Longest.antt proves it. Assumes nothing.
use Rattle.std.specs.Prelude.{ℕ, ◌≤◌, ◌≡◌, List, length}
use Rattle.credentials.specs.declared.Credentials.{Credentials}
use Rattle.format.specs.Report.{report}
use Rattle.status.specs.Comparing.{compared}

-- the bytes of a longest list: all ten keys, two IDs of ten digits in each of four lines, and the last line of 36
abbrev pub longest_list : ℕ
longest_list = 372

pub record Longest : Type 0 where
  -- a list has at most so many bytes, and some list has as many
  pub lists : (text : List ℕ) (c : Credentials) (t : List ℕ) → compared text c ≡ report t → length t ≤ longest_list
  pub a_longest_list : (text : List ℕ) × (c : Credentials) × (t : List ℕ) × (compared text c ≡ report t) × (length t ≡ longest_list)

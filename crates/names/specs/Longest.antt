-- How long sets in names can be; proofs/Longest.antt proves it. Assumes nothing.
use Rattle.std.specs.Prelude.{ℕ, ◌≤◌, ◌≡◌, false, length}
use Rattle.names.specs.declared.Sets.{Sets}
use Rattle.names.specs.Writing.{sets_text, bits_above40}

-- the bytes of a longest written text: 544 of the names, `=` and three flags to each, 40 spaces
abbrev pub longest_text : ℕ
longest_text = 748

pub record Longest : Type 0 where
  -- a written text has at most so many bytes
  pub texts : (s : Sets) → length (sets_text s) ≤ longest_text
  -- and some sets' text has as many
  pub a_longest : (s : Sets) × (bits_above40 s ≡ false) × (length (sets_text s) ≡ longest_text)

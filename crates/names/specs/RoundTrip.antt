-- Sets in names, written and read: one gives back what the other was given ("Say it in names"). proofs/RoundTrip.antt proves it. Assumes nothing.
use Rattle.std.specs.Prelude.{◌≡◌, false, List, ℕ, length, take, Ok}
use Rattle.names.specs.declared.Sets.{Sets}
use Rattle.names.specs.Reading.{read_text}
use Rattle.names.specs.Writing.{sets_text, bits_above40, names_answer, names_buffer}

pub record RoundTrip : Type 0 where
  -- reading what was written gives the three sets back, whichever they are, without a bit above 40
  pub written_read : (s : Sets) → bits_above40 s ≡ false → read_text (sets_text s) ≡ Ok s
  -- so do the bytes that the writer put into a buffer, as many as it says
  pub buffer_read : (s : Sets) (old : List ℕ) (n : ℕ) → names_answer s (length old) ≡ Ok n → read_text (take n (names_buffer s old)) ≡ Ok s
  -- sets that were read have no bit above 40, so that they can be written
  pub read_writable : (t : List ℕ) (s : Sets) → read_text t ≡ Ok s → bits_above40 s ≡ false

-- What is read is what the grammar says, and the place is the length of the longest beginning. Assumes nothing.
use mathlib.Core.Path.{◌≡◌}
use mathlib.Core.List.{List, ◌++◌}
use Prim.Native.Nat.{ℕ, ◌≤◌, ◌<◌}
use lib.ListN.{length, take}
use Rattle.std.specs.Prelude.{Err}
use Rattle.names.specs.declared.ReadError.TheVariants.{Malformed}
use Rattle.names.specs.Grammar.{no_sets, Beginning}
use Rattle.names.specs.Reading.{gap, read_text}
use Rattle.names.specs.ByTheGrammar.{ByTheGrammar}
use Rattle.names.proofs.Completed.{Good, Place, place}
use Rattle.names.proofs.WellFormedRead.{text_run}
use Rattle.names.proofs.ReadWellFormed.{run_text}

place_of : (t : List ℕ) (n : ℕ) → read_text t ≡ Err (Malformed n) → Place (gap no_sets) t n
unfolding read_text Good
place_of t n h = place (gap no_sets) t n tt h

begins : (t : List ℕ) (n : ℕ) → Place (gap no_sets) t n → Beginning (take n t)
begins t n p = let (more, v, h) = p.begins in (more, v, run_text no_sets (take n t ++ more) v h)

longest : (t : List ℕ) (n m : ℕ) → Place (gap no_sets) t n → n < m → m ≤ length t → Beginning (take m t) → ⊥
longest t n m p l u (more, v, h) = p.longest m l u more v (text_run no_sets v (take m t ++ more) h)

pub by_the_grammar : ByTheGrammar
unfolding read_text
by_the_grammar =
    record {
      well_formed_read = λ t v h. text_run no_sets v t h;
      read_well_formed = λ t v h. run_text no_sets t v h;
      place_within = λ t n h. (place_of t n h).inside;
      place_begins = λ t n h. begins t n (place_of t n h);
      place_longest = λ t n m h l u b. longest t n m (place_of t n h) l u b;
    }

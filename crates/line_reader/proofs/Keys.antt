-- A key compared byte by byte with a text at a position. Assumes nothing.
use mathlib.Core.Path.{◌≡◌}
use mathlib.Core.List.{List}
use mathlib.Core.Bool.{true, false, cond}
use Prim.Native.Nat.{ℕ, ◌+◌, ◌<◌, ◌≤◌}
use native.Mathlib.Numerals.{add-one}
use lib.Dec.{eqb}
use lib.ListN.{length, get_or, drop, drop_of_length-le}
use lib.Seq.{drop-cons}
use Rattle.format.specs.Line.{starts_with}

pub starts_step : (key text : List ℕ) (k i j : ℕ) → k < length key → i < length text → j ≡ i + 1
    → starts_with (drop k key) (drop i text) ≡ cond (eqb (get_or text i 0) (get_or key k 0)) (starts_with (drop (k + 1) key) (drop j text)) false
unfolding starts_with
starts_step key text k i j h g e = rw (drop-cons key k 0 h, drop-cons text i 0 g, e, add-one i, add-one k)

pub starts_end : (key t : List ℕ) (k : ℕ) → length key ≤ k → starts_with (drop k key) t ≡ true
unfolding starts_with
starts_end key t k h = rw (drop_of_length-le key h)

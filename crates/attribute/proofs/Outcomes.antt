-- What the writer answers and leaves, by its tests. Assumes nothing.
use Prim.Native.Nat.{ℕ, ◌≤◌, ◌<◌}
use mathlib.Core.Path.{◌≡◌, refl, sym}
use mathlib.Core.Bool.{Bool, true, false, cond, true≢false}
use mathlib.Core.List.{List, ◌++◌}
use lib.Dec.{ltb}
use lib.ListN.{length, drop}
use borrow.Author.Tests.{le-ltb, lt-ltb, ltb-false}
use Rattle.std.specs.Prelude.{Result, Ok, Err, IsOk}
use Rattle.attribute.specs.Reader.{bits_above40}
use Rattle.attribute.specs.Writer.{buffer_after, version2_bytes, written}
use Rattle.attribute.specs.declared.WriteError.{WriteError}
use Rattle.attribute.specs.declared.WriteError.TheVariants.{OutOfRange, NoRoom}

module _ (p i n : ℕ) where
  pub out_of_range : bits_above40 p i ≡ true → written p i n ≡ Err OutOfRange
  unfolding written
  out_of_range h = simp h

  pub no_room : bits_above40 p i ≡ false → n < 20 → written p i n ≡ Err NoRoom
  unfolding written
  no_room h k = simp (h, lt-ltb n 20 k)

  pub is_done : bits_above40 p i ≡ false → 20 ≤ n → written p i n ≡ Ok 20
  unfolding written
  is_done h k = simp (h, le-ltb n 20 k)

  pub done_facts : IsOk (written p i n) → (bits_above40 p i ≡ false) × (20 ≤ n)
  unfolding written
  done_facts h = let k = both (bits_above40 p i) (ltb n 20) h in (k.0, ltb-false n 20 k.1)
    where
      both : (t u : Bool) → IsOk (cond {A = Result ℕ WriteError} t (Err OutOfRange) (cond u (Err NoRoom) (Ok 20))) → (t ≡ false) × (u ≡ false)
      both true u h = absurd (true≢false (sym h))
      both false true h = absurd (true≢false (sym h))
      both false false h = (refl, refl)

module _ (p i : ℕ) (e : Bool) (old : List ℕ) where
  pub refused_buffer : (error : WriteError) → written p i (length old) ≡ Err error → buffer_after p i e old ≡ old
  unfolding buffer_after
  refused_buffer error h = simp h

  pub done_buffer : written p i (length old) ≡ Ok 20 → buffer_after p i e old ≡ version2_bytes p i e ++ drop 20 old
  unfolding buffer_after
  done_buffer h = simp h

-- Texts one after the other to the end of a text: written and read, each from the other, their length, and a text that is cut. Assumes nothing.
use mathlib.Core.Path.{◌≡◌, refl, sym, ap, ◌∙◌}
use mathlib.Core.List.{List, [], ◌∷◌, ◌++◌}
use Prim.Native.Nat.{ℕ, zero, suc, ◌+◌, ◌*◌, ◌≤◌}
use native.Mathlib.Nat.{not-suc-le-zero}
use native.Mathlib.Omega.{arith}
use lib.ListN.{length, length-append}
use Rattle.format.specs.Line.{Read, read, fault, mapped}
use Rattle.format.specs.Plan.{many_text, read_many}
use Rattle.format.specs.RoundTrip.{Every}
use Rattle.format.proofs.Alike.{Alike, mapped_alike, next_alike}
use Rattle.format.proofs.Reading.{fault_read, next_told, mapped_told}

-- a reader of so many lines, what is written for it and what can be written
module _ {A : Type 0} (lines : ℕ) (one : List ℕ → Read A) (text : A → List ℕ) (Fit : A → Type 0) (none : one [] ≡ fault)
    (again : (x : A) (rest : List ℕ) → Fit x → one (text x ++ rest) ≡ read x rest)
    (written : (t : List ℕ) (x : A) (rest : List ℕ) → one t ≡ read x rest → (t ≡ text x ++ rest) × Fit x) where
  -- one that is read, and those after it
  read_first : (n : ℕ) (x : A) (xs : List A) (t u : List ℕ) → one t ≡ read x u → read_many lines one n u ≡ read xs [] → read_many lines one (suc n) t ≡ read (x ∷ xs) []
  unfolding read_many
  read_first n x xs [] u e i = fault_read x u (sym none ∙ e)
  read_first n x xs (b ∷ t) u e i = rw (e, i)

  -- written ones, up to n
  pub many_read : (n : ℕ) (xs : List A) → Every Fit xs → length xs ≤ n → read_many lines one n (many_text text xs) ≡ read xs []
  unfolding many_text Every read_many
  many_read zero [] w l = refl
  many_read (suc n) [] w l = refl
  many_read zero (x ∷ xs) w l = absurd (not-suc-le-zero l)
  many_read (suc n) (x ∷ xs) w l =
      read_first n x xs (text x ++ many_text text xs) (many_text text xs) (again x (many_text text xs) w.0) (many_read n xs w.1 (omega (arith, l)))

  -- what it tells that some were read
  abbrev Told : ℕ → List A → List ℕ → List ℕ → Type 0
  Told n xs t rest = (t ≡ many_text text xs) × (rest ≡ []) × Every Fit xs × (length xs ≤ n)

  none_told : (n : ℕ) (xs : List A) (rest : List ℕ) → read [] [] ≡ read xs rest → Told n xs [] rest
  unfolding many_text Every
  none_told n xs rest e = let p : [] ≡ xs = cc in rw (← p) (refl, cc, tt, omega arith)

  some_told : (n : ℕ) (x : A) (xs : List A) (t u rest : List ℕ) → (t ≡ text x ++ u) × Fit x → Told n xs u rest → Told (suc n) (x ∷ xs) t rest
  unfolding many_text Every
  some_told n x xs t u rest h i = (h.0 ∙ ap (λ (ys : List ℕ). text x ++ ys) i.0, i.1, (h.1, i.2), omega (arith, i.3))

  -- ones that are read
  pub many_written : (n : ℕ) (xs : List A) (t rest : List ℕ) → read_many lines one n t ≡ read xs rest
      → (t ≡ many_text text xs) × (rest ≡ []) × Every Fit xs × (length xs ≤ n)
  unfolding read_many
  many_written zero xs [] rest e = none_told zero xs rest e
  many_written zero xs (b ∷ t) rest e = fault_read xs rest e
  many_written (suc n) xs [] rest e = none_told (suc n) xs rest e
  many_written (suc n) xs (b ∷ t) rest e =
      let y = next_told xs rest _ (one (b ∷ t)) (λ x u. mapped (λ ys. x ∷ ys) (read_many lines one n u)) e in
      let m = mapped_told xs rest (λ ys. y.0 ∷ ys) (read_many lines one n y.1) y.3 in
      let first = written (b ∷ t) y.0 y.1 y.2 in
      rw (← m.2) (some_told n y.0 m.0 (b ∷ t) y.1 rest first (many_written n m.0 y.1 rest m.1))

-- each has at most so many bytes
pub length_many : {A : Type 0} (text : A → List ℕ) (Fit : A → Type 0) (most : ℕ) → ((x : A) → Fit x → length (text x) ≤ most)
    → (xs : List A) → Every Fit xs → length (many_text text xs) ≤ length xs * most
unfolding many_text Every
length_many text Fit most h [] w = omega arith
length_many text Fit most h (x ∷ xs) w =
    let rest = length_many text Fit most h xs w.1 in
    omega (arith, length-append (text x) (many_text text xs), h x w.0, rest)

-- a text that is longer than n of them by a byte is read as it is with more text behind it
pub many_alike : {A : Type 0} (lines : ℕ) (one : List ℕ → Read A) (most : ℕ)
    → ((u more : List ℕ) (left : ℕ) → most + left ≤ length u → Alike more left (one u) (one (u ++ more)))
    → (n : ℕ) (u more : List ℕ) → n * most + 1 ≤ length u → Alike more 0 (read_many lines one n u) (read_many lines one n (u ++ more))
unfolding read_many
many_alike lines one most alike zero [] more h = absurd (omega (arith, h))
many_alike lines one most alike zero (b ∷ t) more h = refl
many_alike lines one most alike (suc n) [] more h = absurd (omega (arith, h))
many_alike lines one most alike (suc n) (b ∷ t) more h =
    next_alike more 0 lines (n * most + 1) (one (b ∷ t)) (one (b ∷ (t ++ more))) _
    (alike (b ∷ t) more (n * most + 1) (omega (arith, h)))
    (λ x r g. mapped_alike more 0 (λ xs. x ∷ xs) (read_many lines one n r) (read_many lines one n (r ++ more)) (many_alike lines one most alike n r more g))

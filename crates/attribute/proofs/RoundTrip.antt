-- The round trip of attributes holds. Assumes nothing.
use Prim.Native.Nat.{ℕ, ◌+◌, ◌*◌, ◌/◌, ◌%◌, ◌≤◌, ◌<◌}
use mathlib.Core.Path.{◌≡◌, refl, sym, ap, ◌∙◌}
use mathlib.Core.Bool.{Bool, true, false, cond, not, ◌&&◌, ◌||◌, true≢false}
use mathlib.Core.List.{List, [], ◌∷◌, ◌++◌, append_assoc}
use native.Mathlib.Omega.{arith}
use lib.Dec.{eqb}
use lib.ListN.{length, take, drop, replicate, length-drop}
use lib.Seq.{take-add, take_all, drop-drop}
use borrow.Author.Tests.{eqb-true, eqb-false, not-false}
use Rattle.capabilities.proofs.Inclusion.{or_false_l, or_false_r}
use Rattle.attribute.specs.Words.{Bytes, byte_at, word_at, word_bytes, set_of}
use Rattle.attribute.specs.Reader.{bits_above40, file_of, length_of, length_of_another_revision, other_bits, other_length, other_revision, reading, revision, unreadable, version1, version2}
use Rattle.attribute.specs.Writer.{first_word, version2_bytes, written}
use Rattle.attribute.specs.RoundTrip.{as_version2, WritesAs, RoundTrip}
use Rattle.attribute.specs.declared.FileCapabilities.{FileCapabilities}
use Rattle.attribute.specs.declared.ReadError.{ReadError}
use Rattle.attribute.specs.declared.ReadError.TheVariants.{Unreadable}
use Rattle.std.specs.Prelude.{Result, Ok, Err}
use Rattle.std.specs.Result.{is_err}
use Rattle.attribute.proofs.Outcomes.{is_done, done_buffer}
use Rattle.attribute.proofs.ReadBack.{back}
use Rattle.attribute.proofs.Words.{word_again, word_lt}

-- ---- what a readable attribute holds

inside : (t : Bool) {x : Result FileCapabilities ReadError} {f : FileCapabilities} → cond t (Err Unreadable) x ≡ Ok f → (t ≡ false) × (x ≡ Ok f)
inside true h = absurd (true≢false (ap is_err h))
inside false h = (refl, h)

record Held (s : List ℕ) (f : FileCapabilities) : Type 0 where
  version : other_revision s ≡ false
  sized : length_of_another_revision s ≡ false
  clean : other_bits s ≡ false
  range : bits_above40 f.permitted f.inheritable ≡ false
  is : file_of s ≡ f

held : (s : List ℕ) (f : FileCapabilities) → eqb (length s) 0 ≡ false → reading s ≡ Ok f → Held s f
unfolding reading unreadable
held s f some h =
    let read : cond (unreadable s) (Err Unreadable) (Ok (file_of s)) ≡ Ok f = simp some at h in
    let k = inside (unreadable s) read in
    let same : file_of s ≡ f = cc k.1 in
    let up_to3 = or_false_l (other_length s || other_revision s || length_of_another_revision s || other_bits s) (bits_above40 (file_of s).permitted (file_of s).inheritable) k.0 in
    let up_to2 = or_false_l (other_length s || other_revision s || length_of_another_revision s) (other_bits s) up_to3 in
    let up_to1 = or_false_l (other_length s || other_revision s) (length_of_another_revision s) up_to2 in
    record {
      version = or_false_r (other_length s) (other_revision s) up_to1;
      sized = or_false_r (other_length s || other_revision s) (length_of_another_revision s) up_to2;
      clean = or_false_r (other_length s || other_revision s || length_of_another_revision s) (other_bits s) up_to3;
      range = ap (λ (g : FileCapabilities). bits_above40 g.permitted g.inheritable) (sym same)
          ∙ or_false_r (other_length s || other_revision s || length_of_another_revision s || other_bits s) (bits_above40 (file_of s).permitted (file_of s).inheritable) k.0;
      is = same;
    }

-- the revision is the one whose length it is
revision_of_20 : (x y : Bool) → not x && not y ≡ false → not (eqb 20 (cond x 12 20)) ≡ false → (x ≡ false) × (y ≡ true)
revision_of_20 true y h k = absurd (true≢false k)
revision_of_20 false true h k = (refl, refl)
revision_of_20 false false h k = absurd (true≢false h)

revision_of_12 : (x : Bool) → not (eqb 12 (cond x 12 20)) ≡ false → x ≡ true
revision_of_12 true k = refl
revision_of_12 false k = absurd (true≢false k)

-- ---- the first word again

-- a first word of revision v with no other bits: the revision and the effective bit
first_bits : (w v : ℕ) → w / 0x1000000 ≡ v → w % 0x1000000 / 2 ≡ 0 → w ≡ 0x1000000 * v + w % 2
first_bits w v h k = omega arith

bit_off : (x : ℕ) → x < 2 → eqb x 1 ≡ false → x ≡ 0
bit_off x l h = off (eqb-false x 1 h)
  where
    off : (x ≡ 1 → ⊥) → x ≡ 0
    off n = omega arith

first_again : (x : ℕ) (e : Bool) → x < 2 → eqb x 1 ≡ e → first_word e ≡ 0x2000000 + x
unfolding first_word
first_again x true l h = let k : x ≡ 1 = eqb-true x 1 h in omega arith
first_again x false l h = let k : x ≡ 0 = bit_off x l h in omega arith

-- ---- writing what was read from version 2

writes_as : (f : FileCapabilities) {s : List ℕ} → bits_above40 f.permitted f.inheritable ≡ false
    → version2_bytes f.permitted f.inheritable f.effective ≡ s → WritesAs f s
writes_as f h e =
    let answer : (old : List ℕ) → 20 ≤ length old → written f.permitted f.inheritable (length old) ≡ Ok 20 =
    λ old k. is_done f.permitted f.inheritable (length old) h k in
    record {
      answers = answer;
      leaves = λ old k.
          done_buffer f.permitted f.inheritable f.effective old (answer old k)
          ∙ ap (λ (t : List ℕ). t ++ drop 20 old) e;
    }

low_of : (l h : ℕ) → l < 0x100000000 → set_of l h % 0x100000000 ≡ l
low_of l h k = omega arith

high_of : (l h : ℕ) → l < 0x100000000 → set_of l h / 0x100000000 ≡ h
high_of l h k = omega arith

word_by_word : (s : List ℕ) → length s ≡ 20 → take 4 (drop 0 s) ++ take 4 (drop 4 s) ++ take 4 (drop 8 s) ++ take 4 (drop 12 s) ++ take 4 (drop 16 s) ≡ s
word_by_word s h =
    sym (take-add 16 4 s ∙ ap (λ (t : List ℕ). t ++ take 4 (drop 16 s))
    (take-add 12 4 s ∙ ap (λ (t : List ℕ). t ++ take 4 (drop 12 s)) (take-add 8 4 s ∙ ap (λ (t : List ℕ). t ++ take 4 (drop 8 s)) (take-add 4 4 s))))
    ∙ take_all 20 s (omega arith)

five_again : (s : List ℕ) → Bytes s → length s ≡ 20
    → word_bytes (word_at s 0) ++ word_bytes (word_at s 4) ++ word_bytes (word_at s 8) ++ word_bytes (word_at s 12) ++ word_bytes (word_at s 16) ≡ s
five_again s b h =
    simp
    (word_again s b 0 (omega arith), word_again s b 4 (omega arith), word_again s b 8 (omega arith), word_again s b 12 (omega arith), word_again s b 16 (omega arith))
    (word_by_word s h)

version2_again : (s : List ℕ) → Bytes s → length s ≡ 20 → revision s ≡ 2 → other_bits s ≡ false
    → version2_bytes (version2 s).permitted (version2 s).inheritable (version2 s).effective ≡ s
unfolding version2_bytes version2
version2_again s b h v o =
    let first : word_at s 0 ≡ 0x2000000 + word_at s 0 % 2 = first_bits (word_at s 0) 2 v (eqb-true _ _ (not-false _ o)) in
    simp (
      first_again (word_at s 0 % 2) _ (omega arith) refl,
      ← first,
      low_of (word_at s 4) (word_at s 12) (word_lt s b 4),
      high_of (word_at s 4) (word_at s 12) (word_lt s b 4),
      low_of (word_at s 8) (word_at s 16) (word_lt s b 8),
      high_of (word_at s 8) (word_at s 16) (word_lt s b 8),
    )
    (five_again s b h)

again : (s : List ℕ) (f : FileCapabilities) → Bytes s → length s ≡ 20 → reading s ≡ Ok f → WritesAs f s
unfolding file_of length_of
again s f b h r =
    let k : Held s f = held s f (ap (λ (n : ℕ). eqb n 0) h) r in
    let v = revision_of_20 (eqb (revision s) 1) (eqb (revision s) 2) k.version (simp h at k.sized) in
    let is : version2 s ≡ f = simp v.0 at k.is in
    writes_as f k.range
    (ap (λ (g : FileCapabilities). version2_bytes g.permitted g.inheritable g.effective) (sym is)
    ∙ version2_again s b h (eqb-true (revision s) 2 v.1) k.clean)

-- ---- writing what was read from version 1

-- the first byte of a readable version 1 attribute is its effective bit
first_byte : (s : List ℕ) → Bytes s → revision s ≡ 1 → other_bits s ≡ false → byte_at s 0 ≡ word_at s 0 % 2
unfolding word_at
first_byte s b v o =
    let p : word_at s 0 ≡ 0x1000000 * 1 + word_at s 0 % 2 = first_bits (word_at s 0) 1 v (eqb-true _ _ (not-false _ o)) in
    let q : byte_at s 0 ≡ word_at s 0 % 0x100 = omega (arith, b.small 0) in
    q ∙ low (word_at s 0) p
  where
    low : (w : ℕ) → w ≡ 0x1000000 * 1 + w % 2 → w % 0x100 ≡ w % 2
    low w p = omega arith

-- version 2's first word with that effective bit
first_raised : (x : ℕ) (e : Bool) → x < 2 → eqb x 1 ≡ e → word_bytes (first_word e) ≡ x ∷ 0 ∷ 0 ∷ 2 ∷ []
unfolding word_bytes first_word
first_raised x true l h = ap (λ (y : ℕ). y ∷ 0 ∷ 0 ∷ 2 ∷ []) (sym (eqb-true x 1 h))
first_raised x false l h = ap (λ (y : ℕ). y ∷ 0 ∷ 0 ∷ 2 ∷ []) (sym (bit_off x l h))

small_low : (w : ℕ) → w < 0x100000000 → w % 0x100000000 ≡ w
small_low w h = omega arith

small_high : (w : ℕ) → w < 0x100000000 → w / 0x100000000 ≡ 0
small_high w h = omega arith

two_words : (s : List ℕ) → length s ≡ 12 → take 4 (drop 4 s) ++ take 4 (drop 8 s) ≡ drop 4 s
two_words s h =
    ap (λ (t : List ℕ). take 4 (drop 4 s) ++ take 4 t) (sym (drop-drop 4 4 s)) ∙ sym (take-add 4 4 (drop 4 s))
    ∙ take_all 8 (drop 4 s) (simp length-drop (omega arith))

zero_word : word_bytes 0 ≡ 0 ∷ 0 ∷ 0 ∷ 0 ∷ []
unfolding word_bytes
zero_word = refl

version1_raised : (s : List ℕ) → Bytes s → length s ≡ 12 → revision s ≡ 1 → other_bits s ≡ false
    → version2_bytes (version1 s).permitted (version1 s).inheritable (version1 s).effective ≡ as_version2 s
unfolding version2_bytes version1
version1_raised s b h v o =
    simp (
      small_low (word_at s 4) (word_lt s b 4),
      small_high (word_at s 4) (word_lt s b 4),
      small_low (word_at s 8) (word_lt s b 8),
      small_high (word_at s 8) (word_lt s b 8),
      first_raised (word_at s 0 % 2) _ (omega arith) refl,
      ← first_byte s b v o,
      word_again s b 4 (omega arith),
      word_again s b 8 (omega arith),
      zero_word,
    )
    (rw (two_words s h, append_assoc (drop 4 s) (replicate 4 0) (replicate 4 0)))

raised : (s : List ℕ) (f : FileCapabilities) → Bytes s → length s ≡ 12 → reading s ≡ Ok f → WritesAs f (as_version2 s)
unfolding file_of length_of
raised s f b h r =
    let k : Held s f = held s f (ap (λ (n : ℕ). eqb n 0) h) r in
    let v : eqb (revision s) 1 ≡ true = revision_of_12 (eqb (revision s) 1) (simp h at k.sized) in
    let is : version1 s ≡ f = simp v at k.is in
    writes_as f k.range
    (ap (λ (g : FileCapabilities). version2_bytes g.permitted g.inheritable g.effective) (sym is)
    ∙ version1_raised s b h (eqb-true (revision s) 1 v) k.clean)

pub round_trip : RoundTrip
round_trip = record { back = back; again = again; raised = raised }

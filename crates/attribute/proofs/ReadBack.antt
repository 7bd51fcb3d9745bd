-- Reading what was written gives the two sets and the bit back. Assumes nothing.
use Prim.Native.Nat.{ℕ, ◌/◌, ◌%◌, ◌<◌}
use mathlib.Core.Path.{◌≡◌, refl, ap, ◌∙◌}
use mathlib.Core.Bool.{Bool, true, false}
use mathlib.Core.List.{List, ◌++◌}
use native.Mathlib.Omega.{arith}
use lib.Dec.{eqb}
use lib.ListN.{length, take, drop}
use Rattle.capabilities.specs.Sets.{full, union, Within}
use Rattle.capabilities.proofs.Inclusion.{not_outside, union_sub_l, union_sub_r, full_lt}
use Rattle.attribute.specs.Words.{Bytes, word_at, word_bytes, set_of}
use Rattle.attribute.specs.Reader.{bits_above40, file_of, length_of, reading, unreadable, version2}
use Rattle.attribute.specs.Writer.{first_word, version2_bytes, written, buffer_after}
use Rattle.std.specs.Prelude.{Ok, IsOk}
use Rattle.attribute.proofs.Outcomes.{is_done, done_facts, done_buffer}
use Rattle.attribute.proofs.Words.{append_bytes, word_bytes_lem, word_of_bytes}

-- ---- the first word

first_lt : (e : Bool) → first_word e < 0x100000000
unfolding first_word
first_lt true = omega arith
first_lt false = omega arith

first_revision : (e : Bool) → first_word e / 0x1000000 ≡ 2
unfolding first_word
first_revision true = refl
first_revision false = refl

first_other_bits : (e : Bool) → first_word e % 0x1000000 / 2 ≡ 0
unfolding first_word
first_other_bits true = refl
first_other_bits false = refl

first_effective : (e : Bool) → eqb (first_word e % 2) 1 ≡ e
unfolding first_word
first_effective true = refl
first_effective false = refl

-- ---- the sets' words

halves : (a : ℕ) → set_of (a % 0x100000000) (a / 0x100000000) ≡ a
halves a = omega arith

low_lt : (a : ℕ) → a % 0x100000000 < 0x100000000
low_lt a = omega arith

high_lt : (a : ℕ) → Within a full → a / 0x100000000 < 0x100000000
high_lt a h = let k : a < 0x20000000000 = full_lt h in omega arith

-- a written attribute's words
module _ (p i : ℕ) (e : Bool) where
  word_0 : word_at (version2_bytes p i e) 0 ≡ first_word e
  unfolding word_at version2_bytes word_bytes
  word_0 = word_of_bytes (first_word e) (first_lt e)

  word_4 : word_at (version2_bytes p i e) 4 ≡ p % 0x100000000
  unfolding word_at version2_bytes word_bytes
  word_4 = word_of_bytes (p % 0x100000000) (low_lt p)

  word_8 : word_at (version2_bytes p i e) 8 ≡ i % 0x100000000
  unfolding word_at version2_bytes word_bytes
  word_8 = word_of_bytes (i % 0x100000000) (low_lt i)

  word_12 : Within p full → word_at (version2_bytes p i e) 12 ≡ p / 0x100000000
  unfolding word_at version2_bytes word_bytes
  word_12 h = word_of_bytes (p / 0x100000000) (high_lt p h)

  word_16 : Within i full → word_at (version2_bytes p i e) 16 ≡ i / 0x100000000
  unfolding word_at version2_bytes word_bytes
  word_16 h = word_of_bytes (i / 0x100000000) (high_lt i h)

  written_length : length (version2_bytes p i e) ≡ 20
  unfolding version2_bytes word_bytes
  written_length = refl

  -- the written form itself reads back
  pub read_back : bits_above40 p i ≡ false → reading (version2_bytes p i e) ≡ Ok (record { attached = true; permitted = p; inheritable = i; effective = e })
  unfolding reading unreadable file_of version2 length_of
  read_back h =
      let k : Within (union p i) full = not_outside (union p i) full h in
      simp
      (written_length, word_0, word_4, word_8, word_12 (union_sub_l p i k), word_16 (union_sub_r p i k), first_revision, first_other_bits, first_effective, halves, h)

  -- its elements are bytes
  pub written_bytes : Bytes (version2_bytes p i e)
  unfolding version2_bytes
  written_bytes =
      append_bytes _ _ (append_bytes _ _ (append_bytes _ _ (append_bytes _ _ (word_bytes_lem _) (word_bytes_lem _)) (word_bytes_lem _)) (word_bytes_lem _)) (word_bytes_lem _)

  first_twenty : (t : List ℕ) → take 20 (version2_bytes p i e ++ t) ≡ version2_bytes p i e
  unfolding version2_bytes word_bytes
  first_twenty t = refl

pub back : (p i : ℕ) (e : Bool) (old : List ℕ) → IsOk (written p i (length old))
    → reading (take 20 (buffer_after p i e old)) ≡ Ok (record { attached = true; permitted = p; inheritable = i; effective = e })
back p i e old h =
    let k = done_facts p i (length old) h in
    ap (λ (t : List ℕ). reading (take 20 t)) (done_buffer p i e old (is_done p i (length old) k.0 k.1)) ∙ ap reading (first_twenty p i e (drop 20 old))
    ∙ read_back p i e k.0

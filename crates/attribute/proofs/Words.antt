-- Words and their bytes. Assumes nothing.
use Prim.Native.Nat.{ℕ, zero, suc, ◌+◌, ◌*◌, ◌/◌, ◌%◌, ◌≤◌, ◌<◌}
use mathlib.Core.Path.{◌≡◌, sym, ◌∙◌}
use mathlib.Core.List.{List, [], ◌∷◌, ◌++◌}
use native.Mathlib.Omega.{arith}
use lib.ListN.{length, take, drop}
use lib.Seq.{drop-cons}
use Rattle.attribute.specs.Words.{Bytes, byte_at, word_at, word_bytes}

low_byte : (w : ℕ) → w % 0x100 + 0x100 * (w / 0x100) ≡ w
low_byte w = omega arith

top_byte : (w : ℕ) → w < 0x100000000 → w / 0x100 / 0x100 / 0x100 % 0x100 ≡ w / 0x100 / 0x100 / 0x100
top_byte w h = let k : w / 0x100 / 0x100 / 0x100 < 0x100 = omega arith in omega arith

byte_by_byte : (w x y z a b c d : ℕ) → a + 0x100 * x ≡ w → b + 0x100 * y ≡ x → c + 0x100 * z ≡ y → d ≡ z → a + 0x100 * b + 0x10000 * c + 0x1000000 * d ≡ w
byte_by_byte w x y z a b c d p q r e = omega arith

-- a word is made of its bytes again
pub word_of_bytes : (w : ℕ) → w < 0x100000000 → w % 0x100 + 0x100 * (w / 0x100 % 0x100) + 0x10000 * (w / 0x10000 % 0x100) + 0x1000000 * (w / 0x1000000 % 0x100) ≡ w
word_of_bytes w h =
    let p : w / 0x10000 ≡ w / 0x100 / 0x100 = omega arith in
    let q : w / 0x1000000 ≡ w / 0x100 / 0x100 / 0x100 = omega arith in
    rw (p, q)
    (byte_by_byte w (w / 0x100) (w / 0x100 / 0x100) (w / 0x100 / 0x100 / 0x100) _ _ _ _ (low_byte w) (low_byte (w / 0x100)) (low_byte (w / 0x100 / 0x100))
    (top_byte w h))

module _ (a b c d : ℕ) (ha : a < 256) (hb : b < 256) (hc : c < 256) (hd : d < 256) where
  abbrev joined : ℕ
  joined = a + 0x100 * b + 0x10000 * c + 0x1000000 * d

  byte_0 : joined % 0x100 ≡ a
  byte_0 = omega arith

  byte_1 : joined / 0x100 % 0x100 ≡ b
  byte_1 = omega arith

  byte_2 : joined / 0x10000 % 0x100 ≡ c
  byte_2 = omega arith

  byte_3 : joined / 0x1000000 % 0x100 ≡ d
  byte_3 = omega arith

  bytes_of_word : word_bytes joined ≡ a ∷ b ∷ c ∷ d ∷ []
  unfolding word_bytes
  bytes_of_word = λ j. byte_0 j ∷ byte_1 j ∷ byte_2 j ∷ byte_3 j ∷ []

four_bytes : (s : List ℕ) (at : ℕ) → at + 4 ≤ length s → take 4 (drop at s) ≡ byte_at s at ∷ byte_at s (at + 1) ∷ byte_at s (at + 2) ∷ byte_at s (at + 3) ∷ []
four_bytes s at h =
    let p : at + 1 ≡ suc at = omega arith in
    let q : at + 2 ≡ suc (suc at) = omega arith in
    let r : at + 3 ≡ suc (suc (suc at)) = omega arith in
    let k : at < length s = omega arith in
    let l : suc at < length s = omega arith in
    let m : suc (suc at) < length s = omega arith in
    let n : suc (suc (suc at)) < length s = omega arith in
    rw (drop-cons s at 0 k, drop-cons s (suc at) 0 l, drop-cons s (suc (suc at)) 0 m, drop-cons s (suc (suc (suc at))) 0 n, p, q, r)

module _ (s : List ℕ) (b : Bytes s) (at : ℕ) where
  -- the bytes of a word that was read are those that stand there
  pub word_again : at + 4 ≤ length s → word_bytes (word_at s at) ≡ take 4 (drop at s)
  unfolding word_at
  word_again h =
      bytes_of_word (byte_at s at) (byte_at s (at + 1)) (byte_at s (at + 2)) (byte_at s (at + 3)) (b.small at) (b.small (at + 1)) (b.small (at + 2)) (b.small (at + 3))
      ∙ sym (four_bytes s at h)

  pub word_lt : word_at s at < 0x100000000
  unfolding word_at
  word_lt = omega (arith, b.small at, b.small (at + 1), b.small (at + 2), b.small (at + 3))

-- ---- lists that are bytes

pub no_bytes : Bytes []
no_bytes = record { small = λ at. omega arith }

pub one_more : (x : ℕ) (s : List ℕ) → x < 256 → Bytes s → Bytes (x ∷ s)
one_more x s h b = record { small = small_at }
  where
    small_at : (at : ℕ) → byte_at (x ∷ s) at < 256
    small_at zero = h
    small_at (suc at) = b.small at

pub append_bytes : (s t : List ℕ) → Bytes s → Bytes t → Bytes (s ++ t)
append_bytes [] t b d = d
append_bytes (x ∷ s) t b d = one_more x (s ++ t) (b.small 0) (append_bytes s t (record { small = λ at. b.small (suc at) }) d)

pub word_bytes_lem : (w : ℕ) → Bytes (word_bytes w)
unfolding word_bytes
word_bytes_lem w = one_more _ _ (omega arith) (one_more _ _ (omega arith) (one_more _ _ (omega arith) (one_more _ _ (omega arith) no_bytes)))

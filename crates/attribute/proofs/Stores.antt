-- What the writer's stores come to. Assumes nothing.
use Prim.Native.Nat.{ℕ, ◌+◌, ◌-◌, ◌≤◌}
use mathlib.Core.Path.{◌≡◌, refl, sym, ap, ◌∙◌}
use mathlib.Core.Bool.{Bool}
use mathlib.Core.List.{List, ◌++◌, append_assoc}
use native.Mathlib.Omega.{arith}
use lib.ListN.{length, take, drop}
use lib.Seq.{sets, sets-eq}
use borrow.Rule.Slice.PartMut.{put_mid}
use Rattle.std.specs.Int.{to_le_bytes, w32}
use Rattle.std.proofs.lemmas.Slice.{put_mid-paste}
use Rattle.std.proofs.lemmas.List.Edits.{paste_all}
use Rattle.attribute.specs.Words.{word_bytes}
use Rattle.attribute.specs.Writer.{version2_bytes}

-- a part of a list written over is that list with the part's elements set
pub part_set : (l vs : List ℕ) (at n : ℕ) → n ≡ length vs → at + n ≤ length l → put_mid at (at + n - at) l vs ≡ sets l at vs
part_set l vs at n e h =
    put_mid-paste at (at + n - at) l vs vs n refl (omega arith) e ∙ paste_all l at vs n e
    ∙ ap (λ (m : ℕ). take at l ++ (vs ++ drop (at + m) l)) e ∙ sym (append_assoc (take at l) vs (drop (at + length vs) l)) ∙ sym (sets-eq vs l at (omega arith))

-- the bytes of a word are those that the library writes
pub le_word : (w : ℕ) → to_le_bytes w32 w ≡ word_bytes w
unfolding word_bytes
le_word w = refl

-- five words, each after the last
pub five_words : (l : List ℕ) (a b c d e : ℕ) {u v w x y : List ℕ} → u ≡ sets l 0 (word_bytes a) → v ≡ sets u 4 (word_bytes b) → w ≡ sets v 8 (word_bytes c)
    → x ≡ sets w 12 (word_bytes d) → y ≡ sets x 16 (word_bytes e)
    → y ≡ sets l 0 (word_bytes a ++ word_bytes b ++ word_bytes c ++ word_bytes d ++ word_bytes e)
unfolding word_bytes
five_words l a b c d e p q r s t =
    t ∙ ap (λ (m : List ℕ). sets m 16 (word_bytes e))
    (s
    ∙ ap (λ (m : List ℕ). sets m 12 (word_bytes d))
    (r ∙ ap (λ (m : List ℕ). sets m 8 (word_bytes c)) (q ∙ ap (λ (m : List ℕ). sets m 4 (word_bytes b)) p)))

-- stored at the start, an attribute is followed by what was there past its 20 bytes
pub stored_in_front : (l : List ℕ) (p i : ℕ) (e : Bool) → 20 ≤ length l → sets l 0 (version2_bytes p i e) ≡ version2_bytes p i e ++ drop 20 l
unfolding version2_bytes word_bytes
stored_in_front l p i e h = sets-eq (version2_bytes p i e) l 0 h

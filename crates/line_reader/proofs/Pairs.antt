-- Laws of an attribute's line at a position: bytes of two hex digits each. Assumes nothing.
use Rattle.std.proofs.Common.{◌≡◌, ℕ, zero, suc, ◌+◌, ◌*◌, ◌<◌, ◌≤◌, false, cond, ◌&&◌, eqb, ltb, List, [], ◌∷◌, ◌++◌, length, None, get_or, drop, set, replicate, sym, refl, ap, ◌∙◌, add-one, arith, length-drop, drop_of_length-le, drop-cons, drop-drop}
use Rattle.format.specs.Line.{read, fault, newline}
use Rattle.format.specs.Step.{read_pairs}
use Rattle.hex_tables.specs.Tables.{hex_digit_by, read_pairs_by}
use Rattle.line_reader.specs.Inside.{line_at}
use Rattle.line_reader.proofs.LineLaws.{key_short}

-- ---- one pair of digits

module _ (table : List ℕ) where
  newline_read : (n : ℕ) (bs t : List ℕ) → read_pairs_by table n bs (newline ∷ t) ≡ read bs t
  unfolding read_pairs_by read_pairs
  newline_read zero bs t = refl
  newline_read (suc n) bs [] = refl
  newline_read (suc n) bs (c ∷ t) = refl

  no_digit_first : (n b : ℕ) (bs t : List ℕ) → eqb b newline ≡ false → ltb (hex_digit_by table b) 16 ≡ false → read_pairs_by table (suc n) bs (b ∷ t) ≡ fault
  unfolding read_pairs_by read_pairs
  no_digit_first n b bs [] e g = rw e
  no_digit_first n b bs (c ∷ t) e g = rw (e, g)

  module _ (i : ℕ) (text : List ℕ) (h : i < length text) where
    pub pairs_newline : (n : ℕ) (bs : List ℕ) → get_or text i 0 ≡ newline → read_pairs_by table n bs (drop i text) ≡ read bs (drop (i + 1) text)
    pairs_newline n bs e = rw (drop-cons text i 0 h, e, add-one i) (newline_read n bs (drop (suc i) text))

    -- there are as many bytes as there can be
    pub pairs_full : (n : ℕ) (bs : List ℕ) → n ≡ 0 → eqb (get_or text i 0) newline ≡ false → read_pairs_by table n bs (drop i text) ≡ fault
    unfolding read_pairs_by read_pairs
    pairs_full n bs e g = rw (e, drop-cons text i 0 h, g)

    pub pairs_no_digit : (n m : ℕ) (bs : List ℕ) → n ≡ m + 1 → eqb (get_or text i 0) newline ≡ false → ltb (hex_digit_by table (get_or text i 0)) 16 ≡ false
        → read_pairs_by table n bs (drop i text) ≡ fault
    pairs_no_digit n m bs e g k = rw (e, add-one m, drop-cons text i 0 h) (no_digit_first m (get_or text i 0) bs (drop (suc i) text) g k)

    -- the text ends after one digit
    pub pairs_one : (n m : ℕ) (bs : List ℕ) → n ≡ m + 1 → length text ≤ i + 1 → eqb (get_or text i 0) newline ≡ false → read_pairs_by table n bs (drop i text) ≡ fault
    unfolding read_pairs_by read_pairs
    pairs_one n m bs e g k =
        let p : drop (suc i) text ≡ [] = drop_of_length-le text {i = suc i} (omega (arith, g)) in
        rw (e, add-one m, drop-cons text i 0 h, p, k)

    pub pairs_two : (n m j : ℕ) (bs : List ℕ) → n ≡ m + 1 → j ≡ i + 1 → j < length text → eqb (get_or text i 0) newline ≡ false
        → read_pairs_by table n bs (drop i text)
        ≡ cond (ltb (hex_digit_by table (get_or text i 0)) 16 && ltb (hex_digit_by table (get_or text j 0)) 16)
        (read_pairs_by table m (bs ++ ((hex_digit_by table (get_or text i 0) * 16 + hex_digit_by table (get_or text j 0)) ∷ [])) (drop (j + 1) text)) fault
    unfolding read_pairs_by read_pairs
    pairs_two n m j bs e f g k =
        let q : suc i < length text = omega (arith, f, g) in
        rw (e, add-one m, f, add-one i, drop-cons text i 0 h, drop-cons text (suc i) 0 q, add-one (suc i), k)

  pub pairs_end : (i : ℕ) (text : List ℕ) → length text ≤ i → (n : ℕ) (bs : List ℕ) → read_pairs_by table n bs (drop i text) ≡ fault
  unfolding read_pairs_by read_pairs
  pairs_end i text h zero bs = rw (drop_of_length-le text h)
  pairs_end i text h (suc n) bs = rw (drop_of_length-le text h)

-- ---- the array of bytes

drop_set : (l : List ℕ) (n x : ℕ) → drop (suc n) (set l n x) ≡ drop (suc n) l
drop_set [] n x = refl
drop_set (y ∷ l) zero x = refl
drop_set (y ∷ l) (suc n) x = drop_set l n x

-- one byte more leaves one zero fewer
pub zeros_left : (l : List ℕ) (n k m x : ℕ) → k ≡ m + 1 → drop n l ≡ replicate k 0 → drop (n + 1) (set l n x) ≡ replicate m 0
zeros_left l n k m x e h =
    let g : drop n l ≡ replicate (suc m) 0 = h ∙ rw (e, add-one m) in
    let d : drop (suc n) l ≡ drop 1 (drop n l) = rw (← (add-one n)) (sym (drop-drop 1 n l)) in
    rw (add-one n) (drop_set l n x ∙ d ∙ ap (drop 1) g)

-- ---- the line

no_pairs : (table u : List ℕ) → length u < 1 → read_pairs_by table 24 [] u ≡ fault
unfolding read_pairs_by
no_pairs table [] h = refl
no_pairs table (b ∷ u) h = absurd (omega arith)

-- too short for the key
pub bytes_line_short : (table key text : List ℕ) (at : ℕ) → length text < at + length key → line_at key (read_pairs_by table 24 []) text at ≡ None
unfolding line_at
bytes_line_short table key text at h = rw (key_short 1 key (read_pairs_by table 24 []) (drop at text) (no_pairs table) (omega (arith, length-drop at text)))

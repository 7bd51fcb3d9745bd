-- What stands in the list: which keys, how often, in which order. Assumes nothing.
use mathlib.Core.Path.{◌≡◌, refl, ap, ◌∙◌}
use mathlib.Core.List.{List, [], ◌∷◌, ◌++◌, append_assoc}
use mathlib.Core.Bool.{Bool, true, false, cond}
use Prim.Native.Nat.{ℕ, zero, suc, ◌<◌, ◌≤◌}
use native.Mathlib.Omega.{arith}
use borrow.Author.Tests.{ltb-true, eqb-true, eq-eqb, ne_eqb}
use lib.Dec.{eqb, ltb}
use lib.ListN.{length, get_or, length-append}
use Rattle.format.specs.Line.{bytes, Kind, kind, decimal, value_text, newline}
use Rattle.format.specs.Sheet.{id_kinds, uid_kinds, set_kinds}
use Rattle.status.specs.declared.Status.{Status}
use Rattle.status.specs.Lines.{lines_of}
use Rattle.status.specs.RoundTrip.{Lacks}
use Rattle.status.specs.Comparing.{id_keys, set_keys, flag_keys, keys, values_of, difference_text, differences, differing, last_line, list_text}
use Rattle.status.specs.Listed.{but_last, space, first_words, listed_keys, differing_keys, same, times, key_of, sheet_kinds_of, Listed}
use Rattle.status.proofs.Lacking.{both_lack, value_lacks, up_to_first}
use Rattle.status.proofs.Lines.{line_then}

-- ---- empty exactly if all keys agree

agreeing : (ks : List Kind) (vs : List ℕ) → differences ks vs vs ≡ []
unfolding differences
agreeing [] vs = refl
agreeing (k ∷ ks) [] = refl
agreeing (k ∷ ks) (v ∷ vs) = rw (eq-eqb v v refl) (agreeing ks vs)

empty : (predicted found : Status) → values_of predicted ≡ values_of found → list_text predicted found ≡ last_line
unfolding list_text differing
empty predicted found e =
    ap (λ (vs : List ℕ). differences keys vs (values_of found) ++ last_line) e ∙ ap (λ (t : List ℕ). t ++ last_line) (agreeing keys (values_of found))

-- a line is not empty
some_bytes : (k : Kind) (p f : ℕ) (t : List ℕ) → 1 ≤ length (difference_text k p f ++ t)
unfolding difference_text
some_bytes k p f t = simp length-append (omega arith)

same_cons : {v w : ℕ} {vs ws : List ℕ} → v ≡ w → vs ≡ ws → v ∷ vs ≡ w ∷ ws
same_cons p q = rw (p, q)

agree : (ks : List Kind) (ps fs : List ℕ) → length ps ≡ length ks → length fs ≡ length ks → length (differences ks ps fs) ≡ 0 → ps ≡ fs
unfolding differences
agree [] [] [] a b e = refl
agree [] (p ∷ ps) fs a b e = absurd (omega (arith, a))
agree [] [] (f ∷ fs) a b e = absurd (omega (arith, b))
agree (k ∷ ks) [] fs a b e = absurd (omega (arith, a))
agree (k ∷ ks) (p ∷ ps) [] a b e = absurd (omega (arith, b))
agree (k ∷ ks) (p ∷ ps) (f ∷ fs) a b e = by_test (eqb p f) refl e (agree ks ps fs (omega (arith, a)) (omega (arith, b)))
  where
    rest : List ℕ
    rest = differences ks ps fs

    by_test : (q : Bool) → eqb p f ≡ q → length (cond q rest (difference_text k p f ++ rest)) ≡ 0 → (length rest ≡ 0 → ps ≡ fs) → p ∷ ps ≡ f ∷ fs
    by_test true h z i = same_cons (eqb-true p f h) (i z)
    by_test false h z i = absurd (omega (arith, z, some_bytes k p f rest))

all_agree : (predicted found : Status) → list_text predicted found ≡ last_line → values_of predicted ≡ values_of found
unfolding list_text differing id_keys set_keys flag_keys keys
all_agree predicted found e =
    agree keys (values_of predicted) (values_of found) refl refl
    (omega (arith, ap length e, length-append (differences keys (values_of predicted) (values_of found)) last_line))

-- ---- the lines of the list

but_last_lem : (ls : List (List ℕ)) (l : List ℕ) → but_last (ls ++ (l ∷ [])) ≡ ls
unfolding but_last
but_last_lem [] l = refl
but_last_lem (k ∷ []) l = refl
but_last_lem (k ∷ m ∷ ls) l = ap (λ (xs : List (List ℕ)). k ∷ xs) (but_last_lem (m ∷ ls) l)

-- two tests that both hold
both : (p q : Bool) → cond p q false ≡ true → (p ≡ true) × (q ≡ true)
both true q e = (refl, e)
both false q e = absurd (let z : ◌≡◌ {A = ℕ} 0 1 = cc in omega arith)

-- every byte is above that of a space, and so in every key
unfoldable high : List ℕ → Bool
high [] = true
high (b ∷ t) = cond (ltb space b) (high t) false

unfoldable all_high : List Kind → Bool
all_high [] = true
all_high (k ∷ ks) = cond (high k.key) (all_high ks) false

high_lacks : (s : ℕ) (t : List ℕ) → s ≤ space → high t ≡ true → Lacks s t
unfolding high Lacks
high_lacks s [] l h = tt
high_lacks s (b ∷ t) l h =
    let r = both (ltb space b) (high t) h in
    (ne_eqb b s (λ e. omega (arith, e, ltb-true space b r.0)), high_lacks s t l r.1)

-- a line without its newline
abbrev line : Kind → ℕ → ℕ → List ℕ
line k p f = k.key ++ (space ∷ (value_text k.form p ++ (space ∷ value_text k.form f)))

line_lacks : (k : Kind) (p f : ℕ) → high k.key ≡ true → Lacks newline (line k p f)
unfolding Lacks
line_lacks k p f h =
    both_lack newline k.key (space ∷ _) (high_lacks newline k.key (omega arith) h) (
      refl,
      both_lack newline (value_text k.form p) (space ∷ _) (value_lacks newline k.form p (omega arith)) (refl, value_lacks newline k.form f (omega arith)),
    )

-- and with it
line_ended : (k : Kind) (p f : ℕ) (t : List ℕ) → difference_text k p f ++ t ≡ line k p f ++ (newline ∷ t)
unfolding difference_text
line_ended k p f t = simp append_assoc

-- lines whose first words are these, and then the last line
record Names (text : List ℕ) (words : List (List ℕ)) : Type 0 where
  lines : List (List ℕ)
  parted : lines_of (text ++ last_line) ≡ lines ++ (bytes "not compared: securebits, group IDs" ∷ [])
  named : first_words lines ≡ words

one_more : (k : Kind) (p f : ℕ) (t : List ℕ) (words : List (List ℕ)) → high k.key ≡ true → Names t words → Names (difference_text k p f ++ t) (k.key ∷ words)
unfolding first_words
one_more k p f t words h n =
    record {
      lines = line k p f ∷ n.lines;
      parted =
          ap lines_of (append_assoc (difference_text k p f) t last_line ∙ line_ended k p f (t ++ last_line))
          ∙ line_then (line k p f) (t ++ last_line) (line_lacks k p f h)
          ∙ ap (λ (ls : List (List ℕ)). line k p f ∷ ls) n.parted;
      named = rw (up_to_first space k.key _ (high_lacks space k.key (omega arith) h), n.named);
    }

names : (ks : List Kind) (ps fs : List ℕ) → all_high ks ≡ true → Names (differences ks ps fs) (differing_keys ks ps fs)
unfolding differences differing_keys all_high lines_of last_line first_words
names [] ps fs h = record { lines = []; parted = refl; named = refl }
names (k ∷ ks) [] fs h = record { lines = []; parted = refl; named = refl }
names (k ∷ ks) (p ∷ ps) [] h = record { lines = []; parted = refl; named = refl }
names (k ∷ ks) (p ∷ ps) (f ∷ fs) h = let r = both (high k.key) (all_high ks) h in by_test (eqb p f) r.0 (names ks ps fs r.1)
  where
    by_test : (q : Bool) → high k.key ≡ true → Names (differences ks ps fs) (differing_keys ks ps fs)
        → Names (cond q (differences ks ps fs) (difference_text k p f ++ differences ks ps fs)) (cond q (differing_keys ks ps fs) (k.key ∷ differing_keys ks ps fs))
    by_test true g n = n
    by_test false g n = one_more k p f (differences ks ps fs) (differing_keys ks ps fs) g n

in_order : (predicted found : Status) → listed_keys (list_text predicted found) ≡ differing_keys keys (values_of predicted) (values_of found)
unfolding listed_keys list_text differing id_keys set_keys flag_keys keys high all_high
in_order predicted found =
    let n = names keys (values_of predicted) (values_of found) refl in
    ap (λ (ls : List (List ℕ)). first_words (but_last ls)) n.parted ∙ ap first_words (but_last_lem n.lines _) ∙ n.named

-- ---- each key once

same_self : (t : List ℕ) → same t t ≡ true
unfolding same
same_self [] = refl
same_self (b ∷ t) = rw (eq-eqb b b refl) (same_self t)

-- a text is none of these keys, whichever is laid beside the other; and no key is one of those after it
unfoldable none : List ℕ → List Kind → Bool
none t [] = true
none t (k ∷ ks) = cond (same t k.key) false (cond (same k.key t) false (none t ks))

unfoldable apart : List Kind → Bool
apart [] = true
apart (k ∷ ks) = cond (none k.key ks) (apart ks) false

neither : (p q r : Bool) → cond p false (cond q false r) ≡ true → (p ≡ false) × (q ≡ false) × (r ≡ true)
neither true q r e = absurd (let z : ◌≡◌ {A = ℕ} 0 1 = cc in omega arith)
neither false true r e = absurd (let z : ◌≡◌ {A = ℕ} 0 1 = cc in omega arith)
neither false false r e = (refl, refl, e)

module _ (t : List ℕ) where
  -- it is not named
  not_named : (ks : List Kind) (ps fs : List ℕ) → none t ks ≡ true → times t (differing_keys ks ps fs) ≡ 0
  unfolding none times differing_keys
  not_named [] ps fs h = refl
  not_named (k ∷ ks) [] fs h = refl
  not_named (k ∷ ks) (p ∷ ps) [] h = refl
  not_named (k ∷ ks) (p ∷ ps) (f ∷ fs) h =
      let r = neither (same t k.key) (same k.key t) (none t ks) h in
      by_test (eqb p f) r.0 (not_named ks ps fs r.2)
    where
      by_test : (q : Bool) → same t k.key ≡ false → times t (differing_keys ks ps fs) ≡ 0
          → times t (cond q (differing_keys ks ps fs) (k.key ∷ differing_keys ks ps fs)) ≡ 0
      by_test true s i = i
      by_test false s i = rw s i

  -- and no later key is it
  not_it : (ks : List Kind) (i : ℕ) (d : Kind) → none t ks ≡ true → i < length ks → same (get_or ks i d).key t ≡ false
  unfolding none
  not_it [] i d h l = absurd (omega (arith, l))
  not_it (k ∷ ks) zero d h l = (neither (same t k.key) (same k.key t) (none t ks) h).1
  not_it (k ∷ ks) (suc i) d h l = not_it ks i d (neither (same t k.key) (same k.key t) (none t ks) h).2 (omega (arith, l))

counted : (ks : List Kind) (ps fs : List ℕ) (i : ℕ) (d : Kind) → apart ks ≡ true → length ps ≡ length ks → length fs ≡ length ks → i < length ks
    → times (get_or ks i d).key (differing_keys ks ps fs) ≡ cond (eqb (get_or ps i 0) (get_or fs i 0)) 0 1
unfolding apart times differing_keys
counted [] ps fs i d h a b l = absurd (omega (arith, l))
counted (k ∷ ks) [] fs i d h a b l = absurd (omega (arith, a))
counted (k ∷ ks) (p ∷ ps) [] i d h a b l = absurd (omega (arith, b))
counted (k ∷ ks) (p ∷ ps) (f ∷ fs) zero d h a b l = by_test (eqb p f) (not_named k.key ks ps fs (both (none k.key ks) (apart ks) h).0)
  where
    by_test : (q : Bool) → times k.key (differing_keys ks ps fs) ≡ 0
        → times k.key (cond q (differing_keys ks ps fs) (k.key ∷ differing_keys ks ps fs)) ≡ cond q 0 1
    by_test true e = e
    by_test false e = rw (same_self k.key, e)
counted (k ∷ ks) (p ∷ ps) (f ∷ fs) (suc i) d h a b l =
    let r = both (none k.key ks) (apart ks) h in
    by_test (eqb p f) (not_it k.key ks i d r.0 (omega (arith, l))) ∙ counted ks ps fs i d r.1 (omega (arith, a)) (omega (arith, b)) (omega (arith, l))
  where
    by_test : (q : Bool) → same (get_or ks i d).key k.key ≡ false
        → times (get_or ks i d).key (cond q (differing_keys ks ps fs) (k.key ∷ differing_keys ks ps fs)) ≡ times (get_or ks i d).key (differing_keys ks ps fs)
    by_test true s = refl
    by_test false s = rw s

once : (predicted found : Status) (i : ℕ) → i < 10
    → times (key_of i) (listed_keys (list_text predicted found)) ≡ cond (eqb (get_or (values_of predicted) i 0) (get_or (values_of found) i 0)) 0 1
unfolding id_keys set_keys flag_keys keys none apart same
once predicted found i h =
    ap (times (key_of i)) (in_order predicted found) ∙ counted keys (values_of predicted) (values_of found) i (kind "" (decimal 0)) refl refl refl h

-- ---- the statement

order : sheet_kinds_of keys ≡ uid_kinds ++ (set_kinds ++ (kind "nnp=" (decimal 1) ∷ []))
unfolding sheet_kinds_of id_keys set_keys flag_keys keys id_kinds uid_kinds set_kinds
order = refl

pub listed : Listed
listed = record { sheet_order = order; empty = empty; all_agree = all_agree; in_order = in_order; once = once }

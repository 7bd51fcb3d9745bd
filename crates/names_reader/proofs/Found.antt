-- A name found, or none, and what it means for the reading. Assumes nothing.
use mathlib.Core.Path.{◌≡◌, refl, sym, ap, ◌∙◌}
use mathlib.Core.Logic.{inl, inr}
use mathlib.Core.List.{List, [], ◌∷◌, ◌++◌}
use mathlib.Core.Bool.{Bool, true, false, cond}
use Prim.Native.Nat.{ℕ, suc, ◌+◌, ◌≤◌, ◌<◌, max}
use native.Mathlib.Nat.{zero-add, add-zero}
use native.Mathlib.Omega.{arith}
use lib.Dec.{eqb}
use lib.ListN.{length, drop, get_or, take, length-drop, length-append, length-take, take-append-drop}
use lib.Seq.{drop-drop}
use Rattle.capabilities.specs.Sets.{single, full, union}
use Rattle.format.specs.Line.{bytes}
use Rattle.names.specs.declared.Sets.{Sets}
use Rattle.std.specs.Prelude.{Ok, Err}
use Rattle.names.specs.declared.ReadError.{ReadError}
use Rattle.names.specs.declared.ReadError.TheVariants.{Malformed}
use Rattle.names.specs.Names.{capability_names}
use Rattle.names.specs.Grammar.{no_sets, lower, lowered, Word, spelt, names, ◌among◌}
use Rattle.names.specs.Reading.{Reading, read_text, gap, every, after, word, operated, Step, go, stuck, later, told, past, within, step, run}
use Rattle.names.proofs.Words.{afters, among_after, alone_names}
use Rattle.names_reader.specs.Inside.{Row, row, rows_from, Parsed, from, read_at, common, rows, OneOf, find, Found, NameTold, NameEnd, NamesTold, SubjectEnd, operates}
use Rattle.names_reader.proofs.Steps.{gap_blank, read_go, read_stuck, read_end, read_same, done_operator, done_comma, done_stuck}
use Rattle.names_reader.proofs.Common.{common_nil, common_le, common_whole}
use Rattle.names_reader.proofs.Rows.{furthest, NoneAt, sorted_missing, one_sorted}

-- ---- a word that stands there is read

from_none : (r : Reading) → r ≡ from 0 r
from_none (Ok s) = refl
from_none (Err (Malformed n)) = ap (λ (n : ℕ). Err (Malformed n)) (sym (zero-add n))

later_from : (n : ℕ) (r : Reading) → later (from n r) ≡ from (suc n) r
later_from n (Ok s) = refl
later_from n (Err (Malformed k)) = let e : suc (n + k) ≡ suc n + k = omega arith in ap (λ (n : ℕ). Err (Malformed n)) e

from_from : (n m : ℕ) (r : Reading) → from n (from m r) ≡ from (n + m) r
from_from n m (Ok s) = refl
from_from n m (Err (Malformed k)) = let e : n + (m + k) ≡ n + m + k = omega arith in ap (λ (n : ℕ). Err (Malformed n)) e

within_some : (x : Word) (xs : List Word) (c : ℕ) (s : Sets) (o : Step) → x among xs → within xs c s o ≡ go (word xs c s)
unfolding ◌among◌
within_some x [] c s o h = absurd h
within_some x (y ∷ ys) c s o h = refl

word_from : (t : List ℕ) (m : ℕ) (j : Bool) (xs : List Word) (c : ℕ) (s : Sets) (u : List ℕ) → spelt (lowered t) m j among xs
    → run (word xs c s) (t ++ u) ≡ from (length t) (run (word (afters (lowered t) xs) c s) u)
unfolding lowered afters run step
word_from [] m j xs c s u h = from_none (run (word xs c s) u)
word_from (b ∷ t) m j xs c s u h =
    let g = among_after (lower b) (lowered t) m j xs h in
    ap (λ (x : Step). told x (λ n. run n (t ++ u))) (within_some (spelt (lowered t) m j) (after (lower b) xs) c s (past xs c s b) g)
    ∙ ap later (word_from t m j (after (lower b) xs) c s u g)
    ∙ later_from (length t) (run (word (afters (lowered t) (after (lower b) xs)) c s) u)

-- ---- no word stands there

longest : List Word → List ℕ → ℕ
longest [] t = 0
longest (spelt w m j ∷ xs) t = max (common w t) (longest xs t)

NoneWhole : List Word → List ℕ → Type 0
NoneWhole [] t = Unit
NoneWhole (spelt w m j ∷ xs) t = (common w t ≡ length w → ⊥) × NoneWhole xs t

-- one byte further on, if any word is left
grown : List Word → List ℕ → ℕ
grown [] t = 0
grown (x ∷ xs) t = suc (longest (x ∷ xs) t)

max_grown : (a : ℕ) (w : List ℕ) (m : ℕ) (j : Bool) (xs : List Word) (t : List ℕ) → common w t ≡ a → max (suc a) (grown xs t) ≡ grown (spelt w m j ∷ xs) t
unfolding grown longest
max_grown a w m j [] t h = rw h (omega arith)
max_grown a w m j (x ∷ xs) t h = rw h (omega arith)

longest_nil : (xs : List Word) → longest xs [] ≡ 0
unfolding longest
longest_nil [] = refl
longest_nil (spelt w m j ∷ xs) = rw (common_nil w, longest_nil xs)

longest_cons : (xs : List Word) (b : ℕ) (t : List ℕ) → longest xs (b ∷ t) ≡ grown (after (lower b) xs) t
unfolding longest after common
longest_cons [] b t = unfold grown in refl
longest_cons (spelt [] m j ∷ xs) b t = let i = longest_cons xs b t in omega arith
longest_cons (spelt (k ∷ ks) m j ∷ xs) b t = by_test (eqb (lower b) k) (longest_cons xs b t)
  where
    by_test : (p : Bool) → longest xs (b ∷ t) ≡ grown (after (lower b) xs) t
        → max (cond p (suc (common ks t)) 0) (longest xs (b ∷ t)) ≡ grown (cond p (spelt ks m j ∷ after (lower b) xs) (after (lower b) xs)) t
    by_test true i = rw i (max_grown (common ks t) ks m j (after (lower b) xs) t refl)
    by_test false i = omega arith

none_after : (xs : List Word) (b : ℕ) (t : List ℕ) → NoneWhole xs (b ∷ t) → NoneWhole (after (lower b) xs) t
unfolding NoneWhole after common
none_after [] b t h = tt
none_after (spelt [] m j ∷ xs) b t h = none_after xs b t h.1
none_after (spelt (k ∷ ks) m j ∷ xs) b t h = by_test (eqb (lower b) k) h.0 (none_after xs b t h.1)
  where
    by_test : (p : Bool) → (cond p (suc (common ks t)) 0 ≡ suc (length ks) → ⊥) → NoneWhole (after (lower b) xs) t
        → NoneWhole (cond p (spelt ks m j ∷ after (lower b) xs) (after (lower b) xs)) t
    by_test true f i = (λ e. f (ap suc e), i)
    by_test false f i = i

past_none : (xs : List Word) (c : ℕ) (s : Sets) (b : ℕ) (t : List ℕ) → NoneWhole xs t → past xs c s b ≡ stuck
unfolding NoneWhole past common
past_none [] c s b t h = refl
past_none (spelt [] m j ∷ xs) c s b t h = absurd (h.0 refl)
past_none (spelt (k ∷ ks) m j ∷ xs) c s b t h = refl

none_step : (ys : List Word) (c : ℕ) (s : Sets) (t : List ℕ) (o : Step) → o ≡ stuck → (run (word ys c s) t ≡ Err (Malformed (longest ys t)))
    → told (within ys c s o) (λ n. run n t) ≡ Err (Malformed (grown ys t))
unfolding grown
none_step [] c s t o e i = rw e
none_step (y ∷ ys) c s t o e i = ap later i

none_read : (t : List ℕ) (xs : List Word) (c : ℕ) (s : Sets) → NoneWhole xs t → run (word xs c s) t ≡ Err (Malformed (longest xs t))
unfolding run step
none_read [] xs c s h = ap (λ (n : ℕ). Err (Malformed n)) (sym (longest_nil xs))
none_read (b ∷ t) xs c s h =
    none_step (after (lower b) xs) c s t (past xs c s b) (past_none xs c s b (b ∷ t) h) (none_read t (after (lower b) xs) c s (none_after xs b t h))
    ∙ ap (λ (n : ℕ). Err (Malformed n)) (sym (longest_cons xs b t))

-- ---- all names begin with `cap_`

abbrev cap : List ℕ
cap = bytes "cap_"

-- the rows before they are sorted
abbrev unsorted : List Row
unsorted = rows_from 0 capability_names

-- the name of each row
unfoldable worded : List Row → List Word
worded [] = []
worded (row w n ∷ xs) = spelt (cap ++ w) (single n) true ∷ worded xs

names_worded : names ≡ worded unsorted
unfolding names worded rows_from capability_names single
names_worded = refl

one_among : (w : List ℕ) (n : ℕ) (xs : List Row) → OneOf (row w n) xs → spelt (cap ++ w) (single n) true among (worded xs)
unfolding OneOf worded ◌among◌
one_among w n [] h = absurd h
one_among w n (row v m ∷ xs) (inl e) = let p : w ≡ v = cc in let q : n ≡ m = cc in inl (rw (p, q))
one_among w n (row v m ∷ xs) (inr h) = inr (one_among w n xs h)

common_more : (ks w t : List ℕ) → common ks t ≡ length ks → common (ks ++ w) t ≡ length ks + common w (drop (length ks) t)
unfolding common
common_more [] w t h = sym (zero-add (common w t))
common_more (k ∷ ks) w [] h = absurd (omega arith)
common_more (k ∷ ks) w (b ∷ t) h = by_test (eqb (lower b) k) h (λ g. common_more ks w t g)
  where
    by_test : (p : Bool) → cond p (suc (common ks t)) 0 ≡ suc (length ks) → (common ks t ≡ length ks → common (ks ++ w) t ≡ length ks + common w (drop (length ks) t))
        → cond p (suc (common (ks ++ w) t)) 0 ≡ suc (length ks) + common w (drop (length ks) t)
    by_test true g f = let i = f (omega arith) in omega arith
    by_test false g f = absurd (omega arith)

common_less : (ks w t : List ℕ) → common ks t < length ks → common (ks ++ w) t ≡ common ks t
unfolding common
common_less [] w t h = absurd (omega arith)
common_less (k ∷ ks) w [] h = refl
common_less (k ∷ ks) w (b ∷ t) h = by_test (eqb (lower b) k) h (λ g. common_less ks w t g)
  where
    by_test : (p : Bool) → cond p (suc (common ks t)) 0 < suc (length ks) → (common ks t < length ks → common (ks ++ w) t ≡ common ks t)
        → cond p (suc (common (ks ++ w) t)) 0 ≡ cond p (suc (common ks t)) 0
    by_test true g f = ap suc (f (omega arith))
    by_test false g f = refl

module _ (t : List ℕ) (h : common cap t ≡ 4) where
  none_more : (xs : List Row) → NoneAt xs (drop 4 t) → NoneWhole (worded xs) t
  unfolding NoneWhole NoneAt worded
  none_more [] n = tt
  none_more (row w n ∷ xs) i = (λ e. i.0 (let a = common_more cap w t h in let b = length-append cap w in omega arith), none_more xs i.1)

  longest_more : (w : List ℕ) (n : ℕ) (xs : List Row) → longest (worded (row w n ∷ xs)) t ≡ 4 + furthest (row w n ∷ xs) (drop 4 t)
  unfolding longest furthest worded
  longest_more w n [] = let a = common_more cap w t h in omega arith
  longest_more w n (row v m ∷ xs) = let a = common_more cap w t h in let b = longest_more v m xs in omega arith

module _ (t : List ℕ) (h : common cap t < 4) where
  none_less : (xs : List Row) → NoneWhole (worded xs) t
  unfolding NoneWhole worded
  none_less [] = tt
  none_less (row w n ∷ xs) = (λ e. (let a = common_less cap w t h in let b = length-append cap w in omega arith), none_less xs)

  longest_less : (w : List ℕ) (n : ℕ) (xs : List Row) → longest (worded (row w n ∷ xs)) t ≡ common cap t
  unfolding longest worded
  longest_less w n [] = let a = common_less cap w t h in omega arith
  longest_less w n (row v m ∷ xs) = let a = common_less cap w t h in let b = longest_less v m xs in omega arith

rows_more : (t : List ℕ) → common cap t ≡ 4 → longest (worded unsorted) t ≡ 4 + furthest unsorted (drop 4 t)
unfolding rows_from capability_names
rows_more t h = longest_more t h _ _ _

rows_less : (t : List ℕ) → common cap t < 4 → longest (worded unsorted) t ≡ common cap t
unfolding rows_from capability_names
rows_less t h = longest_less t h _ _ _

-- ---- the name at a position

module _ (text : List ℕ) (at : ℕ) where
  pub name_cut : common cap (drop at text) < 4 → NameTold (Err (Malformed (at + common cap (drop at text)))) text at
  unfolding read_at
  name_cut h c s =
      sym (ap (λ (xs : List Word). from at (run (word xs c s) (drop at text))) names_worded
      ∙ ap (from at) (none_read (drop at text) (worded unsorted) c s (none_less (drop at text) h unsorted))
      ∙ ap (λ (n : ℕ). Err (Malformed (at + n))) (rows_less (drop at text) h))

  name_missing : (p : ℕ) → common cap (drop at text) ≡ 4 → find (at + 4) 0 rows (drop (at + 4) text) ≡ Err (Malformed p) → NameTold (Err (Malformed p)) text at
  unfolding read_at rows
  name_missing p h e c s =
      let f = sorted_missing (at + 4) unsorted (drop (at + 4) text) p e in
      let d = drop-drop 4 at text in
      let k : p ≡ at + (4 + furthest unsorted (drop (at + 4) text)) = omega (arith, f.1) in
      sym (ap (λ (xs : List Word). from at (run (word xs c s) (drop at text))) names_worded
      ∙ ap (from at) (none_read (drop at text) (worded unsorted) c s (none_more (drop at text) h unsorted (rw d f.0)))
      ∙ ap (λ (n : ℕ). Err (Malformed (at + n))) (rows_more (drop at text) h ∙ ap (λ (u : List ℕ). 4 + furthest unsorted u) d)
      ∙ ap (λ (n : ℕ). Err (Malformed n)) (sym k))

  row_named : (w : List ℕ) (n : ℕ) → OneOf (row w n) rows → spelt (cap ++ w) (single n) true among names
  unfolding rows
  row_named w n o = rw names_worded (one_among w n unsorted (one_sorted (row w n) unsorted o))

  name_found : (n next : ℕ) → common cap (drop at text) ≡ 4 → Found (Ok (n, next)) (at + 4) (drop (at + 4) text) → NameTold (Ok (n, next)) text at
  unfolding read_at
  name_found n next h e c s =
      let t = drop at text in
      let (v, o, u, z) = e in
      let g = row_named v n o in
      let w = cap ++ v in
      let k = length w in
      let q : k ≡ 4 + length v = length-append cap v in
      let a : common w t ≡ k = common_more cap v t h ∙ ap (λ (x : List ℕ). 4 + common v x) (drop-drop 4 at text) ∙ ap (λ (i : ℕ). 4 + i) u ∙ sym q in
      let y : lowered (take k t) ≡ w = common_whole w t a in
      let l : length (take k t) ≡ k = omega (arith, length-take k t, (common_le w t).1, a) in
      let m : next ≡ at + k = omega (arith, z, q) in
      let i : spelt (lowered (take k t)) (single n) true among names = rw y g in
      sym (ap (λ (x : List ℕ). from at (run (word names c s) x)) (sym (take-append-drop k t))
      ∙ ap (from at) (word_from (take k t) (single n) true names c s (drop k t) i)
      ∙ from_from at (length (take k t)) (run (word (afters (lowered (take k t)) names) c s) (drop k t))
      ∙ rw (l, y, alone_names w (single n) true g, drop-drop k at text, ← m))

  name_ends : (n next : ℕ) → common cap (drop at text) ≡ 4 → Found (Ok (n, next)) (at + 4) (drop (at + 4) text) → (at ≤ next) × (next ≤ length text)
  name_ends n next h e =
      let (w, o, u, v) = e in
      let a = (common_le w (drop (at + 4) text)).1 in
      let b = (common_le cap (drop at text)).1 in
      (omega arith, omega (arith, length-drop (at + 4) text, length-drop at text))

  pub name_told : (x : Parsed ℕ) → common cap (drop at text) ≡ 4 → Found x (at + 4) (drop (at + 4) text) → NameTold x text at × NameEnd x at text
  name_told (Ok (n, next)) h e = (name_found n next h e, name_ends n next h e)
  name_told (Err (Malformed p)) h e = (name_missing p h e, tt)

-- ---- `all` at a position

among_one : (w : List ℕ) → w ≡ bytes "all" → spelt w full false among (every ∷ [])
unfolding ◌among◌
among_one w y = inl (ap (λ (v : List ℕ). spelt v full false) y)

all_alone : afters (bytes "all") (every ∷ []) ≡ spelt [] full false ∷ []
unfolding afters after
all_alone = refl

module _ (text : List ℕ) (at : ℕ) where
  pub all_cut : (n : ℕ) → n ≡ common (bytes "all") (drop at text) → (n ≡ 3 → ⊥) → (s : Sets) → read_at text at (word (every ∷ []) 0 s) ≡ Err (Malformed (at + n))
  unfolding read_at NoneWhole longest
  all_cut n e h s =
      ap (from at) (none_read (drop at text) (every ∷ []) 0 s (λ q. h (e ∙ q), tt)) ∙ ap (λ (k : ℕ). Err (Malformed (at + k))) (let z : max (common (bytes "all") (drop at text)) 0 ≡ n = omega arith in z)

  pub all_whole : (n : ℕ) → n ≡ common (bytes "all") (drop at text) → n ≡ 3 → (s : Sets)
      → read_at text at (word (every ∷ []) 0 s) ≡ read_at text (at + n) (word (spelt [] full false ∷ []) 0 s)
  unfolding read_at
  all_whole n e h s =
      let t = drop at text in
      let a : common (bytes "all") t ≡ 3 = sym e ∙ h in
      let y : lowered (take 3 t) ≡ bytes "all" = common_whole (bytes "all") t a in
      let z : length (take 3 t) ≡ 3 = omega (arith, length-take 3 t, (common_le (bytes "all") t).1, a) in
      let i : spelt (lowered (take 3 t)) full false among (every ∷ []) = among_one (lowered (take 3 t)) y in
      ap (λ (x : List ℕ). from at (run (word (every ∷ []) 0 s) x)) (sym (take-append-drop 3 t))
      ∙ ap (from at) (word_from (take 3 t) full false (every ∷ []) 0 s (drop 3 t) i)
      ∙ from_from at (length (take 3 t)) (run (word (afters (lowered (take 3 t)) (every ∷ [])) 0 s) (drop 3 t))
      ∙ rw (z, y, all_alone, drop-drop 3 at text, h)

-- ---- names joined, at a position

module _ (text : List ℕ) (i all : ℕ) where
  pub names_operator : i < length text → operates (get_or text i 0) ≡ true → NamesTold (Ok (all, i)) text i all
  names_operator h o s d m e =
      sym (read_same text i (word (spelt [] m true ∷ []) d s) (operated true true (union d m) s) h (done_operator d m true s (get_or text i 0) o)
      ∙ ap (λ (c : ℕ). read_at text i (operated true true c s)) e)

  pub names_stuck : i < length text → operates (get_or text i 0) ≡ false → (get_or text i 0 ≡ 44 → ⊥) → NamesTold (Err (Malformed i)) text i all
  names_stuck h o n s d m e = sym (read_stuck text i (word (spelt [] m true ∷ []) d s) h (done_stuck d m true s (get_or text i 0) o n))

  pub names_end : length text ≤ i → NamesTold (Err (Malformed i)) text i all
  names_end h s d m e = sym (read_end text i (word (spelt [] m true ∷ []) d s) h ∙ ap (λ (n : ℕ). Err (Malformed n)) (add-zero i))

  comma_read : i < length text → get_or text i 0 ≡ 44 → (s : Sets) (d m : ℕ) → read_at text i (word (spelt [] m true ∷ []) d s) ≡ read_at text (i + 1) (word names (union d m) s)
  comma_read h b s d m = read_go text i (word (spelt [] m true ∷ []) d s) (word names (union d m) s) h (done_comma d m true s (get_or text i 0) b)

  pub names_missing : (e : ReadError) → i < length text → get_or text i 0 ≡ 44 → NameTold (Err e) text (i + 1) → NamesTold (Err e) text i all
  names_missing e h b t s d m z = t (union d m) s ∙ sym (comma_read h b s d m)

  pub names_next : (number next one : ℕ) → i < length text → get_or text i 0 ≡ 44 → NameTold (Ok (number, next)) text (i + 1) → one ≡ single number
      → (r : Parsed ℕ) → NamesTold r text next (union all one) → NamesTold r text i all
  names_next number next one h b t q r f s d m e =
      f s (union d m) (single number) (rw (e, q)) ∙ t (union d m) s ∙ sym (comma_read h b s d m)

-- ---- further on, and at the start

pub subject_end : (text : List ℕ) (at next : ℕ) (r : Parsed ℕ) → at ≤ next → SubjectEnd r next text → SubjectEnd r at text
subject_end text at next (Ok (c, p)) h e = (omega (arith, e.0), e.1)
subject_end text at next (Err n) h e = tt

pub read_start : (text : List ℕ) (s : Sets) → (s.permitted ≡ 0) × ((s.inheritable ≡ 0) × (s.effective ≡ 0)) → read_text text ≡ read_at text 0 (gap s)
unfolding read_text read_at
read_start text s h =
    let e : no_sets ≡ s = sym (ap (λ (n : ℕ). record { permitted = n; inheritable = s.inheritable; effective = s.effective }) h.0
    ∙ ap (λ (n : ℕ). record { permitted = 0; inheritable = n; effective = s.effective }) h.1.0
    ∙ ap (λ (n : ℕ). record { permitted = 0; inheritable = 0; effective = n }) h.1.1) in
    from_none (run (gap no_sets) text) ∙ ap (λ (v : Sets). from 0 (run (gap v) text)) e

-- ---- what a loop or a function goes by

pub ruleset between = (read_start, read_go, read_end, gap_blank)

pub ruleset naming = (name_told, name_cut)

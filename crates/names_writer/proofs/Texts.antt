-- The text by the names of the table is the written form, and how it goes into a buffer. Assumes nothing.
use mathlib.Core.Path.{◌≡◌, refl, sym, ap, ◌∙◌}
use mathlib.Core.List.{List, [], ◌∷◌, ◌++◌, append_assoc, map}
use mathlib.Core.Bool.{Bool, true, false, cond, not}
use Prim.Native.Nat.{ℕ, suc, ◌+◌, ◌≤◌, ◌<◌}
use Prim.Native.String.{String}
use native.Mathlib.Nat.{add-zero, zero-add}
use native.Mathlib.Numerals.{add-one}
use native.Mathlib.Omega.{arith}
use borrow.Author.Tests.{ne_eqb, le-leb}
use denote.Ref.{Bor}
use mir.Val.{bool_byte}
use lib.Dec.{eqb}
use lib.ListN.{length, length-map, drop, drop_of_length-le, get_or, length-append}
use lib.Seq.{drop-cons, sets, sets-eq}
use Rattle.std.specs.Prelude.{Ok}
use Rattle.format.specs.Line.{bytes}
use Rattle.line_writer.specs.Positions.{written, written_to}
use Rattle.line_writer.proofs.LineLaws.{sets_append, text_put}
use Rattle.names.specs.declared.Sets.{Sets}
use Rattle.names.specs.Names.{capability_names}
use Rattle.names.specs.Writing.{flags_text, has_flag, clause_text, sets_text, bits_above40, names_answer, names_buffer}
use Rattle.names.specs.Inside.{separator, clauses_text}
use Rattle.names.proofs.Longest.{longest}
use Rattle.names.proofs.WrittenClauses.{whole_text}
use Rattle.names_writer.specs.Inside.{Put, clause_at, clauses_from, flags_of, flags_put}
use Rattle.names_writer.specs.declared.clause.Flags.{Flags}

-- ---- the text

-- a space, but at the front of the text
pub parted : (q : Bool) → cond (not q) (bytes " ") [] ≡ separator q
parted true = refl
parted false = refl

pub separator_length : (q : Bool) → length (separator q) ≡ bool_byte (not q)
separator_length true = refl
separator_length false = refl

module _ (s : Sets) where
  clause_none : (first : Bool) (n : ℕ) (w : List ℕ) → has_flag s n ≡ false → clause_at first s n w ≡ []
  clause_none first n w e = rw e

  -- the clause of a capability that has a flag, in parts
  pub clause_lengths : (first : Bool) (n : ℕ) (w : List ℕ) → has_flag s n ≡ true
      → length (clause_at first s n w) ≡ length (separator first) + (length w + (1 + length (flags_text s n)))
  clause_lengths first n w e =
      let a = length-append (separator first) (w ++ (bytes "=" ++ flags_text s n)) in
      let b = length-append w (bytes "=" ++ flags_text s n) in
      rw e (omega arith)

  from_clauses : (at n : ℕ) (l : List String) → clauses_text (eqb at 0) s n l ≡ clauses_from at s n (map bytes l)
  unfolding clauses_text clauses_from
  from_clauses at n [] = refl
  from_clauses at n (x ∷ l) =
      by_test (has_flag s n) refl (λ k. from_clauses k (suc n) l)
    where
      c : List ℕ
      c = clause_at (eqb at 0) s n (bytes x)

      by_test : (q : Bool) → has_flag s n ≡ q → ((k : ℕ) → clauses_text (eqb k 0) s (suc n) l ≡ clauses_from k s (suc n) (map bytes l))
          → cond q (separator (eqb at 0) ++ (clause_text s n x ++ clauses_text false s (suc n) l)) (clauses_text (eqb at 0) s (suc n) l)
          ≡ c ++ clauses_from (at + length c) s (suc n) (map bytes l)
      by_test true e f =
          let g : c ≡ separator (eqb at 0) ++ clause_text s n x = rw e refl in
          let k = clause_lengths (eqb at 0) n (bytes x) e in
          let z : eqb (at + length c) 0 ≡ false = ne_eqb (at + length c) 0 (λ y. omega (arith, k, y)) in
          sym (append_assoc (separator (eqb at 0)) (clause_text s n x) (clauses_text false s (suc n) l))
          ∙ ap (λ (t : List ℕ). t ++ clauses_text false s (suc n) l) (sym g)
          ∙ ap (λ (q : Bool). c ++ clauses_text q s (suc n) l) (sym z)
          ∙ ap (λ (t : List ℕ). c ++ t) (f (at + length c))
      by_test false e f =
          let g = clause_none (eqb at 0) n (bytes x) e in
          f at
          ∙ ap (λ (k : ℕ). clauses_from k s (suc n) (map bytes l)) (sym (add-zero at))
          ∙ ap (λ (t : List ℕ). t ++ clauses_from (at + length t) s (suc n) (map bytes l)) (sym g)

  pub flags_split : (n : ℕ) → flags_text s n ≡ flags_put (flags_of s n)
  unfolding flags_text
  flags_split n = refl

module _ (f : Flags) where
  pub flags_lengths : length (flags_put f)
      ≡ length (cond f.effective (bytes "e") []) + (length (cond f.inheritable (bytes "i") []) + length (cond f.permitted (bytes "p") []))
  flags_lengths =
      let a = length-append (cond f.effective (bytes "e") []) (cond f.inheritable (bytes "i") [] ++ cond f.permitted (bytes "p") []) in
      let b = length-append (cond f.inheritable (bytes "i") []) (cond f.permitted (bytes "p") []) in
      omega arith

  -- how many flags there are
  pub flags_length : length (flags_put f) ≡ bool_byte f.effective + bool_byte f.inheritable + bool_byte f.permitted
  flags_length =
      omega (arith, flags_lengths, counted f.effective 101, counted f.inheritable 105, counted f.permitted 112)
    where
      counted : (q : Bool) (b : ℕ) → length (cond q (b ∷ []) []) ≡ bool_byte q
      counted true b = refl
      counted false b = refl

-- no name, where none is read
abbrev nothing : Bor (List ℕ)
nothing = record { ref_ptr = (0, 0); now = [] }

-- the table of names
module _ (s : Sets) (ns : List (Bor (List ℕ))) (table : map (λ x. x.now) ns ≡ map bytes capability_names) where
  names_length : length ns ≡ 41
  unfolding capability_names
  names_length = sym (length-map ns (λ x. x.now)) ∙ ap length table

  -- the whole text
  pub whole : sets_text s ≡ clauses_from 0 s 0 (map (λ x. x.now) ns)
  whole = whole_text s ∙ from_clauses s 0 0 capability_names ∙ ap (clauses_from 0 s 0) (sym table)

  pub length_whole : length (sets_text s) ≡ length (clauses_from 0 s 0 (map (λ x. x.now) ns))
  length_whole = ap length whole

  -- from a name on: its clause, and from the next name on
  pub next : (at n : ℕ) → n < 41 → (let c = clause_at (eqb at 0) s n (get_or ns n nothing).now in
      clauses_from at s n (map (λ x. x.now) (drop n ns)) ≡ c ++ clauses_from (at + length c) s (n + 1) (map (λ x. x.now) (drop (n + 1) ns)))
  unfolding clauses_from
  next at n h = rw (drop-cons ns n nothing (omega (arith, names_length)), add-one n) refl

  pub length_next : (at n : ℕ) → n < 41 → (let c = clause_at (eqb at 0) s n (get_or ns n nothing).now in
      length (clauses_from at s n (map (λ x. x.now) (drop n ns))) ≡ length c + length (clauses_from (at + length c) s (n + 1) (map (λ x. x.now) (drop (n + 1) ns))))
  length_next at n h =
      let c = clause_at (eqb at 0) s n (get_or ns n nothing).now in
      ap length (next at n h) ∙ length-append c (clauses_from (at + length c) s (n + 1) (map (λ x. x.now) (drop (n + 1) ns)))

  pub ended : (at n : ℕ) → 41 ≤ n → clauses_from at s n (map (λ x. x.now) (drop n ns)) ≡ []
  unfolding clauses_from
  ended at n h = rw (drop_of_length-le ns {i = n} (omega (arith, names_length))) refl

  pub length_end : (at n : ℕ) → 41 ≤ n → length (clauses_from at s n (map (λ x. x.now) (drop n ns))) ≡ 0
  length_end at n h = ap length (ended at n h)

-- the steps of the loops over the table
pub ruleset steps = (whole, length_whole, length_next, ended, length_end, longest)

-- ---- in a buffer

-- one text behind the other
pub put_then : (old mid new : List ℕ) (at p q : ℕ) (t u : List ℕ) → Put old at t mid p → Put mid p u new q → Put old at (t ++ u) new q
put_then old mid new at p q t u a b =
    let n = length-append t u in (
      omega (arith, a.0, b.0, n),
      b.1 ∙ ap (λ (l : List ℕ). sets l p u) a.1 ∙ ap (λ (k : ℕ). sets (sets old at t) k u) a.0 ∙ sym (sets_append t u old at),
    )

-- bytes that fit
pub put_bytes : (old new : List ℕ) (at past : ℕ) (t : List ℕ) → at + length t ≤ length old → past ≡ written_to old at t → new ≡ written old at t → Put old at t new past
put_bytes old new at past t h a b = let told = text_put t old at h in (a ∙ told.0, b ∙ told.1)

-- ---- the writer's answers

module _ (s : Sets) (old : List ℕ) where
  pub is_written : (n : ℕ) → bits_above40 s ≡ false → n ≡ length (sets_text s) → length (sets_text s) ≤ length old
      → (Ok n ≡ names_answer s (length old)) × (sets old 0 (sets_text s) ≡ names_buffer s old)
  unfolding names_answer names_buffer
  is_written n h e l =
      rw (h, le-leb (length (sets_text s)) (length old) l)
      (ap Ok e, sets-eq (sets_text s) old 0 (omega arith) ∙ rw (zero-add (length (sets_text s))))

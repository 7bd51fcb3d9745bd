-- Laws of the list's lines: how they make the list, how long they are, how they go into a buffer; and the answers. Assumes nothing.
use mathlib.Core.Path.{◌≡◌, refl, sym, ap, ◌∙◌}
use mathlib.Core.List.{List, [], ◌∷◌, ◌++◌, append_assoc, append-nil}
use mathlib.Core.Bool.{Bool, true, false, cond}
use Prim.Native.Nat.{ℕ, ◌+◌, ◌-◌, ◌<◌, ◌≤◌}
use native.Mathlib.Nat.{zero-add}
use native.Mathlib.Omega.{arith}
use borrow.Author.Tests.{le-leb, lt-leb}
use lib.Dec.{eqb}
use lib.ListN.{length, take, drop, get_or, length-append, take-append-drop}
use Rattle.std.proofs.lemmas.List.{take_more}
use lib.Seq.{take_all, sets, sets-eq, set-set, length-sets}
use Rattle.std.specs.Prelude.{Result, Ok, Err}
use Rattle.credentials.specs.Validity.{valid}
use Rattle.credentials.specs.declared.Credentials.{Credentials}
use Rattle.rules.specs.Fields.{number}
use Rattle.format.specs.Line.{bytes, Kind, hex_text, value_text, keyed_text}
use Rattle.format.specs.Report.{buffer}
use Rattle.format.proofs.Lengths.{length_keyed}
use Rattle.hex_tables.specs.Tables.{writing_table, hex_text_by}
use Rattle.hex_tables.proofs.Format.{by_the_tables}
use Rattle.line_writer.specs.Positions.{written, written_to}
use Rattle.line_writer.proofs.LineLaws.{sets_append, text_put}
use Rattle.status.specs.declared.Status.{Status}
use Rattle.status.specs.declared.ReadError.{ReadError}
use Rattle.status.specs.declared.ReadError.TheVariants.{Malformed}
use Rattle.status.specs.declared.CompareError.{CompareError}
use Rattle.status.specs.declared.CompareError.TheVariants.{Invalid, NoRoom}
use Rattle.status.specs.Lines.{id_form, set_form}
use Rattle.status.specs.Reading.{read_status}
use Rattle.status.specs.Comparing.{id_keys, set_keys, flag_keys, keys, values_of, shown_of, difference_text, differences, differing, last_line, list_text, laid, compared, comparison, unread}
use Rattle.status_comparison.specs.declared.line.Line.{Line}
use Rattle.status_comparison.specs.Inside.{line_of, Put}
use Rattle.status_comparison.specs.Lines.{line_text, lines_text}

-- ---- the list is made of lines

-- the lines of these keys, one behind the other
unfoldable lines : List Kind → List ℕ → List ℕ → List ℕ
lines [] ps fs = []
lines (k ∷ ks) [] fs = []
lines (k ∷ ks) (p ∷ ps) [] = []
lines (k ∷ ks) (p ∷ ps) (f ∷ fs) = line_of (k.key ++ bytes " ") k.form p f ++ lines ks ps fs

made_of_lines : (ks : List Kind) (ps fs : List ℕ) → differences ks ps fs ≡ lines ks ps fs
unfolding differences lines difference_text
made_of_lines [] ps fs = refl
made_of_lines (k ∷ ks) [] fs = refl
made_of_lines (k ∷ ks) (p ∷ ps) [] = refl
made_of_lines (k ∷ ks) (p ∷ ps) (f ∷ fs) = by_test (eqb p f) (made_of_lines ks ps fs)
  where
    by_test : (q : Bool) → differences ks ps fs ≡ lines ks ps fs
        → cond q (differences ks ps fs) (difference_text k p f ++ differences ks ps fs)
        ≡ cond q [] ((k.key ++ bytes " ") ++ (value_text k.form p ++ (bytes " " ++ (value_text k.form f ++ bytes "\n")))) ++ lines ks ps fs
    by_test true e = e
    by_test false e = rw e (simp append_assoc)

-- and so is the list
pub ten_lines : (c : Credentials) (s : Status) → list_text (shown_of c) s
    ≡ (line_of (bytes "ruid ") id_form c.uids.real s.uids.real
    ++ (line_of (bytes "euid ") id_form c.uids.effective s.uids.effective
    ++ (line_of (bytes "suid ") id_form c.uids.saved s.uids.saved
    ++ (line_of (bytes "fsuid ") id_form c.uids.filesystem s.uids.filesystem
    ++ (line_of (bytes "permitted ") set_form c.sets.permitted s.sets.permitted
    ++ (line_of (bytes "inheritable ") set_form c.sets.inheritable s.sets.inheritable
    ++ (line_of (bytes "effective ") set_form c.sets.effective s.sets.effective
    ++ (line_of (bytes "bounding ") set_form c.sets.bounding s.sets.bounding
    ++ (line_of (bytes "ambient ") set_form c.sets.ambient s.sets.ambient
    ++ (line_of (bytes "nnp ") id_form (number c.nnp) (number s.nnp) ++ []))))))))))
    ++ last_line
unfolding list_text differing keys id_keys set_keys flag_keys lines
ten_lines c s = ap (λ (t : List ℕ). t ++ last_line) (made_of_lines keys (values_of (shown_of c)) (values_of s))

-- a line more
lines_both : (ks ls : List Line) → lines_text (ks ++ ls) ≡ lines_text ks ++ lines_text ls
unfolding lines_text
lines_both [] ls = refl
lines_both (k ∷ ks) ls = ap (λ (t : List ℕ). line_text k ++ t) (lines_both ks ls) ∙ sym (append_assoc (line_text k) (lines_text ks) (lines_text ls))

module _ (ls : List Line) (i : ℕ) where
  pub lines_more : (l : Line) → i < length ls → l ≡ get_or ls i l → lines_text (take (i + 1) ls) ≡ lines_text (take i ls) ++ line_text l
  unfolding lines_text
  lines_more l h e =
      ap lines_text (take_more ls i l h) ∙ lines_both (take i ls) (get_or ls i l ∷ []) ∙ ap (λ (t : List ℕ). lines_text (take i ls) ++ t) (append-nil (line_text (get_or ls i l)))
      ∙ ap (λ (k : Line). lines_text (take i ls) ++ line_text k) (sym e)

  pub all_lines : length ls ≤ i → lines_text (take i ls) ≡ lines_text ls
  all_lines h = ap lines_text (take_all i ls h)

  -- a part of the lines is no longer than all
  pub part_fits : length (lines_text (take i ls)) ≤ length (lines_text ls)
  part_fits =
      let e = ap (λ (ks : List Line). length (lines_text ks)) (take-append-drop i ls) in
      omega (arith, e, ap length (lines_both (take i ls) (drop i ls)), length-append (lines_text (take i ls)) (lines_text (drop i ls)))

-- ---- in a buffer

-- nothing
pub put_nothing : (old : List ℕ) (at : ℕ) → Put old at [] old at
put_nothing old at = record { position = omega arith; buffer = refl }

-- one text behind the other
pub put_then : {old mid new t u : List ℕ} {at p q : ℕ} → Put old at t mid p → Put mid p u new q → Put old at (t ++ u) new q
put_then {old} {mid} {new} {t} {u} {at} {p} {q} a b =
    record {
      position = omega (arith, length-append t u);
      buffer =
          b.buffer
          ∙ ap (λ (l : List ℕ). sets l p u) a.buffer
          ∙ ap (λ (k : ℕ). sets (sets old at t) k u) a.position
          ∙ sym (sets_append t u old at);
    }

-- a text that fits
pub put_text : (old new : List ℕ) (at past : ℕ) (t : List ℕ) → at + length t ≤ length old
    → (past ≡ written_to old at t) × (new ≡ written old at t) → Put old at t new past
put_text old new at past t h w =
    let told = text_put t old at h in record { position = w.0 ∙ told.0; buffer = w.1 ∙ told.1 }

-- a text over the last byte of the one before it
put_over : (t u old : List ℕ) (x y at : ℕ) → sets (sets old at (t ++ (x ∷ []))) (at + length t) (y ∷ u) ≡ sets old at (t ++ (y ∷ u))
put_over t u old x y at =
    rw (sets_append t (x ∷ []) old at, sets_append t (y ∷ u) old at, set-set (sets old at t) (at + length t) x y)

module _ (key a b old one : List ℕ) (at p : ℕ) where
  -- the line of a key and two values
  abbrev line : List ℕ
  line = key ++ (a ++ (bytes " " ++ (b ++ bytes "\n")))

  length_of_line : length line ≡ length key + length a + length b + 2
  length_of_line = simp length-append (omega arith)

  module _ (fits : at + length line ≤ length old) (first : (p ≡ written_to old at (keyed_text key a)) × (one ≡ written old at (keyed_text key a))) where
    first_put : Put old at (keyed_text key a) one p
    first_put = put_text old one at p (keyed_text key a) (omega (arith, fits, length_of_line, length_keyed key a)) first

    pub past_some : 1 ≤ p
    past_some = omega (arith, first_put.position, length_keyed key a)

    -- the second value, over the newline behind the first
    pub line_put : {two : List ℕ} {q : ℕ} → (q ≡ written_to one (p - 1) (keyed_text (bytes " ") b)) × (two ≡ written one (p - 1) (keyed_text (bytes " ") b)) → Put old at line two q
    unfolding keyed_text
    line_put {two} {q} second =
        let k : p - 1 ≡ at + length (key ++ a) = omega (arith, first_put.position, length_keyed key a, length-append key a) in
        let n : length one ≡ length old = ap length first_put.buffer ∙ length-sets old at (keyed_text key a) in
        let w = put_text one two (p - 1) q (keyed_text (bytes " ") b) (omega (arith, fits, length_of_line, first_put.position, n, length_keyed key a, length_keyed (bytes " ") b)) second in
        let u = b ++ bytes "\n" in
        record {
          position = omega (arith, w.position, first_put.position, length_of_line, length_keyed key a, length_keyed (bytes " ") b);
          buffer =
              w.buffer
              ∙ ap (λ (l : List ℕ). sets l (p - 1) (bytes " " ++ u)) (first_put.buffer ∙ ap (sets old at) (sym (append_assoc key a (bytes "\n"))))
              ∙ ap (λ (i : ℕ). sets (sets old at ((key ++ a) ++ bytes "\n")) i (bytes " " ++ u)) k
              ∙ put_over (key ++ a) u old 10 32 at
              ∙ ap (sets old at) (append_assoc key a (bytes " " ++ u));
        }

-- a set's digits by the table for writing
pub by_the_table : (table : List ℕ) (v : ℕ) → table ≡ writing_table → hex_text 16 v ≡ hex_text_by table 16 v
by_the_table table v e = sym (ap (λ (t : List ℕ). hex_text_by t 16 v) e ∙ by_the_tables.hex_written 16 v)

-- ---- the answers

module _ (s : Status) (c : Credentials) (old : List ℕ) where
  pub not_valid : valid c ≡ false → (◌≡◌ {A = Result ℕ CompareError} (Err Invalid) (comparison (laid s c) (length old))) × (old ≡ buffer (laid s c) old)
  unfolding laid
  not_valid h = rw h (refl, refl)

  pub no_room : valid c ≡ true → length old < length (list_text (shown_of c) s)
      → (◌≡◌ {A = Result ℕ CompareError} (Err NoRoom) (comparison (laid s c) (length old))) × (old ≡ buffer (laid s c) old)
  unfolding laid
  no_room h l = rw (h, lt-leb (length (list_text (shown_of c) s)) (length old) l) (refl, refl)

  pub is_written : (n : ℕ) (new : List ℕ) → valid c ≡ true → n ≡ length (list_text (shown_of c) s) → length (list_text (shown_of c) s) ≤ length old → new ≡ sets old 0 (list_text (shown_of c) s)
      → (◌≡◌ {A = Result ℕ CompareError} (Ok n) (comparison (laid s c) (length old))) × (new ≡ buffer (laid s c) old)
  unfolding laid
  is_written n new h e l w =
      rw (h, le-leb (length (list_text (shown_of c) s)) (length old) l) (
        ap (λ (k : ℕ). Ok k) e,
        w ∙ sets-eq (list_text (shown_of c) s) old 0 (omega arith) ∙ rw (zero-add (length (list_text (shown_of c) s))),
      )

-- ---- by what the text is read as

module _ (text : List ℕ) (c : Credentials) where
  pub not_read : (e : ReadError) (old : List ℕ) → Err e ≡ read_status text
      → (◌≡◌ {A = Result ℕ CompareError} (Err (unread e)) (comparison (compared text c) (length old))) × (old ≡ buffer (compared text c) old)
  unfolding compared
  not_read (Malformed line) old h = rw (← h) (refl, refl)

  pub compared_found : (found : Status) → Ok found ≡ read_status text → laid found c ≡ compared text c
  unfolding compared
  compared_found found h = rw (← h)

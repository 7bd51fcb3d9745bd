-- Laws of reading from a place on. Assumes nothing.
use mathlib.Core.Path.{◌≡◌, refl, sym, ap, ◌∙◌}
use mathlib.Core.List.{List, [], ◌∷◌, ◌++◌, append_assoc, append-nil}
use mathlib.Core.Bool.{true, false, cond, true≢false, false≢true}
use Prim.Native.Nat.{ℕ, ◌+◌}
use native.Mathlib.Nat.{add_assoc}
use Rattle.std.specs.Prelude.{Option, Some, None, Ok, Err, MatchOption}
use Rattle.std.specs.Option.{ok_or, is_some}
use Rattle.std.proofs.Common.{Bor}
use Rattle.format.specs.Line.{Read, read, fault_at, below, mapped}
use Rattle.status.specs.declared.ReadError.{ReadError}
use Rattle.status.specs.declared.ReadError.TheVariants.{Malformed}
use Rattle.status.specs.Lines.{lines_of, Entry, entries, wanted}
use Rattle.status.specs.Reading.{read_entry, read_due, read_dues, status_of, shown, read_status}
use Rattle.status_reader.specs.Inside.{whole_read, from, NoneLeft, NextIs, due_read}
use Rattle.status_reader.proofs.LineLaws.{below_none}

-- ---- what is read, further on and made into another value

below_below : {A : Type 0} (n m : ℕ) (r : Read A) → below n (below m r) ≡ below (n + m) r
below_below n m (read v t) = refl
below_below n m (fault_at line) = ap fault_at (sym (add_assoc n m line))

below_mapped : {A B : Type 0} (n : ℕ) (f : A → B) (r : Read A) → below n (mapped f r) ≡ mapped f (below n r)
below_mapped n f (read v t) = refl
below_mapped n f (fault_at line) = refl

-- ---- lines

dues_line : (es : List Entry) (l : List ℕ) (ls : List (List ℕ))
    → read_dues es (l ∷ ls) ≡ cond (wanted l) (read_due es l (λ due. read_dues due ls)) (below 1 (read_dues es ls))
unfolding read_dues
dues_line [] l ls = refl
dues_line (e ∷ es) l ls = refl

module _ (text : List ℕ) (lines : ℕ) where
  -- there is none
  pub none_left : lines_of text ≡ [] → NoneLeft text lines lines
  unfolding from
  none_left h es = ap (λ (ls : List (List ℕ)). below lines (read_dues es ls)) h

  module _ (l rest : List ℕ) (h : lines_of text ≡ l ∷ lines_of rest) where
    by_line : (es : List Entry) → from text lines es
        ≡ below lines (cond (wanted l) (read_due es l (λ due. read_dues due (lines_of rest))) (below 1 (read_dues es (lines_of rest))))
    unfolding from
    by_line es = ap (λ (ls : List (List ℕ)). below lines (read_dues es ls)) h ∙ ap (below lines) (dues_line es l (lines_of rest))

    -- one that is not wanted is passed over
    pub passed_over : wanted l ≡ false → (es : List Entry) → from text lines es ≡ from rest (lines + 1) es
    unfolding from
    passed_over w es = by_line es ∙ rw w (below_below lines 1 (read_dues es (lines_of rest)))

    -- one that is is next
    pub found_next : wanted l ≡ true → NextIs text lines l rest (lines + 1)
    found_next w = (lines, refl, λ es. by_line es ∙ rw w)

-- ---- a line that is due

module _ (text rest : List ℕ) (lines passed : ℕ) (e : Entry) (es : List Entry) where
  -- it does not come
  pub not_come : NoneLeft text lines passed → from text lines (e ∷ es) ≡ fault_at (passed + 1)
  unfolding read_dues
  not_come h = h (e ∷ es)

  -- it comes, and its values are read, or not
  pub due_told : {A : Type 0} (values : A → List ℕ) (l : List ℕ) (r : Option A) → NextIs text lines l rest passed
      → whole_read values r ≡ read_entry e l
      → from text lines (e ∷ es) ≡ due_read values (ok_or r (Malformed passed)) rest passed es
  unfolding from
  due_told values l None n h = n.2 (e ∷ es) ∙ rw (← h, n.1)
  due_told values l (Some a) n h =
      n.2 (e ∷ es)
      ∙ rw (← h, below_below n.0 1 (mapped (λ ws. values a ++ ws) (read_dues es (lines_of rest))), ← n.1)
      (below_mapped passed (λ ws. values a ++ ws) (read_dues es (lines_of rest)))

-- ---- the seven lines

-- so far these values are read, and these lines are still due where the text goes on with the rest
pub record Reached (text rest : List ℕ) (passed : ℕ) (es : List Entry) (vs : List ℕ) : Type 0 where
  pub so_far : read_dues entries (lines_of text) ≡ mapped (λ ws. vs ++ ws) (from rest passed es)

mapped_same : (r : Read (List ℕ)) → r ≡ mapped (λ ws. [] ++ ws) r
mapped_same (read v t) = refl
mapped_same (fault_at line) = refl

mapped_longer : (vs us : List ℕ) (r : Read (List ℕ)) → mapped (λ ws. vs ++ ws) (mapped (λ ws. us ++ ws) r) ≡ mapped (λ ws. (vs ++ us) ++ ws) r
mapped_longer vs us (read v t) = rw append_assoc
mapped_longer vs us (fault_at line) = refl

-- at the start
pub reached : (text rest : List ℕ) (passed : ℕ) → rest ≡ text → passed ≡ 0 → Reached text rest passed entries []
unfolding from
reached text rest passed h n =
    record { so_far = rw (h, n) (mapped_same (read_dues entries (lines_of text)) ∙ ap (mapped (λ ws. [] ++ ws)) (sym (below_none (read_dues entries (lines_of text))))) }

module _ {text rest : List ℕ} {passed : ℕ} {es : List Entry} {vs : List ℕ} (e : Entry) (before : Reached text rest passed (e ∷ es) vs) where
  -- a line more
  pub reached_more : (us behind : List ℕ) (lines : ℕ) → from rest passed (e ∷ es) ≡ mapped (λ ws. us ++ ws) (from behind lines es)
      → Reached text behind lines es (vs ++ us)
  reached_more us behind lines h =
      record { so_far = before.so_far ∙ ap (mapped (λ ws. vs ++ ws)) h ∙ mapped_longer vs us (from behind lines es) }

  -- or its fault
  pub reached_fault : {A : Type 0} (values : A → List ℕ) (error : ReadError) (behind : List ℕ) (lines : ℕ)
      → from rest passed (e ∷ es) ≡ due_read values (Err error) behind lines es
      → Err error ≡ read_status text
  unfolding read_status
  reached_fault values (Malformed line) behind lines h = sym (ap shown (before.so_far ∙ ap (mapped (λ ws. vs ++ ws)) h))

-- none is due any more: a wanted line is a fault, and else all is read
pub reached_further : {text rest : List ℕ} {passed : ℕ} {vs : List ℕ} (behind : List ℕ) (lines : ℕ) (r : Option (Bor (List ℕ)))
    → Reached text rest passed [] vs
    → MatchOption r (NoneLeft rest passed lines) (λ l. NextIs rest passed l.now behind lines)
    → is_some r ≡ true
    → Err (Malformed lines) ≡ read_status text
unfolding read_status
reached_further behind lines None t n h = absurd (false≢true h)
reached_further {vs} behind lines (Some l) t n h =
    sym (ap shown (t.so_far ∙ ap (mapped (λ ws. vs ++ ws)) (n.2 [])) ∙ ap (λ (line : ℕ). Err (Malformed line)) (sym n.1))

pub reached_end : {text rest : List ℕ} {passed : ℕ} {vs : List ℕ} (behind : List ℕ) (lines : ℕ) (r : Option (Bor (List ℕ)))
    → Reached text rest passed [] vs
    → MatchOption r (NoneLeft rest passed lines) (λ l. NextIs rest passed l.now behind lines)
    → is_some r ≡ false
    → Ok (status_of vs) ≡ read_status text
unfolding read_status read_dues
reached_end {vs} behind lines None t n h =
    sym (ap shown (t.so_far ∙ ap (mapped (λ ws. vs ++ ws)) (n [])) ∙ ap (λ (us : List ℕ). Ok (status_of us)) (append-nil vs))
reached_end behind lines (Some l) t n h = absurd (true≢false h)

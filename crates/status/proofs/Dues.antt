-- The wanted lines of a text, written and read, each from the other. Assumes nothing.
use mathlib.Core.Path.{◌≡◌, refl, ap}
use mathlib.Core.List.{List, [], ◌∷◌, ◌++◌}
use mathlib.Core.Bool.{Bool, true, false, cond}
use Prim.Native.Nat.{ℕ, suc}
use native.Mathlib.Omega.{arith}
use lib.ListN.{length, take, drop, take-append-drop}
use lib.Seq.{take-append_seam, drop-append_seam}
use Rattle.format.specs.Line.{Form, Read, read, fault_at, below, mapped}
use Rattle.format.proofs.Reading.{fault_read, next_told, mapped_told}
use Rattle.status.specs.Lines.{Entry, wanted, wanted_of, entry_text}
use Rattle.status.specs.Reading.{read_entry, read_due, read_dues}
use Rattle.status.proofs.Values.{FitForms, entry_read, entry_written}

-- the lines of these entries, each with as many values off the front as it has forms
unfoldable pub lines_from : List Entry → List ℕ → List (List ℕ)
lines_from [] vs = []
lines_from (e ∷ es) vs = entry_text e (take (length e.forms) vs) ∷ lines_from es (drop (length e.forms) vs)

-- the forms of all their values
unfoldable pub all_forms : List Entry → List Form
all_forms [] = []
all_forms (e ∷ es) = e.forms ++ all_forms es

-- ---- values and their forms

fit_length : (fs : List Form) (vs : List ℕ) → FitForms fs vs → length fs ≡ length vs
unfolding FitForms
fit_length [] [] h = refl
fit_length [] (v ∷ vs) h = absurd h
fit_length (f ∷ fs) [] h = absurd h
fit_length (f ∷ fs) (v ∷ vs) h = ap suc (fit_length fs vs h.1)

pub fit_parts : (fs gs : List Form) (vs : List ℕ) → FitForms (fs ++ gs) vs
    → FitForms fs (take (length fs) vs) × FitForms gs (drop (length fs) vs)
unfolding FitForms
fit_parts [] gs vs h = (tt, h)
fit_parts (f ∷ fs) gs [] h = absurd h
fit_parts (f ∷ fs) gs (v ∷ vs) h = let p = fit_parts fs gs vs h.1 in ((h.0, p.0), p.1)

fit_both : (fs gs : List Form) (vs ws : List ℕ) → FitForms fs vs → FitForms gs ws → FitForms (fs ++ gs) (vs ++ ws)
unfolding FitForms
fit_both [] gs [] ws h g = g
fit_both [] gs (v ∷ vs) ws h g = absurd h
fit_both (f ∷ fs) gs [] ws h g = absurd h
fit_both (f ∷ fs) gs (v ∷ vs) ws h g = (h.0, fit_both fs gs vs ws h.1 g)

-- ---- written lines, with others anywhere, are read

no_values : (vs : List ℕ) → FitForms [] vs → ◌≡◌ {A = Read (List ℕ)} (read [] []) (read vs [])
unfolding FitForms
no_values [] h = refl
no_values (v ∷ vs) h = absurd h

-- one line, and what is read behind it
due_read : (e : Entry) (es : List Entry) (l vs : List ℕ) (behind : List Entry → Read (List ℕ)) → FitForms (e.forms ++ all_forms es) vs
    → l ≡ entry_text e (take (length e.forms) vs)
    → behind es ≡ read (drop (length e.forms) vs) []
    → read_due (e ∷ es) l behind ≡ read vs []
due_read e es l vs behind h p q =
    let f = fit_parts e.forms (all_forms es) vs h in
    rw (p, entry_read e (take (length e.forms) vs) f.0, q, take-append-drop (length e.forms) vs)

pub dues_read : (es : List Entry) (ls : List (List ℕ)) (vs : List ℕ) → FitForms (all_forms es) vs → wanted_of ls ≡ lines_from es vs
    → read_dues es ls ≡ read vs []
unfolding read_dues wanted_of lines_from all_forms
dues_read [] [] vs h p = no_values vs h
dues_read (e ∷ es) [] vs h p = let n = ap length p in absurd (omega arith)
dues_read [] (l ∷ ls) vs h p = by_test (wanted l) p (λ q. dues_read [] ls vs h q)
  where
    by_test : (q : Bool) → cond q (l ∷ wanted_of ls) (wanted_of ls) ≡ [] → (wanted_of ls ≡ [] → read_dues [] ls ≡ read vs [])
        → cond q (fault_at 1) (below 1 (read_dues [] ls)) ≡ read vs []
    by_test true e f = let n = ap length e in absurd (omega arith)
    by_test false e f = rw (f e)
dues_read (e ∷ es) (l ∷ ls) vs h p =
    by_test (wanted l) p (λ q. dues_read (e ∷ es) ls vs h q) (λ q. dues_read es ls (drop (length e.forms) vs) (fit_parts e.forms (all_forms es) vs h).1 q)
  where
    n : ℕ
    n = length e.forms

    first : List ℕ
    first = entry_text e (take n vs)

    by_test : (q : Bool) → cond q (l ∷ wanted_of ls) (wanted_of ls) ≡ first ∷ lines_from es (drop n vs)
        → (wanted_of ls ≡ first ∷ lines_from es (drop n vs) → read_dues (e ∷ es) ls ≡ read vs [])
        → (wanted_of ls ≡ lines_from es (drop n vs) → read_dues es ls ≡ read (drop n vs) [])
        → cond q (read_due (e ∷ es) l (λ due. read_dues due ls)) (below 1 (read_dues (e ∷ es) ls)) ≡ read vs []
    by_test true x f g =
        let a : l ≡ first = cc in
        let b : wanted_of ls ≡ lines_from es (drop n vs) = cc in
        due_read e es l vs (λ due. read_dues due ls) h a (g b)
    by_test false x f g = rw (f x)

-- ---- and what is read was written

-- the lines that were written for values, and these can be
pub record Told (es : List Entry) (ls : List (List ℕ)) (vs : List ℕ) : Type 0 where
  pub lines : ls ≡ lines_from es vs
  pub fit : FitForms (all_forms es) vs

pub due_told : (e : Entry) (es : List Entry) (l : List ℕ) (ls : List (List ℕ)) (ws us : List ℕ) → l ≡ entry_text e ws → FitForms e.forms ws → Told es ls us
    → Told (e ∷ es) (l ∷ ls) (ws ++ us)
unfolding lines_from all_forms
due_told e es l ls ws us p f t =
    let n = fit_length e.forms ws f in
    record {
      lines = rw (n, take-append_seam ws us, drop-append_seam ws us, p, t.lines);
      fit = fit_both e.forms (all_forms es) ws us f t.fit;
    }

below_told : {A : Type 0} (n : ℕ) (r : Read A) (v : A) (rest : List ℕ) → below n r ≡ read v rest → r ≡ read v rest
below_told n (read w t) v rest e = e
below_told n (fault_at line) v rest e = fault_read v rest e

pub dues_told : (es : List Entry) (ls : List (List ℕ)) (vs rest : List ℕ) → read_dues es ls ≡ read vs rest → Told es (wanted_of ls) vs
unfolding read_dues wanted_of lines_from all_forms FitForms
dues_told [] [] vs rest h = let p : [] ≡ vs = cc in rw (← p) (record { lines = refl; fit = tt })
dues_told (e ∷ es) [] vs rest h = fault_read vs rest h
dues_told [] (l ∷ ls) vs rest h = by_test (wanted l) h (λ q. dues_told [] ls vs rest q)
  where
    by_test : (q : Bool) → cond q (fault_at 1) (below 1 (read_dues [] ls)) ≡ read vs rest → (read_dues [] ls ≡ read vs rest → Told [] (wanted_of ls) vs)
        → Told [] (cond q (l ∷ wanted_of ls) (wanted_of ls)) vs
    by_test true x f = fault_read vs rest x
    by_test false x f = f (below_told 1 (read_dues [] ls) vs rest x)
dues_told (e ∷ es) (l ∷ ls) vs rest h = by_test (wanted l) h (λ q. dues_told (e ∷ es) ls vs rest q) (λ us u q. dues_told es ls us u q)
  where
    by_test : (q : Bool) → cond q (read_due (e ∷ es) l (λ due. read_dues due ls)) (below 1 (read_dues (e ∷ es) ls)) ≡ read vs rest
        → (read_dues (e ∷ es) ls ≡ read vs rest → Told (e ∷ es) (wanted_of ls) vs)
        → ((us u : List ℕ) → read_dues es ls ≡ read us u → Told es (wanted_of ls) us)
        → Told (e ∷ es) (cond q (l ∷ wanted_of ls) (wanted_of ls)) vs
    by_test true x f g =
        let n = next_told vs rest 1 (read_entry e l) (λ ws u. mapped (λ us. ws ++ us) (read_dues es ls)) x in
        let ws = n.0 in
        let m = mapped_told vs rest (λ us. ws ++ us) (read_dues es ls) n.3 in
        let w = entry_written e ws l n.1 n.2 in
        rw (← m.2) (due_told e es l (wanted_of ls) ws m.0 w.0 w.1 (g m.0 rest m.1))
    by_test false x f g = f (below_told 1 (read_dues (e ∷ es) ls) vs rest x)

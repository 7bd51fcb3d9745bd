-- Written and read, each from the other: the whole text. Assumes nothing.
use mathlib.Core.Path.{◌≡◌, refl, sym, ap, ◌∙◌, subst}
use mathlib.Core.List.{List, [], ◌∷◌, ◌++◌, append-nil}
use mathlib.Core.Bool.{true}
use Prim.Native.Nat.{ℕ, suc}
use native.Mathlib.Omega.{arith}
use lib.Dec.{eqb}
use lib.ListN.{length, get_or, take, drop}
use Rattle.std.specs.Prelude.{Ok}
use Rattle.credentials.specs.Validity.{valid}
use Rattle.credentials.specs.declared.Credentials.{Credentials}
use Rattle.rules.specs.Fields.{number}
use Rattle.format.specs.Line.{Form, value_text, Read, read, fault_at, newline, starts_with}
use Rattle.format.specs.Report.{report}
use Rattle.format.proofs.Sheets.{flag_read, flag_written, flag_small, valid_writable}
use Rattle.status.specs.declared.Status.{Status}
use Rattle.status.specs.Lines.{lines_of, text_of, Entry, entries, begins_one, wanted, wanted_of, values_text, entry_text, status_lines, status_text}
use Rattle.status.specs.Reading.{read_dues, status_of, shown, read_status}
use Rattle.status.specs.Comparing.{shown_of, last_line, laid, compared}
use Rattle.status.specs.RoundTrip.{Writable, Lacks, AreLines, RoundTrip}
use Rattle.status.proofs.Lacking.{both_lack, lacking, lacks_by, value_lacks}
use Rattle.status.proofs.Values.{FitForms}
use Rattle.status.proofs.Lines.{lines_then, last_line_lem}
use Rattle.status.proofs.Listed.{listed}
use Rattle.status.proofs.Dues.{lines_from, all_forms, Told, dues_read, dues_told}

-- ---- the values of the seven lines

-- in the order of the lines
abbrev line_values : Status → List ℕ
line_values s =
    s.uids.real ∷ s.uids.effective ∷ s.uids.saved ∷ s.uids.filesystem ∷
    s.sets.inheritable ∷ s.sets.permitted ∷ s.sets.effective ∷ s.sets.bounding ∷ s.sets.ambient ∷ number s.nnp ∷ []

values_told : (s : Status) → status_of (line_values s) ≡ s
values_told s = λ i. record { uids = s.uids; sets = s.sets; nnp = flag_read s.nnp i }

lines_told : (s : Status) → lines_from entries (line_values s) ≡ status_lines s
unfolding lines_from entries status_lines
lines_told s = refl

values_fit : (s : Status) → Writable s → FitForms (all_forms entries) (line_values s)
unfolding FitForms all_forms entries
values_fit s w = omega (arith, w.uids, w, flag_small s.nnp)

-- a value for each form, by its place
unfoldable placed : List Form → (ℕ → ℕ) → List ℕ
placed [] f = []
placed (x ∷ xs) f = f 0 ∷ placed xs (λ i. f (suc i))

placed_same : (fs : List Form) (vs : List ℕ) → FitForms fs vs → vs ≡ placed fs (λ i. get_or vs i 0)
unfolding placed FitForms
placed_same [] [] h = refl
placed_same [] (v ∷ vs) h = absurd h
placed_same (f ∷ fs) [] h = absurd h
placed_same (f ∷ fs) (v ∷ vs) h = ap (λ (ws : List ℕ). v ∷ ws) (placed_same fs vs h.1)

values_back : (vs : List ℕ) → FitForms (all_forms entries) vs → (vs ≡ line_values (status_of vs)) × Writable (status_of vs)
unfolding placed FitForms all_forms entries
values_back vs h =
    let at : ℕ → ℕ = λ i. get_or vs i 0 in
    let e : vs ≡ placed (all_forms entries) at = placed_same (all_forms entries) vs h in
    let fit : FitForms (all_forms entries) (placed (all_forms entries) at) = subst (FitForms (all_forms entries)) e h in
    let flag : at 9 ≡ number (eqb (at 9) 1) = flag_written (at 9) (omega (arith, fit)) in
    (e ∙ ap (λ (x : ℕ). at 0 ∷ at 1 ∷ at 2 ∷ at 3 ∷ at 4 ∷ at 5 ∷ at 6 ∷ at 7 ∷ at 8 ∷ x ∷ []) flag, omega (arith, fit))

-- lines that were written for the values of the seven, and for what these show
pub told_written : (ls : List (List ℕ)) (vs : List ℕ) → Told entries ls vs → (ls ≡ status_lines (status_of vs)) × Writable (status_of vs)
told_written ls vs t =
    let b = values_back vs t.fit in
    (t.lines ∙ ap (lines_from entries) b.0 ∙ lines_told (status_of vs), b.1)

pub written_told : (ls : List (List ℕ)) (s : Status) → Writable s → ls ≡ status_lines s → Told entries ls (line_values s)
written_told ls s w e = record { lines = e ∙ sym (lines_told s); fit = values_fit s w }

-- ---- the text

written_read : (text : List ℕ) (s : Status) → Writable s → wanted_of (lines_of text) ≡ status_lines s → read_status text ≡ Ok s
unfolding read_status
written_read text s w e =
    let t = written_told (wanted_of (lines_of text)) s w e in
    ap shown (dues_read entries (lines_of text) (line_values s) t.fit t.lines) ∙ ap Ok (values_told s)

shown_told : (r : Read (List ℕ)) (s : Status) → shown r ≡ Ok s → (vs rest : List ℕ) × (r ≡ read vs rest) × (status_of vs ≡ s)
shown_told (read vs rest) s e = (vs, rest, refl, cc)
shown_told (fault_at line) s e = let z : ◌≡◌ {A = ℕ} 0 1 = cc in absurd (omega arith)

read_written : (text : List ℕ) (s : Status) → read_status text ≡ Ok s → (wanted_of (lines_of text) ≡ status_lines s) × Writable s
unfolding read_status
read_written text s e =
    let r = shown_told (read_dues entries (lines_of text)) s e in
    rw (← r.3) (told_written (wanted_of (lines_of text)) r.0 (dues_told entries (lines_of text) r.0 r.1 r.2))

-- ---- the written text

values_lack : (fs : List Form) (vs : List ℕ) → Lacks newline (values_text fs vs)
unfolding values_text Lacks
values_lack [] vs = tt
values_lack (f ∷ fs) [] = tt
values_lack (f ∷ fs) (v ∷ vs) = (refl, both_lack newline (value_text f v) (values_text fs vs) (value_lacks newline f v (omega arith)) (values_lack fs vs))

entry_lacks : (e : Entry) (vs : List ℕ) → Lacks newline e.name → Lacks newline (entry_text e vs)
entry_lacks e vs h = both_lack newline e.name (values_text e.forms vs) h (values_lack e.forms vs)

-- of entries whose names have none
unfoldable NamesLack : List Entry → Type 0
NamesLack [] = Unit
NamesLack (e ∷ es) = (lacking newline e.name ≡ true) × NamesLack es

are_lines : (es : List Entry) (vs : List ℕ) → NamesLack es → AreLines (lines_from es vs)
unfolding NamesLack AreLines lines_from
are_lines [] vs h = tt
are_lines (e ∷ es) vs h = (entry_lacks e (take n vs) (lacks_by newline e.name h.0), are_lines es (drop n vs) h.1)
  where
    n : ℕ
    n = length e.forms

names_lack : NamesLack entries
unfolding NamesLack entries lacking
names_lack = (refl, (refl, (refl, (refl, (refl, (refl, (refl, tt)))))))

all_wanted : (s : Status) → wanted_of (status_lines s) ≡ status_lines s
unfolding wanted_of status_lines wanted begins_one starts_with entries
all_wanted s = refl

any_lines : (ls : List (List ℕ)) → AreLines ls → lines_of (text_of ls) ≡ ls
unfolding lines_of
any_lines ls h = ap lines_of (sym (append-nil (text_of ls))) ∙ lines_then ls [] h ∙ append-nil ls

written_wanted : (s : Status) → wanted_of (lines_of (status_text s)) ≡ status_lines s
unfolding status_text
written_wanted s =
    ap wanted_of (any_lines (status_lines s) (subst AreLines (lines_told s) (are_lines entries (line_values s) names_lack))) ∙ all_wanted s

any_last_line : (ls : List (List ℕ)) (b : ℕ) (l : List ℕ) → AreLines ls → Lacks newline (b ∷ l) → lines_of (text_of ls ++ (b ∷ l)) ≡ ls ++ ((b ∷ l) ∷ [])
any_last_line ls b l h g = lines_then ls (b ∷ l) h ∙ ap (λ (ms : List (List ℕ)). ls ++ ms) (last_line_lem b l g)

pub shown_writable : (c : Credentials) → valid c ≡ true → Writable (shown_of c)
shown_writable c h = let w = valid_writable c h in omega (arith, w.uids, w)

-- what agrees is not listed
nothing_differs : (text : List ℕ) (c : Credentials) → valid c ≡ true → wanted_of (lines_of text) ≡ status_lines (shown_of c)
    → compared text c ≡ report last_line
unfolding compared laid
nothing_differs text c h e =
    rw (written_read text (shown_of c) (shown_writable c h) e, h, listed.empty (shown_of c) (shown_of c) refl)

pub round_trip : RoundTrip
round_trip =
    record {
      written_read = written_read;
      written_wanted = written_wanted;
      read_written = read_written;
      any_lines = any_lines;
      any_last_line = any_last_line;
      nothing_differs = nothing_differs;
    }

-- The lines before a fault can begin a status text, and with the line at fault they cannot. Assumes nothing.
use mathlib.Core.Path.{◌≡◌, refl, sym, ap, ◌∙◌}
use mathlib.Core.List.{List, [], ◌∷◌, ◌++◌}
use mathlib.Core.Bool.{Bool, true, false, cond}
use Prim.Native.Nat.{ℕ, zero, suc, ◌+◌, ◌-◌, ◌^◌, ◌<◌, ◌≤◌}
use native.Mathlib.Nat.{pow-suc}
use native.Mathlib.Omega.{arith}
use lib.ListN.{length, take, drop}
use Rattle.std.specs.Prelude.{Err}
use Rattle.format.specs.Line.{Form, decimal, hex, Read, read, fault_at, below, next, mapped, starts_with}
use Rattle.format.proofs.Fitting.{Fits}
use Rattle.status.specs.declared.ReadError.TheVariants.{Malformed}
use Rattle.status.specs.Lines.{lines_of, Entry, entries, begins_one, wanted, wanted_of, entry_text}
use Rattle.status.specs.Reading.{read_entry, read_due, read_dues, status_of, shown, read_status}
use Rattle.status.specs.FirstFault.{CanBegin, FirstFault}
use Rattle.status.proofs.Within.{Within, entry_within}
use Rattle.status.proofs.Values.{FitForms, entry_read, entry_written}
use Rattle.status.proofs.Dues.{lines_from, all_forms, fit_parts, Told, due_told}
use Rattle.status.proofs.RoundTrip.{told_written, written_told}

-- ---- what a fault tells

read_fault : {A B : Type 0} {v : A} {t : List ℕ} {line : ℕ} → read v t ≡ fault_at line → B
read_fault e = let z : ◌≡◌ {A = ℕ} 0 1 = cc in absurd (omega arith)

same_line : {A : Type 0} {m n : ℕ} → ◌≡◌ {A = Read A} (fault_at m) (fault_at n) → m ≡ n
same_line e = cc

-- further on
below_fault : {A : Type 0} (k n : ℕ) (r : Read A) → below k r ≡ fault_at n → (m : ℕ) × (r ≡ fault_at m) × (n ≡ k + m)
below_fault k n (read v t) e = read_fault e
below_fault k n (fault_at m) e = (m, refl, sym (same_line e))

-- the line that is due is at fault, or one behind it
due_fault : (n : ℕ) (r behind : Read (List ℕ)) → Within r → next 1 r (λ vs rest. mapped (λ ws. vs ++ ws) behind) ≡ fault_at n
    → {B : Type 0} → (n ≡ 1 → r ≡ fault_at 1 → B) → ((vs rest : List ℕ) (m : ℕ) → r ≡ read vs rest → behind ≡ fault_at m → n ≡ 1 + m → B) → B
due_fault n (read vs rest) (read ws t) h e f g = read_fault e
due_fault n (read vs rest) (fault_at m) h e f g = g vs rest m refl refl (sym (same_line e))
due_fault n (fault_at line) behind h e f g = f (sym (same_line e) ∙ h) (ap fault_at h)

-- ---- lines of entries that are all wanted, with zeros for values

-- a line of each of these is wanted, whatever its values
unfoldable AllWanted : List Entry → Type 0
AllWanted [] = Unit
AllWanted (e ∷ es) = ((vs : List ℕ) → wanted (entry_text e vs) ≡ true) × AllWanted es

all_wanted : AllWanted entries
unfolding AllWanted entries wanted begins_one starts_with
all_wanted = ((λ vs. refl), ((λ vs. refl), ((λ vs. refl), ((λ vs. refl), ((λ vs. refl), ((λ vs. refl), ((λ vs. refl), tt)))))))

-- zeros, which every form can hold
unfoldable zeros : List Form → List ℕ
zeros [] = []
zeros (f ∷ fs) = 0 ∷ zeros fs

power : (n : ℕ) → 0 < 16 ^ n
power zero = omega arith
power (suc n) = rw pow-suc (omega (arith, power n))

zero_fits : (f : Form) → Fits f 0
zero_fits (decimal m) = omega arith
zero_fits (hex n) = power n

zeros_fit : (fs : List Form) → FitForms fs (zeros fs)
unfolding FitForms zeros
zeros_fit [] = tt
zeros_fit (f ∷ fs) = (zero_fits f, zeros_fit fs)

written_wanted : (es : List Entry) (vs : List ℕ) → AllWanted es → wanted_of (lines_from es vs) ≡ lines_from es vs
unfolding AllWanted lines_from wanted_of
written_wanted [] vs h = refl
written_wanted (e ∷ es) vs h =
    let n = length e.forms in
    rw (h.0 (take n vs)) (ap (λ (ls : List (List ℕ)). entry_text e (take n vs) ∷ ls) (written_wanted es (drop n vs) h.1))

-- ---- before the fault

-- lines that others complete, while these are due
record Completed (es : List Entry) (ls : List (List ℕ)) : Type 0 where
  others : List (List ℕ)
  values : List ℕ
  told : Told es (wanted_of (ls ++ others)) values

from_here : (es : List Entry) → AllWanted es → Completed es []
from_here es h =
    let vs = zeros (all_forms es) in
    record { others = lines_from es vs; values = vs; told = record { lines = written_wanted es vs h; fit = zeros_fit (all_forms es) } }

-- where the first line is at fault
at_once : (es : List Entry) (ls : List (List ℕ)) (n : ℕ) → AllWanted es → n ≡ 1 → Completed es (take (n - 1) ls)
at_once es ls n h e = rw e (from_here es h)

-- a line more in front
passed : (es : List Entry) (l : List ℕ) (ls : List (List ℕ)) → wanted l ≡ false → Completed es ls → Completed es (l ∷ ls)
unfolding wanted_of
passed es l ls h c = record { others = c.others; values = c.values; told = rw h c.told }

taken : (e : Entry) (es : List Entry) (l vs rest : List ℕ) (ls : List (List ℕ)) → wanted l ≡ true → read_entry e l ≡ read vs rest → Completed es ls
    → Completed (e ∷ es) (l ∷ ls)
unfolding wanted_of
taken e es l vs rest ls h r c =
    let w = entry_written e vs l rest r in
    record { others = c.others; values = vs ++ c.values; told = rw h (due_told e es l (wanted_of (ls ++ c.others)) vs c.values w.0 w.1 c.told) }

-- the line after m lines more, the first of which is taken apart
further : (P : List (List ℕ) → Type 0) (l : List ℕ) (ls : List (List ℕ)) (n m : ℕ) → 1 ≤ m → n ≡ 1 + m → P (l ∷ take (m - 1) ls) → P (take (n - 1) (l ∷ ls))
further P l ls n zero h e p = absurd (omega arith)
further P l ls n (suc m) h e p =
    let a : n - 1 ≡ suc m = omega (arith, e) in
    let b : suc m - 1 ≡ m = omega arith in
    rw a (rw b at p)

before : (es : List Entry) (ls : List (List ℕ)) (n : ℕ) → AllWanted es → read_dues es ls ≡ fault_at n → (1 ≤ n) × Completed es (take (n - 1) ls)
unfolding read_dues AllWanted
before [] [] n a h = read_fault h
before (e ∷ es) [] n a h = let p = sym (same_line h) in (omega (arith, p), at_once (e ∷ es) [] n a p)
before [] (l ∷ ls) n a h = by_test (wanted l) refl h (λ m g. before [] ls m a g)
  where
    by_test : (q : Bool) → wanted l ≡ q → cond q (fault_at 1) (below 1 (read_dues [] ls)) ≡ fault_at n
        → ((m : ℕ) → read_dues [] ls ≡ fault_at m → (1 ≤ m) × Completed [] (take (m - 1) ls))
        → (1 ≤ n) × Completed [] (take (n - 1) (l ∷ ls))
    by_test true w x f = let p = sym (same_line x) in (omega (arith, p), at_once [] (l ∷ ls) n tt p)
    by_test false w x f =
        let b = below_fault 1 n (read_dues [] ls) x in
        let c = f b.0 b.1 in
        (omega (arith, b.2), further (Completed []) l ls n b.0 c.0 b.2 (passed [] l (take (b.0 - 1) ls) w c.1))
before (e ∷ es) (l ∷ ls) n a h = by_test (wanted l) refl h (λ m g. before (e ∷ es) ls m a g) (λ m g. before es ls m a.1 g)
  where
    by_test : (q : Bool) → wanted l ≡ q → cond q (read_due (e ∷ es) l (λ due. read_dues due ls)) (below 1 (read_dues (e ∷ es) ls)) ≡ fault_at n
        → ((m : ℕ) → read_dues (e ∷ es) ls ≡ fault_at m → (1 ≤ m) × Completed (e ∷ es) (take (m - 1) ls))
        → ((m : ℕ) → read_dues es ls ≡ fault_at m → (1 ≤ m) × Completed es (take (m - 1) ls))
        → (1 ≤ n) × Completed (e ∷ es) (take (n - 1) (l ∷ ls))
    by_test true w x f g =
        due_fault n (read_entry e l) (read_dues es ls) (entry_within e l) x
        (λ p r. (omega (arith, p), at_once (e ∷ es) (l ∷ ls) n a p))
        (λ vs rest m r b p.
        let c = g m b in
        (omega (arith, p), further (Completed (e ∷ es)) l ls n m c.0 p (taken e es l vs rest (take (m - 1) ls) w r c.1)))
    by_test false w x f g =
        let b = below_fault 1 n (read_dues (e ∷ es) ls) x in
        let c = f b.0 b.1 in
        (omega (arith, b.2), further (Completed (e ∷ es)) l ls n b.0 c.0 b.2 (passed (e ∷ es) l (take (b.0 - 1) ls) w c.1))

-- ---- with the line at fault

-- the first of n lines, where there are some
more : (P : List (List ℕ) → Type 0) (l : List ℕ) (ls : List (List ℕ)) (n m : ℕ) → n ≡ 1 + m → P (take n (l ∷ ls)) → P (l ∷ take m ls)
more P l ls n m e p = let a : n ≡ suc m = omega (arith, e) in rw a at p

-- what a line tells that others complete, and these with it
first_told : (e : Entry) (es : List Entry) (l : List ℕ) (ls : List (List ℕ)) (vs : List ℕ) → Told (e ∷ es) (l ∷ ls) vs
    → (read_entry e l ≡ read (take (length e.forms) vs) []) × Told es ls (drop (length e.forms) vs)
unfolding lines_from all_forms
first_told e es l ls vs t =
    let n = length e.forms in
    let f = fit_parts e.forms (all_forms es) vs t.fit in
    let p : l ≡ entry_text e (take n vs) = cc t.lines in
    let q : ls ≡ lines_from es (drop n vs) = cc t.lines in
    (ap (read_entry e) p ∙ entry_read e (take n vs) f.0, record { lines = q; fit = f.1 })

-- what stands behind a line that is passed over, and behind one that is taken
skipped : (es : List Entry) (l : List ℕ) (ls others : List (List ℕ)) (vs : List ℕ) → wanted l ≡ false → Told es (wanted_of ((l ∷ ls) ++ others)) vs → Told es (wanted_of (ls ++ others)) vs
unfolding wanted_of
skipped es l ls others vs h t = rw h at t

kept : (es : List Entry) (l : List ℕ) (ls others : List (List ℕ)) (vs : List ℕ) → wanted l ≡ true → Told es (wanted_of ((l ∷ ls) ++ others)) vs → Told es (l ∷ wanted_of (ls ++ others)) vs
unfolding wanted_of
kept es l ls others vs h t = rw h at t

none_due : (l : List ℕ) (ls : List (List ℕ)) (vs : List ℕ) → Told [] (l ∷ ls) vs → ⊥
unfolding lines_from
none_due l ls vs t = let n = ap length t.lines in absurd (omega arith)

with_it : (es : List Entry) (ls : List (List ℕ)) (n : ℕ) → read_dues es ls ≡ fault_at n → n ≤ length ls
    → (others : List (List ℕ)) (vs : List ℕ) → Told es (wanted_of (take n ls ++ others)) vs
    → ⊥
unfolding read_dues
with_it [] [] n h k os vs t = read_fault h
with_it (e ∷ es) [] n h k os vs t = let p = same_line h in absurd (omega (arith, p, k))
with_it [] (l ∷ ls) n h k os vs t = by_test (wanted l) refl h (λ m g i. with_it [] ls m g i os vs)
  where
    by_test : (q : Bool) → wanted l ≡ q → cond q (fault_at 1) (below 1 (read_dues [] ls)) ≡ fault_at n
        → ((m : ℕ) → read_dues [] ls ≡ fault_at m → m ≤ length ls → Told [] (wanted_of (take m ls ++ os)) vs → ⊥)
        → ⊥
    by_test true w x f =
        let p : n ≡ 1 + 0 = sym (same_line x) in
        none_due l (wanted_of ([] ++ os)) vs (kept [] l [] os vs w (more (λ ms. Told [] (wanted_of (ms ++ os)) vs) l ls n 0 p t))
    by_test false w x f =
        let b = below_fault 1 n (read_dues [] ls) x in
        f b.0 b.1 (omega (arith, b.2, k)) (skipped [] l (take b.0 ls) os vs w (more (λ ms. Told [] (wanted_of (ms ++ os)) vs) l ls n b.0 b.2 t))
with_it (e ∷ es) (l ∷ ls) n h k os vs t =
    by_test (wanted l) refl h (λ m g i. with_it (e ∷ es) ls m g i os vs) (λ m g i ws. with_it es ls m g i os ws)
  where
    front : (m : ℕ) → wanted l ≡ true → n ≡ 1 + m → Told (e ∷ es) (l ∷ wanted_of (take m ls ++ os)) vs
    front m w p = kept (e ∷ es) l (take m ls) os vs w (more (λ ms. Told (e ∷ es) (wanted_of (ms ++ os)) vs) l ls n m p t)

    by_test : (q : Bool) → wanted l ≡ q → cond q (read_due (e ∷ es) l (λ due. read_dues due ls)) (below 1 (read_dues (e ∷ es) ls)) ≡ fault_at n
        → ((m : ℕ) → read_dues (e ∷ es) ls ≡ fault_at m → m ≤ length ls → Told (e ∷ es) (wanted_of (take m ls ++ os)) vs → ⊥)
        → ((m : ℕ) → read_dues es ls ≡ fault_at m → m ≤ length ls → (ws : List ℕ) → Told es (wanted_of (take m ls ++ os)) ws → ⊥)
        → ⊥
    by_test true w x f g =
        due_fault n (read_entry e l) (read_dues es ls) (entry_within e l) x
        (λ p r. read_fault (sym (first_told e es l _ vs (front 0 w p)).0 ∙ r))
        (λ us rest m r b p. g m b (omega (arith, p, k)) (drop (length e.forms) vs) (first_told e es l _ vs (front m w p)).1)
    by_test false w x f g =
        let b = below_fault 1 n (read_dues (e ∷ es) ls) x in
        f b.0 b.1 (omega (arith, b.2, k)) (skipped (e ∷ es) l (take b.0 ls) os vs w (more (λ ms. Told (e ∷ es) (wanted_of (ms ++ os)) vs) l ls n b.0 b.2 t))

-- ---- the range

in_range : (es : List Entry) (ls : List (List ℕ)) (n : ℕ) → read_dues es ls ≡ fault_at n → n ≤ length ls + 1
unfolding read_dues
in_range [] [] n h = read_fault h
in_range (e ∷ es) [] n h = let p = same_line h in omega (arith, p)
in_range [] (l ∷ ls) n h = by_test (wanted l) h (λ m g. in_range [] ls m g)
  where
    by_test : (q : Bool) → cond q (fault_at 1) (below 1 (read_dues [] ls)) ≡ fault_at n → ((m : ℕ) → read_dues [] ls ≡ fault_at m → m ≤ length ls + 1)
        → n ≤ suc (length ls) + 1
    by_test true x f = let p = same_line x in omega (arith, p)
    by_test false x f = let b = below_fault 1 n (read_dues [] ls) x in omega (arith, b.2, f b.0 b.1)
in_range (e ∷ es) (l ∷ ls) n h = by_test (wanted l) h (λ m g. in_range (e ∷ es) ls m g) (λ m g. in_range es ls m g)
  where
    by_test : (q : Bool) → cond q (read_due (e ∷ es) l (λ due. read_dues due ls)) (below 1 (read_dues (e ∷ es) ls)) ≡ fault_at n
        → ((m : ℕ) → read_dues (e ∷ es) ls ≡ fault_at m → m ≤ length ls + 1)
        → ((m : ℕ) → read_dues es ls ≡ fault_at m → m ≤ length ls + 1)
        → n ≤ suc (length ls) + 1
    by_test true x f g =
        due_fault n (read_entry e l) (read_dues es ls) (entry_within e l) x (λ p r. omega (arith, p)) (λ vs rest m r b p. omega (arith, p, g m b))
    by_test false x f g = let b = below_fault 1 n (read_dues (e ∷ es) ls) x in omega (arith, b.2, f b.0 b.1)

-- ---- the statement

malformed_told : (text : List ℕ) (n : ℕ) → read_status text ≡ Err (Malformed n) → read_dues entries (lines_of text) ≡ fault_at n
unfolding read_status
malformed_told text n h = by_reading (read_dues entries (lines_of text)) h
  where
    by_reading : (r : Read (List ℕ)) → shown r ≡ Err (Malformed n) → r ≡ fault_at n
    by_reading (read vs rest) e = let z : ◌≡◌ {A = ℕ} 0 1 = cc in absurd (omega arith)
    by_reading (fault_at m) e = let p : m ≡ n = cc in ap fault_at p

can_begin : (ls : List (List ℕ)) → Completed entries ls → CanBegin ls
can_begin ls c =
    let w = told_written (wanted_of (ls ++ c.others)) c.values c.told in
    record { others = c.others; status = status_of c.values; writable = w.1; completed = w.0 }

pub first_fault : FirstFault
first_fault =
    record {
      in_range = λ text n h. ((before entries (lines_of text) n all_wanted (malformed_told text n h)).0, in_range entries (lines_of text) n (malformed_told text n h));
      before_it = λ text n h. can_begin (take (n - 1) (lines_of text)) (before entries (lines_of text) n all_wanted (malformed_told text n h)).1;
      with_it = λ text n h k c. with_it entries (lines_of text) n (malformed_told text n h) k c.others _ (written_told _ c.status c.writable c.completed);
    }

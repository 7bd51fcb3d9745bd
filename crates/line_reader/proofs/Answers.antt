-- What a line at a place comes to, and lines one after the other, for the callers: one law over the lines of a list of kinds. Assumes nothing.
use Rattle.std.proofs.Common.{◌≡◌, ℕ, ◌+◌, ◌-◌, ◌%◌, ◌^◌, ◌<◌, ◌≤◌, List, [], ◌∷◌, ◌++◌, length, drop, Ok, Err, Option, sym, refl, ap, ◌∙◌, add_assoc, mod-eq_of_lt, zero-add, arith, length-append, length-drop, drop-drop}
use lib.Seq.{drop-append_seam}
use Rattle.format.specs.Line.{Form, Kind, value_text, keyed_text, Read, read, fault_at, below, next, mapped, newline, read_value, after_key, read_line, read_lines}
use Rattle.format.proofs.ReadWritten.{keyed_written}
use Rattle.format.proofs.Alike.{in_line, value_in_line, key_in_line}
use Rattle.hex_tables.specs.Tables.{reading_table}
use Rattle.hex_tables.proofs.Format.{by_the_tables}
use Rattle.line_reader.specs.declared.Fault.{Fault}
use Rattle.line_reader.specs.declared.Place.{Place}
use Rattle.line_reader.specs.Positions.{from, Reading, valued, followed, place_read, keyed_at, lines_at, lines_by}
use Rattle.line_reader.specs.Inside.{placed, line_at, onward, seen}

-- ---- one line

module _ {A : Type 0} (key : List ℕ) (value : List ℕ → Read A) (text : List ℕ) (p : Place) where
  onward_read : (r : Read A) → onward p (placed text r) ≡ place_read text p r
  onward_read (read v rest) = refl
  onward_read (fault_at line) = refl

  pub onward_line : (line : Option (A × ℕ)) → line ≡ line_at key value text p.at → onward p line ≡ keyed_at key value text p
  unfolding line_at keyed_at
  onward_line line e = ap (onward p) e ∙ onward_read (after_key key value (drop p.at text))

-- ---- where the next line starts

-- what is left of a text after its beginning
pub rest_at : (text start rest : List ℕ) (at : ℕ) → drop at text ≡ start ++ rest → 0 < length start → drop (length text - length rest) text ≡ rest
rest_at text start rest at h g =
    let n : length text - at ≡ length start + length rest = sym (length-drop at text) ∙ ap length h ∙ length-append start rest in
    let e : length text - length rest ≡ at + length start = omega arith in
    rw e (sym (drop-drop (length start) at text) ∙ ap (drop (length start)) h ∙ drop-append_seam start rest)

pub some_line : (key value : List ℕ) → 0 < length (keyed_text key value)
unfolding keyed_text
some_line key value = omega (arith, length-append key (value ++ (newline ∷ [])), length-append value (newline ∷ []))

-- ---- lines one after the other, by whatever reader of values

valued_twice : {A B C : Type 0} (f : A → B) (g : B → C) (r : Reading A) → valued g (valued f r) ≡ valued (λ x. g (f x)) r
valued_twice f g (Ok r) = refl
valued_twice f g (Err e) = refl

valued_same : {A : Type 0} (r : Reading A) → valued (λ x. x) r ≡ r
valued_same (Ok r) = refl
valued_same (Err e) = refl

-- what holds of the place past lines, or of their fault
abbrev pub Ends : {A : Type 0} → (Place → Type 0) → (Fault → Type 0) → Reading A → Type 0
Ends P Q (Ok r) = P r.1
Ends P Q (Err e) = Q e

module _ (P : Place → Type 0) (Q : Fault → Type 0) where
  pub valued_ends : {A B : Type 0} (f : A → B) (r : Reading A) → Ends P Q r → Ends P Q (valued f r)
  valued_ends f (Ok r) h = h
  valued_ends f (Err e) h = h

  pub followed_ends : {A B : Type 0} (P' : Place → Type 0) (Q' : Fault → Type 0) (r : Reading A) (f : A → Place → Reading B)
      → Ends P' Q' r → ((e : Fault) → Q' e → Q e) → ((v : A) (q : Place) → P' q → Ends P Q (f v q)) → Ends P Q (followed r f)
  followed_ends P' Q' (Ok r) f h k g = g r.0 r.1 h
  followed_ends P' Q' (Err e) f h k g = k e h

module _ (value : Form → List ℕ → Read ℕ) (text : List ℕ) where
  -- the line of a kind at a place
  abbrev one : Kind → Place → Reading ℕ
  one k p = keyed_at k.key (value k.form) text p

  -- what a list of groups of lines says
  abbrev more : List Kind → List ℕ → Place → Reading (List ℕ)
  more ls vs q = valued (λ ws. vs ++ ws) (lines_at value ls text q)

  grouped_rest : (v : ℕ) (x : Reading (List ℕ)) (ls : List Kind) → valued (λ vs. v ∷ vs) (followed x (more ls)) ≡ followed (valued (λ vs. v ∷ vs) x) (more ls)
  grouped_rest v (Ok r) ls = valued_twice (λ ws. r.0 ++ ws) (λ ws. v ∷ ws) (lines_at value ls text r.1)
  grouped_rest v (Err e) ls = refl

  grouped_first : (x : Reading ℕ) (ks ls : List Kind) → ((q : Place) → lines_at value (ks ++ ls) text q ≡ followed (lines_at value ks text q) (more ls))
      → followed x (λ v q. valued (λ vs. v ∷ vs) (lines_at value (ks ++ ls) text q))
      ≡ followed (followed x (λ v q. valued (λ vs. v ∷ vs) (lines_at value ks text q))) (more ls)
  grouped_first (Ok r) ks ls rec = ap (valued (λ vs. r.0 ∷ vs)) (rec r.1) ∙ grouped_rest r.0 (lines_at value ks text r.1) ls
  grouped_first (Err e) ks ls rec = refl

  -- lines of two groups
  pub lines_grouped : (ks ls : List Kind) (p : Place) → lines_at value (ks ++ ls) text p ≡ followed (lines_at value ks text p) (more ls)
  unfolding lines_at
  lines_grouped [] ls p = sym (valued_same (lines_at value ls text p))
  lines_grouped (k ∷ ks) ls p = grouped_first (one k p) ks ls (lines_grouped ks ls)

  -- the place past lines is within the text
  abbrev Within : Place → Type 0
  Within q = q.at ≤ length text

  abbrev Any : Fault → Type 0
  Any e = 0 ≤ e.line

  read_within : {A : Type 0} (p : Place) (r : Read A) → Ends Within Any (place_read text p r)
  read_within p (read v rest) = omega arith
  read_within p (fault_at line) = omega arith

  one_within : (k : Kind) (p : Place) → Ends Within Any (one k p)
  unfolding keyed_at
  one_within k p = read_within p (after_key k.key (value k.form) (drop p.at text))

  pub lines_within : (ks : List Kind) (p : Place) → p.at ≤ length text → Ends Within Any (lines_at value ks text p)
  unfolding lines_at
  lines_within [] p h = h
  lines_within (k ∷ ks) p h =
      followed_ends Within Any Within Any (one k p) (λ v q. valued (λ vs. v ∷ vs) (lines_at value ks text q)) (one_within k p) (λ e g. g)
      (λ v q g. valued_ends Within Any (λ vs. v ∷ vs) (lines_at value ks text q) (lines_within ks q g))

  -- without a fault each line counts, and a fault is at one of the lines
  abbrev Counts : ℕ → Place → Type 0
  Counts n q = q.lines ≡ n

  abbrev Below : ℕ → Fault → Type 0
  Below n e = e.line ≤ n

  read_counted : {A : Type 0} (p : Place) (r : Read A) (n : ℕ) → n ≡ p.lines + 1 → n < 2 ^ 32 → Ends (Counts n) (Below n) (place_read text p r)
  read_counted p (read v rest) n e b = omega (arith, e, b)
  read_counted p (fault_at line) n e b = omega (arith, e, b)

  pub keyed_counted : {A : Type 0} (key : List ℕ) (says : List ℕ → Read A) (p : Place) (n : ℕ) → n ≡ p.lines + 1 → n < 2 ^ 32
      → Ends (Counts n) (Below n) (keyed_at key says text p)
  unfolding keyed_at
  keyed_counted key says p n e b = read_counted p (after_key key says (drop p.at text)) n e b

  pub lines_counted : (ks : List Kind) (p : Place) (n : ℕ) → n ≡ p.lines + length ks → n < 2 ^ 32 → Ends (Counts n) (Below n) (lines_at value ks text p)
  unfolding lines_at
  lines_counted [] p n e b = omega (arith, e)
  lines_counted (k ∷ ks) p n e b =
      followed_ends (Counts n) (Below n) (Counts (p.lines + 1)) (Below (p.lines + 1)) (one k p) (λ v q. valued (λ vs. v ∷ vs) (lines_at value ks text q))
      (keyed_counted k.key (value k.form) p (p.lines + 1) refl (omega (arith, e, b))) (λ f g. omega (arith, e, g))
      (λ v q g. valued_ends (Counts n) (Below n) (λ vs. v ∷ vs) (lines_at value ks text q) (lines_counted ks q n (omega (arith, e, g)) b))

-- ---- as the format reads them

below_twice : {A : Type 0} (n m : ℕ) (r : Read A) → below n (below m r) ≡ below (n + m) r
below_twice n m (read v t) = refl
below_twice n m (fault_at line) = ap fault_at (sym (add_assoc n m line))

pub below_none : {A : Type 0} (r : Read A) → below 0 r ≡ r
below_none (read v t) = refl
below_none (fault_at line) = ap fault_at (zero-add line)

below_mapped : {A B : Type 0} (f : A → B) (n : ℕ) (r : Read A) → below n (mapped f r) ≡ mapped f (below n r)
below_mapped f n (read v t) = refl
below_mapped f n (fault_at line) = refl

seen_valued : {A B : Type 0} (f : A → B) (text : List ℕ) (r : Reading A) → seen text (valued f r) ≡ mapped f (seen text r)
seen_valued f text (Ok r) = refl
seen_valued f text (Err e) = refl

-- what the format reads below n lines, made into another value
pub seen_mapped : {A B : Type 0} (f : A → B) (text : List ℕ) (n : ℕ) (r : Read A) (x : Reading A) → below n r ≡ seen text x
    → below n (mapped f r) ≡ seen text (valued f x)
seen_mapped f text n r x h = below_mapped f n r ∙ ap (mapped f) h ∙ sym (seen_valued f text x)

-- lines and what follows them
pub seen_followed : {A B : Type 0} (text : List ℕ) (n m : ℕ) (r : Read A) (g : A → List ℕ → Read B) (x : Reading A) (f : A → Place → Reading B)
    → below n r ≡ seen text x → Ends (λ q. q.lines ≡ n + m) (λ e. e.line ≤ n + m) x
    → ((v : A) (q : Place) → q.lines ≡ n + m → below q.lines (g v (drop q.at text)) ≡ seen text (f v q))
    → below n (next m r g) ≡ seen text (followed x f)
seen_followed text n m (read v rest) g (Ok x) f h c k =
    let e : v ≡ x.0 = cc in
    let d : rest ≡ drop x.1.at text = cc in
    below_twice n m (g v rest) ∙ rw (e, d, ← c) (k x.0 x.1 c)
seen_followed text n m (fault_at line) g (Err e) f h c k = let l : n + line ≡ e.line = cc in ap fault_at l
seen_followed text n m (read v rest) g (Err e) f h c k = cc
seen_followed text n m (fault_at line) g (Ok x) f h c k = cc

-- a line, whose rest is where it ends
pub seen_line : {A : Type 0} (text : List ℕ) (p : Place) (r : Read A) → r ≡ in_line r
    → ((v : A) (rest : List ℕ) → r ≡ read v rest → drop (length text - length rest) text ≡ rest) → p.lines + 1 < 2 ^ 32
    → below p.lines r ≡ seen text (place_read text p r)
seen_line text p (read v rest) e d b = ap (read v) (sym (d v rest refl))
seen_line text p (fault_at line) e d b =
    let n : (p.lines + 1) % 2 ^ 32 ≡ p.lines + 1 = mod-eq_of_lt b in
    let l : line ≡ 1 = cc in
    rw (l, n)

module _ (text : List ℕ) where
  pub line_seen : (k : Kind) (p : Place) → p.lines + 1 < 2 ^ 32 → below p.lines (read_line k (drop p.at text)) ≡ seen text (one read_value text k p)
  unfolding keyed_at
  line_seen k p b =
      seen_line text p (read_line k (drop p.at text)) (key_in_line k.key (read_value k.form) (drop p.at text) (value_in_line k.form))
      (λ v rest e. rest_at text (keyed_text k.key (value_text k.form v)) rest p.at (keyed_written k.key k.form v (drop p.at text) rest e).0 (some_line k.key (value_text k.form v)))
      b

  -- lines from a place on are what the format reads there
  lines_seen : (ks : List Kind) (p : Place) → p.lines + length ks < 2 ^ 32 → below p.lines (read_lines ks (drop p.at text)) ≡ seen text (lines_at read_value ks text p)
  unfolding lines_at read_lines
  lines_seen [] p b = refl
  lines_seen (k ∷ ks) p b =
      seen_followed text p.lines 1 (read_line k (drop p.at text)) (λ v rest. mapped (λ vs. v ∷ vs) (read_lines ks rest)) (one read_value text k p)
      (λ v q. valued (λ vs. v ∷ vs) (lines_at read_value ks text q)) (line_seen k p (omega (arith, b))) (keyed_counted read_value text k.key (read_value k.form) p (p.lines + 1) refl (omega (arith, b)))
      (λ v q e. seen_mapped (λ vs. v ∷ vs) text q.lines (read_lines ks (drop q.at text)) (lines_at read_value ks text q) (lines_seen ks q (omega (arith, b, e))))

-- with the table for reading
by_table : (ks : List Kind) (text : List ℕ) (p : Place) → lines_by reading_table ks text p ≡ lines_at read_value ks text p
by_table ks text p = ap (λ (value : Form → List ℕ → Read ℕ). lines_at value ks text p) (λ i form t. by_the_tables.value_read form t i)

pub lines_read_at : (ks : List Kind) (text : List ℕ) (p : Place) → p.lines + length ks < 2 ^ 32
    → below p.lines (read_lines ks (drop p.at text)) ≡ seen text (lines_by reading_table ks text p)
lines_read_at ks text p b = lines_seen text ks p b ∙ ap (seen text) (sym (by_table ks text p))

-- from a position on
pub lines_read : (ks : List Kind) (text : List ℕ) (at : ℕ) → length ks < 2 ^ 32 → read_lines ks (drop at text) ≡ seen text (lines_by reading_table ks text (from at))
lines_read ks text at b = sym (below_none (read_lines ks (drop at text))) ∙ lines_read_at ks text (from at) (omega (arith, b))

-- Reading what was written gives the sets back. Assumes nothing.
use mathlib.Core.Path.{◌≡◌, refl, sym, ap, ◌∙◌}
use mathlib.Core.Logic.{inl, inr}
use mathlib.Core.List.{List, [], ◌∷◌, ◌++◌}
use mathlib.Core.Bool.{Bool, true, false, cond, not, ◌&&◌, ◌||◌}
use Prim.Native.Nat.{ℕ, suc, ◌+◌, ◌<◌, ◌^◌}
use Prim.Native.String.{String}
use native.Mathlib.Omega.{arith}
use native.Mathlib.Decide.{dec_lt, ℕ_discrete}
use borrow.Author.Tests.{lt-ltb, le-ltb, eq-eqb, ne_eqb}
use lib.Dec.{ltb, eqb, leb}
use lib.ListN.{length, take, drop}
use lib.Bits.{or_zero_l}
use lib.Seq.{take-append_seam}
use Rattle.capabilities.specs.Sets.{has, full, union, minus, single, Within}
use Rattle.capabilities.proofs.Membership.{has_union, has_minus, has_single, has_above, has_none, ext}
use Rattle.capabilities.proofs.Inclusion.{and_l, and_r, union_sub_l, union_sub_r, not_outside, full_lt}
use Rattle.format.specs.Line.{bytes}
use Rattle.names.specs.declared.Sets.{Sets}
use Rattle.std.specs.Prelude.{Ok, Err}
use Rattle.attribute.specs.Writer.{left_by}
use Rattle.attribute.specs.declared.WriteError.TheVariants.{OutOfRange, NoRoom}
use Rattle.names.specs.Names.{capability_names}
use Rattle.names.specs.Grammar.{without, no_sets, Word, spelt, words_from, names, ◌among◌, Flags, none, one, Clause, named, name, last, put}
use Rattle.names.specs.Reading.{gap, operated, run, read_text}
use Rattle.names.specs.Writing.{flags_text, has_flag, clause_text, sets_text, bits_above40, names_answer, names_buffer}
use Rattle.names.specs.RoundTrip.{RoundTrip}
use Rattle.names.specs.Inside.{clauses_text}
use Rattle.names.proofs.Run.{runs}
use Rattle.names.proofs.Words.{high, tidy, lowered_high, names_tidy, names_apart}
use Rattle.names.proofs.WellFormedRead.{clause_run, blank_ends}
use Rattle.names.proofs.WrittenClauses.{whole_text}
use Rattle.names.proofs.ReadWritable.{read_writable}

-- ---- a set up to a capability

-- b has the members of a below n
abbrev Upto : ℕ → ℕ → ℕ → Type 0
Upto n a b = (k : ℕ) → has b k ≡ has a k && ltb k n

-- a capability given, where it is a member
abbrev gains : Bool → ℕ → ℕ → ℕ
gains true c b = union b c
gains false c b = b

and_true : (p : Bool) → p && true ≡ p
and_true true = refl
and_true false = refl

and_false : (p : Bool) → p && false ≡ false
and_false true = refl
and_false false = refl

or_false : (p : Bool) → p || false ≡ p
or_false true = refl
or_false false = refl

or_true : (p : Bool) → p || true ≡ true
or_true true = refl
or_true false = refl

-- what a capability other than n is in stays
module _ (n k : ℕ) (h : n < 64) (e : eqb k n ≡ false) where
  minus_other : (b : ℕ) → has (minus b (single n)) k ≡ has b k
  minus_other b = has_minus b (single n) k ∙ ap (λ (q : Bool). has b k && not q) (has_single n k h ∙ e) ∙ and_true (has b k)

  gains_other : (x : Bool) (b : ℕ) → has (gains x (single n) (minus b (single n))) k ≡ has b k
  gains_other true b = has_union (minus b (single n)) (single n) k ∙ ap (λ (q : Bool). has (minus b (single n)) k || q) (has_single n k h ∙ e) ∙ or_false (has (minus b (single n)) k) ∙ minus_other b
  gains_other false b = minus_other b

module _ (n : ℕ) (h : n < 64) where
  gains_same : (x : Bool) (b : ℕ) → has (gains x (single n) (minus b (single n))) n ≡ x
  gains_same true b = has_union (minus b (single n)) (single n) n ∙ ap (λ (q : Bool). has (minus b (single n)) n || q) (has_single n n h ∙ eq-eqb n n refl) ∙ or_true (has (minus b (single n)) n)
  gains_same false b = has_minus b (single n) n ∙ ap (λ (q : Bool). has b n && not q) (has_single n n h ∙ eq-eqb n n refl) ∙ and_false (has b n)

  upto_at : (a b : ℕ) → Upto n a b → (k : ℕ) → Dec (k ≡ n) → has (gains (has a n) (single n) (minus b (single n))) k ≡ has a k && ltb k (suc n)
  upto_at a b u k (yes e) = rw (e, lt-ltb n (suc n) (omega arith)) (gains_same (has a n) b ∙ sym (and_true (has a n)))
  upto_at a b u k (no g) = gains_other n k h (ne_eqb k n g) (has a n) b ∙ u k ∙ ap (λ (q : Bool). has a k && q) (by_less (dec_lt k n))
    where
      by_less : Dec (k < n) → ltb k n ≡ ltb k (suc n)
      by_less (yes l) = lt-ltb k n l ∙ sym (lt-ltb k (suc n) (omega arith))
      by_less (no l) = le-ltb k n (omega arith) ∙ sym (le-ltb k (suc n) (omega arith))

  upto_gains : (a b : ℕ) → Upto n a b → Upto (suc n) a (gains (has a n) (single n) (minus b (single n)))
  upto_gains a b u k = upto_at a b u k (ℕ_discrete k n)

upto_skip : (n a b : ℕ) → has a n ≡ false → Upto n a b → Upto (suc n) a b
upto_skip n a b h u k = u k ∙ by_is (ℕ_discrete k n)
  where
    by_less : (k ≡ n → ⊥) → Dec (k < n) → ltb k n ≡ ltb k (suc n)
    by_less g (yes l) = lt-ltb k n l ∙ sym (lt-ltb k (suc n) (omega arith))
    by_less g (no l) = le-ltb k n (omega arith) ∙ sym (le-ltb k (suc n) (omega arith))

    by_is : Dec (k ≡ n) → has a k && ltb k n ≡ has a k && ltb k (suc n)
    by_is (yes e) = rw (e, h)
    by_is (no g) = ap (λ (q : Bool). has a k && q) (by_less g (dec_lt k n))

upto_all : (a b : ℕ) → a < 2 ^ 41 → Upto 41 a b → b ≡ a
upto_all a b h u = ext b a (λ k. u k ∙ by_less k (dec_lt k 41))
  where
    by_less : (k : ℕ) → Dec (k < 41) → has a k && ltb k 41 ≡ has a k
    by_less k (yes l) = ap (λ (q : Bool). has a k && q) (lt-ltb k 41 l) ∙ and_true (has a k)
    by_less k (no l) = rw (has_above 41 a k h (omega arith))

-- ---- three sets up to a capability

record Sofar (n : ℕ) (s v : Sets) : Type 0 where
  permitted : Upto n s.permitted v.permitted
  inheritable : Upto n s.inheritable v.inheritable
  effective : Upto n s.effective v.effective

abbrev given : Bool → Bool → Bool → ℕ → Sets → Sets
given e i p c s = record { permitted = gains p c s.permitted; inheritable = gains i c s.inheritable; effective = gains e c s.effective }

flags_of : (e i p : Bool) (c : ℕ) (s : Sets) → Flags true c s (cond e (bytes "e") [] ++ (cond i (bytes "i") [] ++ cond p (bytes "p") [])) (given e i p c s)
flags_of true true true c s = one refl (one refl (one refl none))
flags_of true true false c s = one refl (one refl none)
flags_of true false true c s = one refl (one refl none)
flags_of true false false c s = one refl none
flags_of false true true c s = one refl (one refl none)
flags_of false true false c s = one refl none
flags_of false false true c s = one refl none
flags_of false false false c s = none

-- the sets after the clause of the capability n
abbrev next : ℕ → Sets → Sets → Sets
next n s v = given (has s.effective n) (has s.inheritable n) (has s.permitted n) (single n) (without (single n) v)

sofar_next : (n : ℕ) (s v : Sets) → n < 64 → Sofar n s v → Sofar (suc n) s (next n s v)
sofar_next n s v h u =
    record {
      permitted = upto_gains n h s.permitted v.permitted u.permitted;
      inheritable = upto_gains n h s.inheritable v.inheritable u.inheritable;
      effective = upto_gains n h s.effective v.effective u.effective;
    }

none_of : (e i p : Bool) → e || (i || p) ≡ false → (e ≡ false) × (i ≡ false) × (p ≡ false)
none_of true i p h = let z : ◌≡◌ {A = ℕ} 0 1 = cc in absurd (omega arith)
none_of false true p h = let z : ◌≡◌ {A = ℕ} 0 1 = cc in absurd (omega arith)
none_of false false p h = (refl, refl, h)

sofar_skip : (n : ℕ) (s v : Sets) → has s.effective n || (has s.inheritable n || has s.permitted n) ≡ false → Sofar n s v → Sofar (suc n) s v
sofar_skip n s v h u =
    let z = none_of (has s.effective n) (has s.inheritable n) (has s.permitted n) h in
    record {
      permitted = upto_skip n s.permitted v.permitted z.2 u.permitted;
      inheritable = upto_skip n s.inheritable v.inheritable z.1 u.inheritable;
      effective = upto_skip n s.effective v.effective z.0 u.effective;
    }

sofar_all : (s v : Sets) → bits_above40 s ≡ false → Sofar 41 s v → v ≡ s
unfolding bits_above40
sofar_all s v w u =
    let f : Within (union s.permitted (union s.inheritable s.effective)) full = not_outside _ _ w in
    let g : Within (union s.inheritable s.effective) full = union_sub_r s.permitted (union s.inheritable s.effective) f in
    let p = upto_all s.permitted v.permitted (full_lt (union_sub_l s.permitted (union s.inheritable s.effective) f)) u.permitted in
    let i = upto_all s.inheritable v.inheritable (full_lt (union_sub_l s.inheritable s.effective g)) u.inheritable in
    let e = upto_all s.effective v.effective (full_lt (union_sub_r s.inheritable s.effective g)) u.effective in
    λ j. record { permitted = p j; inheritable = i j; effective = e j }

-- ---- the clauses

-- the clause of the capability n with its name x
clause_of : (n : ℕ) (s v : Sets) (x : String) → high (bytes x) ≡ true → spelt (bytes x) (single n) true among names → Clause v (clause_text s n x) (next n s v)
unfolding flags_text
clause_of n s v x low h =
    named (rw or_zero_l at (name {c = 0} {t = bytes x} (single n) (rw (lowered_high (bytes x) low) h)))
    (last (put (flags_of (has s.effective n) (has s.inheritable n) (has s.permitted n) (single n) (without (single n) v))))

-- from number n on, between clauses and after one
record Trip (n : ℕ) (l : List String) (s : Sets) : Type 0 where
  between : (v : Sets) → Sofar n s v → run (gap v) (clauses_text true s n l) ≡ Ok s
  behind : (v : Sets) (g : Bool) (c : ℕ) → Sofar n s v → run (operated g true c v) (clauses_text false s n l) ≡ Ok s

module _ (n : ℕ) (x : String) (l : List String) (s : Sets) (h : n < 64) (low : high (bytes x) ≡ true) (m : spelt (bytes x) (single n) true among names) (t : Trip (suc n) l s) where
  read_one : (v : Sets) → Sofar n s v → run (gap v) (clause_text s n x ++ clauses_text false s (suc n) l) ≡ Ok s
  read_one v u =
      clause_run v (next n s v) (clause_text s n x) (clauses_text false s (suc n) l) s (clause_of n s v x low m)
      (λ g c. t.behind (next n s v) g c (sofar_next n s v h u))

  by_test : (q : Bool) → has_flag s n ≡ q → Trip n (x ∷ l) s
  unfolding clauses_text
  by_test true e =
      record {
        between = λ v u. rw e (read_one v u);
        behind = λ v g c u. rw e (runs (operated g true c v) (gap v) 32 (clause_text s n x ++ clauses_text false s (suc n) l) s (blank_ends g c v 32 refl) (read_one v u));
      }
  by_test false e =
      record {
        between = λ v u. rw e (t.between v (sofar_skip n s v e u));
        behind = λ v g c u. rw e (t.behind v g c (sofar_skip n s v e u));
      }

trip : (l : List String) (n : ℕ) (s : Sets) → n + length l ≡ 41 → tidy (words_from n l) ≡ true → ((y : Word) → y among words_from n l → y among names)
    → bits_above40 s ≡ false → Trip n l s
unfolding tidy words_from ◌among◌ run clauses_text
trip [] n s e low sub w =
    let f : n ≡ 41 = omega arith in
    record {
      between = λ v u. ap Ok (sofar_all s v w (rw f at u));
      behind = λ v g c u. ap Ok (sofar_all s v w (rw f at u));
    }
trip (x ∷ l) n s e low sub w =
    by_test n x l s (omega arith) (and_l (high (bytes x)) (tidy (words_from (suc n) l)) low) (sub (spelt (bytes x) (single n) true) (inl refl))
    (trip l (suc n) s (omega arith) (and_r (high (bytes x)) (tidy (words_from (suc n) l)) low) (λ y h. sub y (inr h)) w)
    (has_flag s n) refl

nothing_yet : (s : Sets) → Sofar 0 s no_sets
nothing_yet s =
    record {
      permitted = λ k. sym (zero_below s.permitted k);
      inheritable = λ k. sym (zero_below s.inheritable k);
      effective = λ k. sym (zero_below s.effective k);
    }
  where
    zero_below : (a k : ℕ) → has a k && ltb k 0 ≡ has 0 k
    zero_below a k = ap (λ (q : Bool). has a k && q) (le-ltb k 0 (omega arith)) ∙ and_false (has a k) ∙ sym (has_none k)

whole_trip : (s : Sets) → bits_above40 s ≡ false → Trip 0 capability_names s
unfolding names
whole_trip s w = let e = names_apart.count in trip capability_names 0 s (omega arith) names_tidy (λ y h. h) w

written_read : (s : Sets) → bits_above40 s ≡ false → read_text (sets_text s) ≡ Ok s
unfolding read_text
written_read s w = ap (run (gap no_sets)) (whole_text s) ∙ (whole_trip s w).between no_sets (nothing_yet s)

-- ---- the writer's buffer

buffer_read : (s : Sets) (old : List ℕ) (n : ℕ) → names_answer s (length old) ≡ Ok n → read_text (take n (names_buffer s old)) ≡ Ok s
unfolding names_answer names_buffer
buffer_read s old n h = by_tests (bits_above40 s) (leb (length (sets_text s)) (length old)) refl refl h
  where
    t : List ℕ
    t = sets_text s

    by_tests : (p q : Bool) → bits_above40 s ≡ p → leb (length t) (length old) ≡ q → cond p (Err OutOfRange) (cond q (Ok (length t)) (Err NoRoom)) ≡ Ok n
        → read_text (take n (left_by (cond p (Err OutOfRange) (cond q (Ok (length t)) (Err NoRoom))) t old)) ≡ Ok s
    by_tests true q e f z = let k : ◌≡◌ {A = ℕ} 0 1 = cc in absurd (omega arith)
    by_tests false false e f z = let k : ◌≡◌ {A = ℕ} 0 1 = cc in absurd (omega arith)
    by_tests false true e f z = let k : length t ≡ n = cc in rw (← k) (ap read_text (take-append_seam t (drop (length t) old)) ∙ written_read s e)

pub round_trip : RoundTrip
round_trip = record { written_read = written_read; buffer_read = buffer_read; read_writable = read_writable }

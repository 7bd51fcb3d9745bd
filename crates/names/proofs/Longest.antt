-- The longest written text has 748 bytes. Assumes nothing.
use mathlib.Core.Path.{◌≡◌, refl, ap}
use mathlib.Core.List.{List, [], ◌∷◌, ◌++◌}
use mathlib.Core.Bool.{Bool, true, false, cond}
use Prim.Native.Nat.{ℕ, suc, ◌+◌, ◌≤◌}
use Prim.Native.String.{String}
use native.Mathlib.Omega.{arith}
use lib.ListN.{length, length-append}
use Rattle.capabilities.specs.Sets.{full, has, outside}
use Rattle.format.specs.Line.{bytes}
use Rattle.names.specs.declared.Sets.{Sets}
use Rattle.names.specs.Names.{capability_names}
use Rattle.names.specs.Writing.{flags_text, has_flag, clause_text, clauses, preceded, spaced, sets_text, bits_above40}
use Rattle.names.specs.Longest.{longest_text, Longest}
use Rattle.names.specs.Inside.{separator, clauses_text}
use Rattle.names.proofs.WrittenClauses.{whole_text}

-- room for a clause of every name
unfoldable room : Bool → List String → ℕ
room first [] = 0
room first (x ∷ l) = length (separator first) + (length (bytes x) + (4 + room false l))

room_less : (first : Bool) (l : List String) → room first l ≤ room false l
unfolding room
room_less true [] = omega arith
room_less true (x ∷ l) = omega arith
room_less false [] = omega arith
room_less false (x ∷ l) = omega arith

letters : (e i p : Bool) → length (cond e (bytes "e") [] ++ (cond i (bytes "i") [] ++ cond p (bytes "p") [])) ≤ 3
letters true true true = omega arith
letters true true false = omega arith
letters true false true = omega arith
letters true false false = omega arith
letters false true true = omega arith
letters false true false = omega arith
letters false false true = omega arith
letters false false false = omega arith

flags_short : (s : Sets) (n : ℕ) → length (flags_text s n) ≤ 3
unfolding flags_text
flags_short s n = letters (has s.effective n) (has s.inheritable n) (has s.permitted n)

clause_length_lem : (s : Sets) (n : ℕ) (x : String) → length (clause_text s n x) ≡ length (bytes x) + (1 + length (flags_text s n))
clause_length_lem s n x = let h = length-append (bytes x) (bytes "=" ++ flags_text s n) in omega arith

fits : (first : Bool) (s : Sets) (n : ℕ) (l : List String) → length (clauses_text first s n l) ≤ room first l
unfolding clauses_text room
fits first s n [] = omega arith
fits first s n (x ∷ l) = by_test (has_flag s n) (fits false s (suc n) l) (fits first s (suc n) l)
  where
    r : List ℕ
    r = clauses_text false s (suc n) l

    by_test : (q : Bool) → length r ≤ room false l → length (clauses_text first s (suc n) l) ≤ room first l
        → length (cond q (separator first ++ (clause_text s n x ++ r)) (clauses_text first s (suc n) l)) ≤ length (separator first) + (length (bytes x) + (4 + room false l))
    by_test true h k =
        let a = length-append (separator first) (clause_text s n x ++ r) in
        let b = length-append (clause_text s n x) r in
        let c = clause_length_lem s n x in
        let d = flags_short s n in
        omega arith
    by_test false h k = let d = room_less first l in omega arith

table_room : room true capability_names ≡ longest_text
unfolding room capability_names
table_room = refl

texts : (s : Sets) → length (sets_text s) ≤ longest_text
texts s =
    let h = fits true s 0 capability_names in
    let e = table_room in
    let w = ap length (whole_text s) in
    omega arith

-- every capability in all three sets
abbrev all_three : Sets
all_three = record { permitted = full; inheritable = full; effective = full }

is_longest : length (sets_text all_three) ≡ longest_text
unfolding sets_text spaced preceded clauses flags_text capability_names has
is_longest = refl

no_bits_above : bits_above40 all_three ≡ false
unfolding bits_above40 outside
no_bits_above = refl

pub longest : Longest
longest = record { texts = texts; a_longest = (all_three, no_bits_above, is_longest) }

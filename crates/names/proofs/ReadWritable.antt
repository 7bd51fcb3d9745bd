-- Sets that were read have no bit above 40. Assumes nothing.
use mathlib.Core.Path.{◌≡◌, refl}
use mathlib.Core.List.{List, ◌∷◌}
use mathlib.Core.Bool.{Bool, true, false, cond}
use Prim.Native.Nat.{ℕ}
use lib.Dec.{eqb}
use Rattle.capabilities.specs.Sets.{full, union, single, within, Within}
use Rattle.capabilities.proofs.Inclusion.{none_sub, union_sub, minus_sub, within_sub, sub_not_outside, sub_refl}
use Rattle.names.specs.declared.Sets.{Sets}
use Rattle.std.specs.Prelude.{Ok}
use Rattle.names.specs.Grammar.{lowered, changed, flagged, without, no_sets, flag_e, flag_i, Word, spelt, names, ◌among◌}
use Rattle.names.specs.Grammar.{Names, name, join, Flags, none, one, Operator, put, give, take, Operators, last, more, Clause, named, whole, unnamed, Text, empty, space, final, clause}
use Rattle.names.specs.Reading.{read_text}
use Rattle.names.specs.Writing.{bits_above40}
use Rattle.names.proofs.Words.{all_of, all_at}
use Rattle.names.proofs.ReadWellFormed.{run_text}

-- all three sets hold capabilities alone
record Known (s : Sets) : Type 0 where
  permitted : Within s.permitted full
  inheritable : Within s.inheritable full
  effective : Within s.effective full

changed_known : (gives : Bool) (c set : ℕ) → Within c full → Within set full → Within (changed gives c set) full
changed_known true c set h k = union_sub k h
changed_known false c set h k = minus_sub c k

flagged_known : (gives : Bool) (c b : ℕ) (s : Sets) → Within c full → Known s → Known (flagged gives c b s)
flagged_known gives c b s h k = by_tests (eqb b flag_e) (eqb b flag_i)
  where
    by_tests : (e i : Bool) → Known (cond e (record { permitted = s.permitted; inheritable = s.inheritable; effective = changed gives c s.effective })
        (cond i (record { permitted = s.permitted; inheritable = changed gives c s.inheritable; effective = s.effective })
        (record { permitted = changed gives c s.permitted; inheritable = s.inheritable; effective = s.effective })))
    by_tests true i = record { permitted = k.permitted; inheritable = k.inheritable; effective = changed_known gives c s.effective h k.effective }
    by_tests false true = record { permitted = k.permitted; inheritable = changed_known gives c s.inheritable h k.inheritable; effective = k.effective }
    by_tests false false = record { permitted = changed_known gives c s.permitted h k.permitted; inheritable = k.inheritable; effective = k.effective }

without_known : (c : ℕ) (s : Sets) → Known s → Known (without c s)
without_known c s k = record { permitted = minus_sub c k.permitted; inheritable = minus_sub c k.inheritable; effective = minus_sub c k.effective }

flags_known : (gives : Bool) (c : ℕ) (s v : Sets) (t : List ℕ) → Within c full → Known s → Flags gives c s t v → Known v
flags_known gives c s v t h k none = k
flags_known gives c s v t h k (one {b = b} {t = t'} f fs) = flags_known gives c (flagged gives c b s) v t' h (flagged_known gives c b s h k) fs

operator_known : (c : ℕ) (s v : Sets) (t : List ℕ) → Within c full → Known s → Operator c s t v → Known v
operator_known c s v t h k (put {t = t'} fs) = flags_known true c (without c s) v t' h (without_known c s k) fs
operator_known c s v t h k (give {b = b} {t = t'} fs) = flags_known true c s v (b ∷ t') h k fs
operator_known c s v t h k (take {b = b} {t = t'} fs) = flags_known false c s v (b ∷ t') h k fs

operators_known : (c : ℕ) (s v : Sets) (t : List ℕ) → Within c full → Known s → Operators c s t v → Known v
operators_known c s v t h k (last o) = operator_known c s v t h k o
operators_known c s v t h k (more {v = mid} {t = t'} {u = u} o os) = operators_known c mid v u h (operator_known c s mid t' h k o) os

-- every name means capabilities alone
is_known : Word → Bool
is_known (spelt w m j) = within m full

names_known : all_of is_known names ≡ true
unfolding all_of names is_known single
names_known = refl

name_known : (w : List ℕ) (m : ℕ) (j : Bool) → spelt w m j among names → Within m full
unfolding is_known
name_known w m j h = within_sub m full (all_at is_known (spelt w m j) names names_known h)

list_known : (c d : ℕ) (t : List ℕ) → Within c full → Names c t d → Within d full
list_known c d t h (name m g) = union_sub h (name_known (lowered t) m true g)
list_known c d t h (join {u = u} t' m g ns) = list_known (union c m) d u (union_sub h (name_known (lowered t') m true g)) ns

clause_known : (s v : Sets) (t : List ℕ) → Known s → Clause s t v → Known v
clause_known s v t k (named {c = c} {t = t'} {u = u} ns os) = operators_known c s v u (list_known 0 c t' none_sub ns) k os
clause_known s v t k (whole {u = u} t' e os) = operators_known full s v u sub_refl k os
clause_known s v t k (unnamed {t = t'} os) = operators_known full s v _ sub_refl k os

text_known : (s v : Sets) (t : List ℕ) → Known s → Text s t v → Known v
text_known s v t k empty = k
text_known s v t k (space {t = t'} h x) = text_known s v t' k x
text_known s v t k (final c) = clause_known s v t k c
text_known s v t k (clause {v = mid} {t = t'} {u = u} b c h x) = text_known mid v u (clause_known s mid t' k c) x

pub read_writable : (t : List ℕ) (s : Sets) → read_text t ≡ Ok s → bits_above40 s ≡ false
unfolding read_text bits_above40
read_writable t s h =
    let k = text_known no_sets s t (record { permitted = none_sub; inheritable = none_sub; effective = none_sub }) (run_text no_sets t s h) in
    sub_not_outside (union_sub k.permitted (union_sub k.inheritable k.effective))

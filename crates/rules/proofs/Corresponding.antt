-- The ID calls on user IDs and on group IDs beside each other. Assumes nothing.
use Prim.Native.Nat.{ℕ, ◌+◌, ◌-◌, ◌<◌, ◌≤◌}
use mathlib.Core.Path.{◌≡◌, refl, sym, ap, subst}
use mathlib.Core.Bool.{Bool, true, false, cond, ◌&&◌}
use mathlib.Core.List.{List}
use native.Mathlib.Decide.{dec_lt}
use native.Mathlib.Omega.{arith}
use lib.ListN.{length}
use Rattle.std.specs.Prelude.{Option, Some, None, Err}
use Rattle.capabilities.specs.Sets.{has, minus, outside, single}
use Rattle.capabilities.specs.Header.{CAP_SETUID}
use Rattle.credentials.specs.Validity.{ids_in_range, valid}
use Rattle.credentials.specs.declared.Ids.{Ids}
use Rattle.credentials.specs.declared.Credentials.{Credentials}
use Rattle.credentials.proofs.Valid.{ids_in_range_lem, valid_facts}
use Rattle.rules.specs.Answers.{after, Answer, cause, code, value}
use Rattle.rules.specs.Ids.{filesystem_group_id_changed, filesystem_user_id_changed, group_ids_changed, may_set_any_group_id, may_set_any_user_id, setfsgid, setfsuid, setfsuid_on, setgid, setregid, setresgid, setresuid, setresuid_on, setreuid, setreuid_on, setuid, setuid_on, user_ids_changed}
use Rattle.rules.specs.Decoding.{decode, known}
use Rattle.rules.specs.Call.{answer, decoded, performed}
use Rattle.rules.specs.Run.{Step, result}
use Rattle.rules.specs.CallsOnIds.{Counterpart, CallsOnIds, OnGroupIds}
use Rattle.rules.specs.declared.Refusal.TheVariants.{InvalidArgument, InvalidCredentials}
use Rattle.rules.specs.declared.Call.{Call}
use Rattle.rules.specs.declared.Call.TheVariants.{Setuid, Setreuid, Setresuid, Setfsuid, Setgid, Setregid, Setresgid, Setfsgid}
use Rattle.rules.proofs.OneCall.{answered}

-- ---- one of four numbers

-- what holds of four numbers in a row holds of each one from the first to the last
one_of_four : (P : ℕ → Type 0) (m : ℕ) → P m → P (1 + m) → P (2 + m) → P (3 + m) → (n : ℕ) → m ≤ n → n ≤ 3 + m → P n
one_of_four P m p q r s n l h = first (dec_lt m n)
  where
    is : (k : ℕ) → n ≡ k → P k → P n
    is k e = subst P (sym e)

    third : 1 + m < n → Dec (2 + m < n) → P n
    third g (yes k) = is (3 + m) (omega arith) s
    third g (no k) = is (2 + m) (omega arith) r

    second : m < n → Dec (1 + m < n) → P n
    second g (yes k) = third k (dec_lt (2 + m) n)
    second g (no k) = is (1 + m) (omega arith) q

    first : Dec (m < n) → P n
    first (yes k) = second k (dec_lt (1 + m) n)
    first (no k) = is m (omega arith) p

-- ---- what stays

-- the group IDs alone differ
record GroupIdsOnly (c d : Credentials) : Type 0 where
  sets : d.sets ≡ c.sets
  uids : d.uids ≡ c.uids
  securebits : d.securebits ≡ c.securebits
  nnp : d.nnp ≡ c.nnp

module _ (c : Credentials) where
  abbrev same : GroupIdsOnly c c
  same = record { sets = refl; uids = refl; securebits = refl; nnp = refl }

  group_ids_only : (n : Option Ids) → GroupIdsOnly c (after c (group_ids_changed c n))
  group_ids_only (Some new) = record { sets = refl; uids = refl; securebits = refl; nnp = refl }
  group_ids_only None = same

  filesystem_group_id_only : (n : Option Ids) → GroupIdsOnly c (after c (filesystem_group_id_changed c n))
  filesystem_group_id_only (Some new) = record { sets = refl; uids = refl; securebits = refl; nnp = refl }
  filesystem_group_id_only None = same

  no_group_id : (n : Option Ids) → (after c (user_ids_changed c n)).gids ≡ c.gids
  no_group_id (Some new) = refl
  no_group_id None = refl

  no_filesystem_group_id : (n : Option Ids) → (after c (filesystem_user_id_changed c n)).gids ≡ c.gids
  no_filesystem_group_id (Some new) = refl
  no_filesystem_group_id None = refl

  module _ (x y z : ℕ) (s : List ℕ) where
    on_group_ids : (number : ℕ) → 19 ≤ number → number ≤ 22 → GroupIdsOnly c (after c (answer c number x y z s))
    unfolding decode setgid setregid setresgid setfsgid
    on_group_ids =
        let P : Answer → Type 0 = λ r. GroupIdsOnly c (after c r) in
        let any = may_set_any_group_id c in
        one_of_four (λ number. P (answer c number x y z s)) 19
        (answered P c same same 19 x y z s _ (Setgid x) refl (group_ids_only (setuid_on any c.gids x)))
        (answered P c same same 20 x y z s _ (Setregid x y) refl (group_ids_only (setreuid_on any c.gids x y)))
        (answered P c same same 21 x y z s _ (Setresgid x y z) refl (group_ids_only (setresuid_on any c.gids x y z)))
        (answered P c same same 22 x y z s _ (Setfsgid x) refl (filesystem_group_id_only (setfsuid_on any c.gids x)))

    on_user_ids : (number : ℕ) → 15 ≤ number → number ≤ 18 → (after c (answer c number x y z s)).gids ≡ c.gids
    unfolding decode setuid setreuid setresuid setfsuid
    on_user_ids =
        let P : Answer → Type 0 = λ r. (after c r).gids ≡ c.gids in
        let any = may_set_any_user_id c in
        one_of_four (λ number. P (answer c number x y z s)) 15
        (answered P c refl refl 15 x y z s _ (Setuid x) refl (no_group_id (setuid_on any c.uids x)))
        (answered P c refl refl 16 x y z s _ (Setreuid x y) refl (no_group_id (setreuid_on any c.uids x y)))
        (answered P c refl refl 17 x y z s _ (Setresuid x y z) refl (no_group_id (setresuid_on any c.uids x y z)))
        (answered P c refl refl 18 x y z s _ (Setfsuid x) refl (no_filesystem_group_id (setfsuid_on any c.uids x)))

-- ---- the counterpart

module _ (c d : Credentials) (w : Counterpart c d) where
  -- the same comes back from c and from d, in the group IDs and in the user IDs
  record Same (r q : Answer) : Type 0 where
    codes : code r ≡ code q
    values : value r ≡ value q
    causes : cause r ≡ cause q
    ids : (after c r).gids ≡ (after d q).uids

  refused : Same (Err InvalidArgument) (Err InvalidArgument)
  refused = record { codes = refl; values = refl; causes = refl; ids = sym w.ids }

  invalid : Same (Err InvalidCredentials) (Err InvalidCredentials)
  invalid = record { codes = refl; values = refl; causes = refl; ids = sym w.ids }

  same_change : (n m : Option Ids) → n ≡ m → Same (group_ids_changed c n) (user_ids_changed d m)
  same_change n m e = subst (λ (x : Option Ids). Same (group_ids_changed c n) (user_ids_changed d x)) e (either n)
    where
      either : (x : Option Ids) → Same (group_ids_changed c x) (user_ids_changed d x)
      either (Some new) = record { codes = refl; values = refl; causes = refl; ids = refl }
      either None = record { codes = refl; values = refl; causes = refl; ids = sym w.ids }

  same_filesystem_change : (n m : Option Ids) → n ≡ m → Same (filesystem_group_id_changed c n) (filesystem_user_id_changed d m)
  same_filesystem_change n m e = subst (λ (x : Option Ids). Same (filesystem_group_id_changed c n) (filesystem_user_id_changed d x)) e (either n)
    where
      old : c.gids.filesystem ≡ d.uids.filesystem
      old = ap (λ (u : Ids). u.filesystem) (sym w.ids)

      either : (x : Option Ids) → Same (filesystem_group_id_changed c x) (filesystem_user_id_changed d x)
      either (Some new) = record { codes = refl; values = old; causes = refl; ids = refl }
      either None = record { codes = refl; values = old; causes = refl; ids = sym w.ids }

  -- what depends on the four IDs and on whether any may be set is the same of both
  alike : (f : Bool → Ids → Option Ids) → f (may_set_any_group_id c) c.gids ≡ f (may_set_any_user_id d) d.uids
  alike f = sym (λ i. f (w.may_set_any i) (w.ids i))

  -- two calls that are right alike
  same_answer : (number other x y z : ℕ) (s : List ℕ) (right : Bool) (k l : Call)
      → decode number x y z (length s) ≡ known right k → decode other x y z (length s) ≡ known right l
      → Same (performed c s k) (performed d s l) → Same (answer c number x y z s) (answer d other x y z s)
  unfolding answer known
  same_answer number other x y z s right k l e f h =
      subst (λ (t : Bool). Same (answer c number x y z s) (cond t (decoded d s (decode other x y z (length s))) (Err InvalidCredentials))) (sym w.valid_alike)
      (subst (λ (q : Option Call). Same (answer c number x y z s) (cond (valid c) (decoded d s q) (Err InvalidCredentials))) (sym f)
      (subst (λ (q : Option Call). Same (cond (valid c) (decoded c s q) (Err InvalidCredentials)) (cond (valid c) (decoded d s (known right l)) (Err InvalidCredentials))) (sym e)
      (judged (valid c) right)))
    where
      judged : (t r : Bool) → Same (cond t (decoded c s (known r k)) (Err InvalidCredentials)) (cond t (decoded d s (known r l)) (Err InvalidCredentials))
      judged true true = h
      judged true false = refused
      judged false r = invalid

  module _ (x y z : ℕ) (s : List ℕ) where
    as_user_ids : (number : ℕ) → 19 ≤ number → number ≤ 22 → Same (answer c number x y z s) (answer d (number - 4) x y z s)
    unfolding decode setuid setreuid setresuid setfsuid setgid setregid setresgid setfsgid
    as_user_ids =
        one_of_four (λ number. Same (answer c number x y z s) (answer d (number - 4) x y z s)) 19
        (same_answer 19 15 x y z s _ (Setgid x) (Setuid x) refl refl (same_change _ _ (alike (λ any u. setuid_on any u x))))
        (same_answer 20 16 x y z s _ (Setregid x y) (Setreuid x y) refl refl (same_change _ _ (alike (λ any u. setreuid_on any u x y))))
        (same_answer 21 17 x y z s _ (Setresgid x y z) (Setresuid x y z) refl refl (same_change _ _ (alike (λ any u. setresuid_on any u x y z))))
        (same_answer 22 18 x y z s _ (Setfsgid x) (Setfsuid x) refl refl (same_filesystem_change _ _ (alike (λ any u. setfsuid_on any u x))))

-- the thread whose user IDs are these, with SETUID or without, valid or not
abbrev thread : Bool → Bool → Ids → Credentials
thread any right u =
    let held : ℕ = cond any (single CAP_SETUID) 0 in
    record {
      uids = u;
      gids = record { real = 0; effective = 0; saved = 0; filesystem = 0 };
      sets = record { permitted = held; inheritable = 0; effective = held; bounding = 0; ambient = 0 };
      securebits = cond right 0 256;
      nnp = false;
    }

thread_may : (any right : Bool) (u : Ids) → may_set_any_user_id (thread any right u) ≡ any
unfolding has single
thread_may true right u = refl
thread_may false right u = refl

-- securebits of 256 are not valid, whatever the IDs
never : (t : Bool) → t && true && false ≡ false
never true = refl
never false = refl

thread_valid : (any right : Bool) (u : Ids) → (right ≡ true → ids_in_range u ≡ true) → valid (thread any right u) ≡ right
unfolding valid outside minus single
thread_valid true true u h = simp (h refl)
thread_valid false true u h = simp (h refl)
thread_valid true false u h = never (ids_in_range u)
thread_valid false false u h = never (ids_in_range u)

-- ---- the statement

stays : (c : Credentials) (x : Step) → OnGroupIds x → GroupIdsOnly c (result c x).after
unfolding result
stays c x n = on_group_ids c x.a x.b x.c x.attribute x.number n.0 n.1

like : (c d : Credentials) (w : Counterpart c d) (x : Step) → OnGroupIds x
    → Same c d w (answer c x.number x.a x.b x.c x.attribute) (answer d (x.number - 4) x.a x.b x.c x.attribute)
like c d w x n = as_user_ids c d w x.a x.b x.c x.attribute x.number n.0 n.1

pub calls_on_ids : CallsOnIds
unfolding result
calls_on_ids =
    record {
      sets_stay = λ c x n. (stays c x n).sets;
      user_ids_stay = λ c x n. (stays c x n).uids;
      securebits_stay = λ c x n. (stays c x n).securebits;
      no_new_privs_stays = λ c x n. (stays c x n).nnp;
      group_ids_stay = λ c x n. on_user_ids c x.a x.b x.c x.attribute x.number n.0 n.1;
      same_code = λ c d w x n. (like c d w x n).codes;
      same_value = λ c d w x n. (like c d w x n).values;
      same_cause = λ c d w x n. (like c d w x n).causes;
      same_ids = λ c d w x n. (like c d w x n).ids;
      counterpart = λ c.
          let any = may_set_any_group_id c in (
            thread any (valid c) c.gids,
            record {
              ids = refl;
              may_set_any = thread_may any (valid c) c.gids;
              valid_alike = thread_valid any (valid c) c.gids (λ v. ids_in_range_lem c.gids (valid_facts c v).gids);
            },
          );
    }

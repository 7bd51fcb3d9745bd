-- What each call keeps of valid credentials, and so any call. Assumes nothing.
use Prim.Native.Nat.{ℕ, ◌≤◌}
use mathlib.Core.Path.{◌≡◌}
use mathlib.Core.Bool.{Bool, true, false, cond, ◌&&◌, ◌||◌}
use mathlib.Core.List.{List}
use native.Mathlib.Omega.{arith}
use lib.Dec.{eqb}
use lib.ListN.{length}
use borrow.Author.Tests.{leb-true}
use Rattle.std.specs.Prelude.{Option, Some, None, Result, Ok, Err}
use Rattle.capabilities.specs.Sets.{lacks, union, minus, single, Within}
use Rattle.capabilities.specs.Header.{CAP_SETPCAP}
use Rattle.capabilities.proofs.Inclusion.{and_l, and_r, minus_sub, none_sub, not_lacks, not_outside, or_false_l, or_false_r, single_sub, sub_refl, union_sub}
use Rattle.attribute.specs.declared.FileCapabilities.{FileCapabilities}
use Rattle.attribute.specs.declared.ReadError.{ReadError}
use Rattle.credentials.specs.Validity.{id_in_range, securebits_in_range, valid}
use Rattle.credentials.specs.declared.Ids.{Ids}
use Rattle.credentials.specs.declared.Sets.{Sets}
use Rattle.credentials.specs.declared.Credentials.{Credentials}
use Rattle.credentials.proofs.Valid.{Valid, ValidIds}
use Rattle.rules.specs.Fields.{with_gids, with_sets}
use Rattle.rules.specs.Answers.{after, Answer, code}
use Rattle.rules.specs.Launching.{SET_GROUP_ID, SET_USER_ID, falls_short, file_read, in_force, is_privileged, launch, launched, launched_ambient, launch_of}
use Rattle.rules.specs.Capset.{beyond_bounding, beyond_permitted, capset, effective_exceeds, permitted_grows}
use Rattle.rules.specs.Bounding.{bounding_drop, bounding_read}
use Rattle.rules.specs.Ambient.{ambient_clear_all, ambient_is_set, ambient_lower, ambient_raise, not_in_both, raise_forbidden}
use Rattle.rules.specs.Securebits.{changes_locked, get_securebits, set_securebits, undoes_lock}
use Rattle.rules.specs.ThreadFlags.{get_keep_caps, get_no_new_privs, keep_caps_locked, set_keep_caps, set_no_new_privs}
use Rattle.rules.specs.Ids.{filesystem_group_id_changed, filesystem_user_id_changed, group_ids_changed, may_set_any_group_id, may_set_any_user_id, setfsgid, setfsuid, setfsuid_on, setgid, setregid, setresgid, setresuid, setresuid_on, setreuid, setreuid_on, setuid, setuid_on, user_ids_changed}
use Rattle.rules.specs.Decoding.{capability_in_range, decode, flags_in_range, id_or_none, known, uses_one, uses_three, uses_two}
use Rattle.rules.specs.Call.{answer, decoded, performed}
use Rattle.rules.specs.declared.Refusal.TheVariants.{InvalidArgument, InvalidCredentials, NotPermitted, UnreadableAttribute}
use Rattle.rules.specs.declared.Call.{Call}
use Rattle.rules.proofs.Conditions.{cond_cases, cond_with}
use Rattle.rules.proofs.KeptIds.{NewValid, launched_valid, setfsuid_valid, setresuid_valid, setreuid_valid, setuid_valid}
use Rattle.rules.proofs.KeptSets.{SetsKept, kept_after, kept_after_filesystem, kept_ambient, kept_bounding, kept_capset, kept_launched, kept_same, kept_then, kept_valid}
use Rattle.rules.proofs.KeptSecurebits.{BitsKept, bits_keep_caps, bits_launched, bits_same, bits_set, bits_then}

-- the credentials d later, after the credentials c; launched: by way of a launch that was done
pub record Kept (launched : Bool) (c d : Credentials) : Type 0 where
  pub uids : ValidIds d.uids
  pub gids : ValidIds d.gids
  pub sets : SetsKept c.sets d.sets
  pub securebits : BitsKept launched c.securebits d.securebits

-- what follows valid credentials is valid
pub still_valid : {x : Bool} {c d : Credentials} → Valid c → Kept x c d → Valid d
still_valid v k = record { sets = kept_valid v.sets k.sets; uids = k.uids; gids = k.gids; securebits_small = k.securebits.small }

pub nothing_changes : {c : Credentials} → Valid c → Kept false c c
nothing_changes v = record { uids = v.uids; gids = v.gids; sets = kept_same v.sets; securebits = bits_same v.securebits_small }

pub one_after_another : {x y : Bool} {c d e : Credentials} → Kept x c d → Kept y d e → Kept (x || y) c e
one_after_another h k = record { uids = k.uids; gids = k.gids; sets = kept_then h.sets k.sets; securebits = bits_then h.securebits k.securebits }

sets_change : {c : Credentials} {s : Sets} → Valid c → SetsKept c.sets s → Kept false c (with_sets c s)
sets_change v h = record { uids = v.uids; gids = v.gids; sets = h; securebits = bits_same v.securebits_small }

-- an answer that is done keeps what is to be kept
abbrev Keeps : Bool → Credentials → Answer → Type 0
Keeps x c (Ok d) = Kept x c d.after
Keeps x c (Err why) = Unit {0}

-- a refusal keeps everything, and is no launch that was done
pub kept_by : {c : Credentials} → Valid c → (x : Bool) (r : Answer) → Keeps x c r → Kept (x && eqb (code r) 0) c (after c r)
kept_by v true (Ok d) k = k
kept_by v false (Ok d) k = k
kept_by v true (Err (NotPermitted why)) k = nothing_changes v
kept_by v false (Err (NotPermitted why)) k = nothing_changes v
kept_by v true (Err InvalidArgument) k = nothing_changes v
kept_by v false (Err InvalidArgument) k = nothing_changes v
kept_by v true (Err UnreadableAttribute) k = nothing_changes v
kept_by v false (Err UnreadableAttribute) k = nothing_changes v
kept_by v true (Err InvalidCredentials) k = nothing_changes v
kept_by v false (Err InvalidCredentials) k = nothing_changes v

module _ (c : Credentials) (v : Valid c) where
  -- ---- calls 2 to 8

  capset_keeps : (p i e : ℕ) → Keeps false c (capset c p i e)
  unfolding capset
  capset_keeps p i e =
      cond_cases (Keeps false c) (beyond_permitted c.sets i) _ _ (λ h. tt)
      (λ g. cond_cases (Keeps false c) (beyond_bounding c.sets i) _ _ (λ h. tt)
      (λ hi. cond_cases (Keeps false c) (permitted_grows c.sets p) _ _ (λ h. tt)
      (λ hp. cond_cases (Keeps false c) (effective_exceeds p e) _ _ (λ h. tt)
      (λ he. sets_change v
      (kept_capset p i e (not_outside i (union c.sets.inheritable c.sets.bounding) hi) (not_outside p c.sets.permitted hp) (not_outside e p he))))))

  drop_keeps : (n : ℕ) → Keeps false c (bounding_drop c n)
  unfolding bounding_drop
  drop_keeps n =
      cond_cases (Keeps false c) (lacks c.sets.effective CAP_SETPCAP) _ _ (λ h. tt)
      (λ h. sets_change v (kept_bounding v.sets (minus c.sets.bounding (single n)) (minus_sub (single n) sub_refl)))

  raise_keeps : (n : ℕ) → n ≤ 40 → Keeps false c (ambient_raise c n)
  unfolding ambient_raise
  raise_keeps n l =
      cond_cases (Keeps false c) (not_in_both c.sets n) _ _ (λ h. tt)
      (λ h. cond_cases (Keeps false c) (raise_forbidden c.securebits) _ _ (λ k. tt)
      (λ k. sets_change v
      (kept_ambient v.sets (union c.sets.ambient (single n))
      (union_sub v.sets.ambient_permitted (single_sub (omega arith) (not_lacks c.sets.permitted n (or_false_l (lacks c.sets.permitted n) (lacks c.sets.inheritable n) h))))
      (union_sub v.sets.ambient_inheritable (single_sub (omega arith) (not_lacks c.sets.inheritable n (or_false_r (lacks c.sets.permitted n) (lacks c.sets.inheritable n) h)))))))

  lower_keeps : (n : ℕ) → Keeps false c (ambient_lower c n)
  unfolding ambient_lower
  lower_keeps n =
      sets_change v
      (kept_ambient v.sets (minus c.sets.ambient (single n)) (minus_sub (single n) v.sets.ambient_permitted)
      (minus_sub (single n) v.sets.ambient_inheritable))

  clear_keeps : Keeps false c (ambient_clear_all c)
  unfolding ambient_clear_all
  clear_keeps = sets_change v (kept_ambient v.sets 0 none_sub none_sub)

  -- ---- calls 4, 7, 10, 12, 14 change nothing

  read_keeps : (n : ℕ) → Keeps false c (bounding_read c n)
  unfolding bounding_read
  read_keeps n = nothing_changes v

  is_set_keeps : (n : ℕ) → Keeps false c (ambient_is_set c n)
  unfolding ambient_is_set
  is_set_keeps n = nothing_changes v

  get_securebits_keeps : Keeps false c (get_securebits c)
  unfolding get_securebits
  get_securebits_keeps = nothing_changes v

  get_keep_caps_keeps : Keeps false c (get_keep_caps c)
  unfolding get_keep_caps
  get_keep_caps_keeps = nothing_changes v

  get_nnp_keeps : Keeps false c (get_no_new_privs c)
  unfolding get_no_new_privs
  get_nnp_keeps = nothing_changes v

  -- ---- calls 9, 11 and 13

  securebits_keeps : (new : ℕ) → new ≤ 255 → Keeps false c (set_securebits c new)
  unfolding set_securebits
  securebits_keeps new l =
      cond_cases (Keeps false c) (lacks c.sets.effective CAP_SETPCAP) _ _ (λ h. tt)
      (λ h. cond_cases (Keeps false c) (undoes_lock c.securebits new) _ _ (λ k. tt)
      (λ u. cond_cases (Keeps false c) (changes_locked c.securebits new) _ _ (λ k. tt)
      (λ e. record { uids = v.uids; gids = v.gids; sets = kept_same v.sets; securebits = bits_set c.securebits new l u e })))

  keep_caps_keeps : (on : Bool) → Keeps false c (set_keep_caps c on)
  unfolding set_keep_caps
  keep_caps_keeps on =
      cond_cases (Keeps false c) (keep_caps_locked c.securebits) _ _ (λ h. tt)
      (λ h. record { uids = v.uids; gids = v.gids; sets = kept_same v.sets; securebits = bits_keep_caps c.securebits on v.securebits_small h })

  nnp_keeps : Keeps false c (set_no_new_privs c)
  unfolding set_no_new_privs
  nnp_keeps = record { uids = v.uids; gids = v.gids; sets = kept_same v.sets; securebits = bits_same v.securebits_small }

  -- ---- calls 15 to 22

  user_ids_keep : (n : Option Ids) → NewValid n → Keeps false c (user_ids_changed c n)
  user_ids_keep (Some new) w =
      record { uids = w; gids = v.gids; sets = kept_after c.uids new v.sets c.securebits; securebits = bits_same v.securebits_small }
  user_ids_keep None w = tt

  filesystem_user_id_keeps : (n : Option Ids) → NewValid n → Keeps false c (filesystem_user_id_changed c n)
  filesystem_user_id_keeps (Some new) w =
      record { uids = w; gids = v.gids; sets = kept_after_filesystem c.uids new v.sets c.securebits; securebits = bits_same v.securebits_small }
  filesystem_user_id_keeps None w = nothing_changes v

  groups_change : {g : Ids} → ValidIds g → Kept false c (with_gids c g)
  groups_change w = record { uids = v.uids; gids = w; sets = kept_same v.sets; securebits = bits_same v.securebits_small }

  group_ids_keep : (n : Option Ids) → NewValid n → Keeps false c (group_ids_changed c n)
  group_ids_keep (Some new) w = groups_change w
  group_ids_keep None w = tt

  filesystem_group_id_keeps : (n : Option Ids) → NewValid n → Keeps false c (filesystem_group_id_changed c n)
  filesystem_group_id_keeps (Some new) w = groups_change w
  filesystem_group_id_keeps None w = nothing_changes v

  -- ---- call 1

  launched_keeps : (owner flags group : ℕ) → owner ≤ 4294967294 → group ≤ 4294967294 → (f : FileCapabilities) → Kept true c (launched c owner flags group f)
  unfolding launched launched_ambient
  launched_keeps owner flags group ho hg f =
      record {
        uids = launched_valid (in_force c.nnp flags SET_USER_ID) owner c.uids ho v.uids;
        gids = launched_valid (in_force c.nnp flags SET_GROUP_ID) group c.gids hg v.gids;
        sets = kept_launched _ _
            (cond_cases (λ (a : ℕ). Within a c.sets.inheritable) (is_privileged c owner flags group f) _ _ (λ k. none_sub) (λ k. v.sets.ambient_inheritable));
        securebits = bits_launched c.securebits v.securebits_small;
      }

  launch_of_keeps : (owner flags group : ℕ) → owner ≤ 4294967294 → group ≤ 4294967294 → (r : Result FileCapabilities ReadError) → Keeps true c (launch_of c owner flags group r)
  launch_of_keeps owner flags group ho hg (Ok f) =
      cond_cases (Keeps true c) (falls_short c.sets f) _ _ (λ k. tt) (λ k. launched_keeps owner flags group ho hg f)
  launch_of_keeps owner flags group ho hg (Err e) = tt

  launch_keeps : (owner flags group : ℕ) → owner ≤ 4294967294 → group ≤ 4294967294 → (attribute : List ℕ) → Keeps true c (launch c owner flags group attribute)
  unfolding launch
  launch_keeps owner flags group ho hg attribute = launch_of_keeps owner flags group ho hg (file_read c.nnp flags attribute)

  -- ---- any number, operands and attribute

  module _ (s : List ℕ) where
    abbrev Goes : Bool → Option Call → Type 0
    Goes x d = Keeps x c (decoded c s d)

    -- a call that is known if its operands are right, and that comes first
    when_known : (x right : Bool) (k : Call) → (right ≡ true → Keeps x c (performed c s k)) → Goes x (known right k)
    unfolding known
    when_known x right k h = cond_cases (Goes x) right _ _ h (λ t. tt)

    or_else : (this right : Bool) (k : Call) (d : Option Call) → (right ≡ true → Keeps false c (performed c s k)) → Goes false d → Goes false (cond this (known right k) d)
    or_else this right k d h g = cond_cases (Goes false) this _ _ (λ t. when_known false right k h) (λ t. g)

    module _ (x y z size : ℕ) where
      -- the operands of calls 15 to 22 that are right, for any four valid IDs

      abbrev one : Bool
      one = uses_one y z size

      abbrev two : Bool
      two = uses_two z size && id_or_none x

      abbrev three : Bool
      three = uses_three size && id_or_none x && id_or_none y

      module _ (any : Bool) (u : Ids) (w : ValidIds u) where
        setuid_right : one && id_in_range x ≡ true → NewValid (setuid_on any u x)
        setuid_right t = setuid_valid any u w x (leb-true x 4294967294 (and_r one (id_in_range x) t))

        setreuid_right : two && id_or_none y ≡ true → NewValid (setreuid_on any u x y)
        setreuid_right t = setreuid_valid any u w x y (and_r (uses_two z size) (id_or_none x) (and_l two (id_or_none y) t)) (and_r two (id_or_none y) t)

        setresuid_right : three && id_or_none z ≡ true → NewValid (setresuid_on any u x y z)
        setresuid_right t =
            let xy = and_l three (id_or_none z) t in
            setresuid_valid any u w x y z (and_r (uses_three size) (id_or_none x) (and_l (uses_three size && id_or_none x) (id_or_none y) xy))
            (and_r (uses_three size && id_or_none x) (id_or_none y) xy)
            (and_r three (id_or_none z) t)

        setfsuid_right : one && id_or_none x ≡ true → NewValid (setfsuid_on any u x)
        setfsuid_right t = setfsuid_valid any u w x (and_r one (id_or_none x) t)

      launch_right : id_in_range x && flags_in_range y && id_in_range z ≡ true → Keeps true c (launch c x y z s)
      launch_right t =
          launch_keeps x y z
          (leb-true x 4294967294 (and_l (id_in_range x) (flags_in_range y) (and_l (id_in_range x && flags_in_range y) (id_in_range z) t)))
          (leb-true z 4294967294 (and_r (id_in_range x && flags_in_range y) (id_in_range z) t)) s

      decode_keeps : (number : ℕ) → Goes (eqb number 1) (decode number x y z size)
      unfolding decode setuid setreuid setresuid setfsuid setgid setregid setresgid setfsgid
      decode_keeps number =
          let user = may_set_any_user_id c in
          let group = may_set_any_group_id c in
          cond_with Goes (eqb number 1) _ _
          (when_known true _ _ launch_right)
          (or_else (eqb number 2) _ _ _ (λ t. capset_keeps x y z)
          (or_else (eqb number 3) _ _ _ (λ t. drop_keeps x)
          (or_else (eqb number 4) _ _ _ (λ t. read_keeps x)
          (or_else (eqb number 5) _ _ _ (λ t. raise_keeps x (leb-true x 40 (and_r one (capability_in_range x) t)))
          (or_else (eqb number 6) _ _ _ (λ t. lower_keeps x)
          (or_else (eqb number 7) _ _ _ (λ t. is_set_keeps x)
          (or_else (eqb number 8) _ _ _ (λ t. clear_keeps)
          (or_else (eqb number 9) _ _ _ (λ t. securebits_keeps x (leb-true x 255 (and_r one (securebits_in_range x) t)))
          (or_else (eqb number 10) _ _ _ (λ t. get_securebits_keeps)
          (or_else (eqb number 11) _ _ _ (λ t. keep_caps_keeps (eqb x 1))
          (or_else (eqb number 12) _ _ _ (λ t. get_keep_caps_keeps)
          (or_else (eqb number 13) _ _ _ (λ t. nnp_keeps)
          (or_else (eqb number 14) _ _ _ (λ t. get_nnp_keeps)
          (or_else (eqb number 15) _ _ _ (λ t. user_ids_keep (setuid_on user c.uids x) (setuid_right user c.uids v.uids t))
          (or_else (eqb number 16) _ _ _ (λ t. user_ids_keep (setreuid_on user c.uids x y) (setreuid_right user c.uids v.uids t))
          (or_else (eqb number 17) _ _ _ (λ t. user_ids_keep (setresuid_on user c.uids x y z) (setresuid_right user c.uids v.uids t))
          (or_else (eqb number 18) _ _ _ (λ t. filesystem_user_id_keeps (setfsuid_on user c.uids x) (setfsuid_right user c.uids v.uids t))
          (or_else (eqb number 19) _ _ _ (λ t. group_ids_keep (setuid_on group c.gids x) (setuid_right group c.gids v.gids t))
          (or_else (eqb number 20) _ _ _ (λ t. group_ids_keep (setreuid_on group c.gids x y) (setreuid_right group c.gids v.gids t))
          (or_else (eqb number 21) _ _ _ (λ t. group_ids_keep (setresuid_on group c.gids x y z) (setresuid_right group c.gids v.gids t))
          (or_else (eqb number 22) _ _ _ (λ t. filesystem_group_id_keeps (setfsuid_on group c.gids x) (setfsuid_right group c.gids v.gids t))
          tt)))))))))))))))))))))

    pub answer_keeps : (number x y z : ℕ) → Keeps (eqb number 1) c (answer c number x y z s)
    unfolding answer
    answer_keeps number x y z =
        cond_cases (Keeps (eqb number 1) c) (valid c) _ _ (λ h. decode_keeps x y z (length s) number) (λ h. tt)

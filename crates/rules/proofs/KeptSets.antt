-- What each rule keeps of the five sets. Assumes nothing.
use Prim.Native.Nat.{ℕ}
use mathlib.Core.Bool.{not, ◌&&◌}
use lib.Dec.{eqb}
use Rattle.capabilities.specs.Sets.{full, union, inter, minus, Within}
use Rattle.capabilities.proofs.Inclusion.{inclusions, inter_sub_l, inter_sub_r, minus_sub, none_sub, sub_refl, sub_trans, sub_union_r, union_sub}
use Rattle.attribute.specs.declared.FileCapabilities.{FileCapabilities}
use Rattle.credentials.specs.Securebits.{SECBIT_KEEP_CAPS, SECBIT_NO_SETUID_FIXUP}
use Rattle.credentials.specs.declared.Ids.{Ids}
use Rattle.credentials.specs.declared.Sets.{Sets}
use Rattle.credentials.proofs.Valid.{ValidSets}
use Rattle.rules.specs.Fields.{is_set, with_ambient, with_bounding, with_effective}
use Rattle.rules.specs.Capset.{capset_sets}
use Rattle.rules.specs.Ids.{any_root, effective_left, effective_taken, filesystem_left, filesystem_set, filesystem_taken, root_left, sets_after, sets_after_filesystem}
use Rattle.rules.specs.Launching.{gained, launched_effective, launched_permitted, launched_sets}
use Rattle.rules.specs.Demand3.{reach}
use Rattle.rules.proofs.Conditions.{cond_cases}

-- the sets t later, after the sets s
pub record SetsKept (s t : Sets) : Type 0 where
  pub effective_permitted_lem : Within t.effective t.permitted
  pub ambient_permitted : Within t.ambient t.permitted
  pub ambient_inheritable : Within t.ambient t.inheritable
  pub permitted : Within t.permitted (reach s)
  pub inheritable : Within t.inheritable (reach s)
  pub bounding : Within t.bounding s.bounding

module _ (s : Sets) where
  permitted_reach : Within s.permitted (reach s)
  permitted_reach = search inclusions

  inheritable_reach : Within s.inheritable (reach s)
  inheritable_reach = search inclusions

  bounding_reach : Within s.bounding (reach s)
  bounding_reach = search inclusions

  reach_full : ValidSets s → Within (reach s) full
  reach_full v = union_sub (union_sub v.permitted_full v.inheritable_full) v.bounding_full

-- what follows valid sets is valid
pub kept_valid : {s t : Sets} → ValidSets s → SetsKept s t → ValidSets t
kept_valid {s} {t} v k =
    let p : Within t.permitted full = sub_trans k.permitted (reach_full s v) in
    record {
      effective_permitted_lem = k.effective_permitted_lem;
      ambient_permitted = k.ambient_permitted;
      ambient_inheritable = k.ambient_inheritable;
      permitted_full = p;
      inheritable_full = sub_trans k.inheritable (reach_full s v);
      effective_full = sub_trans k.effective_permitted_lem p;
      bounding_full = sub_trans k.bounding v.bounding_full;
      ambient_full = sub_trans k.ambient_permitted p;
    }

-- ---- nothing changes, and one change after another

pub kept_same : {s : Sets} → ValidSets s → SetsKept s s
kept_same {s} v =
    record {
      effective_permitted_lem = v.effective_permitted_lem;
      ambient_permitted = v.ambient_permitted;
      ambient_inheritable = v.ambient_inheritable;
      permitted = permitted_reach s;
      inheritable = inheritable_reach s;
      bounding = sub_refl;
    }

pub kept_then : {s t u : Sets} → SetsKept s t → SetsKept t u → SetsKept s u
kept_then {s} {t} {u} h k =
    let r : Within (reach t) (reach s) = union_sub (union_sub h.permitted h.inheritable) (sub_trans h.bounding (bounding_reach s)) in
    record {
      effective_permitted_lem = k.effective_permitted_lem;
      ambient_permitted = k.ambient_permitted;
      ambient_inheritable = k.ambient_inheritable;
      permitted = sub_trans k.permitted r;
      inheritable = sub_trans k.inheritable r;
      bounding = sub_trans k.bounding h.bounding;
    }

-- where the second rule asks for valid sets
kept_next : {s t u : Sets} → ValidSets s → SetsKept s t → (ValidSets t → SetsKept t u) → SetsKept s u
kept_next v h k = kept_then h (k (kept_valid v h))

-- ---- one set changes

kept_effective : {s : Sets} → ValidSets s → (e : ℕ) → Within e s.permitted → SetsKept s (with_effective s e)
kept_effective {s} v e h =
    record {
      effective_permitted_lem = h;
      ambient_permitted = v.ambient_permitted;
      ambient_inheritable = v.ambient_inheritable;
      permitted = permitted_reach s;
      inheritable = inheritable_reach s;
      bounding = sub_refl;
    }

pub kept_ambient : {s : Sets} → ValidSets s → (a : ℕ) → Within a s.permitted → Within a s.inheritable → SetsKept s (with_ambient s a)
kept_ambient {s} v a h k =
    record {
      effective_permitted_lem = v.effective_permitted_lem;
      ambient_permitted = h;
      ambient_inheritable = k;
      permitted = permitted_reach s;
      inheritable = inheritable_reach s;
      bounding = sub_refl;
    }

pub kept_bounding : {s : Sets} → ValidSets s → (b : ℕ) → Within b s.bounding → SetsKept s (with_bounding s b)
kept_bounding {s} v b h =
    record {
      effective_permitted_lem = v.effective_permitted_lem;
      ambient_permitted = v.ambient_permitted;
      ambient_inheritable = v.ambient_inheritable;
      permitted = permitted_reach s;
      inheritable = inheritable_reach s;
      bounding = h;
    }

-- ---- capset

pub kept_capset : {s : Sets} (p i e : ℕ) → Within i (union s.inheritable s.bounding) → Within p s.permitted → Within e p → SetsKept s (capset_sets s p i e)
unfolding capset_sets
kept_capset {s} p i e hi hp he =
    record {
      effective_permitted_lem = he;
      ambient_permitted = inter_sub_l i (inter_sub_r s.ambient sub_refl);
      ambient_inheritable = inter_sub_r (inter s.ambient p) sub_refl;
      permitted = sub_trans hp (permitted_reach s);
      inheritable = sub_trans hi (union_sub (inheritable_reach s) (bounding_reach s));
      bounding = sub_refl;
    }

-- ---- after an ID call

module _ (old new : Ids) where
  kept_root_left : {s : Sets} → ValidSets s → (bits : ℕ) → SetsKept s (root_left old new bits s)
  unfolding root_left
  kept_root_left {s} v bits =
      cond_cases (SetsKept s) (any_root old && not (any_root new)) _ _
      (λ h. cond_cases (SetsKept s) (is_set bits SECBIT_KEEP_CAPS) _ _ (λ k. kept_ambient v 0 none_sub none_sub) (λ k. emptied))
      (λ h. kept_same v)
    where
      emptied : SetsKept s (record { permitted = 0; inheritable = s.inheritable; effective = 0; bounding = s.bounding; ambient = 0 })
      emptied =
          record {
            effective_permitted_lem = none_sub;
            ambient_permitted = none_sub;
            ambient_inheritable = none_sub;
            permitted = none_sub;
            inheritable = inheritable_reach s;
            bounding = sub_refl;
          }

  kept_effective_left : {s : Sets} → ValidSets s → SetsKept s (effective_left old new s)
  unfolding effective_left
  kept_effective_left {s} v =
      cond_cases (SetsKept s) (eqb old.effective 0 && not (eqb new.effective 0)) _ _ (λ h. kept_effective v 0 none_sub) (λ h. kept_same v)

  kept_effective_taken : {s : Sets} → ValidSets s → SetsKept s (effective_taken old new s)
  unfolding effective_taken
  kept_effective_taken {s} v =
      cond_cases (SetsKept s) (not (eqb old.effective 0) && eqb new.effective 0) _ _
      (λ h. kept_effective v s.permitted sub_refl)
      (λ h. kept_same v)

  kept_filesystem_left : {s : Sets} → ValidSets s → SetsKept s (filesystem_left old new s)
  unfolding filesystem_left
  kept_filesystem_left {s} v =
      cond_cases (SetsKept s) (eqb old.filesystem 0 && not (eqb new.filesystem 0)) _ _
      (λ h. kept_effective v (minus s.effective filesystem_set) (minus_sub filesystem_set v.effective_permitted_lem))
      (λ h. kept_same v)

  kept_filesystem_taken : {s : Sets} → ValidSets s → SetsKept s (filesystem_taken old new s)
  unfolding filesystem_taken
  kept_filesystem_taken {s} v =
      cond_cases (SetsKept s) (not (eqb old.filesystem 0) && eqb new.filesystem 0) _ _
      (λ h. kept_effective v (union s.effective (inter filesystem_set s.permitted))
      (union_sub v.effective_permitted_lem (inter_sub_r filesystem_set sub_refl)))
      (λ h. kept_same v)

  pub kept_after : {s : Sets} → ValidSets s → (bits : ℕ) → SetsKept s (sets_after old new bits s)
  unfolding sets_after
  kept_after {s} v bits =
      cond_cases (SetsKept s) (is_set bits SECBIT_NO_SETUID_FIXUP) _ _ (λ h. kept_same v)
      (λ h. kept_next v (kept_root_left v bits) (λ w. kept_next w (kept_effective_left w) (λ x. kept_effective_taken x)))

  pub kept_after_filesystem : {s : Sets} → ValidSets s → (bits : ℕ) → SetsKept s (sets_after_filesystem old new bits s)
  unfolding sets_after_filesystem
  kept_after_filesystem {s} v bits =
      cond_cases (SetsKept s) (is_set bits SECBIT_NO_SETUID_FIXUP) _ _ (λ h. kept_same v)
      (λ h. kept_next v (kept_filesystem_left v) (λ w. kept_filesystem_taken w))

-- ---- a launch, whatever the file's sets

pub kept_launched : {s : Sets} (f : FileCapabilities) (a : ℕ) → Within a s.inheritable → SetsKept s (launched_sets s f a)
unfolding launched_sets launched_effective gained
kept_launched {s} f a h =
    record {
      effective_permitted_lem = effective;
      ambient_permitted = sub_union_r (gained s f) sub_refl;
      ambient_inheritable = h;
      permitted = union_sub from_file (sub_trans h (inheritable_reach s));
      inheritable = inheritable_reach s;
      bounding = sub_refl;
    }
  where
    from_file : Within (gained s f) (reach s)
    from_file = union_sub (inter_sub_l f.inheritable (inheritable_reach s)) (inter_sub_r f.permitted (bounding_reach s))

    effective : Within (launched_effective f.effective (launched_permitted s f a) a) (launched_permitted s f a)
    effective =
        cond_cases (λ (x : ℕ). Within x (launched_permitted s f a)) f.effective _ _ (λ e. sub_refl) (λ e. sub_union_r (gained s f) sub_refl)

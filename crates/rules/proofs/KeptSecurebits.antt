-- What each rule keeps of the securebits. Assumes nothing.
use Prim.Native.Nat.{ℕ, suc, ◌-◌, ◌≤◌, ◌<◌}
use mathlib.Core.Path.{◌≡◌, refl, sym, ap, ◌∙◌, subst}
use mathlib.Core.Bool.{Bool, true, false, cond, not, ◌||◌, true≢false}
use mathlib.Core.List.{[], ◌∷◌}
use native.Mathlib.Omega.{arith}
use lib.Dec.{eqb}
use borrow.Author.Tests.{eqb-false, eqb-true, ne_eqb, not-false, not-true}
use Rattle.capabilities.specs.Sets.{has, union, inter, minus, single, Has, Within}
use Rattle.capabilities.proofs.Membership.{has_suc}
use Rattle.capabilities.proofs.Inclusion.{agree, agrees, in_inter, in_is, inter_l, inter_r, inter_sub_l, inter_sub_r, minus_le, none_sub, not_outside, single_is, single_sub, sub_antisymm, sub_in, sub_inter, sub_refl, sub_trans, union_lt, within_sub}
use Rattle.capabilities.proofs.Solve.{var, none, ◌∪◌, ◌∩◌, ◌∖◌, solve}
use Rattle.credentials.specs.Securebits.{SECBIT_NOROOT, SECBIT_NO_SETUID_FIXUP, SECBIT_KEEP_CAPS, SECBIT_NO_CAP_AMBIENT_RAISE, lock_of}
use Rattle.rules.specs.Fields.{is_set}
use Rattle.rules.specs.Securebits.{all_locks, locks_set, locked_flags, changes_locked, undoes_lock}
use Rattle.rules.specs.ThreadFlags.{with_keep_caps}
use Rattle.rules.specs.Demand3.{LockedStays}

-- launched: the step is a launch that was done
pub record BitsKept (launched : Bool) (b d : ℕ) : Type 0 where
  pub small : d ≤ 255
  pub locks_stay : Within (locks_set b) d
  pub noroot : LockedStays SECBIT_NOROOT b d
  pub no_setuid_fixup : LockedStays SECBIT_NO_SETUID_FIXUP b d
  pub no_cap_ambient_raise : LockedStays SECBIT_NO_CAP_AMBIENT_RAISE b d
  pub keep_caps : is_set b (lock_of SECBIT_KEEP_CAPS) ≡ true → is_set d SECBIT_KEEP_CAPS ≡ cond launched false (is_set b SECBIT_KEEP_CAPS)

-- ---- flags

-- bits that agree on a flag
same_flag : (b d flag : ℕ) → inter d flag ≡ inter b flag → is_set d flag ≡ is_set b flag
same_flag b d flag e = ap (λ (x : ℕ). not (eqb x 0)) e

-- a flag that is set stays set in bits that have it too
still_set : (b d flag : ℕ) → Within (inter b flag) d → is_set b flag ≡ true → is_set d flag ≡ true
still_set b d flag h s =
    ap not (ne_eqb (inter d flag) 0 (λ e. eqb-false (inter b flag) 0 (not-true _ s)
    (sub_antisymm (subst (λ (x : ℕ). Within (inter b flag) x) e (sub_inter h (inter_sub_r b sub_refl))) none_sub)))

-- a flag of one bit that is set is a member
set_member : (b n : ℕ) → n < 64 → is_set b (single n) ≡ true → Has b n
set_member b n l s = in_is (known (has b n) refl)
  where
    none_there : has b n ≡ false → Within (inter b (single n)) 0
    none_there h = record {
      all! = λ m k. absurd (true≢false (sym (subst (λ (x : ℕ). has b x ≡ true) (single_is n m l (inter_r b (single n) k)) (inter_l b (single n) k).is!) ∙ h));
    }

    known : (t : Bool) → has b n ≡ t → has b n ≡ true
    known true e = e
    known false e = absurd (eqb-false (inter b (single n)) 0 (not-true _ s) (sub_antisymm (none_there e) none_sub))

-- a flag whose lock is set is among the locked ones
locked_flag : (b n : ℕ) → suc n < 64 → Has all_locks (suc n) → is_set b (single (suc n)) ≡ true → Within (single n) (locked_flags b)
locked_flag b n l k s =
    single_sub (omega arith) (in_is (sym (has_suc (locks_set b) n) ∙ (in_inter (set_member b (suc n) l s) k).is!))

-- bits that agree on some bits agree on a part of them
narrower : (b d m part : ℕ) → inter d m ≡ inter b m → Within part m → inter d part ≡ inter b part
narrower b d m part e h = agree d b part (λ n k. agrees d b m e n (sub_in h k))

-- bits that agree on the locked flags agree on each of them
agree_on : (b d flag : ℕ) → Within flag (locked_flags b) → changes_locked b d ≡ false → is_set d flag ≡ is_set b flag
unfolding changes_locked
agree_on b d flag h e = same_flag b d flag (narrower b d (locked_flags b) flag (sym (eqb-true _ _ (not-false _ e))) h)

-- ---- nothing changes, and one change after another

pub bits_same : {b : ℕ} → b ≤ 255 → BitsKept false b b
bits_same h =
    record {
      small = h;
      locks_stay = inter_sub_l _ sub_refl;
      noroot = λ l. refl;
      no_setuid_fixup = λ l. refl;
      no_cap_ambient_raise = λ l. refl;
      keep_caps = λ l. refl;
    }

lock_stays : {x : Bool} {b d : ℕ} (lock : ℕ) → Within lock all_locks → BitsKept x b d → is_set b lock ≡ true → is_set d lock ≡ true
lock_stays {x} {b} {d} lock h k = still_set b d lock (sub_trans (sub_inter {b = b} {c = all_locks} (inter_sub_l lock sub_refl) (inter_sub_r b h)) k.locks_stay)

pub bits_then : {x y : Bool} {b d e : ℕ} → BitsKept x b d → BitsKept y d e → BitsKept (x || y) b e
bits_then {x} {y} {b} {d} {e} h k =
    record {
      small = k.small;
      locks_stay = sub_trans (sub_inter h.locks_stay (inter_sub_r b sub_refl)) k.locks_stay;
      noroot = λ l. k.noroot (lock_stays (lock_of SECBIT_NOROOT) (within_sub (lock_of SECBIT_NOROOT) all_locks refl) h l) ∙ h.noroot l;
      no_setuid_fixup = λ l. k.no_setuid_fixup (lock_stays (lock_of SECBIT_NO_SETUID_FIXUP) (within_sub (lock_of SECBIT_NO_SETUID_FIXUP) all_locks refl) h l) ∙ h.no_setuid_fixup l;
      no_cap_ambient_raise = λ l. k.no_cap_ambient_raise (lock_stays (lock_of SECBIT_NO_CAP_AMBIENT_RAISE) (within_sub (lock_of SECBIT_NO_CAP_AMBIENT_RAISE) all_locks refl) h l) ∙ h.no_cap_ambient_raise l;
      keep_caps = λ l. k.keep_caps (lock_stays (lock_of SECBIT_KEEP_CAPS) (within_sub (lock_of SECBIT_KEEP_CAPS) all_locks refl) h l)
          ∙ ap (cond y false) (h.keep_caps l) ∙ either x y (is_set b SECBIT_KEEP_CAPS);
    }
  where
    either : (x y z : Bool) → cond y false (cond x false z) ≡ cond (x || y) false z
    either true true z = refl
    either true false z = refl
    either false true z = refl
    either false false z = refl

-- ---- the calls

-- call 9
pub bits_set : (b d : ℕ) → d ≤ 255 → undoes_lock b d ≡ false → changes_locked b d ≡ false → BitsKept false b d
unfolding single has
bits_set b d l u e =
    record {
      small = l;
      locks_stay = not_outside (locks_set b) d u;
      noroot = λ s. agree_on b d SECBIT_NOROOT (locked_flag b 0 (omega arith) (in_is refl) s) e;
      no_setuid_fixup = λ s. agree_on b d SECBIT_NO_SETUID_FIXUP (locked_flag b 2 (omega arith) (in_is refl) s) e;
      no_cap_ambient_raise = λ s. agree_on b d SECBIT_NO_CAP_AMBIENT_RAISE (locked_flag b 6 (omega arith) (in_is refl) s) e;
      keep_caps = λ s. agree_on b d SECBIT_KEEP_CAPS (locked_flag b 4 (omega arith) (in_is refl) s) e;
    }

-- every bit but KEEP_CAPS
abbrev others : ℕ
others = 255 - SECBIT_KEEP_CAPS

-- bits that agree on the others keep all that is to be kept of them
others_stay : (x : Bool) (b d : ℕ) → d ≤ 255 → inter d others ≡ inter b others
    → (is_set b (lock_of SECBIT_KEEP_CAPS) ≡ true → is_set d SECBIT_KEEP_CAPS ≡ cond x false (is_set b SECBIT_KEEP_CAPS)) → BitsKept x b d
others_stay x b d h e k =
    record {
      small = h;
      locks_stay = subst (λ (y : ℕ). Within y d) (part all_locks (within_sub all_locks others refl)) (inter_sub_l all_locks sub_refl);
      noroot = λ l. same_flag b d SECBIT_NOROOT (part SECBIT_NOROOT (within_sub SECBIT_NOROOT others refl));
      no_setuid_fixup = λ l. same_flag b d SECBIT_NO_SETUID_FIXUP (part SECBIT_NO_SETUID_FIXUP (within_sub SECBIT_NO_SETUID_FIXUP others refl));
      no_cap_ambient_raise = λ l.
          same_flag b d SECBIT_NO_CAP_AMBIENT_RAISE (part SECBIT_NO_CAP_AMBIENT_RAISE (within_sub SECBIT_NO_CAP_AMBIENT_RAISE others refl));
      keep_caps = k;
    }
  where
    part : (m : ℕ) → Within m others → inter d m ≡ inter b m
    part m l = narrower b d others m e l

-- KEEP_CAPS cleared
clear_others : (b : ℕ) → inter (minus b SECBIT_KEEP_CAPS) others ≡ inter b others
unfolding minus
clear_others b = solve (b ∷ others ∷ SECBIT_KEEP_CAPS ∷ []) ((var 0 ∖ var 2) ∩ var 1) (var 0 ∩ (var 1 ∖ var 2)) refl

clear_small : (b : ℕ) → b ≤ 255 → minus b SECBIT_KEEP_CAPS ≤ 255
clear_small b h = omega (arith, minus_le b SECBIT_KEEP_CAPS)

clear_clears : (b : ℕ) → is_set (minus b SECBIT_KEEP_CAPS) SECBIT_KEEP_CAPS ≡ false
clear_clears b = ap (λ (x : ℕ). not (eqb x 0)) (solve (b ∷ SECBIT_KEEP_CAPS ∷ []) ((var 0 ∖ var 1) ∩ var 1) none refl)

-- KEEP_CAPS set
raise_others : (b : ℕ) → inter (union b SECBIT_KEEP_CAPS) others ≡ inter b others
raise_others b =
    solve (b ∷ others ∷ SECBIT_KEEP_CAPS ∷ []) ((var 0 ∪ var 2) ∩ var 1) ((var 0 ∩ var 1) ∪ (var 2 ∩ var 1)) refl
    ∙ solve (b ∷ others ∷ []) ((var 0 ∩ var 1) ∪ none) (var 0 ∩ var 1) refl

raise_small : (b : ℕ) → b ≤ 255 → union b SECBIT_KEEP_CAPS ≤ 255
raise_small b h = let l : union b SECBIT_KEEP_CAPS < 256 = union_lt 8 b SECBIT_KEEP_CAPS (omega arith) (omega arith) in omega arith

-- call 1
pub bits_launched : (b : ℕ) → b ≤ 255 → BitsKept true b (minus b SECBIT_KEEP_CAPS)
bits_launched b h = others_stay true b (minus b SECBIT_KEEP_CAPS) (clear_small b h) (clear_others b) (λ s. clear_clears b)

-- call 11, where KEEP_CAPS is not locked
pub bits_keep_caps : (b : ℕ) (on : Bool) → b ≤ 255 → is_set b (lock_of SECBIT_KEEP_CAPS) ≡ false → BitsKept false b (with_keep_caps b on)
unfolding with_keep_caps
bits_keep_caps b true h u = others_stay false b (union b SECBIT_KEEP_CAPS) (raise_small b h) (raise_others b) (λ s. absurd (true≢false (sym s ∙ u)))
bits_keep_caps b false h u = others_stay false b (minus b SECBIT_KEEP_CAPS) (clear_small b h) (clear_others b) (λ s. absurd (true≢false (sym s ∙ u)))

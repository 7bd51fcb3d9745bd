-- One launch of some file leaves any capability of I or B in P, where no-new-privs is clear: a file that permits it, makes it
-- inheritable, and whose effective bit is off. Assumes nothing.
use Prim.Native.Nat.{ℕ, ◌<◌}
use mathlib.Core.Path.{◌≡◌, ap, sym, ◌∙◌, subst}
use mathlib.Core.Bool.{true, false, ◌&&◌, ◌||◌, true≢false}
use mathlib.Core.List.{List}
use native.Mathlib.Decide.{dec_lt}
use native.Mathlib.Omega.{arith}
use lib.Dec.{eqb}
use Rattle.capabilities.specs.Sets.{full, union, inter, single, Has}
use Rattle.capabilities.proofs.Membership.{has_above}
use Rattle.capabilities.proofs.Inclusion.{in_inter, in_single, in_union_l, in_union_r, single_sub, sub_in, sub_not_outside, union_cases, union_sub}
use Rattle.attribute.specs.Reader.{reading}
use Rattle.attribute.specs.Writer.{version2_bytes}
use Rattle.attribute.specs.declared.FileCapabilities.{FileCapabilities}
use Rattle.std.specs.Prelude.{Ok}
use Rattle.attribute.proofs.ReadBack.{read_back, written_bytes}
use Rattle.credentials.specs.Validity.{valid}
use Rattle.credentials.specs.declared.Ids.{Ids}
use Rattle.credentials.specs.declared.Sets.{Sets}
use Rattle.credentials.specs.declared.Credentials.{Credentials}
use Rattle.credentials.proofs.Valid.{Valid, valid_facts}
use Rattle.rules.specs.Answers.{after, Answer, code, done}
use Rattle.rules.specs.Launching.{counted, counted_set, falls_short, file_read, gained, ignores_attribute, ignores_set_id, launch, launched, launched_sets, root_counts}
use Rattle.rules.specs.Decoding.{decode, known}
use Rattle.rules.specs.Call.{answer}
use Rattle.rules.specs.Run.{result}
use Rattle.rules.specs.Demand3.{OneLaunch}
use Rattle.rules.proofs.Conditions.{cond_cases}

-- a capability is below 41
capability_small : {n : ℕ} → Has full n → n < 41
capability_small {n} h = decided (dec_lt n 41)
  where
    decided : Dec (n < 41) → n < 41
    decided (yes l) = l
    decided (no g) = absurd (true≢false (sym h.is! ∙ has_above 41 full n (omega arith) (omega arith)))

module _ (n : ℕ) (l : Has full n) where
  -- the file, and its attribute
  abbrev granting : FileCapabilities
  granting = record { attached = true; permitted = single n; inheritable = single n; effective = false }

  abbrev grant : List ℕ
  grant = version2_bytes (single n) (single n) false

  n_small : n < 64
  n_small = let k : n < 41 = capability_small l in omega arith

  grant_reads : reading grant ≡ Ok granting
  grant_reads = read_back (single n) (single n) false (sub_not_outside (union_sub (single_sub n_small l) (single_sub n_small l)))

  -- whatever c of Launching makes of a set that has n has it
  counted_has : (bits : ℕ) (u : Ids) (f : FileCapabilities) (own : ℕ) → Has own n → Has (counted_set bits u f own) n
  unfolding counted_set
  counted_has bits u f own h = cond_cases (λ (x : ℕ). Has x n) (root_counts bits u f && (eqb u.real 0 || eqb u.effective 0)) full own (λ t. l) (λ t. h)

  launched_has : (s : Sets) (f : FileCapabilities) (a : ℕ) → Has f.permitted n → Has f.inheritable n → Has (union s.inheritable s.bounding) n
      → Has (launched_sets s f a).permitted n
  unfolding launched_sets gained
  launched_has s f a p i h =
      in_union_l a
      (union_cases s.inheritable s.bounding h
      (λ m. in_union_l (inter f.permitted s.bounding) (in_inter m i))
      (λ m. in_union_r (inter s.inheritable f.inheritable) (in_inter p m)))

  module _ (start : Credentials) (v : valid start ≡ true) (clear : start.nnp ≡ false) where
    launch_done : answer start 1 0 0 0 grant ≡ done 0 (launched start 0 0 0 granting)
    unfolding answer decode known launch file_read ignores_attribute ignores_set_id falls_short
    launch_done = simp (v, clear, grant_reads)

    permits : Has (union start.sets.inheritable start.sets.bounding) n → Has (launched start 0 0 0 granting).sets.permitted n
    unfolding launched counted
    permits h =
        launched_has start.sets _ _ (counted_has start.securebits _ granting (single n) (in_single n_small))
        (counted_has start.securebits _ granting (single n) (in_single n_small)) h

-- the launch
pub one_launch : (start : Credentials) → valid start ≡ true → start.nnp ≡ false → (n : ℕ)
    → Has (union start.sets.inheritable start.sets.bounding) n → OneLaunch start n
unfolding result
one_launch start v clear n h =
    let w : Valid start = valid_facts start v in
    let l : Has full n = sub_in (union_sub w.sets.inheritable_full w.sets.bounding_full) h in
    let e = launch_done n l start v clear in
    record {
      attribute = grant n l;
      bytes = written_bytes (single n) (single n) false;
      done = ap code e;
      gives = subst (λ (r : Answer). Has (after start r).sets.permitted n) (sym e) (permits n l start v clear h);
    }

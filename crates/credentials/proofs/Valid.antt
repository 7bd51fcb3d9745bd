-- Validity as facts, and the law that turns the test into them and back. Assumes nothing.
use Prim.Native.Nat.{◌≤◌}
use mathlib.Core.Path.{◌≡◌, refl}
use mathlib.Core.Bool.{Bool, true, false, ◌&&◌, false≢true}
use borrow.Author.Tests.{leb-true, le-leb}
use Rattle.capabilities.specs.Sets.{full, within, Within}
use Rattle.capabilities.proofs.Inclusion.{and_l, and_r, and_i, within_sub, sub_within}
use Rattle.credentials.specs.Validity.{ambient_held, effective_permitted, id_in_range, ids_in_range, no_bit_above40, securebits_in_range, valid}
use Rattle.credentials.specs.declared.Ids.{Ids}
use Rattle.credentials.specs.declared.Sets.{Sets}
use Rattle.credentials.specs.declared.Credentials.{Credentials}

pub record ValidSets (s : Sets) : Type 0 where
  pub effective_permitted_lem : Within s.effective s.permitted
  pub ambient_permitted : Within s.ambient s.permitted
  pub ambient_inheritable : Within s.ambient s.inheritable
  pub permitted_full : Within s.permitted full
  pub inheritable_full : Within s.inheritable full
  pub effective_full : Within s.effective full
  pub bounding_full : Within s.bounding full
  pub ambient_full : Within s.ambient full

pub record ValidIds (u : Ids) : Type 0 where
  pub real_small : u.real ≤ 4294967294
  pub effective_small : u.effective ≤ 4294967294
  pub saved_small : u.saved ≤ 4294967294
  pub filesystem_small : u.filesystem ≤ 4294967294

pub record Valid (c : Credentials) : Type 0 where
  pub sets : ValidSets c.sets
  pub uids : ValidIds c.uids
  pub gids : ValidIds c.gids
  pub securebits_small : c.securebits ≤ 255

-- ---- conjunctions, taken apart and put together

record Five (a b c d e : Bool) : Type 0 where
  first : a ≡ true
  second : b ≡ true
  third : c ≡ true
  fourth : d ≡ true
  fifth : e ≡ true

five : (a b c d e : Bool) → a && b && c && d && e ≡ true → Five a b c d e
five false b c d e h = absurd (false≢true h)
five true false c d e h = absurd (false≢true h)
five true true false d e h = absurd (false≢true h)
five true true true false e h = absurd (false≢true h)
five true true true true e h = record { first = refl; second = refl; third = refl; fourth = refl; fifth = h }

all_five : {a b c d e : Bool} → Five a b c d e → a && b && c && d && e ≡ true
all_five f = simp (f.first, f.second, f.third, f.fourth, f.fifth)

-- ---- each part, from its test and back

module _ (s : Sets) where
  valid_sets : effective_permitted s ≡ true → ambient_held s ≡ true → no_bit_above40 s ≡ true → ValidSets s
  valid_sets e a n =
      let f =
      five (within s.permitted full) (within s.inheritable full) (within s.effective full) (within s.bounding full) (within s.ambient full) n in
      record {
        effective_permitted_lem = within_sub s.effective s.permitted e;
        ambient_permitted = within_sub s.ambient s.permitted (and_l (within s.ambient s.permitted) (within s.ambient s.inheritable) a);
        ambient_inheritable = within_sub s.ambient s.inheritable (and_r (within s.ambient s.permitted) (within s.ambient s.inheritable) a);
        permitted_full = within_sub s.permitted full f.first;
        inheritable_full = within_sub s.inheritable full f.second;
        effective_full = within_sub s.effective full f.third;
        bounding_full = within_sub s.bounding full f.fourth;
        ambient_full = within_sub s.ambient full f.fifth;
      }

  no_bit_above_40 : ValidSets s → no_bit_above40 s ≡ true
  no_bit_above_40 v =
      all_five
      (record {
        first = sub_within v.permitted_full;
        second = sub_within v.inheritable_full;
        third = sub_within v.effective_full;
        fourth = sub_within v.bounding_full;
        fifth = sub_within v.ambient_full;
      })

  ambient_held_lem : ValidSets s → ambient_held s ≡ true
  ambient_held_lem v =
      and_i (within s.ambient s.permitted) (within s.ambient s.inheritable) (sub_within v.ambient_permitted) (sub_within v.ambient_inheritable)

module _ (u : Ids) where
  pub valid_ids : ids_in_range u ≡ true → ValidIds u
  valid_ids h =
      let f = five true (id_in_range u.real) (id_in_range u.effective) (id_in_range u.saved) (id_in_range u.filesystem) h in
      record {
        real_small = leb-true u.real 4294967294 f.second;
        effective_small = leb-true u.effective 4294967294 f.third;
        saved_small = leb-true u.saved 4294967294 f.fourth;
        filesystem_small = leb-true u.filesystem 4294967294 f.fifth;
      }

  pub ids_in_range_lem : ValidIds u → ids_in_range u ≡ true
  ids_in_range_lem v =
      simp (
        le-leb u.real 4294967294 v.real_small,
        le-leb u.effective 4294967294 v.effective_small,
        le-leb u.saved 4294967294 v.saved_small,
        le-leb u.filesystem 4294967294 v.filesystem_small,
      )

-- ---- the law

-- every clause but the last
abbrev sets_and_ids : Credentials → Bool
sets_and_ids c = effective_permitted c.sets && ambient_held c.sets && no_bit_above40 c.sets && ids_in_range c.uids && ids_in_range c.gids

pub valid_facts : (c : Credentials) → valid c ≡ true → Valid c
unfolding valid
valid_facts c h =
    let f =
    five (effective_permitted c.sets) (ambient_held c.sets) (no_bit_above40 c.sets) (ids_in_range c.uids) (ids_in_range c.gids)
    (and_l (sets_and_ids c) (securebits_in_range c.securebits) h) in
    record {
      sets = valid_sets c.sets f.first f.second f.third;
      uids = valid_ids c.uids f.fourth;
      gids = valid_ids c.gids f.fifth;
      securebits_small = leb-true c.securebits 255 (and_r (sets_and_ids c) (securebits_in_range c.securebits) h);
    }

pub facts_valid : (c : Credentials) → Valid c → valid c ≡ true
unfolding valid
facts_valid c v =
    and_i (sets_and_ids c) (securebits_in_range c.securebits)
    (all_five
    (record {
      first = sub_within v.sets.effective_permitted_lem;
      second = ambient_held_lem c.sets v.sets;
      third = no_bit_above_40 c.sets v.sets;
      fourth = ids_in_range_lem c.uids v.uids;
      fifth = ids_in_range_lem c.gids v.gids;
    }))
    (le-leb c.securebits 255 v.securebits_small)

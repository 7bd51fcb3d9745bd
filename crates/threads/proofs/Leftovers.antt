-- What a free slot still holds shows nowhere. Assumes nothing.
use Prim.Native.Nat.{ℕ, ◌<◌}
use mathlib.Core.Path.{◌≡◌, refl, sym, ap, ◌∙◌, subst}
use mathlib.Core.Logic.{⊎_elim}
use mathlib.Core.Bool.{Bool, true, false, cond}
use lib.Dec.{eqb, ltb}
use lib.ListN.{length-set}
use lib.Seq.{get_or-set_same, get_or-set_other}
use borrow.Author.Tests.{ltb-true}
use Rattle.credentials.specs.declared.Credentials.{Credentials}
use Rattle.rules.specs.Answers.{after}
use Rattle.threads.specs.declared.Decision.{Decision}
use Rattle.threads.specs.declared.Decision.TheVariants.{Answered, Forks, Exits}
use Rattle.threads.specs.declared.SlotResult.{SlotResult}
use Rattle.threads.specs.declared.Threads.{Threads}
use Rattle.threads.specs.Table.{SLOTS, empty, held, in_use, with_credentials, with_mark, lowest_free}
use Rattle.threads.specs.Step.{SlotStep, decided, refused, forked, carried_out, step_in}
use Rattle.threads.specs.Slots.{Sized, SameInUse, SameAnswer}
use Rattle.threads.proofs.Free.{lowest_same}
use Rattle.threads.proofs.Tests.{equal_or_not, different}

-- two results are the same answer, and their tables the same in use
abbrev Agree : SlotResult → SlotResult → Type 0
Agree p q = SameAnswer p q × SameInUse p.table q.table

module _ (one other : Threads) (y : Sized one) (z : Sized other) (same : SameInUse one other) (k : ℕ) (within : k < SLOTS) where
  -- the same credentials are stored in a slot
  stored_same : (c : Credentials) → SameInUse (with_credentials one k c) (with_credentials other k c)
  stored_same c =
      record {
        used = same.used;
        credentials = λ i u.
            ⊎_elim
            (λ (e : i ≡ k). ap (λ (n : ℕ). held (with_credentials one k c) n) e ∙ here ∙ ap (λ (n : ℕ). held (with_credentials other k c) n) (sym e))
            (λ (ne : eqb i k ≡ false).
            get_or-set_other one.credentials k i c empty (different i k ne) ∙ same.credentials i u ∙ sym (get_or-set_other other.credentials k i c empty (different i k ne)))
            (equal_or_not i k);
      }
    where
      here : held (with_credentials one k c) k ≡ held (with_credentials other k c) k
      here =
          get_or-set_same one.credentials k c empty (subst (λ (n : ℕ). k < n) (sym y.credentials) within)
          ∙ sym (get_or-set_same other.credentials k c empty (subst (λ (n : ℕ). k < n) (sym z.credentials) within))

  -- a slot that has the same credentials in both is marked
  marked_same : (mark : Bool) → held one k ≡ held other k → SameInUse (with_mark one k mark) (with_mark other k mark)
  marked_same mark h =
      record {
        used = λ i.
            ⊎_elim
            (λ (e : i ≡ k). ap (λ (n : ℕ). in_use (with_mark one k mark) n) e ∙ here ∙ ap (λ (n : ℕ). in_use (with_mark other k mark) n) (sym e))
            (λ (ne : eqb i k ≡ false).
            get_or-set_other one.used k i mark false (different i k ne) ∙ same.used i ∙ sym (get_or-set_other other.used k i mark false (different i k ne)))
            (equal_or_not i k);
        credentials = λ i u.
            ⊎_elim
            (λ (e : i ≡ k). ap (λ (n : ℕ). held one n) e ∙ h ∙ ap (λ (n : ℕ). held other n) (sym e))
            (λ (ne : eqb i k ≡ false). same.credentials i (sym (get_or-set_other one.used k i mark false (different i k ne)) ∙ u))
            (equal_or_not i k);
      }
    where
      here : in_use (with_mark one k mark) k ≡ in_use (with_mark other k mark) k
      here =
          get_or-set_same one.used k mark false (subst (λ (n : ℕ). k < n) (sym y.used) within)
          ∙ sym (get_or-set_same other.used k mark false (subst (λ (n : ℕ). k < n) (sym z.used) within))

-- ---- one step

module _ (one other : Threads) (y : Sized one) (z : Sized other) (same : SameInUse one other) where
  refused_same : (n : ℕ) → Agree (refused one n) (refused other n)
  refused_same n = (record { code = refl; value = refl; cause = refl }, same)

  forked_same : (caller : Credentials) (free : ℕ) → Agree (forked one caller free) (forked other caller free)
  unfolding forked
  forked_same caller free = by (ltb free SLOTS) refl
    where
      by : (t : Bool) → ltb free SLOTS ≡ t
          → Agree (cond t (record { code = 0; value = free; cause = 0; table = with_mark (with_credentials one free caller) free true }) (refused one 11))
          (cond t (record { code = 0; value = free; cause = 0; table = with_mark (with_credentials other free caller) free true }) (refused other 11))
      by true h =
          let w = ltb-true free SLOTS h in
          let set_one = get_or-set_same one.credentials free caller empty (subst (λ (n : ℕ). free < n) (sym y.credentials) w) in
          let set_other = get_or-set_same other.credentials free caller empty (subst (λ (n : ℕ). free < n) (sym z.credentials) w) in (
            record { code = refl; value = refl; cause = refl },
            marked_same (with_credentials one free caller) (with_credentials other free caller)
                (record { credentials = length-set one.credentials free caller ∙ y.credentials; used = y.used })
                (record { credentials = length-set other.credentials free caller ∙ z.credentials; used = z.used })
                (stored_same one other y z same free w caller) free w true (set_one ∙ sym set_other),
          )
      by false h = refused_same 11

  -- in a slot in use, which has the same credentials in both
  carried_same : (slot : ℕ) → slot < SLOTS → held one slot ≡ held other slot → (d : Decision) → Agree (carried_out one slot d) (carried_out other slot d)
  carried_same slot w h (Answered r) =
      rw (← h) (record { code = refl; value = refl; cause = refl }, stored_same one other y z same slot w (after (held one slot) r))
  carried_same slot w h Forks = rw (← h, lowest_same one.used other.used same.used) (forked_same (held one slot) (lowest_free other.used))
  carried_same slot w h Exits = (record { code = refl; value = refl; cause = refl }, marked_same one other y z same slot w false h)

pub leftovers : (one other : Threads) (s : SlotStep) → Sized one → Sized other → SameInUse one other → Agree (step_in one s) (step_in other s)
unfolding step_in
leftovers one other s y z same = rw (← (same.used s.slot)) (by (ltb s.slot SLOTS) (in_use one s.slot) refl refl)
  where
    by : (w u : Bool) → ltb s.slot SLOTS ≡ w → in_use one s.slot ≡ u
        → Agree (cond w (cond u (carried_out one s.slot (decided (held one s.slot) s.step)) (refused one 3)) (refused one 22))
        (cond w (cond u (carried_out other s.slot (decided (held other s.slot) s.step)) (refused other 3)) (refused other 22))
    by true true w u =
        let h = same.credentials s.slot u in
        subst (λ (c : Credentials). Agree (carried_out one s.slot (decided (held one s.slot) s.step)) (carried_out other s.slot (decided c s.step))) h
        (carried_same one other y z same s.slot (ltb-true s.slot SLOTS w) h (decided (held one s.slot) s.step))
    by true false w u = refused_same one other y z same 3
    by false u w v = refused_same one other y z same 22

-- A step that is read at a place, by the table for reading, is the format's: a plan's five lines, a slot plan's six. Assumes nothing.
use native.Mathlib.Omega.{arith}
use mathlib.Core.Path.{◌≡◌, refl, sym, ap, subst, ◌∙◌}
use mathlib.Core.List.{List, []}
use Prim.Native.Nat.{ℕ, ◌+◌, ◌<◌, ◌≤◌, ◌^◌}
use lib.ListN.{drop}
use Rattle.format.specs.Line.{decimal, below, mapped, read_value, read_line, read_lines}
use Rattle.format.specs.Step.{step_kinds, attribute_key, read_attribute, step_of, read_step}
use Rattle.hex_tables.specs.Tables.{reading_table, read_value_by, read_pairs_by}
use Rattle.line_reader.specs.declared.Place.{Place}
use Rattle.line_reader.specs.Inside.{seen}
use Rattle.line_reader.specs.Positions.{Reading, valued, number_at, lines_by, attribute_by}
use Rattle.line_reader.proofs.Answers.{Ends, valued_ends, followed_ends, keyed_counted, lines_counted, lines_read_at, line_seen, seen_followed, seen_mapped}
use Rattle.line_reader.proofs.Attributes.{attribute_seen}
use Rattle.rules.specs.Run.{Step}
use Rattle.threads.specs.Step.{SlotStep}
use Rattle.slot_format.specs.SlotPlan.{slot_kind, read_slot_step}
use Rattle.plan.specs.Inside.{step_by, slot_step_by}

module _ (text : List ℕ) where
  step_seen : (p : Place) → p.lines + 5 < 2 ^ 32 → below p.lines (read_step (drop p.at text)) ≡ seen text (step_by reading_table text p)
  unfolding read_step step_kinds
  step_seen p b =
      seen_followed text p.lines 4 (read_lines step_kinds (drop p.at text)) (λ vs rest. mapped (step_of vs) (read_attribute attribute_key rest))
      (lines_by reading_table step_kinds text p) (λ vs q. valued (λ bs. step_of vs bs) (attribute_by reading_table attribute_key text q))
      (lines_read_at step_kinds text p (omega (arith, b)))
      (lines_counted (read_value_by reading_table) text step_kinds p (p.lines + 4) (omega arith) (omega (arith, b)))
      (λ vs q e. seen_mapped (λ bs. step_of vs bs) text q.lines (read_attribute attribute_key (drop q.at text)) (attribute_by reading_table attribute_key text q)
      (attribute_seen attribute_key text q (omega (arith, b, e))))

  -- its lines count, and a fault is at one of them
  step_ends : (table : List ℕ) (p : Place) → p.lines + 5 < 2 ^ 32 → Ends (λ q. q.lines ≡ p.lines + 5) (λ e. e.line ≤ p.lines + 5) (step_by table text p)
  unfolding step_kinds
  step_ends table p b =
      followed_ends (λ q. q.lines ≡ p.lines + 5) (λ e. e.line ≤ p.lines + 5) (λ q. q.lines ≡ p.lines + 4) (λ e. e.line ≤ p.lines + 4)
      (lines_by table step_kinds text p) (λ vs q. valued (λ bs. step_of vs bs) (attribute_by table attribute_key text q))
      (lines_counted (read_value_by table) text step_kinds p (p.lines + 4) (omega arith) (omega (arith, b))) (λ e h. omega (arith, h))
      (λ vs q h. valued_ends (λ q. q.lines ≡ p.lines + 5) (λ e. e.line ≤ p.lines + 5) (λ bs. step_of vs bs) (attribute_by table attribute_key text q)
      (keyed_counted (read_value_by table) text attribute_key (read_pairs_by table 24 []) q (p.lines + 5) (omega (arith, h)) b))

  slot_step_seen : (p : Place) → p.lines + 6 < 2 ^ 32 → below p.lines (read_slot_step (drop p.at text)) ≡ seen text (slot_step_by reading_table text p)
  unfolding read_slot_step
  slot_step_seen p b =
      seen_followed text p.lines 1 (read_line slot_kind (drop p.at text)) (λ v rest. mapped (λ s. record { slot = v; step = s }) (read_step rest))
      (number_at slot_kind.key (decimal 99) text p) (λ v q. valued (λ s. record { slot = v; step = s }) (step_by reading_table text q))
      (line_seen text slot_kind p (omega (arith, b)))
      (keyed_counted read_value text slot_kind.key (read_value (decimal 99)) p (p.lines + 1) refl (omega (arith, b)))
      (λ v q e. seen_mapped (λ s. record { slot = v; step = s }) text q.lines (read_step (drop q.at text)) (step_by reading_table text q) (step_seen q (omega (arith, b, e))))

  slot_step_ends : (table : List ℕ) (p : Place) → p.lines + 6 < 2 ^ 32 → Ends (λ q. q.lines ≡ p.lines + 6) (λ e. e.line ≤ p.lines + 6) (slot_step_by table text p)
  slot_step_ends table p b =
      followed_ends (λ q. q.lines ≡ p.lines + 6) (λ e. e.line ≤ p.lines + 6) (λ q. q.lines ≡ p.lines + 1) (λ e. e.line ≤ p.lines + 1)
      (number_at slot_kind.key (decimal 99) text p) (λ v q. valued (λ s. record { slot = v; step = s }) (step_by table text q))
      (keyed_counted read_value text slot_kind.key (read_value (decimal 99)) p (p.lines + 1) refl (omega (arith, b))) (λ e h. omega (arith, h))
      (λ v q h. valued_ends (λ q. q.lines ≡ p.lines + 6) (λ e. e.line ≤ p.lines + 6) (λ s. record { slot = v; step = s }) (step_by table text q)
      (six q (p.lines + 6) (omega (arith, h)) (omega (arith, h, b))))
    where
      six : (q : Place) (n : ℕ) → n ≡ q.lines + 5 → q.lines + 5 < 2 ^ 32 → Ends (λ r. r.lines ≡ n) (λ e. e.line ≤ n) (step_by table text q)
      six q n e b = subst (λ (m : ℕ). Ends (λ r. r.lines ≡ m) (λ e. e.line ≤ m) (step_by table text q)) (sym e) (step_ends table q b)

-- what is read at a place of a text
module _ (table text : List ℕ) (p : Place) (is : table ≡ reading_table) where
  pub step_read : (r : Reading Step) → p.lines ≤ 65535 → r ≡ step_by table text p
      → (below p.lines (read_step (drop p.at text)) ≡ seen text r) × Ends (λ q. q.lines ≡ p.lines + 5) (λ e. e.line ≤ p.lines + 5) r
  step_read r b h = (
    step_seen text p (omega (arith, b)) ∙ ap (λ (t : List ℕ). seen text (step_by t text p)) (sym is) ∙ ap (seen text) (sym h),
    subst (Ends (λ q. q.lines ≡ p.lines + 5) (λ e. e.line ≤ p.lines + 5)) (sym h) (step_ends text table p (omega (arith, b))),
  )

  pub slot_step_read : (r : Reading SlotStep) → p.lines ≤ 65535 → r ≡ slot_step_by table text p
      → (below p.lines (read_slot_step (drop p.at text)) ≡ seen text r) × Ends (λ q. q.lines ≡ p.lines + 6) (λ e. e.line ≤ p.lines + 6) r
  slot_step_read r b h = (
    slot_step_seen text p (omega (arith, b)) ∙ ap (λ (t : List ℕ). seen text (slot_step_by t text p)) (sym is) ∙ ap (seen text) (sym h),
    subst (Ends (λ q. q.lines ≡ p.lines + 6) (λ e. e.line ≤ p.lines + 6)) (sym h) (slot_step_ends text table p (omega (arith, b))),
  )

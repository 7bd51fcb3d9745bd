-- `plan::slot_report::slots_length` meets its contract. Assumes nothing.
use mathlib.Core.Path.{ap, ◌∙◌}
use Prim.Native.Nat.{◌+◌, ◌-◌}
use native.Mathlib.Omega.{arith}
use lib.ListN.{length, length-append}
use Rattle.slot_format.specs.SlotReport.{slot_text, slots_text}
use Rattle.threads.specs.Table.{held}
use Rattle.plan.proofs.SlotLaws.{slots_used, slots_free, slots_none}
use Rattle.plan.proofs.slot_report.slots_length.Goals as goal
use Rattle.plan.proofs.slot_report.slots_length.Goals.{then-used, else-used}

pub loop-slot-preserved : goal.loop-slot-preserved
loop-slot-preserved c =
    let l = c.loop-slot in
    let t = c.args.table.now in
    let h = c.loop-slot-test.true in
    let left = 96 - (l.slot + 1) in
    elim c.if-used.branch [
      | then-used w ↦
          let one = slots_used t l.slot (96 - l.slot) left (omega (arith, h)) w.if-used.true in
          let size = ap length one ∙ length-append (slot_text l.slot (held t l.slot)) (slots_text t (l.slot + 1) left) in
          (omega (arith, l.invariant.0, size, w.slot_length-n.ensures.0, w.n-is), omega (arith, l.invariant.1, w.slot_length-n.ensures.1, w.n-is))
      | else-used w ↦
          let one = slots_free t l.slot (96 - l.slot) left (omega (arith, h)) w.if-used.false in
          (omega (arith, l.invariant.0, ap length one, w.n-is), omega (arith, l.invariant.1, w.n-is))
    ]

pub returns : goal.returns
returns c =
    let l = c.loop-slot in
    let none = ap length (slots_none c.args.table.now l.slot (96 - l.slot) (omega (arith, c.loop-slot-test.false))) in
    (omega (arith, l.invariant.0, none), omega (arith, l.invariant.1, l.auto.slot-end))

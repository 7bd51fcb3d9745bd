-- `plan::slot_report::write_slots` meets its contract. Assumes nothing.
use mathlib.Core.Path.{sym, ap, ◌∙◌}
use Prim.Native.Nat.{◌+◌, ◌-◌}
use native.Mathlib.Omega.{arith}
use lib.ListN.{length, length-append}
use lib.Seq.{sets}
use Rattle.slot_format.specs.SlotReport.{slot_text, slots_text}
use Rattle.threads.specs.Table.{held}
use Rattle.line_writer.proofs.LineLaws.{sets_append}
use Rattle.plan.proofs.SlotLaws.{slots_used, slots_free, slots_none}
use Rattle.plan.proofs.slot_report.write_slots.Goals as goal
use Rattle.plan.proofs.slot_report.write_slots.Goals.{then-used, else-used}

pub write_slot-past-requires : goal.write_slot-past-requires
write_slot-past-requires c =
    let l = c.loop-slot in
    let t = c.args.table.now in
    let left = 96 - (l.slot + 1) in
    let used = c.if-used.true in
    let one = ap length (slots_used t l.slot (96 - l.slot) left (omega (arith, c.loop-slot-test.true)) used) ∙ length-append (slot_text l.slot (held t l.slot)) (slots_text t (l.slot + 1) left) in
    (c.requires.0 l.slot used, omega (arith, one, l.invariant.1, l.invariant.2, c.requires.1), omega (arith, one, l.invariant.1, c.requires.2))

pub loop-slot-preserved : goal.loop-slot-preserved
loop-slot-preserved c =
    let l = c.loop-slot in
    let t = c.args.table.now in
    let h = c.loop-slot-test.true in
    let left = 96 - (l.slot + 1) in
    let text = slot_text l.slot (held t l.slot) in
    let rest = slots_text t (l.slot + 1) left in
    let same = c.if-used.auto.buf ∙ l.invariant.2 in
    elim c.if-used.branch [
      | then-used w ↦
          let one = slots_used t l.slot (96 - l.slot) left (omega (arith, h)) w.if-used.true in
          let put = w.write_slot-past.ensures in (
            l.invariant.0 ∙ rw (one, w.buf-is, w.past-is, put.0, put.1) (sets_append text rest l.buf l.past),
            omega (arith, l.invariant.1, ap length one ∙ length-append text rest, w.past-is, put.0),
            same,
          )
      | else-used w ↦
          let one = slots_free t l.slot (96 - l.slot) left (omega (arith, h)) w.if-used.false in
          (l.invariant.0 ∙ rw (w.buf-is, w.past-is) (ap (sets l.buf l.past) one), omega (arith, l.invariant.1, ap length one, w.past-is), same)
    ]

pub returns : goal.returns
returns c =
    let l = c.loop-slot in
    sym (l.invariant.0 ∙ rw (slots_none c.args.table.now l.slot (96 - l.slot) (omega (arith, c.loop-slot-test.false))))

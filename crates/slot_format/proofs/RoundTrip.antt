-- Slot plans written and read, each from the other. Assumes nothing.
use mathlib.Core.Path.{◌≡◌, refl, sym, ap, ◌∙◌}
use mathlib.Core.List.{List, [], ◌++◌, append_assoc}
use Prim.Native.Nat.{ℕ}
use Rattle.format.specs.Line.{read, fault, mapped, line_text, read_line, after_key}
use Rattle.format.specs.Step.{step_text, read_step}
use Rattle.format.proofs.Plans.{plan_read, plan_written}
use Rattle.format.proofs.Reading.{next_told, mapped_told}
use Rattle.format.proofs.ReadWritten.{keyed_written}
use Rattle.format.proofs.RoundTrip.{step_round_trip}
use Rattle.format.proofs.WrittenRead.{keyed_read}
use Rattle.threads.specs.Step.{SlotStep}
use Rattle.slot_format.specs.SlotPlan.{slot_kind, slot_step_text, read_slot_step, slot_step_lines}
use Rattle.slot_format.specs.RoundTrip.{WritableSlotStep, SlotRoundTrip}

-- ---- one step

step_read : (s : SlotStep) (rest : List ℕ) → WritableSlotStep s → read_slot_step (slot_step_text s ++ rest) ≡ read s rest
unfolding read_slot_step slot_step_text
step_read s rest w =
    rw (
      append_assoc (line_text slot_kind s.slot) (step_text s.step) rest,
      keyed_read slot_kind.key slot_kind.form s.slot (step_text s.step ++ rest) w.slot,
      step_round_trip.written_read s.step rest w.step,
    )

step_written : (text : List ℕ) (s : SlotStep) (rest : List ℕ) → read_slot_step text ≡ read s rest → (text ≡ slot_step_text s ++ rest) × WritableSlotStep s
unfolding read_slot_step slot_step_text
step_written text s rest e =
    let n = next_told s rest _ (read_line slot_kind text) (λ slot t. mapped (λ x. record { slot = slot; step = x }) (read_step t)) e in
    let m = mapped_told s rest (λ x. record { slot = n.0; step = x }) (read_step n.1) n.3 in
    let line = keyed_written slot_kind.key slot_kind.form n.0 text n.1 n.2 in
    let step = step_round_trip.read_written n.1 m.0 rest m.1 in
    let whole =
    line.0
    ∙ ap (λ (t : List ℕ). line_text slot_kind n.0 ++ t) step.0
    ∙ sym (append_assoc (line_text slot_kind n.0) (step_text m.0) rest) in
    rw (← m.2) (whole, record { slot = line.1; step = step.1 })

-- ---- slot plans

-- no text is no step
no_step : read_slot_step [] ≡ fault
unfolding read_slot_step after_key
no_step = refl

pub slot_round_trip : SlotRoundTrip
slot_round_trip =
    record {
      step_written_read = step_read;
      step_read_written = step_written;
      written_read = plan_read slot_step_lines read_slot_step slot_step_text WritableSlotStep no_step step_read step_written;
      read_written = plan_written slot_step_lines read_slot_step slot_step_text WritableSlotStep no_step step_read step_written;
    }

-- A slot plan that is as long as any, and one whose report is. Assumes nothing.
use mathlib.Core.Path.{◌≡◌, refl, ap, ◌∙◌}
use mathlib.Core.Bool.{true, false}
use mathlib.Core.List.{List, [], ◌++◌}
use Prim.Native.Nat.{ℕ, zero, suc, ◌+◌, ◌<◌}
use native.Mathlib.Omega.{arith}
use native.Mathlib.Nat.{le_of_suc-le-suc}
use lib.ListN.{length, get_or, replicate, length-append}
use Rattle.credentials.specs.Validity.{valid}
use Rattle.rules.specs.Decoding.{uses_one}
use Rattle.format.specs.Line.{bytes, decimal_of, decimal_text, hex_text, keyed_text, lines_text, read, read_hex, read_digits, read_decimal, after_key, read_lines}
use Rattle.format.specs.Sheet.{id_kinds, uid_kinds, gid_kinds, set_kinds, flag_kinds, sheet_kinds, sheet_text, read_front}
use Rattle.format.specs.Step.{step_kinds, read_pairs, read_step}
use Rattle.format.specs.Plan.{many_text, read_many, read_plan_by}
use Rattle.format.specs.Report.{result_kinds, report, judged_by}
use Rattle.format.specs.Texts.{times}
use Rattle.format.proofs.Lengths.{length_keyed}
use Rattle.format.proofs.Reached.{start, sheet, sheet_length, sheet_written}
use Rattle.threads.specs.Step.{SlotStep, unless_refused, decided, forked, step_in, run_in, ends}
use Rattle.threads.specs.Table.{held, in_use, lowest_free, fresh}
use Rattle.threads.specs.declared.Threads.{Threads}
use Rattle.slot_format.specs.SlotPlan.{slot_kind, read_slot_step, SlotPlan, read_slot_plan}
use Rattle.slot_format.specs.SlotReport.{slot_result_text, slot_text, slots_text, table_text, slot_report_text, slot_verdict}
use Rattle.slot_format.specs.Longest.{longest_slot_plan, longest_slot_report}

-- ---- a longest slot plan, and its text

-- 99 is no slot; an attribute of 48 digits
abbrev step : SlotStep
step = record { slot = 99; step = record { number = 99; a = 0; b = 0; c = 0; attribute = replicate 24 0 } }

abbrev step_bytes : List ℕ
step_bytes =
    bytes "slot=99\ncall=99\na=0000000000000000\nb=0000000000000000\nc=0000000000000000\n"
    ++ bytes "attr=000000000000000000000000000000000000000000000000\n"

abbrev pub plan : SlotPlan
plan = record { start = start; steps = replicate 256 step }

abbrev pub text : List ℕ
text = sheet ++ times 256 step_bytes

pub text_read : read_slot_plan text ≡ read plan []
unfolding times read_hex read_digits read_decimal after_key read_lines id_kinds uid_kinds gid_kinds set_kinds flag_kinds sheet_kinds read_front step_kinds read_pairs read_step read_many read_slot_step read_plan_by
text_read = refl

pub text_length : length text ≡ longest_slot_plan
unfolding times
text_length = refl

-- ---- a slot plan with a longest report

-- slot 0 forks until no slot is free
abbrev fork : SlotStep
fork = record { slot = 0; step = record { number = 30; a = 0; b = 0; c = 0; attribute = [] } }

abbrev fork_bytes : List ℕ
fork_bytes = bytes "slot=0\ncall=30\na=0000000000000000\nb=0000000000000000\nc=0000000000000000\nattr=\n"

abbrev pub reported : SlotPlan
reported = record { start = start; steps = replicate 95 fork ++ replicate 161 step }

abbrev pub reported_text : List ℕ
reported_text = sheet ++ times 95 fork_bytes ++ times 161 step_bytes

reported_read : read_slot_plan reported_text ≡ read reported []
unfolding times read_hex read_digits read_decimal after_key read_lines id_kinds uid_kinds gid_kinds set_kinds flag_kinds sheet_kinds read_front step_kinds read_pairs read_step read_many read_slot_step read_plan_by
reported_read = refl

pub reported_verdict : slot_verdict reported_text ≡ report (slot_report_text reported)
unfolding valid slot_verdict
reported_verdict = ap (judged_by slot_report_text) reported_read

-- all slots are in use at the end, each with the credentials of the start
abbrev full : Threads
full = record { credentials = replicate 96 start; used = replicate 96 true }

ends_full : ends (fresh start) reported.steps ≡ full
unfolding valid uses_one lowest_free unless_refused decided forked step_in ends
ends_full = refl

-- 95 times 38 bytes and 161 times 39
results_length : length (many_text slot_result_text (run_in (fresh start) reported.steps)) ≡ 9889
unfolding valid uses_one lowest_free unless_refused decided forked step_in run_in hex_text decimal_of decimal_text keyed_text lines_text result_kinds slot_result_text many_text
results_length = refl

-- ---- its slots

-- one of so many that are the same
one_of : {A : Type 0} (n i : ℕ) (x d : A) → i < n → get_or (replicate n x) i d ≡ x
one_of zero i x d h = absurd (omega (arith, h))
one_of (suc n) zero x d h = refl
one_of (suc n) (suc i) x d h = one_of n i x d (le_of_suc-le-suc h)

length_slot : (slot : ℕ) → length (slot_text slot start) ≡ 290 + length (decimal_text slot)
unfolding slot_text
length_slot slot =
    omega (
      arith,
      length-append (keyed_text slot_kind.key (decimal_text slot)) (sheet_text start),
      length_keyed slot_kind.key (decimal_text slot),
      ap length sheet_written,
      sheet_length,
    )

-- the bytes of the n slots from k on
unfoldable sizes : ℕ → ℕ → ℕ
sizes k zero = 0
sizes k (suc n) = 290 + length (decimal_text k) + sizes (suc k) n

slots_length : (k n : ℕ) → k + n ≡ 96 → length (slots_text full k n) ≡ sizes k n
unfolding slots_text sizes
slots_length k zero e = refl
slots_length k (suc n) e =
    let used : in_use full k ≡ true = one_of 96 k true false (omega (arith, e)) in
    let here : held full k ≡ start = one_of 96 k start _ (omega (arith, e)) in
    rw (used, here)
    (omega (arith, length-append (slot_text k start) (slots_text full (suc k) n), length_slot k, slots_length (suc k) n (omega (arith, e))))

all_sizes : sizes 0 96 ≡ 28022
unfolding sizes decimal_of decimal_text
all_sizes = refl

pub reported_length : length (slot_report_text reported) ≡ longest_slot_report
unfolding slot_report_text
reported_length =
    length-append (many_text slot_result_text (run_in (fresh start) reported.steps)) (table_text (ends (fresh start) reported.steps))
    ∙ rw (results_length, ends_full, slots_length 0 96 refl, all_sizes)

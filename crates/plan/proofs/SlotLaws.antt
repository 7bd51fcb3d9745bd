-- Laws of the lines and sheets of slots. Assumes nothing.
use native.Mathlib.Omega.{arith}
use native.Mathlib.Numerals.{add-one}
use mathlib.Core.Path.{◌≡◌, sym, ap, ◌∙◌}
use mathlib.Core.Bool.{true, false}
use mathlib.Core.List.{List, [], ◌++◌}
use Prim.Native.Nat.{ℕ, ◌+◌, ◌≤◌}
use lib.ListN.{length, length-append}
use lib.Seq.{sets, length-sets}
use borrow.Author.Tests.{le-leb}
use Rattle.std.proofs.Common.{Result, Ok}
use Rattle.format.specs.declared.SheetWriteError.{SheetWriteError}
use Rattle.credentials.specs.Validity.{valid}
use Rattle.credentials.specs.declared.Credentials.{Credentials}
use Rattle.format.specs.Line.{decimal_text, keyed_text}
use Rattle.format.specs.Sheet.{sheet_text}
use Rattle.format.proofs.Lengths.{length_keyed}
use Rattle.hex_tables.specs.Tables.{writing_table}
use Rattle.line_writer.specs.Positions.{written, written_to}
use Rattle.line_writer.proofs.LineLaws.{sets_append, text_put}
use Rattle.sheet_writer.specs.Positions.{answer_at, buffer_by}
use Rattle.slot_format.specs.SlotPlan.{slot_kind}
use Rattle.slot_format.specs.SlotReport.{slot_text, slots_text}
use Rattle.threads.specs.Table.{held, in_use}
use Rattle.threads.specs.declared.Threads.{Threads}
use Rattle.plan.proofs.ReportLaws.{sheet_put}

-- ---- one slot

-- how long its line and its sheet are
pub slot_length : (slot : ℕ) (c : Credentials) → length (slot_text slot c) ≡ 6 + length (decimal_text slot) + length (sheet_text c)
unfolding slot_text
slot_length slot c =
    omega (arith, length-append (keyed_text slot_kind.key (decimal_text slot)) (sheet_text c), length_keyed slot_kind.key (decimal_text slot))

-- its line, then its sheet, in a buffer that has room for them
pub slot_put : (table old one two : List ℕ) (at past slot : ℕ) (c : Credentials) (w : Result ℕ SheetWriteError) → valid c ≡ true → table ≡ writing_table
    → at + length (slot_text slot c) ≤ length old
    → past ≡ written_to old at (keyed_text slot_kind.key (decimal_text slot)) → one ≡ written old at (keyed_text slot_kind.key (decimal_text slot))
    → w ≡ answer_at c past one → two ≡ buffer_by table c past one
    → (w ≡ Ok (length (sheet_text c))) × (past + length (sheet_text c) ≡ at + length (slot_text slot c)) × (two ≡ sets old at (slot_text slot c))
unfolding slot_text answer_at
slot_put table old one two at past slot c w v is fit p q answer buffer =
    let line = keyed_text slot_kind.key (decimal_text slot) in
    let both = length-append line (sheet_text c) in
    let first = text_put line old at (omega (arith, fit, both)) in
    let there : past ≡ at + length line = p ∙ first.0 in
    let now : one ≡ sets old at line = q ∙ first.1 in
    let same : length one ≡ length old = ap length now ∙ length-sets old at line in
    let fits : past + length (sheet_text c) ≤ length one = omega (arith, fit, both, there, same) in
    let second = text_put (sheet_text c) one past fits in (
      answer ∙ rw (v, le-leb _ _ fits),
      omega (arith, there, both),
      buffer ∙ sheet_put table c past one is v ∙ second.1 ∙ rw (now, there) (sym (sets_append line (sheet_text c) old at)),
    )

-- ---- the slots in use, from a slot on

module _ (table : Threads) (i n m : ℕ) (one : n ≡ m + 1) where
  pub slots_used : in_use table i ≡ true → slots_text table i n ≡ slot_text i (held table i) ++ slots_text table (i + 1) m
  unfolding slots_text
  slots_used u = rw (one, add-one m, add-one i, u)

  pub slots_free : in_use table i ≡ false → slots_text table i n ≡ slots_text table (i + 1) m
  unfolding slots_text
  slots_free u = rw (one, add-one m, add-one i, u)

pub slots_none : (table : Threads) (i n : ℕ) → n ≡ 0 → slots_text table i n ≡ []
unfolding slots_text
slots_none table i n e = rw e

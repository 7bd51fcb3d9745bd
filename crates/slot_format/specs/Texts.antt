-- Whole slot plans and what they come to, where the paper says so: reports, faults with their lines, answers and buffers. proofs/Computed.antt proves the
-- statement at the end by computing both sides; host/tests/slot_texts.py runs further texts. Assumes nothing.
use Rattle.std.specs.Prelude.{ℕ, ◌+◌, ◌*◌, ◌≡◌, List, [], ◌∷◌, ◌++◌, replicate, drop}
use Rattle.format.specs.Line.{bytes}
use Rattle.format.specs.Report.{report, malformed, invalid, outcome, buffer, c_number}
use Rattle.format.specs.Texts.{start, no_id, plain, times, held, sevens}
use Rattle.threads.specs.Step.{SlotStep, run_in}
use Rattle.threads.specs.Table.{fresh}
use Rattle.threads.specs.declared.SlotResult.{SlotResult}
use Rattle.slot_format.specs.SlotReport.{slot_verdict}

-- ---- parts of the texts

-- a step's last four lines, with no operand and no attribute
abbrev pub bare : List ℕ
bare = bytes "a=0000000000000000\nb=0000000000000000\nc=0000000000000000\nattr=\n"

-- slot 0 forks; slot 0 exits; slot 1 does
abbrev pub fork : List ℕ
fork = bytes "slot=0\ncall=30\n" ++ bare

abbrev pub exit : List ℕ
exit = bytes "slot=0\ncall=31\n" ++ bare

abbrev pub child_exits : List ℕ
child_exits = bytes "slot=1\ncall=31\n" ++ bare

-- slot 1 launches a file that has NET_BIND_SERVICE permitted and the effective bit on
abbrev pub child_launches : List ℕ
child_launches =
    bytes "slot=1\ncall=1\na=0000000000000000\nb=0000000000000000\nc=0000000000000000\n"
    ++ bytes "attr=0100000200040000000000000000000000000000\n"

-- what the launch leaves of the start
abbrev pub launched : List ℕ
launched =
    bytes "ruid=1000\neuid=1000\nsuid=1000\nfsuid=1000\nrgid=1000\negid=1000\nsgid=1000\nfsgid=1000\n"
    ++ bytes "permitted=0000000000000400\ninheritable=0000000000002000\neffective=0000000000000400\n"
    ++ bytes "bounding=000001ffffffffff\nambient=0000000000000000\nsecurebits=00\nnnp=0\n"

-- a result's lines with a value of one digit and cause 0
abbrev pub done : List ℕ
done = bytes "code=0\nvalue=0000000000000000\ncause=0\n"

abbrev pub forked1 : List ℕ
forked1 = bytes "code=0\nvalue=0000000000000001\ncause=0\n"

abbrev pub refused : List ℕ → List ℕ
refused code = bytes "code=" ++ code ++ bytes "\nvalue=0000000000000000\ncause=0\n"

-- the numbers of the results, one after the other
unfoldable pub answers : List SlotResult → List ℕ
answers [] = []
answers (r ∷ rs) = r.code ∷ r.value ∷ r.cause ∷ answers rs

-- slot 0 forks, as a step
abbrev pub fork_step : SlotStep
fork_step = record { slot = 0; step = record { number = 30; a = 0; b = 0; c = 0; attribute = [] } }

-- ---- the statement

pub record SlotTextsHold : Type 0 where
  -- no steps: slot 0 has the sheet
  pub no_steps : slot_verdict start ≡ report (bytes "slot=0\n" ++ start)
  -- a child launches, and its parent stays as it was
  pub family : slot_verdict (start ++ fork ++ child_launches) ≡ report (forked1 ++ done ++ bytes "slot=0\n" ++ start ++ bytes "slot=1\n" ++ launched)
  -- a slot that was left is taken again, with the parent's credentials
  pub taken_again : slot_verdict (start ++ fork ++ child_launches ++ child_exits ++ fork)
      ≡ report (forked1 ++ done ++ done ++ forked1 ++ bytes "slot=0\n" ++ start ++ bytes "slot=1\n" ++ start)
  -- slot 0 exits, and its child is left
  pub parent_exits : slot_verdict (start ++ fork ++ exit) ≡ report (forked1 ++ done ++ bytes "slot=1\n" ++ start)
  -- the last one exits: the report ends after the results, and later steps get 3
  pub none_left : slot_verdict (start ++ exit ++ fork ++ exit) ≡ report (done ++ refused (bytes "3") ++ refused (bytes "3"))
  -- a slot above 95 is refused with 22, whatever is asked there, one that is not in use with 3
  pub no_slot : slot_verdict (start ++ bytes "slot=96\ncall=30\n" ++ bare ++ bytes "slot=95\ncall=99\n" ++ bare)
      ≡ report (refused (bytes "22") ++ refused (bytes "3") ++ bytes "slot=0\n" ++ start)
  -- a fork with an operand gets 22, an exit with an attribute too
  pub operands : slot_verdict
      (start
      ++ bytes "slot=0\ncall=30\na=0000000000000001\nb=0000000000000000\nc=0000000000000000\nattr=\n"
      ++ bytes "slot=0\ncall=31\na=0000000000000000\nb=0000000000000000\nc=0000000000000000\nattr=00\n")
      ≡ report (refused (bytes "22") ++ refused (bytes "22") ++ bytes "slot=0\n" ++ start)
  -- a refusal by the rules has its cause in a slot too: setuid to another ID than the thread's own
  pub cause : slot_verdict
      (start ++ bytes "slot=0\ncall=15\na=00000000000003e9\nb=0000000000000000\nc=0000000000000000\nattr=\n")
      ≡ report (bytes "code=1\nvalue=0000000000000000\ncause=10\n" ++ bytes "slot=0\n" ++ start)
  -- 95 forks fill the table, and one more gets 11
  pub full : drop 282 (answers (run_in (fresh (held 1000)) (replicate 96 fork_step))) ≡ 0 ∷ 95 ∷ 0 ∷ 11 ∷ 0 ∷ 0 ∷ []
  -- faults: no text, a sheet's line, each of a step's six lines, and the second step's first
  pub empty : slot_verdict [] ≡ malformed 1
  pub sheet_fault : slot_verdict (bytes "ruid=1000\neuid=01\n") ≡ malformed 2
  pub slot_too_large : slot_verdict (start ++ bytes "slot=100\n") ≡ malformed 16
  pub slot_leading_zero : slot_verdict (start ++ bytes "slot=01\ncall=30\n" ++ bare) ≡ malformed 16
  pub slot_missing : slot_verdict (start ++ plain) ≡ malformed 16
  pub call_fault : slot_verdict (start ++ bytes "slot=0\ncall=100\n" ++ bare) ≡ malformed 17
  pub a_fault : slot_verdict (start ++ bytes "slot=0\ncall=30\na=0\n") ≡ malformed 18
  pub b_fault : slot_verdict (start ++ bytes "slot=0\ncall=30\na=0000000000000000\nc=0000000000000000\n") ≡ malformed 19
  pub c_fault : slot_verdict (start ++ bytes "slot=0\ncall=30\na=0000000000000000\nb=0000000000000000\nc=000000000000000A\n") ≡ malformed 20
  pub attr_fault : slot_verdict (start ++ bytes "slot=0\ncall=30\na=0000000000000000\nb=0000000000000000\nc=0000000000000000\nattr=0\n") ≡ malformed 21
  pub second_step : slot_verdict (start ++ fork ++ bytes "call=30\n" ++ bare) ≡ malformed 22
  -- a 257th step, whatever stands there
  pub too_many : slot_verdict (start ++ times 257 exit) ≡ malformed 1552
  pub a_byte_too_many : slot_verdict (start ++ times 256 exit ++ bytes "x") ≡ malformed 1552
  -- 70 before 72, and 72 of the sheet alone
  pub not_valid : slot_verdict (no_id ++ fork) ≡ invalid
  pub malformed_first : slot_verdict (no_id ++ fork ++ bytes "slot=") ≡ malformed 22
  -- 28 last, and nothing written; then the C interface's numbers
  pub no_room : buffer (slot_verdict start) (sevens 242) ≡ sevens 242
  pub room : buffer (slot_verdict start) (sevens 244) ≡ bytes "slot=0\n" ++ start ++ sevens 1
  pub c_no_room : c_number (outcome (slot_verdict start) 242) ≡ 28 * 4294967296
  pub c_done : c_number (outcome (slot_verdict start) 243) ≡ 243
  pub c_malformed : c_number (outcome (slot_verdict (start ++ plain)) 0) ≡ 70 * 4294967296 + 16

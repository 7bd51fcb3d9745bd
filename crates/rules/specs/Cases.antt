-- "On the bench", cases 1 to 12, and the two of "Ambient lost too easily", as one table, which carries one theorem (proofs/Cases.antt). A case of two
-- parts is two rows. Assumes nothing.
use Rattle.std.specs.Prelude.{ℕ, ◌≡◌, true, false, List, [], ◌∷◌}
use Rattle.capabilities.specs.Sets.{full, union, minus, single}
use Rattle.attribute.specs.Writer.{version2_bytes}
use Rattle.credentials.specs.Securebits.{SECBIT_KEEP_CAPS}
use Rattle.credentials.specs.declared.Ids.{Ids}
use Rattle.credentials.specs.declared.Sets.{Sets}
use Rattle.credentials.specs.declared.Credentials.{Credentials}
use Rattle.rules.specs.Fields.{with_securebits, with_sets, with_uids}
use Rattle.rules.specs.Launching.{SET_USER_ID}
use Rattle.rules.specs.Run.{Step, Result, result}

pub record Case : Type 0 where
  pub start : Credentials
  pub step : Step
  pub expected : Result

-- ---- how the rows are written

-- four IDs, and the five sets P, I, E, B and A
abbrev ids : ℕ → ℕ → ℕ → ℕ → Ids
ids real effective saved filesystem = record { real = real; effective = effective; saved = saved; filesystem = filesystem }

abbrev sets : ℕ → ℕ → ℕ → ℕ → ℕ → Sets
sets p i e b a = record { permitted = p; inheritable = i; effective = e; bounding = b; ambient = a }

-- unless said: user and group IDs 1000, B full, other sets empty, securebits 0, no-new-privs clear
abbrev usual : Credentials
usual = record { uids = ids 1000 1000 1000 1000; gids = ids 1000 1000 1000 1000; sets = sets 0 0 0 full 0; securebits = 0; nnp = false }

-- the same with user IDs 0
abbrev root : Credentials
root = with_uids usual (ids 0 0 0 0)

-- a call with its operands and no attribute
abbrev call : ℕ → ℕ → ℕ → ℕ → Step
call number a b c = record { number = number; a = a; b = b; c = c; attribute = [] }

-- a launch of a file with owner and group 0, these flags and this attribute; plain: no flag and no attribute
abbrev launch : ℕ → List ℕ → Step
launch flags attribute = record { number = 1; a = 0; b = flags; c = 0; attribute = attribute }

abbrev plain : Step
plain = launch 0 []

-- what comes back where the call is done, and where the rules refuse it with a cause ("Why it was refused")
abbrev done : ℕ → Credentials → Result
done value after = record { code = 0; value = value; cause = 0; after = after }

abbrev refused : ℕ → Credentials → Result
refused cause start = record { code = 1; value = 0; cause = cause; after = start }

-- B without SYS_RAWIO
abbrev without17 : ℕ
without17 = minus full (single 17)

-- ---- the table

unfoldable pub table : List Case
table =
    -- 1: P = I = E = {13}, plain launch: P and E empty, I stays
    record {
      start = with_sets usual (sets (single 13) (single 13) (single 13) full 0);
      step = plain;
      expected = done 0 (with_sets usual (sets 0 (single 13) 0 full 0));
    } ∷
    -- 2: P = I = E = A = {13}, plain launch: all stay
    record {
      start = with_sets usual (sets (single 13) (single 13) (single 13) full (single 13));
      step = plain;
      expected = done 0 (with_sets usual (sets (single 13) (single 13) (single 13) full (single 13)));
    } ∷
    -- as 2, set-user-ID, owner 1000: all stay
    record {
      start = with_sets usual (sets (single 13) (single 13) (single 13) full (single 13));
      step = call 1 1000 SET_USER_ID 0;
      expected = done 0 (with_sets usual (sets (single 13) (single 13) (single 13) full (single 13)));
    } ∷
    -- as 2, set-user-ID, owner 1001: A empty, so P and E empty; effective, saved and filesystem 1001
    record {
      start = with_sets usual (sets (single 13) (single 13) (single 13) full (single 13));
      step = call 1 1001 SET_USER_ID 0;
      expected = done 0 (with_sets (with_uids usual (ids 1000 1001 1001 1001)) (sets 0 (single 13) 0 full 0));
    } ∷
    -- 3: as 2, attribute permitted {10}, bit on: P = E = {10}, A empty
    record {
      start = with_sets usual (sets (single 13) (single 13) (single 13) full (single 13));
      step = launch 0 (version2_bytes (single 10) 0 true);
      expected = done 0 (with_sets usual (sets (single 10) (single 13) (single 10) full 0));
    } ∷
    -- 4: B lacks 17, I = {17}, file inheritable {17}: P = {17}
    record {
      start = with_sets usual (sets 0 (single 17) 0 without17 0);
      step = launch 0 (version2_bytes 0 (single 17) false);
      expected = done 0 (with_sets usual (sets (single 17) (single 17) 0 without17 0));
    } ∷
    -- 5: B lacks 17, I empty, file permitted {17}: bit on, 1, and the cause is 11
    record {
      start = with_sets usual (sets 0 0 0 without17 0);
      step = launch 0 (version2_bytes (single 17) 0 true);
      expected = refused 11 (with_sets usual (sets 0 0 0 without17 0));
    } ∷
    -- 5: bit off, done, P empty
    record {
      start = with_sets usual (sets 0 0 0 without17 0);
      step = launch 0 (version2_bytes (single 17) 0 false);
      expected = done 0 (with_sets usual (sets 0 0 0 without17 0));
    } ∷
    -- 6: all IDs 0, I empty, B lacks 17, plain launch: P = E = 000001fffffdffff
    record {
      start = with_sets root (sets 0 0 0 without17 0);
      step = plain;
      expected = done 0 (with_sets root (sets 0x1fffffdffff 0 0x1fffffdffff without17 0));
    } ∷
    -- 7: set-user-ID, owner 0, attribute of two empty sets: effective, saved and filesystem 0, P and E empty
    record {
      start = usual;
      step = launch SET_USER_ID (version2_bytes 0 0 false);
      expected = done 0 (with_uids usual (ids 1000 0 0 0));
    } ∷
    -- 8: as 7, no attribute, I empty: P = E = full
    record {
      start = usual;
      step = launch SET_USER_ID [];
      expected = done 0 (with_sets (with_uids usual (ids 1000 0 0 0)) (sets full 0 full full 0));
    } ∷
    -- 9: IDs 0, P = E = full, setuid 1000: P, E and A empty
    record {
      start = with_sets root (sets full 0 full full 0);
      step = call 15 1000 0 0;
      expected = done 0 (with_sets usual (sets 0 0 0 full 0));
    } ∷
    -- 9: with KEEP_CAPS, P full
    record {
      start = with_securebits (with_sets root (sets full 0 full full 0)) SECBIT_KEEP_CAPS;
      step = call 15 1000 0 0;
      expected = done 0 (with_securebits (with_sets usual (sets full 0 0 full 0)) SECBIT_KEEP_CAPS);
    } ∷
    -- 10: effective 1000, other IDs 0, KEEP_CAPS, P = {7, 12}, E = {12}, setresuid to 1000 thrice: P and E stay
    record {
      start = with_securebits (with_sets (with_uids usual (ids 0 1000 0 0)) (sets (union (single 7) (single 12)) 0 (single 12) full 0)) SECBIT_KEEP_CAPS;
      step = call 17 1000 1000 1000;
      expected = done 0 (with_securebits (with_sets usual (sets (union (single 7) (single 12)) 0 (single 12) full 0)) SECBIT_KEEP_CAPS);
    } ∷
    -- 11: IDs 0, P = E = full, setfsuid 1000: value 0, E = 000001fef7fffde0
    record {
      start = with_sets root (sets full 0 full full 0);
      step = call 18 1000 0 0;
      expected = done 0 (with_sets (with_uids root (ids 0 0 0 1000)) (sets full 0 0x1fef7fffde0 full 0));
    } ∷
    -- 12: securebits 30 hex: a launch leaves 20
    record {
      start = with_securebits usual 0x30;
      step = plain;
      expected = done 0 (with_securebits usual 0x20);
    } ∷
    []

-- what comes back in each row, and what is expected there
unfoldable pub found : List Case → List Result
found [] = []
found (row ∷ rows) = result row.start row.step ∷ found rows

unfoldable pub wanted : List Case → List Result
wanted [] = []
wanted (row ∷ rows) = row.expected ∷ wanted rows

-- the theorem: every row comes out as expected
abbrev pub CasesHold : Type 0
CasesHold = found table ≡ wanted table

-- Each cause of a call's own is that of some call. Assumes nothing.
use Prim.Native.Nat.{ℕ}
use mathlib.Core.Path.{◌≡◌, refl, sym, subst}
use mathlib.Core.Bool.{Bool, true, false, cond, ◌||◌, true≢false}
use mathlib.Core.List.{List, [], ◌∷◌}
use lib.Dec.{eqb}
use borrow.Author.Tests.{eqb-true}
use Rattle.capabilities.specs.Sets.{full, has, lacks, minus, outside, single}
use Rattle.attribute.specs.Words.{word_at, word_bytes}
use Rattle.attribute.specs.Reader.{file_of, length_of, reading, unreadable, version2}
use Rattle.attribute.specs.Writer.{first_word, version2_bytes}
use Rattle.attribute.proofs.Words.{no_bytes}
use Rattle.attribute.proofs.ReadBack.{written_bytes}
use Rattle.credentials.specs.Validity.{valid}
use Rattle.credentials.specs.declared.Ids.{Ids}
use Rattle.credentials.specs.declared.Credentials.{Credentials}
use Rattle.rules.specs.Launching.{falls_short, file_read, gained, ignores_attribute, ignores_set_id, launch}
use Rattle.rules.specs.Capset.{capset}
use Rattle.rules.specs.Bounding.{bounding_drop}
use Rattle.rules.specs.Ambient.{ambient_raise}
use Rattle.rules.specs.Securebits.{changes_locked, set_securebits}
use Rattle.rules.specs.ThreadFlags.{set_keep_caps}
use Rattle.rules.specs.Ids.{given_or, one_of_three, setgid, setregid, setresgid, setresuid, setresuid_allowed, setresuid_ids, setresuid_on, setreuid, setreuid_allowed, setreuid_ids, setreuid_on, setreuid_saved, setuid, setuid_allowed, setuid_ids, setuid_on}
use Rattle.rules.specs.Decoding.{decode, known, uses_one}
use Rattle.rules.specs.Call.{answer}
use Rattle.rules.specs.Run.{Step, result}
use Rattle.rules.specs.WhyRefused.{Occurs, causes_of, is_among}
use Rattle.rules.proofs.Conditions.{cond_cases}

-- ---- how the examples are written

abbrev ids : Ids
ids = record { real = 1000; effective = 1000; saved = 1000; filesystem = 1000 }

-- a thread with these P, I, E, B and securebits
abbrev thread : ℕ → ℕ → ℕ → ℕ → ℕ → Credentials
thread p i e b securebits =
    record {
      uids = ids;
      gids = ids;
      sets = record { permitted = p; inheritable = i; effective = e; bounding = b; ambient = 0 };
      securebits = securebits;
      nnp = false;
    }

-- one that holds nothing, and one that has SETPCAP
abbrev poor : Credentials
poor = thread 0 0 0 full 0

abbrev able : ℕ → Credentials
able securebits = thread (single 8) 0 (single 8) full securebits

module _ (start : Credentials) (number a b c : ℕ) where
  abbrev call : List ℕ → Step
  call attribute = record { number = number; a = a; b = b; c = c; attribute = attribute }

  -- the call has that cause, with no attribute
  by : (n : ℕ) → valid start ≡ true → (result start (call [])).cause ≡ n → Occurs number n
  by n v e = record { start = start; starts_valid = v; step = call []; is_call = refl; bytes = no_bytes; has_cause = e }

-- a launch of a file with the attribute permitted {13}, bit on
launching : (start : Credentials) (n : ℕ) → valid start ≡ true → (result start (call start 1 0 0 0 (version2_bytes (single 13) 0 true))).cause ≡ n → Occurs 1 n
launching start n v e =
    record {
      start = start;
      starts_valid = v;
      step = call start 1 0 0 0 (version2_bytes (single 13) 0 true);
      is_call = refl;
      bytes = written_bytes (single 13) 0 true;
      has_cause = e;
    }

-- ---- the examples: where tests with higher numbers can fail too, they do

record Examples : Type 0 where
  execve_11 : Occurs 1 11
  capset_2 : Occurs 2 2
  capset_3 : Occurs 2 3
  capset_4 : Occurs 2 4
  capset_5 : Occurs 2 5
  drop_1 : Occurs 3 1
  raise_6 : Occurs 5 6
  raise_7 : Occurs 5 7
  securebits_1 : Occurs 9 1
  securebits_8 : Occurs 9 8
  securebits_9 : Occurs 9 9
  keep_caps_9 : Occurs 11 9
  setuid_10 : Occurs 15 10
  setreuid_10 : Occurs 16 10
  setresuid_10 : Occurs 17 10
  setgid_10 : Occurs 19 10
  setregid_10 : Occurs 20 10
  setresgid_10 : Occurs 21 10

examples : Examples
unfolding has lacks minus single outside word_at word_bytes file_of length_of reading unreadable version2 first_word version2_bytes valid ignores_set_id ignores_attribute file_read gained falls_short launch capset bounding_drop ambient_raise changes_locked set_securebits set_keep_caps given_or one_of_three setuid_allowed setuid_ids setuid_on setreuid_allowed setreuid_saved setreuid_ids setreuid_on setresuid_ids setresuid_allowed setresuid_on setuid setreuid setresuid setgid setregid setresgid uses_one known decode answer result
examples =
    record {
      execve_11 = launching (thread 0 0 0 0 0) 11 refl refl;
      capset_2 = by (thread 0 0 0 0 0) 2 (single 13) (single 13) (single 12) 2 refl refl;
      capset_3 = by (thread (single 13) 0 0 0 0) 2 (single 12) (single 13) (single 13) 3 refl refl;
      capset_4 = by poor 2 (single 13) 0 (single 12) 4 refl refl;
      capset_5 = by poor 2 0 0 (single 13) 5 refl refl;
      drop_1 = by poor 3 13 0 0 1 refl refl;
      raise_6 = by (thread 0 0 0 full 64) 5 13 0 0 6 refl refl;
      raise_7 = by (thread (single 13) (single 13) 0 full 64) 5 13 0 0 7 refl refl;
      securebits_1 = by (thread 0 0 0 full 2) 9 1 0 0 1 refl refl;
      securebits_8 = by (able 2) 9 1 0 0 8 refl refl;
      securebits_9 = by (able 2) 9 3 0 0 9 refl refl;
      keep_caps_9 = by (thread 0 0 0 full 32) 11 0 0 0 9 refl refl;
      setuid_10 = by poor 15 0 0 0 10 refl refl;
      setreuid_10 = by poor 16 0 0 0 10 refl refl;
      setresuid_10 = by poor 17 0 0 0 10 refl refl;
      setgid_10 = by poor 19 0 0 0 10 refl refl;
      setregid_10 = by poor 20 0 0 0 10 refl refl;
      setresgid_10 = by poor 21 0 0 0 10 refl refl;
    }

-- ---- any number and any cause of its own

module _ (number n : ℕ) where
  abbrev Met : List ℕ → Type 0
  Met ms = is_among n ms ≡ true → Occurs number n

  none : Met []
  unfolding is_among
  none h = absurd (true≢false (sym h))

  -- the first of some, or one of the others
  or_else : (m : ℕ) (ms : List ℕ) → Occurs number m → Met ms → Met (m ∷ ms)
  unfolding is_among
  or_else m ms o others = decided (eqb n m) refl
    where
      decided : (t : Bool) → eqb n m ≡ t → t || is_among n ms ≡ true → Occurs number n
      decided true e h = subst (Occurs number) (sym (eqb-true n m e)) o
      decided false e h = others h

  -- the number is that of an example
  at : (k : ℕ) {m : ℕ} → Occurs k m → eqb number k ≡ true → Occurs number m
  at k {m} o t = subst (λ (x : ℕ). Occurs x m) (sym (eqb-true number k t)) o

  only : (k m : ℕ) → Occurs k m → (others : List ℕ) → Met others → Met (cond (eqb number k) (m ∷ []) others)
  only k m o others g = cond_cases Met (eqb number k) _ _ (λ t. or_else m [] (at k o t) none) (λ t. g)

  pub each_occurs : Met (causes_of number)
  unfolding causes_of
  each_occurs =
      only 1 11 examples.execve_11 _
      (cond_cases Met (eqb number 2) _ _
      (λ t. or_else 2 _ (at 2 examples.capset_2 t)
      (or_else 3 _ (at 2 examples.capset_3 t) (or_else 4 _ (at 2 examples.capset_4 t) (or_else 5 [] (at 2 examples.capset_5 t) none))))
      (λ t. only 3 1 examples.drop_1 _
      (cond_cases Met (eqb number 5) _ _
      (λ t. or_else 6 _ (at 5 examples.raise_6 t) (or_else 7 [] (at 5 examples.raise_7 t) none))
      (λ t. cond_cases Met (eqb number 9) _ _
      (λ t. or_else 1 _ (at 9 examples.securebits_1 t)
      (or_else 8 _ (at 9 examples.securebits_8 t) (or_else 9 [] (at 9 examples.securebits_9 t) none)))
      (λ t. only 11 9 examples.keep_caps_9 _
      (only 15 10 examples.setuid_10 _
      (only 16 10 examples.setreuid_10 _
      (only 17 10 examples.setresuid_10 _
      (only 19 10 examples.setgid_10 _
      (only 20 10 examples.setregid_10 _
      (only 21 10 examples.setresgid_10 _
      none)))))))))))
